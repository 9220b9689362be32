use Rattle.refutation_terms.proofs.Unique.{verdict_unique}
use Rattle.refutation_log.proofs.LineTexts.{is_writable}
use Rattle.refutation_log.proofs.OneText.{has_names}
use Rattle.refutation_log.proofs.laws.texts_have_one_verdict.Goals as goal

pub returns : goal.returns
returns c P kind text verdict other limits h k = verdict_unique P kind text verdict other (is_writable P limits) (has_names P limits) h k
