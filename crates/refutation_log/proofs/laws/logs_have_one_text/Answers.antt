use Rattle.refutation_terms.proofs.Fronts.{texts_distinct}
use Rattle.refutation_log.proofs.LineTexts.{is_writable}
use Rattle.refutation_log.proofs.OneText.{has_names}
use Rattle.refutation_log.proofs.laws.logs_have_one_text.Goals as goal

pub returns : goal.returns
returns c P g h limits = texts_distinct P g h (is_writable P limits) (has_names P limits)
