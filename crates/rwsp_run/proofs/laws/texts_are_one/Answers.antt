use Rattle.rwsp_file.proofs.TextLaws.{texts_spell_one}
use Rattle.rwsp_run.proofs.OneText.{one_text}
use Rattle.rwsp_run.proofs.laws.texts_are_one.Goals as goal

pub returns : goal.returns
returns c = one_text texts_spell_one
