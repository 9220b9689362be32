use Rattle.rwsp_file.proofs.TextLaws.{texts_spell_one}
use Rattle.rwsp_run.proofs.OneTold.{one_told}
use Rattle.rwsp_run.proofs.laws.words_are_one.Goals as goal

pub returns : goal.returns
returns c = one_told texts_spell_one
