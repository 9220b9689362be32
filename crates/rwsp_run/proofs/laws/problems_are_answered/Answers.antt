use Rattle.rwsp_file.proofs.TextLaws.{texts_spell_one, texts_spell_or_fail}
use Rattle.rwsp_run.proofs.OneAnswer.{answered}
use Rattle.rwsp_run.proofs.laws.problems_are_answered.Goals as goal

pub returns : goal.returns
returns c = answered texts_spell_one texts_spell_or_fail
