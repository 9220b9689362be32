use Rattle.rwsp_file.proofs.TextLaws.{texts_spell_one, texts_spell_or_fail}
use Rattle.rwsp_run.proofs.OneAnswer.{one_answer}
use Rattle.rwsp_run.proofs.laws.answers_are_one.Goals as goal

pub returns : goal.returns
returns c = one_answer texts_spell_one texts_spell_or_fail
