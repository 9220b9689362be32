use Rattle.rwsp_file.proofs.TextLaws.{texts_spell_or_fail}
use Rattle.rwsp_run.proofs.Refusals.{refused_alike}
use Rattle.rwsp_run.proofs.laws.refusals_are_the_readers.Goals as goal

pub returns : goal.returns
returns c = refused_alike texts_spell_or_fail
