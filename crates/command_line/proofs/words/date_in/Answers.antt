use Rattle.command_line.proofs.OneForm.{named_date}
use Rattle.command_line.proofs.words.date_in.Goals as goal

pub returns : goal.returns
returns c = named_date c.args.word.now c.date_of.result c.date_of.ensures
