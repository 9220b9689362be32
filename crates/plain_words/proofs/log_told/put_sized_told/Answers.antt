use Rattle.plain_words.proofs.Lines.{sized_told}
use Rattle.plain_words.proofs.log_told.put_sized_told.Goals as goal

pub returns : goal.returns
returns c =
    sized_told c.args.problem.now c.in_ok-sized.sized c.args.weeks c.args.log.now c.args.out.now.items c.put_log_told.new.out.items c.in_ok-sized.ensures c.in_ok-put_log_told.ensures
