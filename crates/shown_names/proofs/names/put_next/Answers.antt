use Rattle.std.proofs.Common.{arith}
use Rattle.shown_names.proofs.Written.{goes_on, begins}
use Rattle.shown_names.proofs.names.put_next.Goals as goal

pub returns-then-more-gt0 : goal.returns-then-more-gt0
returns-then-more-gt0 c =
    goes_on c.args.out.now.items c.push.new.self.items c.args.bytes.now c.args.more c.requires c.if-more-gt0.true c.in_ok-push.ensures.items

pub returns : goal.returns
returns c =
    begins c.args.out.now.items c.put_first.new.out.items c.args.bytes.now c.args.more c.character_len-len.result c.saturating_sub.result c.requires (omega arith) c.character_len-len.ensures c.saturating_sub.ensures c.in_ok-put_first.ensures
