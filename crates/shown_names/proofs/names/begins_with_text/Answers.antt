use Rattle.std.proofs.Common.{arith}
use Rattle.shown_names.proofs.Written.{text_there}
use Rattle.shown_names.proofs.names.begins_with_text.Goals as goal

pub returns-then-n-bytes : goal.returns-then-n-bytes
returns-then-n-bytes c = text_there c.args.bytes.now c.args.n _ (omega arith) c.is_text.ensures
