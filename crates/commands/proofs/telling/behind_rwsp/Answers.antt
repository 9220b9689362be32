use Rattle.commands.proofs.Behind.{byte_more, bytes_done}
use Rattle.commands.proofs.telling.behind_rwsp.Goals as goal

pub loop-byte-preserved : goal.loop-byte-preserved
loop-byte-preserved c = byte_more c.args.text.now c.loop-byte.byte-index 0 c.loop-byte.begins c.loop-byte.out.items c.put_byte.new.out.items c.loop-byte-test.true c.in_ok-put_byte.ensures c.loop-byte.invariant

pub returns : goal.returns
returns c = bytes_done c.args.text.now c.loop-byte.byte-index c.loop-byte.begins c.loop-byte.out.items c.loop-byte-test.false c.loop-byte.invariant
