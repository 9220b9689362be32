use Rattle.commands.proofs.Appends.{number_put, numbers_done}
use Rattle.commands.proofs.put.put_numbers.Goals as goal

pub loop-number-preserved : goal.loop-number-preserved
loop-number-preserved c =
    let loop = c.loop-number in
    number_put c.put_labelled.new.out.items c.args.out.now.items loop.out.items c.as_slice.result.now c.args.numbers.now loop.number-index 0 c.as_slice.ensures c.in_ok-put_labelled.ensures c.loop-number-test.true loop.invariant

pub returns : goal.returns
returns c =
    let loop = c.loop-number in
    numbers_done c.args.out.now.items loop.out.items c.args.numbers.now loop.number-index c.loop-number-test.false loop.invariant
