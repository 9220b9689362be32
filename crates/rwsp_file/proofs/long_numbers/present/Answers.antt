use Rattle.std.proofs.Common.{[]}
use Rattle.std.specs.Option.{option_to_list}
use Rattle.rwsp_file.proofs.Taken.{taken_more, taken_all}
use Rattle.rwsp_file.proofs.long_numbers.present.Goals as goal

pub loop-i-preserved : goal.loop-i-preserved
loop-i-preserved c = taken_more option_to_list c.args.lines.now c.loop-i.i _ [] _ _ c.loop-i-test.true c.loop-i.invariant c.in_ok-note.ensures

pub returns : goal.returns
returns c = taken_all option_to_list c.args.lines.now c.loop-i.i [] _ c.loop-i-test.false c.loop-i.invariant
