-- By the one symbol of the class, or by the day off.
use Rattle.std.proofs.Common.{IsTrue}
use Rattle.domain_store.proofs.Lying.{only_at, has_at, in_shift, in_off, in_work}
use Rattle.domain_store.proofs.domain_view.DomainsView.lies_in.Goals as goal

pub returns-in-Shift : goal.returns-in-Shift
returns-in-Shift c =
    let S = c.args.self.now in
    in_shift S c.args.p c.in-Shift.shift c.args.class (IsTrue c.has_only.result) c.in-Shift.is (only_at S c.args.p c.cells.result c.in-Shift.shift.number (IsTrue c.has_only.result) c.cells.ensures.positions c.has_only.ensures.others)

pub returns-in-Off : goal.returns-in-Off
returns-in-Off c =
    let S = c.args.self.now in
    in_off S c.args.p c.args.class (IsTrue c.has_only-in-Off.result) c.in-Off.is (only_at S c.args.p c.cells.result 0 (IsTrue c.has_only-in-Off.result) c.cells.ensures.positions c.has_only-in-Off.ensures.others)

pub returns-in-Work : goal.returns-in-Work
returns-in-Work c =
    let S = c.args.self.now in
    in_work S c.args.p c.args.class c.has.result c.in-Work.is (has_at S c.args.p c.cells.result 0 c.has.result c.cells.ensures.positions c.has.ensures)
