-- By the day off.
use Rattle.std.proofs.Common.{IsTrue}
use Rattle.domain_store.proofs.Lying.{only_at, has_at, outside_off, outside_work}
use Rattle.domain_store.proofs.domain_view.DomainsView.lies_outside.Goals as goal

pub returns-in-Off : goal.returns-in-Off
returns-in-Off c =
    let S = c.args.self.now in
    outside_off S c.args.p c.args.class c.has-in-Off.result c.in-Off.is (has_at S c.args.p c.cells.result 0 c.has-in-Off.result c.cells.ensures.positions c.has-in-Off.ensures)

pub returns-in-Work : goal.returns-in-Work
returns-in-Work c =
    let S = c.args.self.now in
    outside_work S c.args.p c.args.class (IsTrue c.has_only.result) c.in-Work.is (only_at S c.args.p c.cells.result 0 (IsTrue c.has_only.result) c.cells.ensures.positions c.has_only.ensures.others)
