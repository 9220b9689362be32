-- Step after step.
use Rattle.std.proofs.Common.{subst}
use Rattle.std.specs.Option.{IfSome}
use Rattle.roster_search.specs.declared.aim.Aim.{Aim}
use Rattle.roster_search.specs.Guides.{IsMetRoster, IsWantedBehind}
use Rattle.roster_search.proofs.Reasons.{same_on, later_by, later_on}
use Rattle.roster_search.proofs.Finding.{met_holds}
use Rattle.roster_search.proofs.searching.write_lines.Goals as goal

pub loop-alloc-preserved : goal.loop-alloc-preserved
loop-alloc-preserved g c =
    let P = c.args.problem.now in
    let A = g.A.Propagator in
    let i = c.loop-alloc.invariant in
    let v = c.args.propagator.now in
    let u = c.loop-alloc.propagator in
    let a = c.loop-alloc.progress in
    let b = c.step.new.progress in
    let e = c.step.ensures in
    let asked = c.asked_if_due.ensures in
    let none = c.in-None.is in
    let next = c.in_ok-roster.ensures.next none in
    record {
      searching = c.in_ok-roster.ensures.searching none;
      later = later_on P (A.leaves v) (A.spent v) c.args.progress.now a b i.later (later_by P A.serves A.leaves A.spent v u a b i.same next.later);
      same = same_on _ _ _ _ _ _ i.same e.same;
      guide = λ Q o. (λ h. (asked.guide Q o).0 ((e.guide Q o).0 ((i.guide Q o).0 h)), λ h. (i.guide Q o).1 ((e.guide Q o).1 ((asked.guide Q o).1 h)));
    }

pub returns-in-Some-clause-roster : goal.returns-in-Some-clause-roster
returns-in-Some-clause-roster g c =
    let P = c.args.problem.now in
    let i = c.loop-alloc.invariant in
    let a = c.loop-alloc.progress in
    let r = c.in-Some.roster in
    let written = i.searching.under_way.written in
    let met : IsMetRoster P a.aim.goal a.walk.store r = subst (λ o. IfSome o (IsMetRoster P a.aim.goal a.walk.store)) c.in-Some.is c.in_ok-roster.ensures.roster in
    subst (λ (m : Aim). IsWantedBehind P m.opening m.goal r) i.later.same_aim (met.0, met_holds P a.aim.opening a.lines.items a.walk.store r written.opening_fits (c.prove_domains.ensures.same P written) met.1)
