use Rattle.std.proofs.Common.{◌≡◌, ◌+◌, ◌≤◌, subst, arith}
use Rattle.refutation_log.specs.declared.found.Found.TheVariants as Founds
use Rattle.refutation_log.specs.Planned.{IsPlanned, IsCounted}
use Rattle.crew_size.specs.Sizes.{with_weeks}
use Rattle.crew_size.specs.declared.run.StaffEnd.TheVariants as Ends
use Rattle.crew_size.proofs.Searches.{size_below, IsRefuted, IsCountedFor, none_for, one_more_for, is_staffed, is_counted, fits_sizes, size_of_more}
use Rattle.roster_planner.proofs.staffing.crew_by.Goals as goal

pub returns-in-Roster-clause-staffed : goal.returns-in-Roster-clause-staffed
returns-in-Roster-clause-staffed g c =
    let P = c.args.made.automaton.now.problem in
    let m = c.loop-weeks.weeks in
    let within : m ≤ c.args.sizes.high = omega arith in
    let planned : IsPlanned (with_weeks P m) c.args.effort.budget (Founds.Roster c.in-Roster.roster) = subst (IsPlanned (with_weeks P m) c.args.effort.budget) c.in-Roster.is c.in_ok-log.ensures.planned in
    is_staffed P c.args.sizes.low c.args.sizes.high c.args.effort.budget m c.loop-weeks.logs.items (Ends.Least c.in-Roster.roster) c.of.result c.of.ensures.low c.of.ensures.logs c.of.ensures.end c.loop-weeks.invariant.refuted c.loop-weeks.invariant.size (within, planned)

pub returns-in-Roster-clause-fits : goal.returns-in-Roster-clause-fits
returns-in-Roster-clause-fits g c =
    let P = c.args.made.automaton.now.problem in
    let m = c.loop-weeks.weeks in
    let within : m ≤ c.args.sizes.high = omega arith in
    let planned : IsPlanned (with_weeks P m) c.args.effort.budget (Founds.Roster c.in-Roster.roster) = subst (IsPlanned (with_weeks P m) c.args.effort.budget) c.in-Roster.is c.in_ok-log.ensures.planned in
    fits_sizes P c.args.sizes.low c.args.sizes.high c.args.effort.budget c.of.result c.requires.sizes.0 c.requires.sizes.1 c.requires.most
    (is_staffed P c.args.sizes.low c.args.sizes.high c.args.effort.budget m c.loop-weeks.logs.items (Ends.Least c.in-Roster.roster) c.of.result c.of.ensures.low c.of.ensures.logs c.of.ensures.end c.loop-weeks.invariant.refuted c.loop-weeks.invariant.size (within, planned))

pub returns-in-Undecided-clause-staffed : goal.returns-in-Undecided-clause-staffed
returns-in-Undecided-clause-staffed g c =
    let P = c.args.made.automaton.now.problem in
    let m = c.loop-weeks.weeks in
    let within : m ≤ c.args.sizes.high = omega arith in
    let planned : IsPlanned (with_weeks P m) c.args.effort.budget (Founds.Undecided c.in-Undecided.log) = subst (IsPlanned (with_weeks P m) c.args.effort.budget) c.in-Undecided.is c.in_ok-log.ensures.planned in
    is_staffed P c.args.sizes.low c.args.sizes.high c.args.effort.budget m c.loop-weeks.logs.items (Ends.Undecided c.in-Undecided.log) c.of-in-Undecided.result c.of-in-Undecided.ensures.low c.of-in-Undecided.ensures.logs c.of-in-Undecided.ensures.end c.loop-weeks.invariant.refuted c.loop-weeks.invariant.size (within, planned)

pub returns-in-Undecided-clause-fits : goal.returns-in-Undecided-clause-fits
returns-in-Undecided-clause-fits g c =
    let P = c.args.made.automaton.now.problem in
    let m = c.loop-weeks.weeks in
    let within : m ≤ c.args.sizes.high = omega arith in
    let planned : IsPlanned (with_weeks P m) c.args.effort.budget (Founds.Undecided c.in-Undecided.log) = subst (IsPlanned (with_weeks P m) c.args.effort.budget) c.in-Undecided.is c.in_ok-log.ensures.planned in
    fits_sizes P c.args.sizes.low c.args.sizes.high c.args.effort.budget c.of-in-Undecided.result c.requires.sizes.0 c.requires.sizes.1 c.requires.most
    (is_staffed P c.args.sizes.low c.args.sizes.high c.args.effort.budget m c.loop-weeks.logs.items (Ends.Undecided c.in-Undecided.log) c.of-in-Undecided.result c.of-in-Undecided.ensures.low c.of-in-Undecided.ensures.logs c.of-in-Undecided.ensures.end c.loop-weeks.invariant.refuted c.loop-weeks.invariant.size (within, planned))

pub loop-weeks-preserved : goal.loop-weeks-preserved
loop-weeks-preserved g c =
    let P = c.args.made.automaton.now.problem in
    let m = c.loop-weeks.weeks in
    let planned : IsPlanned (with_weeks P m) c.args.effort.budget (Founds.NoRoster c.in-NoRoster.log) = subst (IsPlanned (with_weeks P m) c.args.effort.budget) c.in-NoRoster.is c.in_ok-log.ensures.planned in
    let counted : IsCounted (with_weeks P m) c.args.effort.counts (Founds.NoRoster c.in-NoRoster.log) = subst (IsCounted (with_weeks P m) c.args.effort.counts) c.in-NoRoster.is c.in_ok-log.ensures.counted in
    record {
      size = size_of_more c.args.sizes.low m c.loop-weeks.logs.items c.push.new.self.items c.in-NoRoster.log c.loop-weeks.invariant.size c.in_ok-push-in-NoRoster.ensures.items;
      refuted = one_more_for (IsRefuted P c.args.effort.budget) c.args.sizes.low m c.loop-weeks.logs.items c.push.new.self.items c.in-NoRoster.log c.loop-weeks.invariant.refuted c.loop-weeks.invariant.size planned c.in_ok-push-in-NoRoster.ensures.items;
      counted = one_more_for (IsCountedFor P c.args.effort.counts) c.args.sizes.low m c.loop-weeks.logs.items c.push.new.self.items c.in-NoRoster.log c.loop-weeks.invariant.counted c.loop-weeks.invariant.size counted c.in_ok-push-in-NoRoster.ensures.items;
    }

pub returns-clause-staffed : goal.returns-clause-staffed
returns-clause-staffed g c =
    let last : c.loop-weeks.weeks ≡ c.args.sizes.high + 1 = omega arith in
    is_staffed c.args.made.automaton.now.problem c.args.sizes.low c.args.sizes.high c.args.effort.budget c.loop-weeks.weeks c.loop-weeks.logs.items Ends.NoneTo c.of-2.result c.of-2.ensures.low c.of-2.ensures.logs c.of-2.ensures.end c.loop-weeks.invariant.refuted c.loop-weeks.invariant.size last

pub returns-clause-fits : goal.returns-clause-fits
returns-clause-fits g c =
    let last : c.loop-weeks.weeks ≡ c.args.sizes.high + 1 = omega arith in
    fits_sizes c.args.made.automaton.now.problem c.args.sizes.low c.args.sizes.high c.args.effort.budget c.of-2.result c.requires.sizes.0 c.requires.sizes.1 c.requires.most
    (is_staffed c.args.made.automaton.now.problem c.args.sizes.low c.args.sizes.high c.args.effort.budget c.loop-weeks.weeks c.loop-weeks.logs.items Ends.NoneTo c.of-2.result c.of-2.ensures.low c.of-2.ensures.logs c.of-2.ensures.end c.loop-weeks.invariant.refuted c.loop-weeks.invariant.size last)

pub plan_for-requires-clause-size : goal.plan_for-requires-clause-size
plan_for-requires-clause-size g c = λ _ _. size_below c.args.made.automaton.now.problem c.loop-weeks.weeks c.args.sizes.high (omega arith) (omega arith) c.requires.most

pub loop-weeks-init : goal.loop-weeks-init
loop-weeks-init g c = record {
  size = rw c.new-logs.ensures.items (omega arith);
  refuted = none_for (IsRefuted c.args.made.automaton.now.problem c.args.effort.budget) c.args.sizes.low c.new-logs.result.items c.new-logs.ensures.items;
  counted = none_for (IsCountedFor c.args.made.automaton.now.problem c.args.effort.counts) c.args.sizes.low c.new-logs.result.items c.new-logs.ensures.items;
}

pub returns-in-Roster-clause-counted : goal.returns-in-Roster-clause-counted
returns-in-Roster-clause-counted g c =
    is_counted c.args.made.automaton.now.problem c.args.effort.counts c.args.sizes.low c.loop-weeks.weeks c.loop-weeks.logs.items (Ends.Least c.in-Roster.roster) c.of.result c.of.ensures.low c.of.ensures.logs c.of.ensures.end c.loop-weeks.invariant.counted c.loop-weeks.invariant.size tt

pub returns-in-Undecided-clause-counted : goal.returns-in-Undecided-clause-counted
returns-in-Undecided-clause-counted g c =
    let P = c.args.made.automaton.now.problem in
    let m = c.loop-weeks.weeks in
    let counted : IsCounted (with_weeks P m) c.args.effort.counts (Founds.Undecided c.in-Undecided.log) = subst (IsCounted (with_weeks P m) c.args.effort.counts) c.in-Undecided.is c.in_ok-log.ensures.counted in
    is_counted c.args.made.automaton.now.problem c.args.effort.counts c.args.sizes.low c.loop-weeks.weeks c.loop-weeks.logs.items (Ends.Undecided c.in-Undecided.log) c.of-in-Undecided.result c.of-in-Undecided.ensures.low c.of-in-Undecided.ensures.logs c.of-in-Undecided.ensures.end c.loop-weeks.invariant.counted c.loop-weeks.invariant.size counted

pub returns-clause-counted : goal.returns-clause-counted
returns-clause-counted g c =
    is_counted c.args.made.automaton.now.problem c.args.effort.counts c.args.sizes.low c.loop-weeks.weeks c.loop-weeks.logs.items Ends.NoneTo c.of-2.result c.of-2.ensures.low c.of-2.ensures.logs c.of-2.ensures.end c.loop-weeks.invariant.counted c.loop-weeks.invariant.size tt
