-- The two as one.
use Rattle.std.proofs.Common.{inl, inr}
use Rattle.refutation_terms.specs.declared.lines.Line.TheVariants.{Closing}
use Rattle.refutation_terms.specs.declared.lines.Leaf.TheVariants.{Window, Day}
use Rattle.roster_planner.proofs.Unweighed.{window_plain, day_plain}
use Rattle.roster_planner.proofs.of_cases.plain_reasons.Goals as goal

pub returns-clause-serves : goal.returns-clause-serves
returns-clause-serves c = (c.new-3.ensures.serves c.args.problem.now).1 (c.in_ok-windows.ensures.serves, c.in_ok-days.ensures.serves)

pub returns-clause-tracks : goal.returns-clause-tracks
returns-clause-tracks c = (c.new-3.ensures.tracks c.args.doms.now).1 (c.in_ok-windows.ensures.tracks, c.in_ok-days.ensures.tracks)

pub returns-clause-leaves : goal.returns-clause-leaves
returns-clause-leaves c = record {
  windows = λ S number p len fits. (c.new-3.ensures.leaves S (Closing (Window number p len))).1 (inl (c.in_ok-windows.ensures.leaves S number p len fits));
  days = λ S j x over fits. (c.new-3.ensures.leaves S (Closing (Day j x over))).1 (inr (c.in_ok-days.ensures.leaves S j x over fits));
}

pub returns-clause-only : goal.returns-clause-only
returns-clause-only c =
    let P = c.args.problem.now in
    λ S line h. elim ((c.new-3.ensures.leaves S line).0 h) [
      | inl window ↦ window_plain P line (c.in_ok-windows.ensures.windows_only S line window)
      | inr day ↦ day_plain P line (c.in_ok-days.ensures.days_only S line day)
    ]

pub returns-clause-spent : goal.returns-clause-spent
returns-clause-spent c = λ S p x. (
  λ h. elim ((c.new-3.ensures.spent S p x).0 h) [
    | inl window ↦ absurd (c.in_ok-windows.ensures.none_spent S p x window)
    | inr day ↦ (c.in_ok-days.ensures.spent S p x).0 day
  ],
  λ k. (c.new-3.ensures.spent S p x).1 (inr ((c.in_ok-days.ensures.spent S p x).1 k)),
)
