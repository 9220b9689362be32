-- The counters of the position's day count the new domain in place of the old one.
use Rattle.std.proofs.Common.{ℕ, List, Bool, ◌<◌, ◌*◌, length, arith, ◌∙◌, ap, sym, subst, refl, set}
use Rattle.std.proofs.lemmas.List.{length-set}
use Rattle.propagators.specs.Tallies.{is_held, is_alone, Tallies}
use Rattle.propagators.proofs.TallyLemmas.{tally_has, tally_small, tallies_moved, tallies_read, written_back}
use Rattle.propagators.proofs.counts.Counts.put.Goals as goal

pub recount-requires-clause-small : goal.recount-requires-clause-small
recount-requires-clause-small c x small =
    let tallies = tallies_read is_held _ _ _ _ _ c.self.invariant.possible_counted c.deref_mut.ensures.value in
    omega (arith, tally_small is_held _ _ _ c.args.p _ _ tallies c.self.invariant.some_days refl x small, c.self.invariant.few_weeks)

pub recount-requires-clause-counted : goal.recount-requires-clause-counted
recount-requires-clause-counted c =
    let position = rw (← c.self.view_is) at c.requires in
    let cell : c.args.p < c.self.inside.weeks * c.self.inside.days = omega (arith, position, c.self.invariant.long) in
    let before = c.at.ensures in
    let tallies = tallies_read is_held _ _ _ _ _ c.self.invariant.possible_counted c.deref_mut.ensures.value in
    tally_has is_held _ _ _ c.args.p _ _ _ _ tallies c.self.invariant.some_days cell before refl c.held-was_held.ensures

pub recount-requires-2-clause-small : goal.recount-requires-2-clause-small
recount-requires-2-clause-small c x small =
    let tallies = tallies_read (is_alone c.self.inside.shifts) _ _ _ _ _ c.self.invariant.fixed_counted c.deref_mut-2.ensures.value in
    omega (arith, tally_small (is_alone c.self.inside.shifts) _ _ _ c.args.p _ _ tallies c.self.invariant.some_days refl x small, c.self.invariant.few_weeks)

pub recount-requires-2-clause-counted : goal.recount-requires-2-clause-counted
recount-requires-2-clause-counted c =
    let position = rw (← c.self.view_is) at c.requires in
    let cell : c.args.p < c.self.inside.weeks * c.self.inside.days = omega (arith, position, c.self.invariant.long) in
    let before = c.at.ensures in
    let tallies = tallies_read (is_alone c.self.inside.shifts) _ _ _ _ _ c.self.invariant.fixed_counted c.deref_mut-2.ensures.value in
    tally_has (is_alone c.self.inside.shifts) _ _ _ c.args.p _ _ _ _ tallies c.self.invariant.some_days cell before refl c.alone-was_alone.ensures

pub invariant_of-self : goal.invariant_of-self
invariant_of-self c =
    let position = rw (← c.self.view_is) at c.requires in
    let cell : c.args.p < c.self.inside.weeks * c.self.inside.days = omega (arith, position, c.self.invariant.long) in
    let before = c.at.ensures in
    let held_read = tallies_read is_held _ _ _ _ _ c.self.invariant.possible_counted c.deref_mut.ensures.value in
    let alone_read = tallies_read (is_alone c.self.inside.shifts) _ _ _ _ _ c.self.invariant.fixed_counted c.deref_mut-2.ensures.value in
    let held_moved = tallies_moved is_held _ _ _ c.args.p _ c.args.set _ _ _ _ _ held_read c.self.invariant.some_days cell position before refl c.held-was_held.ensures (λ x small. c.held-is_held.ensures x small) c.recount.ensures in
    let alone_moved = tallies_moved (is_alone c.self.inside.shifts) _ _ _ c.args.p _ c.args.set _ _ _ _ _ alone_read c.self.invariant.some_days cell position before refl c.alone-was_alone.ensures (λ x small. c.alone-is_alone.ensures x small) c.recount-2.ensures in
    let there : (test : ℕ → List ℕ → Bool) (counters : List ℕ) → Tallies test c.self.inside.days c.self.inside.weeks (set c.self.inside.sets c.args.p c.args.set) counters → Tallies test c.self.inside.days c.self.inside.weeks c.put.new.self counters = λ test counters t. subst (λ (s : List (List ℕ)). Tallies test c.self.inside.days c.self.inside.weeks s counters) (sym c.put.ensures) t in
    record {
      some_days = c.self.invariant.some_days;
      few_weeks = c.self.invariant.few_weeks;
      few_cells = c.self.invariant.few_cells;
      few_shifts = c.self.invariant.few_shifts;
      long = ap length c.put.ensures ∙ length-set c.self.inside.sets c.args.p c.args.set ∙ c.self.invariant.long;
      fixed_counted = there (is_alone c.self.inside.shifts) _ (tallies_read (is_alone c.self.inside.shifts) _ _ _ _ _ alone_moved (written_back _ _ _ (c.recount-2.ensures.long ∙ ap length c.deref_mut-2.ensures.value) (sym c.deref_mut-2.ensures.len ∙ ap length c.deref_mut-2.ensures.value)));
      possible_counted = there is_held _ (tallies_read is_held _ _ _ _ _ held_moved (written_back _ _ _ (c.recount.ensures.long ∙ ap length c.deref_mut.ensures.value) (sym c.deref_mut.ensures.len ∙ ap length c.deref_mut.ensures.value)));
    }
