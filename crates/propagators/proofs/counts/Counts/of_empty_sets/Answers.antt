-- Nothing is counted where all sets are empty.
use Rattle.std.proofs.Common.{ap, sym, ◌∙◌, ◌*◌}
use Rattle.propagators.proofs.TallyLemmas.{tallied_empty}
use Rattle.propagators.proofs.counts.Counts.of_empty_sets.Goals as goal

pub invariant_of-result : goal.invariant_of-result
invariant_of-result c =
    let all = c.cells.ensures.value ∙ ap (λ w. w * c.args.problem.now.days) (sym c.weeks-weeks.ensures.value) ∙ ap (λ d. c.weeks-weeks.result * d) (sym c.days-days.ensures.value) in
    tallied_empty _ _ _ _ _ _ _ c.days-days.ensures.some c.weeks-weeks.ensures.few c.cells.ensures.few c.shifts-shifts.ensures.few all
    c.in_ok-sets.ensures (c.in_ok-fixed.ensures.items_if_clones_equal (λ y e. e)) (c.in_ok-possible.ensures.items_if_clones_equal (λ y e. e))
