-- Full domains, with room for all changes.
use Rattle.std.proofs.Common.{replicate, mul-le-mul, arith, ap, ◌∙◌}
use Rattle.domain_store.specs.Store.{has_domain}
use Rattle.domain_store.proofs.StoreLemmas.{kept_by_new, same_full, has_full}
use Rattle.domain_store.proofs.domains.Domains.new.Goals as goal

pub overflow_mul-spare : goal.overflow_mul-spare
overflow_mul-spare c = let most = mul-le-mul c.cells-cells.ensures.few c.shifts-shifts.ensures.few in omega (arith, most)

pub invariant_of-result : goal.invariant_of-result
invariant_of-result c =
    let sets = c.in_ok-sets.ensures.items_if_clones_equal (λ y same. same) ∙ ap (replicate c.cells-cells.result) c.up_to.ensures in
    kept_by_new _ _ _ _ _ _ _ _ c.prove_limits.ensures c.days-days.ensures.value c.weeks-weeks.ensures.value c.shifts-shifts.ensures.value c.cells-cells.ensures.value sets c.in_ok-trail.ensures.items c.in_ok-trail.ensures.capacity

pub returns-clause-full : goal.returns-clause-full
returns-clause-full c =
    let sets = c.in_ok-sets.ensures.items_if_clones_equal (λ y same. same) ∙ ap (replicate c.cells-cells.result) c.up_to.ensures in
    same_full c.args.problem.now _ _ _ _ _ _ c.days-days.ensures.value c.weeks-weeks.ensures.value c.shifts-shifts.ensures.value c.cells-cells.ensures.value sets c.in_ok-trail.ensures.items

pub returns-clause-belongs : goal.returns-clause-belongs
returns-clause-belongs c = record { days = c.days-days.ensures.value; weeks = c.weeks-weeks.ensures.value; shifts = c.shifts-shifts.ensures.value }

pub returns-clause-has : goal.returns-clause-has
returns-clause-has c p x within =
    let sets = c.in_ok-sets.ensures.items_if_clones_equal (λ y same. same) ∙ ap (replicate c.cells-cells.result) c.up_to.ensures in
    let full = same_full c.args.problem.now _ _ _ _ _ _ c.days-days.ensures.value c.weeks-weeks.ensures.value c.shifts-shifts.ensures.value c.cells-cells.ensures.value sets c.in_ok-trail.ensures.items in
    ap (λ D. has_domain D p x) full ∙ has_full c.args.problem.now p x within
