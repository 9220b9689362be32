-- All positions must yet be looked at.
use Rattle.std.proofs.Common.{◌≡◌, ◌∙◌, Bool, true, length, ap}
use Rattle.std.proofs.lemmas.List.{length-replicate}
use Rattle.propagators.proofs.Watching.{all_awaited, span_of_all}
use Rattle.propagators.proofs.window.WindowProp.new.Goals as goal

pub invariant_of-result : goal.invariant_of-result
invariant_of-result c =
    let pending = c.in_ok-pending.pending.items in
    let all = c.in_ok-pending.ensures.items_if_clones_equal (λ y e. e) in
    let long : length c.in_ok-pending.pending.items ≡ c.cells-cells.result = ap length all ∙ length-replicate {A = Bool} c.cells-cells.result true in (
      all_awaited c.args.problem.now c.args.doms.now c.in_ok-sets.sets pending c.cells-cells.result c.requires c.prove_facts.ensures.now c.prove_facts.ensures.tests c.in_ok-sets.ensures c.cells-cells.ensures.value all,
      span_of_all pending c.cells-cells.result long,
    )
