-- The marks of no symbols, in words for all states.
use Rattle.std.proofs.Common.{◌≡◌, ◌+◌, ◌*◌, ◌/◌, ◌≤◌, ◌∙◌, length, ap, subst, arith, rules}
use Rattle.rwsp_terms.specs.Instance.{cells}
use Rattle.rwsp_model.specs.Validity.{KeepsLimits}
use Rattle.rwsp_model.proofs.Limits.{some_cells}
use Rattle.propagators.proofs.Starting.{started}
use Rattle.propagators.proofs.Awaiting.{none_awaited}
use Rattle.propagators.proofs.two_turns.Cycle.empty.Goals as goal

pub invariant_of-result : goal.invariant_of-result
invariant_of-result c =
    let A = c.args.automaton.now in
    let n = c.cells-cells.result in
    let sets = c.in_ok-sets.sets in
    let limits = subst KeepsLimits c.problem.ensures c.prove_limits.ensures in
    let all : c.cells-cells.result ≡ cells c.args.automaton.now.problem = c.cells-cells.ensures.value ∙ ap cells c.problem-2.ensures in
    let long : length c.in_ok-pending.pending.items ≡ c.cells-cells.result = search rules in
    let room : length c.args.automaton.now.moves ≤ 64 * (c.states.result / 64 + 1) = omega (arith, c.states.ensures) in (
      started A sets c.in_ok-front.front c.in_ok-back.back (c.states.result / 64 + 1) n (2 * n) c.prove_facts.ensures (some_cells A.problem limits) limits.few_cells room c.in_ok-sets.ensures all (ap (λ k. 2 * k) all) c.in_ok-front.ensures c.in_ok-back.ensures,
      none_awaited A sets n c.in_ok-pending.pending.items c.in_ok-sets.ensures (long ∙ all),
    )
