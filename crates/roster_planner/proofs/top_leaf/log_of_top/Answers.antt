-- The leaf closes all cases, and its log is a proof.
use Rattle.std.proofs.Common.{◌≡◌, false, Some, refl, ap, sym, ◌∙◌, subst, arith}
use Rattle.rwsp_terms.specs.Instance.{Instance}
use Rattle.refutation_terms.specs.declared.lines.Opening.TheVariants.{Full}
use Rattle.refutation_terms.specs.Leaves.{LeafFits}
use Rattle.refutation_log.specs.OneLeaf.{ClosesAll}
use Rattle.roster_planner.proofs.OneLeaves.{if_one_proof}
use Rattle.roster_planner.proofs.TopProofs.{top_leaf, leaf_fits, top_closes}
use Rattle.roster_planner.proofs.top_leaf.log_of_top.Goals as goal

pub one_leaf_log-requires-clause-leaf : goal.one_leaf_log-requires-clause-leaf
one_leaf_log-requires-clause-leaf c =
    let P = c.args.automaton.now.problem in
    let R = c.args.automaton.now.rules in
    let limits = rw c.problem-problem.ensures at c.prove_limits.ensures in
    let is : c.light_leaf.result ≡ top_leaf R = c.light_leaf.ensures ∙ ap top_leaf (c.in_ok-rules.ensures ∙ c.rules.ensures) in
    let fits : LeafFits P (Some c.args.goal) false c.light_leaf.result = subst (LeafFits P (Some c.args.goal) false) (sym is) (leaf_fits P c.args.goal R limits c.requires.short.are_rules) in
    rw c.problem-problem.ensures fits

pub returns-clause-proof : goal.returns-clause-proof
returns-clause-proof c =
    let P = c.args.automaton.now.problem in
    let R = c.args.automaton.now.rules in
    let limits = rw c.problem-problem.ensures at c.prove_limits.ensures in
    let is : c.light_leaf.result ≡ top_leaf R = c.light_leaf.ensures ∙ ap top_leaf (c.in_ok-rules.ensures ∙ c.rules.ensures) in
    let closes : ClosesAll P Full (Some c.args.goal) c.light_leaf.result = subst (ClosesAll P Full (Some c.args.goal)) (sym is)
    (top_closes P c.args.goal R limits (refl, c.requires.week, c.requires.goal) c.requires.short.are_rules c.requires.short.all_short c.requires.holds) in
    let same : c.problem-problem.result.now ≡ P = c.problem-problem.ensures in
    let made = c.one_leaf_log.ensures in
    let passes = made.passes (subst (λ (Q : Instance). ClosesAll Q Full (Some c.args.goal) c.light_leaf.result) (sym same) closes) in
    if_one_proof P 1 c.args.goal c.light_leaf.result c.one_leaf_log.result (omega arith) made.lines (rw same at passes) made.goal (rw same at made.cited)
