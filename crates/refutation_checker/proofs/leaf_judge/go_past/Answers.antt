-- A line that holds is no idle split.
use Rattle.std.proofs.Common.{length, subst}
use Rattle.rwsp_model.proofs.Limits.{some_cells}
use Rattle.refutation_terms.specs.Tree.{domains_at}
use Rattle.refutation_terms.specs.Word.{AreSame}
use Rattle.refutation_terms.proofs.SameDomains.{turned_round}
use Rattle.domain_store.specs.Store.{Store, IsStore, HasDomains, has_domain}
use Rattle.refutation_checker.proofs.LeafJudging.{passed_by}
use Rattle.refutation_checker.proofs.leaf_judge.go_past.Goals as goal

pub step-requires-clause-useful : goal.step-requires-clause-useful
step-requires-clause-useful c =
    let P = c.args.problem.now in
    let S = c.args.walk.now.store in
    let here = c.domains.ensures.value in
    let now : IsStore S = subst IsStore here c.prove_facts.ensures.now in
    let tests : HasDomains S = subst HasDomains here c.prove_facts.ensures.tests in
    let goal = c.requires.holds.0 in
    let counts = c.requires.holds.1 in
    let o = c.requires.holds.3.0 in
    let lines = c.requires.holds.3.1 in
    let state = c.requires.holds.3.2 in
    let E = domains_at P o lines (length lines) in
    let same : AreSame P E (has_domain S) = subst (λ (T : Store). AreSame P E (has_domain T)) here (turned_round P (has_domain c.domains.result.now) E (c.domains.ensures.has P o lines state)) in
    passed_by P goal counts E S c.args.line.now (some_cells P c.prove_limits.ensures) now tests state.belongs same c.requires.holds.2 c.requires.holds.3.3
