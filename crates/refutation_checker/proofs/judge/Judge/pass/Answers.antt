-- The domains of the walk are those at the line.
use Rattle.std.proofs.Common.{◌<◌, length, subst}
use Rattle.rwsp_terms.specs.Instance.{cells}
use Rattle.refutation_terms.specs.Word.{AreSame}
use Rattle.refutation_terms.specs.Tree.{domains_at}
use Rattle.refutation_terms.specs.declared.lines.Opening.TheVariants.{Full}
use Rattle.refutation_terms.specs.Log.{GoalFits}
use Rattle.domain_store.specs.Store.{Store, IsStore, HasDomains, has_domain}
use Rattle.refutation_checker.specs.LineVerdicts.{IsSoundLine}
use Rattle.refutation_checker.specs.LineTexts.{Judging}
use Rattle.refutation_checker.proofs.LineJudging.{same_cause, same_sound, may_step}
use Rattle.refutation_checker.proofs.judge.Judge.pass.Goals as goal
use Rattle.domain_store.proofs.Idle.{positions_of}
use Rattle.rwsp_model.proofs.Limits.{some_cells}

pub returns-in-Some-clause-passed : goal.returns-in-Some-clause-passed
returns-in-Some-clause-passed c =
    λ o lines state.
    let P = c.args.self.now.problem in
    let E = domains_at P o lines (length lines) in
    let D = has_domain c.domains-2.result.now in
    let same : AreSame P D E = c.domains-2.ensures.has P o lines state in
    let some : 0 < cells P = subst (λ (j : Judging). 0 < cells j.problem) c.self.view_is (some_cells c.self.inside.problem.now c.prove_limits.ensures) in
    let weeks : GoalFits P Full c.args.self.now.goal = subst (λ (j : Judging). GoalFits j.problem Full j.goal) c.self.view_is c.self.invariant.0 in
    same_cause P c.args.self.now.goal c.args.self.now.counts c.args.self.now.named D E c.args.number c.args.line.now c.in-Some.why some weeks c.requires.line same (rw c.in-Some.is at c.in_ok-why.ensures.cause)

pub step-requires-clause-useful : goal.step-requires-clause-useful
step-requires-clause-useful c =
    let P = c.args.self.now.problem in
    let S = c.args.walk.now.store in
    let here = c.domains.ensures.value in
    let now : IsStore S = subst IsStore here c.prove_facts.ensures.now in
    let tests : HasDomains S = subst HasDomains here c.prove_facts.ensures.tests in
    let state = c.requires.state.2 in
    let sound : IsSoundLine P c.args.self.now.goal c.args.self.now.named (has_domain S) c.args.line.now =
    subst (λ (T : Store). IsSoundLine P c.args.self.now.goal c.args.self.now.named (has_domain T) c.args.line.now) c.domains-2.ensures.value (rw c.in_default.is at c.in_ok-why.ensures.cause) in
    may_step P c.args.self.now.goal c.args.self.now.counts S c.args.line.now now tests state.belongs (positions_of P S now state.belongs) c.requires.line sound.holds

pub returns-clause-passed : goal.returns-clause-passed
returns-clause-passed c =
    λ o lines state.
    let P = c.args.self.now.problem in
    let E = domains_at P o lines (length lines) in
    let D = has_domain c.domains-2.result.now in
    let same : AreSame P D E = c.domains-2.ensures.has P o lines state in
    let some : 0 < cells P = subst (λ (j : Judging). 0 < cells j.problem) c.self.view_is (some_cells c.self.inside.problem.now c.prove_limits.ensures) in
    let weeks : GoalFits P Full c.args.self.now.goal = subst (λ (j : Judging). GoalFits j.problem Full j.goal) c.self.view_is c.self.invariant.0 in (
      same_sound P c.args.self.now.goal c.args.self.now.counts c.args.self.now.named D E c.args.line.now some weeks c.requires.line same (rw c.in_default.is at c.in_ok-why.ensures.cause),
      c.in_ok-step.ensures P o lines state,
    )
