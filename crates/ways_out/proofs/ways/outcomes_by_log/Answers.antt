use Rattle.std.proofs.Common.{ℕ, List, subst, ◌∙◌}
use Rattle.std.specs.List.{AllZip}
use Rattle.rwsp_terms.specs.Rules.{Meets}
use Rattle.ways_out.specs.declared.change.Change.{Change}
use Rattle.ways_out.specs.Helping.{IsOutcome}
use Rattle.ways_out.specs.Answers.{HasSteps}
use Rattle.ways_out.specs.Changes.{changes}
use Rattle.ways_out.proofs.Zips.{zip_weaker}
use Rattle.ways_out.proofs.Helping.{none_meets, outcome_steps}
use Rattle.ways_out.proofs.ways.outcomes_by_log.Goals as goal

pub outcomes_of-requires-clause-refutes : goal.outcomes_of-requires-clause-refutes
outcomes_of-requires-clause-refutes g c = λ world lifetimes s meets.
    c.requires.refutes s
    (subst (λ (named : List ℕ). Meets c.args.asked.problem.now named s) c.named.ensures meets)

pub returns-clause-says : goal.returns-clause-says
returns-clause-says g c =
    let P = c.args.asked.problem.now in
    let log = c.args.log.now in (
      none_meets P log.named c.requires.refutes,
      subst (λ (cs : List Change). AllZip (IsOutcome P c.args.asked.effort) cs c.in_ok-outcomes.outcomes.items) (c.deref-3.ensures.value ∙ c.in_ok-changes.ensures.value) c.in_ok-outcomes.ensures,
    )

pub returns-clause-own : goal.returns-clause-own
returns-clause-own g c =
    let P = c.args.asked.problem.now in
    zip_weaker (IsOutcome P c.args.asked.effort) (HasSteps P) (changes P) c.in_ok-outcomes.outcomes.items (outcome_steps P c.args.asked.effort)
    (subst (λ (cs : List Change). AllZip (IsOutcome P c.args.asked.effort) cs c.in_ok-outcomes.outcomes.items) (c.deref-3.ensures.value ∙ c.in_ok-changes.ensures.value) c.in_ok-outcomes.ensures)
