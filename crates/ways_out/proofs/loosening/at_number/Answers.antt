use Rattle.std.proofs.Common.{◌≡◌, ◌∙◌, sym, ap, subst}
use Rattle.std.specs.Prelude.{IfOk}
use Rattle.rwsp_terms.specs.declared.data.Bounds.{Bounds}
use Rattle.rwsp_terms.specs.Instance.{Instance}
use Rattle.ways_out.specs.declared.change.Change.{Change}
use Rattle.ways_out.specs.Loosened.{exact, with_demand, raised, lowered, lowest, highest}
use Rattle.ways_out.proofs.Valid.{demand_valued}
use Rattle.ways_out.proofs.loosening.at_number.Goals as goal

pub returns-in-LowerDemand : goal.returns-in-LowerDemand
returns-in-LowerDemand c =
    let P = c.args.problem.now in
    let n = c.args.steps in
    let x = c.in-LowerDemand.shift.number in
    let j = c.in-LowerDemand.day in
    let known = rw c.in-LowerDemand.is at c.requires.change in
    let is : with_demand P x j (λ _. c.lowest.result) ≡ exact P c.args.change n =
    demand_valued P x j (λ b. lowest (lowered n b)) c.lowest.result c.prove_limits.ensures known.1.0 known.1.1 known.0
    (c.lowest.ensures.value ∙ ap (λ (b : Bounds). lowest (lowered n b)) c.demand-least.ensures.value)
    ∙ ap (λ (change : Change). exact P change n) (sym c.in-LowerDemand.is) in
    subst (λ (target : Instance). IfOk c.with_demand.result (λ (Q : Instance). Q ≡ target)) is c.with_demand.ensures

pub returns-in-HigherDemand : goal.returns-in-HigherDemand
returns-in-HigherDemand c =
    let P = c.args.problem.now in
    let n = c.args.steps in
    let x = c.in-HigherDemand.shift.number in
    let j = c.in-HigherDemand.day in
    let known = rw c.in-HigherDemand.is at c.requires.change in
    let is : with_demand P x j (λ _. c.highest.result) ≡ exact P c.args.change n =
    demand_valued P x j (λ b. highest (raised n b)) c.highest.result c.prove_limits.ensures known.1.0 known.1.1 known.0
    (c.highest.ensures.value ∙ ap (λ (b : Bounds). highest (raised n b)) c.demand-least-in-HigherDemand.ensures.value)
    ∙ ap (λ (change : Change). exact P change n) (sym c.in-HigherDemand.is) in
    subst (λ (target : Instance). IfOk c.with_demand-in-HigherDemand.result (λ (Q : Instance). Q ≡ target)) is c.with_demand-in-HigherDemand.ensures
