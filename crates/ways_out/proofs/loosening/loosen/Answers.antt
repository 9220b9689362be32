use Rattle.std.proofs.Common.{◌≡◌, ◌∙◌, sym, ap, subst}
use Rattle.std.specs.Prelude.{IfOk}
use Rattle.rwsp_terms.specs.Instance.{Instance}
use Rattle.ways_out.specs.declared.change.Change.{Change}
use Rattle.ways_out.specs.Loosened.{loosened, with_bounds, with_demand, raised, lowered}
use Rattle.ways_out.proofs.Valid.{bounds_valued, demand_valued}
use Rattle.ways_out.proofs.loosening.loosen.Goals as goal

pub returns-in-LongerBlocks : goal.returns-in-LongerBlocks
returns-in-LongerBlocks c =
    let P = c.args.problem.now in
    let n = c.args.steps in
    let class = c.in-LongerBlocks.class in
    let b = raised n c.bounds-least.result in
    let is : with_bounds P class (λ _. b) ≡ loosened P c.args.change n =
    bounds_valued P class (raised n) b (rw c.in-LongerBlocks.is at c.requires.change) (ap (raised n) c.bounds-least.ensures.value)
    ∙ ap (λ (change : Change). loosened P change n) (sym c.in-LongerBlocks.is) in
    subst (λ (target : Instance). IfOk c.with_bounds.result (λ (Q : Instance). Q ≡ target)) is c.with_bounds.ensures

pub returns-in-ShorterBlocks : goal.returns-in-ShorterBlocks
returns-in-ShorterBlocks c =
    let P = c.args.problem.now in
    let n = c.args.steps in
    let class = c.in-ShorterBlocks.class in
    let b = lowered n c.bounds-least-in-ShorterBlocks.result in
    let is : with_bounds P class (λ _. b) ≡ loosened P c.args.change n =
    bounds_valued P class (lowered n) b (rw c.in-ShorterBlocks.is at c.requires.change) (ap (lowered n) c.bounds-least-in-ShorterBlocks.ensures.value)
    ∙ ap (λ (change : Change). loosened P change n) (sym c.in-ShorterBlocks.is) in
    subst (λ (target : Instance). IfOk c.with_bounds-in-ShorterBlocks.result (λ (Q : Instance). Q ≡ target)) is c.with_bounds-in-ShorterBlocks.ensures

pub returns-in-LowerDemand : goal.returns-in-LowerDemand
returns-in-LowerDemand c =
    let P = c.args.problem.now in
    let n = c.args.steps in
    let x = c.in-LowerDemand.shift.number in
    let j = c.in-LowerDemand.day in
    let known = rw c.in-LowerDemand.is at c.requires.change in
    let b = lowered n c.demand-least.result in
    let is : with_demand P x j (λ _. b) ≡ loosened P c.args.change n =
    demand_valued P x j (lowered n) b c.prove_limits.ensures known.1.0 known.1.1 known.0 (ap (lowered n) c.demand-least.ensures.value)
    ∙ ap (λ (change : Change). loosened P change n) (sym c.in-LowerDemand.is) in
    subst (λ (target : Instance). IfOk c.with_demand.result (λ (Q : Instance). Q ≡ target)) is c.with_demand.ensures

pub returns-in-HigherDemand : goal.returns-in-HigherDemand
returns-in-HigherDemand c =
    let P = c.args.problem.now in
    let n = c.args.steps in
    let x = c.in-HigherDemand.shift.number in
    let j = c.in-HigherDemand.day in
    let known = rw c.in-HigherDemand.is at c.requires.change in
    let b = raised n c.demand-least-in-HigherDemand.result in
    let is : with_demand P x j (λ _. b) ≡ loosened P c.args.change n =
    demand_valued P x j (raised n) b c.prove_limits.ensures known.1.0 known.1.1 known.0 (ap (raised n) c.demand-least-in-HigherDemand.ensures.value)
    ∙ ap (λ (change : Change). loosened P change n) (sym c.in-HigherDemand.is) in
    subst (λ (target : Instance). IfOk c.with_demand-in-HigherDemand.result (λ (Q : Instance). Q ≡ target)) is c.with_demand-in-HigherDemand.ensures
