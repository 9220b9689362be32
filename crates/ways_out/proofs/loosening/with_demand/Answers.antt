use Rattle.std.proofs.Common.{◌≡◌, ◌-◌, List, subst, sym, ◌∙◌, ap}
use Rattle.std.specs.Prelude.{set}
use Rattle.rwsp_terms.specs.declared.data.Bounds.{Bounds}
use Rattle.rwsp_terms.specs.Instance.{Instance}
use Rattle.rwsp_model.specs.Validity.{IsValid}
use Rattle.rwsp_model.specs.Parts.{instance_of}
use Rattle.rwsp_model.proofs.Limits.{keeps_valid}
use Rattle.ways_out.specs.Loosened.{with_demand}
use Rattle.ways_out.proofs.Valid.{valid_demand, demand_set}
use Rattle.ways_out.proofs.loosening.with_demand.Goals as goal

pub of_valid-requires : goal.of_valid-requires
of_valid-requires c =
    let P = c.args.problem.now in
    let b = c.args.demand in
    let x = c.args.shift.number in
    let j = c.args.day in
    let is : instance_of c.set_demand.new.parts ≡ with_demand P x j (λ _. b) =
    c.set_demand.ensures
    ∙ ap (λ (Q : Instance). record Q { demand = set Q.demand (x - 1) (set c.in_ok-ranges.ranges.items (j - 1) b) }) (c.in_ok-parts.ensures ∙ c.parts.ensures)
    ∙ ap (λ (row : List Bounds). record P { demand = set P.demand (x - 1) (set row (j - 1) b) }) c.in_ok-ranges.ensures
    ∙ demand_set P x j b c.prove_limits.ensures c.requires.shift.0 c.requires.shift.1 in
    subst IsValid (sym is) (keeps_valid (with_demand P x j (λ _. b)) (valid_demand P x j b c.prove_limits.ensures c.requires.small))

pub returns : goal.returns
returns c =
    let P = c.args.problem.now in
    let b = c.args.demand in
    let x = c.args.shift.number in
    let j = c.args.day in
    c.of_valid.ensures
    ∙ c.set_demand.ensures
    ∙ ap (λ (Q : Instance). record Q { demand = set Q.demand (x - 1) (set c.in_ok-ranges.ranges.items (j - 1) b) }) (c.in_ok-parts.ensures ∙ c.parts.ensures)
    ∙ ap (λ (row : List Bounds). record P { demand = set P.demand (x - 1) (set row (j - 1) b) }) c.in_ok-ranges.ensures
    ∙ demand_set P x j b c.prove_limits.ensures c.requires.shift.0 c.requires.shift.1
