use Rattle.std.proofs.Common.{◌≡◌, subst, sym, ◌∙◌, ap}
use Rattle.rwsp_terms.specs.Instance.{Instance}
use Rattle.rwsp_model.specs.Validity.{IsValid}
use Rattle.rwsp_model.specs.Parts.{instance_of}
use Rattle.rwsp_model.proofs.Limits.{keeps_valid}
use Rattle.ways_out.specs.Loosened.{with_bounds}
use Rattle.ways_out.proofs.Valid.{valid_bounds}
use Rattle.ways_out.proofs.loosening.with_bounds.Goals as goal

pub of_valid-requires : goal.of_valid-requires
of_valid-requires c =
    let P = c.args.problem.now in
    let b = c.args.bounds in
    let is : instance_of c.set_bounds.new.parts ≡ with_bounds P c.args.class (λ _. b) = c.set_bounds.ensures ∙ ap (λ (Q : Instance). with_bounds Q c.args.class (λ _. b)) (c.in_ok-parts.ensures ∙ c.parts.ensures) in
    subst IsValid (sym is) (keeps_valid (with_bounds P c.args.class (λ _. b)) (valid_bounds P c.args.class b c.prove_limits.ensures c.requires.small))
