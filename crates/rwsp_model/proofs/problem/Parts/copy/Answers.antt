-- Each field is the same.
use Rattle.std.proofs.lemmas.List.Elements.{same_from_all_zip}
use Rattle.rwsp_model.specs.Parts.{instance_of}
use Rattle.rwsp_model.proofs.Numbers.{same_instance}
use Rattle.rwsp_model.proofs.problem.Parts.copy.Goals as goal

pub returns : goal.returns
returns c =
    same_instance (instance_of c.args.self.now) _ _ _
    (same_from_all_zip _ _ _ c.in_ok-clone.ensures.cases.0 (λ x y same. same))
    (same_from_all_zip _ _ _ c.in_ok-clone-2.ensures.cases.0 (λ x y same. same))
    (same_from_all_zip _ _ _ c.in_ok-clone-3.ensures.cases.0 (λ x y same. same))
