-- One more empty set.
use Rattle.std.proofs.Common.{◌≡◌, ◌+◌, ◌∙◌, List, ℕ, [], ◌∷◌, ◌++◌, ap, replicate}
use Rattle.std.proofs.lemmas.List.{replicate_more}
use Rattle.domain_store.proofs.kept_sets.KeptSets.empty.Goals as goal

one_more : (sets more : List (List ℕ)) (set : List ℕ) (n : ℕ) → sets ≡ replicate n [] → set ≡ [] → more ≡ sets ++ set ∷ [] → more ≡ replicate (n + 1) []
one_more sets more set n all none is =
    let empty : List ℕ = [] in
    is ∙ ap (λ (s : List ℕ). sets ++ s ∷ []) none ∙ ap (λ (v : List (List ℕ)). v ++ empty ∷ []) all ∙ replicate_more n empty

pub loop-preserved : goal.loop-preserved
loop-preserved c = one_more c.loop.sets.items c.push.new.self.items c.empty.result c.loop.counter c.loop.invariant c.empty.ensures c.in_ok-push.ensures.items
