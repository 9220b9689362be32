-- Two bounds are put behind the others.
use Rattle.std.proofs.Common.{◌≡◌, ◌∙◌, List, [], ◌∷◌, ◌++◌, append_assoc, ap, pos, negsuc}
use Rattle.std.specs.List.{range_with_len}
use Rattle.rwsp_terms.specs.declared.data.Weight.{Weight}
use Rattle.refutation_terms.specs.Sharp.{weights_on}
use Rattle.clean_words.proofs.plain.push_both.Goals as goal

both_put : (old more new : List (List Weight)) (a b up down : List Weight) → a ≡ up → b ≡ down → more ≡ old ++ a ∷ [] → new ≡ more ++ b ∷ [] → new ≡ old ++ up ∷ down ∷ []
both_put old more new a b up down is_up is_down first second =
    second ∙ ap (λ (v : List (List Weight)). v ++ b ∷ []) first ∙ append_assoc old (a ∷ []) (b ∷ []) ∙ ap (λ (y : List Weight). old ++ y ∷ b ∷ []) is_up ∙ ap (λ (y : List Weight). old ++ up ∷ y ∷ []) is_down

pub returns : goal.returns
returns c =
    let xs = range_with_len c.args.first c.args.count in
    let P = c.args.problem.now in
    both_put c.args.bounds.now.items c.push.new.self.items c.push-2.new.self.items c.in_ok-above.above c.in_ok-below.below (weights_on P xs (pos 1)) (weights_on P xs (negsuc 0))
    c.in_ok-above.ensures c.in_ok-below.ensures c.in_ok-push.ensures.items c.in_ok-push-2.ensures.items
