use Rattle.std.proofs.Common.{◌≡◌, List, [], ◌∷◌, ◌++◌}
use Rattle.rwsp_terms.specs.declared.data.Bounds.{Bounds}
use Rattle.made_problems.proofs.counts.demand_of.Goals as goal

-- three rows, put one by one behind none
three : (v0 v1 v2 v3 : List (List Bounds)) (a b d p q r : List Bounds) → v0 ≡ [] → v1 ≡ v0 ++ a ∷ [] → v2 ≡ v1 ++ b ∷ [] → v3 ≡ v2 ++ d ∷ [] → a ≡ p → b ≡ q → d ≡ r → v3 ≡ p ∷ q ∷ r ∷ []
three v0 v1 v2 v3 a b d p q r e0 e1 e2 e3 ea eb ed = rw (e3, e2, e1, e0, ea, eb, ed)

pub returns : goal.returns
returns c =
    three _ _ _ _ _ _ _ _ _ _ c.new-rows.ensures.items
    c.in_ok-push.ensures.items c.in_ok-push-2.ensures.items c.in_ok-push-3.ensures.items
    c.in_ok-demand_row.ensures c.in_ok-demand_row-2.ensures c.in_ok-demand_row-3.ensures
