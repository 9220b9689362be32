-- Two turns to a scarcest shift are one.
use Rattle.std.proofs.Common.{◌≡◌, ◌⊎◌, ◌<◌, ◌≤◌, ap₂, arith, inl, inr}
use Rattle.std.specs.Prelude.{ℤ, ◌<ℤ◌}
use Rattle.std.proofs.lemmas.Int.{ints}
use Rattle.rwsp_terms.specs.Instance.{Instance, least, symbol_numbered}
use Rattle.refutation_terms.specs.declared.lines.Turn.{Turn}
use Rattle.refutation_terms.specs.Sharp.{IsNoScarcer}
use Rattle.refutation_terms.specs.Laws.{ScarcestTurnIsOne}

-- a turn comes no later than another
abbrev ComesFirst : Turn → Turn → Type 0
ComesFirst t u = (t.day < u.day) ⊎ ((t.day ≡ u.day) × (t.x.number ≤ u.x.number))

both_first : (t u : Turn) → ComesFirst t u → ComesFirst u t → t ≡ u
both_first t u (inl a) (inl b) = absurd (omega (arith, a, b))
both_first t u (inl a) (inr b) = let e = b.0 in absurd (omega (arith, a, e))
both_first t u (inr a) (inl b) = let e = a.0 in absurd (omega (arith, e, b))
both_first t u (inr a) (inr b) =
    let low = a.1 in let high = b.1 in
    let same : t.x.number ≡ u.x.number = omega (arith, low, high) in
    ap₂ (λ d n. record { day = d; x = symbol_numbered n }) a.0 same

below_itself : (a b : ℤ) → a <ℤ b → (b <ℤ a) ⊎ (b ≡ a) → ⊥
below_itself a b less (inl more) = omega (arith, ints, less, more)
below_itself a b less (inr same) = omega (arith, ints, less, same)

both_scarcest : (P : Instance) (t u : Turn) → IsNoScarcer P t u.day u.x → IsNoScarcer P u t.day t.x → t ≡ u
both_scarcest P t u (inl a) (inl b) = absurd (below_itself (least P t.x.number t.day) (least P u.x.number u.day) a (inl b))
both_scarcest P t u (inl a) (inr b) = absurd (below_itself (least P t.x.number t.day) (least P u.x.number u.day) a (inr b.0))
both_scarcest P t u (inr a) (inl b) = absurd (below_itself (least P u.x.number u.day) (least P t.x.number t.day) b (inr a.0))
both_scarcest P t u (inr a) (inr b) = both_first t u a.1 b.1

pub one_scarcest : ScarcestTurnIsOne
one_scarcest P t u h k = both_scarcest P t u (h.1 u.day u.x k.0) (k.1 t.day t.x h.0)
