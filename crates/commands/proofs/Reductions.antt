-- A log has one reduction.
use Rattle.std.proofs.Common.{◌≡◌, ℕ, zero, suc, List, [], ◌∷◌, sym, ◌∙◌, subst, inl, inr}
use Rattle.std.specs.Prelude.{reverse}
use Rattle.rwsp_terms.specs.Instance.{Instance}
use Rattle.refutation_terms.specs.Log.{Log}
use Rattle.refutation_terms.specs.Strip.{strip, StripsTo, DescendsTo, ReducesIn, IsReduced}

-- going through some rules ends with one log
one_end : (P : Instance) (numbers : List ℕ) (g h k : Log) → StripsTo P numbers g h → StripsTo P numbers g k → h ≡ k
one_end P [] g h k a b = sym a ∙ b
one_end P (number ∷ rest) g h k (inl a) (inl b) = one_end P rest (strip P number g) h k a.1 b.1
one_end P (number ∷ rest) g h k (inl a) (inr b) = absurd (b.0 a.0)
one_end P (number ∷ rest) g h k (inr a) (inl b) = absurd (a.0 b.0)
one_end P (number ∷ rest) g h k (inr a) (inr b) = one_end P rest g h k a.1 b.1

one_descent : (P : Instance) (g h k : Log) → DescendsTo P g h → DescendsTo P g k → h ≡ k
one_descent P g h k a b = one_end P (reverse g.named) g h k a b

one_after : (P : Instance) (m n : ℕ) (g h k : Log) → ReducesIn P m g h → ReducesIn P n g k → h ≡ k
one_after P zero zero g h k a b = sym a.1 ∙ b.1
one_after P zero (suc n) g h k a b = absurd (b.2 (one_descent P g b.0 g b.1 a.0))
one_after P (suc m) zero g h k a b = absurd (a.2 (one_descent P g a.0 g a.1 b.0))
one_after P (suc m) (suc n) g h k a b = one_after P m n a.0 h k a.3 (subst (λ (f : Log). ReducesIn P n f k) (one_descent P g b.0 a.0 b.1 a.1) b.3)

pub one_reduced : (P : Instance) (g h k : Log) → IsReduced P g h → IsReduced P g k → h ≡ k
one_reduced P g h k a b = one_after P a.0 b.0 g h k a.1 b.1
