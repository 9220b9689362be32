-- Given cells that are left out.
use Rattle.std.proofs.Common.{◌≡◌, ℕ, ◌<◌, List, [], ◌∷◌, refl, ap, sym, ◌∙◌, subst, Bool, true, false, cond, ◌==◌, not}
use Rattle.std.specs.Prelude.{map, filter}
use Rattle.std.specs.List.Sorted.{IsStrictlyIncreasing}
use Rattle.std.proofs.lemmas.List.Kept.{IsStrictlyIncreasing-filter}
use Rattle.std.proofs.lemmas.List.Elements.{All-filter}
use Rattle.rwsp_terms.specs.Instance.{Instance, cells, IsSymbol}
use Rattle.refutation_terms.specs.declared.cells.GivenCell.{GivenCell}
use Rattle.refutation_terms.specs.GivenCells.{AreGivenIn}

one_by_test : (test : Bool) (c : GivenCell) (later : List GivenCell) → map (λ c. c.p) (cond test (c ∷ later) later) ≡ cond test (c.p ∷ map (λ c. c.p) later) (map (λ c. c.p) later)
one_by_test true c later = refl
one_by_test false c later = refl

positions_left : (p : ℕ) (given : List GivenCell) → map (λ c. c.p) (filter (λ c. not (c.p == p)) given) ≡ filter (λ k. not (k == p)) (map (λ c. c.p) given)
positions_left p [] = refl
positions_left p (c ∷ given) =
    one_by_test (not (c.p == p)) c (filter (λ c. not (c.p == p)) given)
    ∙ ap (λ ks. cond (not (c.p == p)) (c.p ∷ ks) ks) (positions_left p given)

pub given_still : (P : Instance) (p : ℕ) (given : List GivenCell) → AreGivenIn P given → AreGivenIn P (filter (λ c. not (c.p == p)) given)
given_still P p given are = (
  subst IsStrictlyIncreasing (sym (positions_left p given)) (IsStrictlyIncreasing-filter (λ k. not (k == p)) (map (λ c. c.p) given) are.0),
  All-filter (λ c. not (c.p == p)) (λ c. (c.p < cells P) × IsSymbol P c.x) given are.1,
)
