-- Where words lead.
use Rattle.std.proofs.Common.{◌≡◌, ℕ, ◌<◌, ◌≤◌, List, [], ◌∷◌, length, get_or, Option, Some, None, refl, ap, inl, inr, ◌⊎◌}
use Rattle.std.proofs.lemmas.Bool.{cases_lt}
use Rattle.std.proofs.lemmas.List.{get_or_past}
use Rattle.rwsp_terms.specs.declared.data.Symbol.{Symbol}
use Rattle.clean_words.specs.Moves.{Moves, move_at, lead}

pub lead_nowhere : (moves : Moves) (u : List Symbol) → lead moves None u ≡ None
lead_nowhere moves [] = refl
lead_nowhere moves (x ∷ u) = lead_nowhere moves u

-- all moves lead to states
abbrev pub AreInside : Moves → Type 0
AreInside moves = (s x t : ℕ) → move_at moves s x ≡ Some t → t < length moves

inside_by : (moves : Moves) (u : List Symbol) (t : ℕ) (m : Option ℕ) → ((s : ℕ) → s < length moves → lead moves (Some s) u ≡ Some t → t < length moves) → ((s : ℕ) → m ≡ Some s → s < length moves) → lead moves m u ≡ Some t → t < length moves
inside_by moves u t None rest inside h = let none = lead_nowhere moves u in absurd (cc)
inside_by moves u t (Some s) rest inside h = rest s (inside s refl) h

pub lead_inside : (moves : Moves) → AreInside moves → (u : List Symbol) (s t : ℕ) → s < length moves → lead moves (Some s) u ≡ Some t → t < length moves
lead_inside moves inside [] s t lt h = let same : s ≡ t = cc in rw (← same) lt
lead_inside moves inside (x ∷ u) s t lt h =
    inside_by moves u t (move_at moves s x.number) (λ n less. lead_inside moves inside u n t less) (inside s x.number) h

-- a move is that of a state
pub moves_from : (moves : Moves) (s x t : ℕ) → move_at moves s x ≡ Some t → s < length moves
moves_from moves s x t h = by_place (cases_lt s (length moves))
  where
    by_place : (s < length moves) ⊎ (length moves ≤ s) → s < length moves
    by_place (inl lt) = lt
    by_place (inr le) =
        let none : move_at moves s x ≡ None = ap (λ (row : List (Option ℕ)). get_or row x None) (get_or_past moves s [] le) in
        absurd (cc)

-- what is no state is nowhere
pub nowhere_by : (m : Option ℕ) → ((s : ℕ) → m ≡ Some s → ⊥) → m ≡ None
nowhere_by None h = refl
nowhere_by (Some s) h = absurd (h s refl)
