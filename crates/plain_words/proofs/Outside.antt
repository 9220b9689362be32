-- Days whose demand a roster doesn't meet.
use Rattle.std.proofs.Common.{◌≡◌, ℕ, zero, suc, ◌+◌, ◌<◌, ◌≤◌, ◌≤ℤ◌, List, Bool, true, false, cond, refl, ap, sym, ◌∙◌, arith}
use Rattle.std.specs.Prelude.{Option, Some, None, ◌&&◌, pos}
use Rattle.std.specs.Int.Signed.{le_z}
use Rattle.std.specs.List.{find, range_with_len}
use Rattle.std.proofs.lemmas.Bool.{and_parts, not-false}
use Rattle.rwsp_terms.specs.declared.data.Symbol.{Symbol}
use Rattle.rwsp_terms.specs.Instance.{Instance, shift_count, least, greatest}
use Rattle.rwsp_terms.specs.Roster.{weeks_with, MeetsDay}
use Rattle.plain_words.specs.Told.{is_outside, or_off}
use Rattle.plain_words.specs.Laws.{BrokenDaysAreTold}
use Rattle.plain_words.proofs.Misfits.{is_at_most}

-- what a search of a test finds among the numbers of a range, or that none passes
abbrev IsFound : (ℕ → Bool) → (a n : ℕ) → Option ℕ → Type 0
IsFound p a n (Some x) = (a ≤ x) × (x < a + n) × (p x ≡ true)
IsFound p a n None = (i : ℕ) → i < n → p (a + i) ≡ false

none_from : (p : ℕ → Bool) (a n : ℕ) → p a ≡ false → ((i : ℕ) → i < n → p (a + 1 + i) ≡ false) → (i : ℕ) → i < suc n → p (a + i) ≡ false
none_from p a n none rest zero less = let e : a + 0 ≡ a = omega arith in ap p e ∙ none
none_from p a n none rest (suc i) less = let e : a + suc i ≡ a + 1 + i = omega arith in ap p e ∙ rest i (omega (arith, less))

later : (p : ℕ → Bool) (a n : ℕ) (found : Option ℕ) → p a ≡ false → IsFound p (a + 1) n found → IsFound p a (suc n) found
later p a n (Some x) none found = (omega (arith, found.0), omega (arith, found.1), found.2)
later p a n None none found = none_from p a n none found

found_by : (p : ℕ → Bool) (a n : ℕ) (here : Bool) → p a ≡ here → IsFound p (a + 1) n (find p (range_with_len (a + 1) n)) → IsFound p a (suc n) (cond here (Some a) (find p (range_with_len (a + 1) n)))
found_by p a n true is rest = (omega arith, omega arith, is)
found_by p a n false is rest = later p a n (find p (range_with_len (a + 1) n)) is rest

searched : (p : ℕ → Bool) (a n : ℕ) → IsFound p a n (find p (range_with_len a n))
searched p a zero = λ i less. absurd (omega (arith, less))
searched p a (suc n) = found_by p a n (p a) refl (searched p (a + 1) n)

in_range : (P : Instance) (s : List Symbol) (j x : ℕ) → is_outside P s j x ≡ false → (least P x j ≤ℤ pos (weeks_with P s x j)) × (pos (weeks_with P s x j) ≤ℤ greatest P x j)
in_range P s j x e =
    let w = pos (weeks_with P s x j) in
    let both = and_parts (le_z (least P x j) w) (le_z w (greatest P x j)) (not-false (le_z (least P x j) w && le_z w (greatest P x j)) e) in
    (is_at_most (least P x j) w both.0, is_at_most w (greatest P x j) both.1)

meets : (P : Instance) (s : List Symbol) (j : ℕ) → is_outside P s j 0 ≡ false → ((i : ℕ) → i < shift_count P → is_outside P s j (1 + i) ≡ false) → MeetsDay P j s
meets P s j off shifts zero known = in_range P s j 0 off
meets P s j off shifts (suc x) known =
    let e : 1 + x ≡ suc x = omega arith in
    in_range P s j (suc x) (ap (is_outside P s j) (sym e) ∙ shifts x (omega (arith, known)))

told : (P : Instance) (s : List Symbol) (j : ℕ) (found : Option ℕ) (off : Bool) → IsFound (is_outside P s j) 1 (shift_count P) found → is_outside P s j 0 ≡ off → (MeetsDay P j s → ⊥)
    → (x : ℕ) × (or_off off found ≡ Some x) × (x ≤ shift_count P) × (is_outside P s j x ≡ true)
told P s j (Some x) off found is fails = (x, refl, omega (arith, found.1), found.2)
told P s j None true found is fails = (0, refl, omega arith, is)
told P s j None false found is fails = absurd (fails (meets P s j is found))

pub broken_days_are_told : BrokenDaysAreTold
broken_days_are_told P s j fails =
    told P s j (find (is_outside P s j) (range_with_len 1 (shift_count P))) (is_outside P s j 0) (searched (is_outside P s j) 1 (shift_count P)) refl fails
