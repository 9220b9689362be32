-- The test that a domain has one symbol alone.
use Rattle.std.proofs.Common.{◌≡◌, ◌≢◌, ℕ, ◌+◌, ◌<◌, Bool, true, false, ap, ◌||◌, ◌==◌, not}
use Rattle.std.specs.List.{range_with_len, list_all}
use Rattle.std.proofs.lemmas.Bool.{eq-eqb, ne_eqb, and_right, or_left, or_right, or_from}
use Rattle.rwsp_terms.specs.Instance.{Instance, shift_count}
use Rattle.rwsp_terms.proofs.Counting.{not_all}
use Rattle.refutation_terms.specs.Word.{Domains}
use Rattle.refutation_terms.specs.DayLeaf.{is_only}

pub same_passes : (z x : ℕ) (held : Bool) → z ≡ x → ((z == x) || not held) ≡ true
same_passes z x held same = or_left (z == x) (not held) (eq-eqb z x same)

pub absent_passes : (z x : ℕ) (held : Bool) → held ≡ false → ((z == x) || not held) ≡ true
absent_passes z x held absent = or_right (z == x) (not held) (ap not absent)

pub other_fails : (z x : ℕ) (held : Bool) → z ≢ x → held ≡ true → ((z == x) || not held) ≡ false
other_fails z x held other there = or_from (z == x) (not held) (ne_eqb z x other) (ap not there)

-- a symbol beside another isn't alone
pub not_only : (P : Instance) (D : Domains) (p x z : ℕ) → z < shift_count P + 1 → z ≢ x → D p z ≡ true → is_only P D p x ≡ false
not_only P D p x z lt other there =
    let test : ℕ → Bool = λ z. (z == x) || not (D p z) in
    and_right (D p x) (list_all test (range_with_len 0 (shift_count P + 1))) (not_all test (shift_count P + 1) z lt (other_fails z x (D p z) other there))
