-- Names of symbols: the symbol of a name has the name, and the symbol of a symbol's name is the symbol.
use Rattle.std.proofs.Common.{◌≡◌, ◌≢◌, ℕ, zero, suc, ◌+◌, ◌<◌, ◌≤◌, List, [], length, get_or, Bool, true, false, Option, Some, None, cond, refl, ap, sym, ◌∙◌, arith, subst}
use Rattle.std.specs.Prelude.{position, nat_lt, All, AllPairs}
use Rattle.std.specs.Option.{option_map}
use Rattle.std.specs.Str.{bytes_eq}
use Rattle.std.specs.List.{position_or_len}
use Rattle.std.proofs.lemmas.List.Quantifiers.{position-Some}
use Rattle.std.proofs.lemmas.List.Sums.{position_or_len_is}
use Rattle.std.proofs.lemmas.Option.{slice_get-get_or, same_Some}
use Rattle.std.proofs.lemmas.Slice.Eq.{bytes_eq-Decides}
use Rattle.std.proofs.lemmas.Bool.{lt-ltb, false_from_ne_true}
use Rattle.rwsp_terms.specs.Instance.{Instance, shift_count, off_name, name_of, name_numbered, name_in, symbol_of, symbol_numbered, no_bounds}
use Rattle.rwsp_terms.specs.declared.data.ShiftRow.{ShiftRow}
use Rattle.rwsp_terms.specs.declared.data.Symbol.{Symbol}

-- names by which shifts can be told apart from each other, and from the day off
pub record HasNames (P : Instance) : Type 0 where
  pub no_dash : All (λ (row : ShiftRow). row.name ≢ off_name) P.shifts
  pub distinct : AllPairs (λ (a b : ShiftRow). a.name ≢ b.name) P.shifts

pub no_row : ShiftRow
no_row = record { name = []; start = 0; length = 0; bounds = no_bounds }

pub in_place : (P : Instance) (k : ℕ) → k < length P.shifts → name_numbered P (suc k) ≡ (get_or P.shifts k no_row).name
in_place P k less = ap name_in (slice_get-get_or P.shifts k no_row less)

abbrev test_name : List ℕ → ShiftRow → Bool
test_name name row = bytes_eq name row.name

pub symbol_found : (P : Instance) (text : List ℕ) (x : Symbol) → symbol_of P text ≡ Some x → (x.number ≤ shift_count P) × (text ≡ name_of P x)
symbol_found P text x e = at (bytes_eq text off_name) refl (position (test_name text) P.shifts) refl e where
  at : (b : Bool) → bytes_eq text off_name ≡ b → (o : Option ℕ) → position (test_name text) P.shifts ≡ o → cond b (Some (symbol_numbered 0)) (option_map (λ k. symbol_numbered (k + 1)) o) ≡ Some x →
      (x.number ≤ shift_count P) × (text ≡ name_of P x)
  at true d o p h =
      let same : symbol_numbered 0 ≡ x = same_Some (symbol_numbered 0) x h in
      subst (λ (y : Symbol). (y.number ≤ shift_count P) × (text ≡ name_of P y)) same (omega arith, (bytes_eq-Decides text off_name).0 d)
  at false d None p h = absurd (cc)
  at false d (Some k) p h =
      let same : symbol_numbered (k + 1) ≡ x = same_Some (symbol_numbered (k + 1)) x h in
      let f : (k < length P.shifts) × (test_name text (get_or P.shifts k no_row) ≡ true) × ((j : ℕ) → j < k → test_name text (get_or P.shifts j no_row) ≡ false) =
      position-Some (test_name text) P.shifts k no_row p in
      let named : text ≡ (get_or P.shifts k no_row).name = (bytes_eq-Decides text (get_or P.shifts k no_row).name).0 f.1 in
      let next : suc k ≡ k + 1 = omega arith in
      subst (λ (y : Symbol). (y.number ≤ shift_count P) × (text ≡ name_of P y)) same
      (omega (arith, f.0), named ∙ sym (in_place P k f.0) ∙ ap (name_numbered P) next)

pub other_bytes : (a b : List ℕ) → a ≢ b → bytes_eq a b ≡ false
other_bytes a b ne = false_from_ne_true (bytes_eq a b) (λ t. ne ((bytes_eq-Decides a b).0 t))

position_of_name : (P : Instance) → HasNames P → (k : ℕ) → k < length P.shifts → position (test_name (get_or P.shifts k no_row).name) P.shifts ≡ Some k
position_of_name P names k less =
    let name = (get_or P.shifts k no_row).name in
    let at : position_or_len (test_name name) P.shifts ≡ k =
    position_or_len_is (test_name name) P.shifts k no_row (omega (arith, less))
    (λ i early. other_bytes name (get_or P.shifts i no_row).name (λ same. names.distinct i k no_row early less (sym same)))
    (λ _. (bytes_eq-Decides name name).1 refl) in
    ap (λ i. cond (nat_lt i (length P.shifts)) (Some i) None) at ∙ ap (λ b. cond b (Some k) None) (lt-ltb k (length P.shifts) less)

pub symbol_only : (P : Instance) → HasNames P → (n : ℕ) → n ≤ shift_count P → symbol_of P (name_numbered P n) ≡ Some (symbol_numbered n)
symbol_only P names zero le = refl
symbol_only P names (suc k) le =
    let less : k < length P.shifts = omega (arith, le) in
    let next : k + 1 ≡ suc k = omega arith in
    ap (symbol_of P) (in_place P k less)
    ∙ ap (λ b. cond b (Some (symbol_numbered 0)) (option_map (λ j. symbol_numbered (j + 1)) (position (test_name (get_or P.shifts k no_row).name) P.shifts))) (other_bytes (get_or P.shifts k no_row).name off_name (names.no_dash k no_row less))
    ∙ ap (option_map (λ j. symbol_numbered (j + 1))) (position_of_name P names k less)
    ∙ ap (λ n. Some (symbol_numbered n)) next
