-- A name that no earlier shift has.
use Rattle.std.proofs.Common.{◌≡◌, ◌≢◌, ℕ, ◌+◌, ◌≤◌, List, [], ◌∷◌, ◌++◌, length, get_or, Bool, true, false, not, ◌&&◌, ◌==◌, refl, ap, sym, ◌∙◌, arith, nat_le, append_assoc}
use Rattle.std.specs.List.{list_any, AllByRecursion}
use Rattle.std.specs.Str.{bytes_eq}
use Rattle.std.proofs.lemmas.Bool.{le-leb, and_from, not_from_false, or_from}
use Rattle.std.proofs.lemmas.List.{length-append}
use Rattle.rwsp_terms.specs.Instance.{off_name}
use Rattle.rwsp_terms.specs.declared.data.ShiftRow.{ShiftRow}
use Rattle.rwsp_terms.proofs.Elements.{all_from}
use Rattle.rwsp_terms.proofs.SymbolNames.{other_bytes}
use Rattle.rwsp_model.specs.Validity.{breaks_name}
use Rattle.rwsp_model.proofs.Names.{IsWord}
use Rattle.rwsp_file.specs.Reading.{is_new_name}

-- `a` in place of `b`, and `b` in place of all else
abbrev pick : Bool → ℕ
pick true = 98
pick false = 97

-- another letter
abbrev another : ℕ → ℕ
another b = pick (b == 97)

another_differs : (b : ℕ) → another b ≢ b
another_differs b e = at (b == 97) refl e where
  at : (t : Bool) → (b == 97) ≡ t → pick t ≡ b → ⊥
  at true h g =
      let no : (98 == 97) ≡ true = ap (λ c. c == 97) g ∙ h in
      absurd (let both : false ≡ true = no in cc)
  at false h g =
      let no : (97 == 97) ≡ false = ap (λ c. c == 97) g ∙ h in
      absurd (let both : true ≡ false = no in cc)

picked : (P : ℕ → Type 0) (t : Bool) → P 98 → P 97 → P (pick t)
picked P true x y = x
picked P false x y = y

-- the byte at each place is another than that of the name at this place
abbrev pub fresh_from : ℕ → List ShiftRow → List ℕ
fresh_from k [] = 97 ∷ []
fresh_from k (row ∷ rows) = another (get_or row.name k 0) ∷ fresh_from (k + 1) rows

pub length-fresh_from : (k : ℕ) (rows : List ShiftRow) → length (fresh_from k rows) ≡ length rows + 1
length-fresh_from k [] = refl
length-fresh_from k (row ∷ rows) = omega (arith, length-fresh_from (k + 1) rows)

get_behind : (front : List ℕ) (x : ℕ) (ys : List ℕ) → get_or (front ++ x ∷ ys) (length front) 0 ≡ x
get_behind [] x ys = refl
get_behind (y ∷ front) x ys = get_behind front x ys

none_has : (front : List ℕ) (k : ℕ) (rows : List ShiftRow) → length front ≡ k → list_any (λ (row : ShiftRow). bytes_eq (front ++ fresh_from k rows) row.name) rows ≡ false
none_has front k [] e = refl
none_has front k (row ∷ rows) e =
    let differ : (front ++ another (get_or row.name k 0) ∷ fresh_from (k + 1) rows) ≢ row.name = λ same.
    another_differs (get_or row.name k 0)
    (sym (get_behind front (another (get_or row.name k 0)) (fresh_from (k + 1) rows)) ∙ ap (λ (t : List ℕ). get_or t (length front) 0) same ∙ ap (λ i. get_or row.name i 0) e) in
    let long : length (front ++ another (get_or row.name k 0) ∷ []) ≡ k + 1 = omega (arith, e, length-append front (another (get_or row.name k 0) ∷ [])) in
    let rest : list_any (λ (r : ShiftRow). bytes_eq ((front ++ another (get_or row.name k 0) ∷ []) ++ fresh_from (k + 1) rows) r.name) rows ≡ false =
    none_has (front ++ another (get_or row.name k 0) ∷ []) (k + 1) rows long in
    or_from (bytes_eq (front ++ another (get_or row.name k 0) ∷ fresh_from (k + 1) rows) row.name) _
    (other_bytes (front ++ another (get_or row.name k 0) ∷ fresh_from (k + 1) rows) row.name differ)
    (ap (λ (t : List ℕ). list_any (λ (r : ShiftRow). bytes_eq t r.name) rows) (sym (append_assoc front (another (get_or row.name k 0) ∷ []) (fresh_from (k + 1) rows))) ∙ rest)

-- a name that is new behind the earlier shifts
abbrev pub fresh_name : List ShiftRow → List ℕ
fresh_name earlier = fresh_from 0 earlier

letters : (k : ℕ) (rows : List ShiftRow) → AllByRecursion (λ b. breaks_name b ≡ false) (fresh_from k rows)
letters k [] = (refl, tt)
letters k (row ∷ rows) = (picked (λ b. breaks_name b ≡ false) (get_or row.name k 0 == 97) refl refl, letters (k + 1) rows)

first_letter : (P : ℕ → Type 0) (k : ℕ) (rows : List ShiftRow) → P 98 → P 97 → P (get_or (fresh_from k rows) 0 0)
first_letter P k [] x y = y
first_letter P k (row ∷ rows) x y = picked P (get_or row.name k 0 == 97) x y

pub fresh_is_word : (earlier : List ShiftRow) → IsWord (fresh_name earlier)
fresh_is_word earlier = record {
  some = omega (arith, length-fresh_from 0 earlier);
  unbroken = all_from (λ b. breaks_name b ≡ false) (fresh_name earlier) (letters 0 earlier);
  no_hash = first_letter (λ b. b ≢ 35) 0 earlier (λ e. let no : 98 ≡ 35 = e in omega (arith, no)) (λ e. let no : 97 ≡ 35 = e in omega (arith, no));
}

no_dash : (earlier : List ShiftRow) → fresh_name earlier ≢ off_name
no_dash earlier e =
    first_letter (λ b. b ≡ 45 → ⊥) 0 earlier (λ e. let no : 98 ≡ 45 = e in omega (arith, no)) (λ e. let no : 97 ≡ 45 = e in omega (arith, no))
    (ap (λ (t : List ℕ). get_or t 0 0) e)

pub fresh_is_new : (earlier : List ShiftRow) → length earlier ≤ 7 → is_new_name earlier (fresh_name earlier) ≡ true
fresh_is_new earlier few =
    and_from (nat_le (length (fresh_name earlier)) 32 && not (bytes_eq (fresh_name earlier) off_name)) (not (list_any (λ row. bytes_eq (fresh_name earlier) row.name) earlier))
    (and_from (nat_le (length (fresh_name earlier)) 32) (not (bytes_eq (fresh_name earlier) off_name)) (le-leb (length (fresh_name earlier)) 32 (omega (arith, few, length-fresh_from 0 earlier)))
    (not_from_false _ (other_bytes (fresh_name earlier) off_name (no_dash earlier))))
    (not_from_false _ (none_has [] 0 earlier refl))
