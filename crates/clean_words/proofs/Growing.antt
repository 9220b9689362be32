-- The states of two tables together, as they come to be known.
use Rattle.std.proofs.Common.{◌≡◌, ◌⊎◌, ℕ, zero, suc, ◌+◌, ◌<◌, List, [], ◌∷◌, ◌++◌, length, get_or, set, replicate, Option, Some, None, refl, ap, sym, ◌∙◌, subst, inl, inr, arith, append_assoc, length-append}
use Rattle.std.specs.Prelude.{slice_index}
use Rattle.std.proofs.Math.Nat.{eq-or-lt_of_le}
use Rattle.std.proofs.lemmas.Bool.{cases_eq}
use Rattle.std.proofs.lemmas.List.{append-nil, get_or_append_left, get_or_default, get_or_push, get_or-set_same, get_or-set_other, length_push}
use Rattle.clean_words.specs.declared.joint.Both.{Both}
use Rattle.clean_words.specs.declared.table.Table.{Table}
use Rattle.clean_words.specs.Moves.{Moves}
use Rattle.clean_words.specs.Joint.{StandsAt, Extends, Judges, IsRow, AreStates, AreStarts, BeginsAt}

pub stands_here : {X : Type 0} (xs : List X) (k : ℕ) (d : X) → k < length xs → StandsAt xs k (get_or xs k d)
stands_here xs k d lt = (lt, get_or_default xs k (get_or xs k d) d lt)

pub stands_once : {X : Type 0} (xs : List X) (k : ℕ) (x y : X) → StandsAt xs k x → StandsAt xs k y → x ≡ y
stands_once xs k x y h g = sym h.1 ∙ get_or_default xs k x y h.0 ∙ g.1

pub stands_on : {X : Type 0} (xs ys : List X) (k : ℕ) (x : X) → Extends xs ys → StandsAt xs k x → StandsAt ys k x
stands_on {X} xs ys k x (rest, e) h =
    subst (λ (zs : List X). StandsAt zs k x) (sym e) (omega (arith, h.0, length-append xs rest), get_or_append_left xs rest x k h.0 ∙ h.1)

pub stood : {X : Type 0} (xs ys : List X) (k : ℕ) (x : X) → Extends xs ys → k < length xs → StandsAt ys k x → StandsAt xs k x
stood {X} xs ys k x (rest, e) lt h =
    let at : StandsAt (xs ++ rest) k x = subst (λ (zs : List X). StandsAt zs k x) e h in
    (lt, sym (get_or_append_left xs rest x k lt) ∙ at.1)

pub longer_than : {X : Type 0} (xs ys : List X) (k : ℕ) → Extends xs ys → k < length xs → k < length ys
longer_than xs ys k (rest, e) lt = omega (arith, lt, ap length e, length-append xs rest)

pub extends_none : {X : Type 0} (xs ys : List X) → ys ≡ xs → Extends xs ys
extends_none xs ys e = ([], e ∙ sym (append-nil xs))

pub extends_one : {X : Type 0} (xs ys : List X) (x : X) → ys ≡ xs ++ x ∷ [] → Extends xs ys
extends_one xs ys x e = (x ∷ [], e)

pub extends_on : {X : Type 0} (xs ys zs : List X) → Extends xs ys → Extends ys zs → Extends xs zs
extends_on {X} xs ys zs (rest, e) (more, f) =
    (rest ++ more, f ∙ ap (λ (l : List X). l ++ more) e ∙ append_assoc xs rest more)

pub stands_last : {X : Type 0} (xs ys : List X) (x : X) → ys ≡ xs ++ x ∷ [] → StandsAt ys (length xs) x
stands_last {X} xs ys x e =
    subst (λ (zs : List X). StandsAt zs (length xs) x) (sym e) (omega (arith, length-append xs (x ∷ [])), get_or_push xs x x (length xs) refl)

judges_on : (a b : Table) (pairs more : List Both) (pair : Both) (x : ℕ) (to : Option ℕ) → Extends pairs more → Judges a b pairs pair x to → Judges a b more pair x to
judges_on a b pairs more pair x None grows j = j
judges_on a b pairs more pair x (Some to) grows j = (j.0, stands_on pairs more to j.0 grows j.1, j.2, j.3)

row_on : (a b : Table) (pairs more : List Both) (pair : Both) (symbols : ℕ) (row : List (Option ℕ)) → Extends pairs more → IsRow a b pairs pair symbols row → IsRow a b more pair symbols row
row_on a b pairs more pair symbols row grows r = record {
  known = r.known;
  judges = λ x lt. judges_on a b pairs more pair x (get_or row x None) grows (r.judges x lt);
}

abbrev pub no_moves : ℕ → List (Option ℕ)
no_moves size = replicate size None

pub no_move : (size x : ℕ) → get_or (no_moves size) x None ≡ None
no_move zero x = refl
no_move (suc size) zero = refl
no_move (suc size) (suc x) = no_move size x

pub row_none : (a b : Table) (pairs : List Both) (pair : Both) (size : ℕ) → IsRow a b pairs pair 0 (no_moves size)
row_none a b pairs pair size = record {
  known = λ x to h. let none : get_or (no_moves size) x None ≡ None = no_move size x in absurd (cc);
  judges = λ x lt. absurd (omega (arith, lt));
}

-- the move by one symbol more
pub row_more : (a b : Table) (pairs more : List Both) (pair : Both) (number : ℕ) (row : List (Option ℕ)) (to : Option ℕ) → number < length row → Extends pairs more → Judges a b more pair number to → IsRow a b pairs pair number row → IsRow a b more pair (number + 1) (set row number to)
row_more a b pairs more pair number row to within grows new r = record { known = λ x k h. known x k (cases_eq x number) h; judges = λ x lt. judges x lt (cases_eq x number) }
  where
    known : (x k : ℕ) → (x ≡ number) ⊎ (x ≡ number → ⊥) → get_or (set row number to) x None ≡ Some k → x < number + 1
    known x k (inl same) h = omega arith
    known x k (inr other) h =
        let lt : x < number = r.known x k (sym (get_or-set_other row number x to None other) ∙ h) in
        omega arith

    judges : (x : ℕ) → x < number + 1 → (x ≡ number) ⊎ (x ≡ number → ⊥) → Judges a b more pair x (get_or (set row number to) x None)
    judges x lt (inl same) =
        let read : get_or (set row number to) number None ≡ to = get_or-set_same row number to None within in
        subst (λ (n : ℕ). Judges a b more pair n (get_or (set row number to) n None)) (sym same) (subst (Judges a b more pair number) (sym read) new)
    judges x lt (inr other) =
        let read : get_or (set row number to) x None ≡ get_or row x None = get_or-set_other row number x to None other in
        let less : x < number = omega (arith, lt, other) in
        subst (Judges a b more pair x) (sym read) (judges_on a b pairs more pair x (get_or row x None) grows (r.judges x less))

pub states_first : (a b : Table) (symbols : ℕ) (pairs : List Both) (moves : Moves) → length moves ≡ 0 → AreStates a b symbols pairs moves
states_first a b symbols pairs moves none = record {
  done = omega (arith, none);
  rows = λ k pair lt. absurd (omega (arith, lt, none));
}

-- the row of one state more
pub states_more : (a b : Table) (symbols : ℕ) (pairs more : List Both) (moves : Moves) (pair : Both) (row : List (Option ℕ)) → AreStates a b symbols pairs moves → StandsAt pairs (length moves) pair → Extends pairs more → IsRow a b more pair symbols row → AreStates a b symbols more (moves ++ row ∷ [])
states_more a b symbols pairs more moves pair row s here grows new = record {
  done = (let lt : length moves < length more = longer_than pairs more (length moves) grows here.0 in omega (arith, lt, length_push moves row));
  rows = λ k t lt at. rows k t at (eq-or-lt_of_le {n = k} {m = length moves} (omega (arith, lt, length_push moves row)));
}
  where
    rows : (k : ℕ) (t : Both) → StandsAt more k t → (k ≡ length moves) ⊎ (k < length moves) → IsRow a b more t symbols (get_or (moves ++ row ∷ []) k [])
    rows k t at (inl last) =
        let there : StandsAt more k pair = subst (λ (i : ℕ). StandsAt more i pair) (sym last) (stands_on pairs more (length moves) pair grows here) in
        let read : get_or (moves ++ row ∷ []) k [] ≡ row = get_or_push moves row [] k (sym last) in
        subst (λ (u : Both). IsRow a b more u symbols (get_or (moves ++ row ∷ []) k [])) (stands_once more k pair t there at) (subst (λ (r : List (Option ℕ)). IsRow a b more pair symbols r) (sym read) new)
    rows k t at (inr less) =
        let before : StandsAt pairs k t = stood pairs more k t grows (let done = s.done in omega (arith, less, done)) at in
        let read : get_or (moves ++ row ∷ []) k [] ≡ get_or moves k [] = get_or_append_left moves (row ∷ []) [] k less in
        subst (λ (r : List (Option ℕ)). IsRow a b more t symbols r) (sym read) (row_on a b pairs more t symbols (get_or moves k []) grows (s.rows k t less before))

-- the states where words begin, as far as the first days
pub record AreStartsTo (a b : Table) (pairs : List Both) (starts : List ℕ) (n : ℕ) : Type 0 where
  pub long : length starts ≡ n
  pub first : 0 < n → slice_index starts 0 ≡ 0
  pub some : n ≡ 0 → length pairs ≡ 0
  pub each : (d : ℕ) → d < n → BeginsAt a b pairs starts d

index_push : (xs : List ℕ) (y k : ℕ) → k < length xs → slice_index (xs ++ y ∷ []) k ≡ slice_index xs k
index_push xs y k lt = get_or_append_left xs (y ∷ []) 0 k lt

index_last : (xs : List ℕ) (y k : ℕ) → k ≡ length xs → slice_index (xs ++ y ∷ []) k ≡ y
index_last xs y k e = get_or_push xs y 0 k (sym e)

pub starts_none : (a b : Table) (pairs : List Both) (starts : List ℕ) → length pairs ≡ 0 → starts ≡ [] → AreStartsTo a b pairs starts 0
starts_none a b pairs starts none e = record {
  long = ap length e;
  first = λ some. absurd (omega (arith, some));
  some = λ same. none;
  each = λ d lt. absurd (omega (arith, lt));
}

-- the state of one day more, which is state 0 where there was none
pub starts_more : (a b : Table) (pairs more : List Both) (starts : List ℕ) (n state : ℕ) (pair : Both) → AreStartsTo a b pairs starts n → Extends pairs more → StandsAt more state pair → pair ≡ record { first = slice_index a.starts.items n; second = slice_index b.starts.items n }
    → (length pairs ≡ 0 → state ≡ 0) → AreStartsTo a b more (starts ++ state ∷ []) (n + 1)
starts_more a b pairs more starts n state pair s grows at is new = record {
  long = (let long = s.long in omega (arith, long, length_push starts state));
  first = λ some. first (cases_eq n 0);
  some = λ none. absurd (omega (arith, none));
  each = λ d lt. each d (eq-or-lt_of_le {n = d} {m = n} (omega (arith, lt)));
}
  where
    first : (n ≡ 0) ⊎ (n ≡ 0 → ⊥) → slice_index (starts ++ state ∷ []) 0 ≡ 0
    first (inl none) = let long = s.long in index_last starts state 0 (omega (arith, long, none)) ∙ new (s.some none)
    first (inr some) = let long = s.long in index_push starts state 0 (omega (arith, long, some)) ∙ s.first (omega (arith, some))

    each : (d : ℕ) → (d ≡ n) ⊎ (d < n) → BeginsAt a b more (starts ++ state ∷ []) d
    each d (inl last) =
        let read : slice_index (starts ++ state ∷ []) d ≡ state = let long = s.long in index_last starts state d (omega (arith, long, last)) in
        let here : StandsAt more state (record { first = slice_index a.starts.items d; second = slice_index b.starts.items d }) =
        subst (λ k. StandsAt more state (record { first = slice_index a.starts.items k; second = slice_index b.starts.items k })) (sym last) (subst (StandsAt more state) is at) in
        subst (λ k. StandsAt more k (record { first = slice_index a.starts.items d; second = slice_index b.starts.items d })) (sym read) here
    each d (inr less) =
        let read : slice_index (starts ++ state ∷ []) d ≡ slice_index starts d = let long = s.long in index_push starts state d (omega (arith, long, less)) in
        subst (λ k. StandsAt more k (record { first = slice_index a.starts.items d; second = slice_index b.starts.items d })) (sym read) (stands_on pairs more (slice_index starts d) _ grows (s.each d less))

pub starts_all : (a b : Table) (pairs : List Both) (starts : List ℕ) (n : ℕ) → n ≡ length a.starts.items → 0 < n → AreStartsTo a b pairs starts n → AreStarts a b pairs starts
starts_all a b pairs starts n is some s = record {
  long = s.long ∙ is;
  first = s.first some;
  each = λ d lt. let long = s.long in s.each d (omega (arith, lt, long));
}

pub starts_on : (a b : Table) (pairs more : List Both) (starts : List ℕ) → Extends pairs more → AreStarts a b pairs starts → AreStarts a b more starts
starts_on a b pairs more starts grows s = record {
  long = s.long;
  first = s.first;
  each = λ d lt. stands_on pairs more (slice_index starts d) _ grows (s.each d lt);
}
