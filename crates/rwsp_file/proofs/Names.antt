-- Tests of names, on shifts and on keys.
use Rattle.std.proofs.Common.{◌≡◌, ℕ, ◌+◌, List, [], ◌∷◌, ◌++◌, length, Bool, false, not, cond, Some, None, refl, ap, sym, ◌∙◌, map, nat_lt, ◌||◌, Vec, Global}
use Rattle.std.specs.Prelude.{position, if◌then◌else◌}
use Rattle.std.specs.List.{list_any, prefix_len}
use Rattle.std.specs.Str.{bytes_eq}
use Rattle.std.proofs.lemmas.List.{map_push, length-map}
use Rattle.rwsp_terms.specs.declared.data.ShiftRow.{ShiftRow}

pub prefix_len-map : {X Y : Type 0} (f : X → Y) (p : Y → Bool) (xs : List X) → prefix_len p (map f xs) ≡ prefix_len (λ x. p (f x)) xs
prefix_len-map f p [] = refl
prefix_len-map f p (x ∷ xs) = ap (λ n. cond (p (f x)) (1 + n) 0) (prefix_len-map f p xs)

-- where the images pass a test
pub position-map : {X Y : Type 0} (f : X → Y) (p : Y → Bool) (xs : List X) → position p (map f xs) ≡ position (λ x. p (f x)) xs
position-map f p xs =
    ap (λ n. cond (nat_lt n (length (map f xs))) (Some n) None) (prefix_len-map f (λ y. not (p y)) xs)
    ∙ ap (λ n. cond (nat_lt (prefix_len (λ x. not (p (f x))) xs) n) (Some (prefix_len (λ x. not (p (f x))) xs)) None) (length-map xs f)

pub list_any-map : {X Y : Type 0} (f : X → Y) (p : Y → Bool) (xs : List X) → list_any p (map f xs) ≡ list_any (λ x. p (f x)) xs
list_any-map f p [] = refl
list_any-map f p (x ∷ xs) = ap (λ b. p (f x) || b) (list_any-map f p xs)

-- two lists with the same images pass the same tests of them
pub same_position : {X Y Z : Type 0} (f : X → Z) (g : Y → Z) (p : Z → Bool) (xs : List X) (ys : List Y) → map f xs ≡ map g ys → position (λ x. p (f x)) xs ≡ position (λ y. p (g y)) ys
same_position f g p xs ys e = sym (position-map f p xs) ∙ ap (position p) e ∙ position-map g p ys

pub same_list_any : {X Y Z : Type 0} (f : X → Z) (g : Y → Z) (p : Z → Bool) (xs : List X) (ys : List Y) → map f xs ≡ map g ys → list_any (λ x. p (f x)) xs ≡ list_any (λ y. p (g y)) ys
same_list_any f g p xs ys e = sym (list_any-map f p xs) ∙ ap (list_any p) e ∙ list_any-map g p ys

-- a new name goes behind the keys, as its shift goes behind the shifts
pub push_names : (keys keys' : List (Vec ℕ Global)) (rows rows' : List ShiftRow) (name : Vec ℕ Global) (row : ShiftRow) →
    map (λ k. k.items) keys ≡ map (λ r. r.name) rows →
    keys' ≡ (if list_any (λ k. bytes_eq name.items k.items) keys then keys else keys ++ name ∷ []) →
    rows' ≡ rows ++ row ∷ [] → name.items ≡ row.name → list_any (λ other. bytes_eq row.name other.name) rows ≡ false →
    map (λ k. k.items) keys' ≡ map (λ r. r.name) rows'
push_names keys keys' rows rows' name row same k r n fresh =
    let items : Vec ℕ Global → List ℕ = λ v. v.items in
    let names : ShiftRow → List ℕ = λ s. s.name in
    let none : list_any (λ v. bytes_eq name.items (items v)) keys ≡ false =
    same_list_any items names (bytes_eq name.items) keys rows same ∙ ap (λ t. list_any (λ s. bytes_eq t (names s)) rows) n ∙ fresh in
    let grown : keys' ≡ keys ++ name ∷ [] = k ∙ ap (λ b. if b then keys else keys ++ name ∷ []) none in
    ap (map items) grown ∙ map_push items keys name ∙ ap (λ ks. ks ++ name.items ∷ []) same ∙ ap (λ t. map names rows ++ t ∷ []) n
    ∙ sym (map_push names rows row) ∙ sym (ap (map names) r)
