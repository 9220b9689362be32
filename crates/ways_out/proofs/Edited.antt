-- Lists with one element edited.
use Rattle.std.proofs.Common.{◌≡◌, ℕ, zero, suc, ◌+◌, ◌<◌, ◌≤◌, List, [], ◌∷◌, length, get_or, refl, ap, arith}
use Rattle.std.specs.Prelude.{set, fold, sum_by, slice_get, Option, Some, None, All}
use Rattle.ways_out.specs.Loosened.{edited}

pub length-edited : {X : Type 0} (k : ℕ) (f : X → X) (xs : List X) → length (edited k f xs) ≡ length xs
length-edited k f [] = refl
length-edited zero f (x ∷ xs) = refl
length-edited (suc k) f (x ∷ xs) = ap suc (length-edited k f xs)

-- an edit that changes nothing
pub edited_same : {X : Type 0} (k : ℕ) (f : X → X) (xs : List X) → ((x : X) → f x ≡ x) → edited k f xs ≡ xs
edited_same k f [] h = refl
edited_same zero f (x ∷ xs) h = ap (λ y. y ∷ xs) (h x)
edited_same (suc k) f (x ∷ xs) h = ap (λ ys. x ∷ ys) (edited_same k f xs h)

-- an element that is put in place
pub set_edited : {X : Type 0} (k : ℕ) (y : X) (xs : List X) → set xs k y ≡ edited k (λ _. y) xs
set_edited k y [] = refl
set_edited zero y (x ∷ xs) = refl
set_edited (suc k) y (x ∷ xs) = ap (λ ys. x ∷ ys) (set_edited k y xs)

-- two edits that agree on the element
pub edited_alike : {X : Type 0} (k : ℕ) (f g : X → X) (xs : List X) (d : X) → k < length xs → f (get_or xs k d) ≡ g (get_or xs k d) → edited k f xs ≡ edited k g xs
edited_alike k f g [] d less h = refl
edited_alike zero f g (x ∷ xs) d less h = ap (λ y. y ∷ xs) h
edited_alike (suc k) f g (x ∷ xs) d less h = ap (λ ys. x ∷ ys) (edited_alike k f g xs d (omega (arith, less)) h)

-- what relates both edits at the place, and each element to itself, relates the elements
pub edited_related : {X : Type 0} (R : X → X → Type 0) (same : (x : X) → R x x) (k i : ℕ) (f g : X → X) (xs : List X) (d : X) → (i ≡ k → (x : X) → R (f x) (g x)) → R (get_or (edited k f xs) i d) (get_or (edited k g xs) i d)
edited_related R same k i f g [] d h = same d
edited_related R same zero zero f g (x ∷ xs) d h = h refl x
edited_related R same zero (suc i) f g (x ∷ xs) d h = same (get_or xs i d)
edited_related R same (suc k) zero f g (x ∷ xs) d h = same x
edited_related R same (suc k) (suc i) f g (x ∷ xs) d h = edited_related R same k i f g xs d (λ e. h (ap suc e))

pub related_get : {X : Type 0} (R : Option X → Option X → Type 0) (same : (o : Option X) → R o o) (k i : ℕ) (f g : X → X) (xs : List X) → (i ≡ k → (x : X) → R (Some (f x)) (Some (g x))) → R (slice_get (edited k f xs) i) (slice_get (edited k g xs) i)
related_get R same k i f g [] h = same None
related_get R same zero zero f g (x ∷ xs) h = h refl x
related_get R same zero (suc i) f g (x ∷ xs) h = same (slice_get xs i)
related_get R same (suc k) zero f g (x ∷ xs) h = same (Some x)
related_get R same (suc k) (suc i) f g (x ∷ xs) h = related_get R same k i f g xs (λ e. h (ap suc e))

-- what each element has and the edit keeps
pub all_edited : {X : Type 0} (Q : X → Type 0) (k : ℕ) (f : X → X) (xs : List X) → All Q xs → ((x : X) → Q x → Q (f x)) → All Q (edited k f xs)
all_edited Q k f [] all keeps = all
all_edited Q zero f (x ∷ xs) all keeps = λ i d less. elim i as (λ (n : ℕ). n < suc (length xs) → Q (get_or (f x ∷ xs) n d)) [
  | zero ↦ λ lt. keeps x (all 0 x (omega arith))
  | suc j ↦ λ lt. all (suc j) d lt
] less
all_edited Q (suc k) f (x ∷ xs) all keeps = λ i d less. elim i as (λ (n : ℕ). n < suc (length (edited k f xs)) → Q (get_or (x ∷ edited k f xs) n d)) [
  | zero ↦ λ lt. all 0 x (omega arith)
  | suc j ↦ λ lt. all_edited Q k f xs (λ m e below. all (suc m) e (omega (arith, below))) keeps j d (omega (arith, lt))
] less

-- sums over two edits

along_mono : {X : Type 0} (h : X → ℕ) (xs : List X) (a b : ℕ) → a ≤ b → fold (λ s x. s + h x) a xs ≤ fold (λ s x. s + h x) b xs
along_mono h [] a b le = le
along_mono h (x ∷ xs) a b le = along_mono h xs (a + h x) (b + h x) (omega (arith, le))

along_edited : {X : Type 0} (h : X → ℕ) (k : ℕ) (f g : X → X) (xs : List X) (a b : ℕ) → a ≤ b → ((x : X) → h (f x) ≤ h (g x)) → fold (λ s x. s + h x) a (edited k f xs) ≤ fold (λ s x. s + h x) b (edited k g xs)
along_edited h k f g [] a b le each = le
along_edited h zero f g (x ∷ xs) a b le each =
    let here = each x in
    along_mono h xs (a + h (f x)) (b + h (g x)) (omega (arith, le, here))
along_edited h (suc k) f g (x ∷ xs) a b le each = along_edited h k f g xs (a + h x) (b + h x) (omega (arith, le)) each

pub sum_edited : {X : Type 0} (h : X → ℕ) (k : ℕ) (f g : X → X) (xs : List X) → ((x : X) → h (f x) ≤ h (g x)) → sum_by h (edited k f xs) ≤ sum_by h (edited k g xs)
sum_edited h k f g xs each = along_edited h k f g xs 0 0 (omega arith) each
