-- Known bytes that grow, and bytes that are taken one piece after another.
use Rattle.std.proofs.Common.{◌≡◌, ℕ, ◌+◌, ◌<◌, ◌≤◌, List, ◌++◌, length, Option, Some, None, Result, Ok, Err, take, drop, ap, sym, subst, ◌∙◌, arith, append_assoc, length-append}
use Rattle.std.proofs.Math.Seq.{take-add}
use Rattle.std.proofs.lemmas.List.{append-nil, length-take-le, drop_at}
use Rattle.std.specs.Io.KnownBytes.{Appends, Consumes, IsAtEnd}
use Rattle.rwsp_io.specs.declared.shelf.ReadFail.{ReadFail}
use Rattle.rwsp_io.specs.declared.shelf.ReadFail.TheVariants.{Fault, TooLong}
use Rattle.rwsp_io.specs.Told.{Told, Bytes, told_bytes}

-- what grew by x and then by y grew by both
pub Appends-more : (a b c : Option (List ℕ)) (x y z : List ℕ) → z ≡ x ++ y → Appends a b x → Appends b c y → Appends a c z
Appends-more None b c x y z e h k = tt
Appends-more (Some a) None c x y z e h k = absurd h
Appends-more (Some a) (Some b) None x y z e h k = absurd k
Appends-more (Some a) (Some b) (Some c) x y z e h k =
    k ∙ ap (λ w. w ++ y) h ∙ append_assoc a x y ∙ ap (λ w. a ++ w) (sym e)

-- what was taken into a list behind its front was taken after that front
pub Consumes-behind : (a b c : Option (List ℕ)) (xs ys : List ℕ) (f n : ℕ) → take f ys ≡ take f xs → Consumes a b (take f xs) → Consumes b c (take n (drop f ys)) → Consumes a c (take (f + n) ys)
Consumes-behind None b c xs ys f n same h k = tt
Consumes-behind (Some a) None c xs ys f n same h k = absurd h
Consumes-behind (Some a) (Some b) None xs ys f n same h k = absurd k
Consumes-behind (Some a) (Some b) (Some c) xs ys f n same h k =
    h ∙ ap (λ w. take f xs ++ w) k ∙ ap (λ w. w ++ (take n (drop f ys) ++ c)) (sym same) ∙ sym (append_assoc (take f ys) (take n (drop f ys)) c) ∙ ap (λ w. w ++ c) (sym (take-add f n ys))

-- what was taken until nothing was left is all
pub taken_all : (told : Told) (left : Option (List ℕ)) (bytes taken : List ℕ) → told ≡ Bytes bytes → Consumes (told_bytes told) left taken → IsAtEnd left → taken ≡ bytes
taken_all told None bytes taken e h end = absurd (subst (λ t. Consumes (told_bytes t) None taken) e h)
taken_all told (Some rest) bytes taken e h end =
    let whole : bytes ≡ taken ++ rest = subst (λ t. Consumes (told_bytes t) (Some rest) taken) e h in
    sym (whole ∙ ap (λ r. taken ++ r) end ∙ append-nil taken)

-- what is left where n bytes were taken
pub taken_past : (told : Told) (left : Option (List ℕ)) (bytes items : List ℕ) (n : ℕ) → told ≡ Bytes bytes → Consumes (told_bytes told) left (take n items) → n ≤ length items → (n ≤ length bytes) × (left ≡ Some (drop n bytes))
taken_past told None bytes items n e h within = absurd (subst (λ t. Consumes (told_bytes t) None (take n items)) e h)
taken_past told (Some rest) bytes items n e h within =
    let whole : bytes ≡ take n items ++ rest = subst (λ t. Consumes (told_bytes t) (Some rest) (take n items)) e h in
    let long : length (take n items) ≡ n = length-take-le n items within in
    (omega (arith, ap length whole, length-append (take n items) rest, long), ap (λ r. Some r) (sym (ap (drop n) whole ∙ drop_at (take n items) rest n long)))

-- the same where no more was taken than one byte above a limit
pub past_limit : (told : Told) (left : Option (List ℕ)) (bytes items : List ℕ) (n limit : ℕ) → told ≡ Bytes bytes → Consumes (told_bytes told) left (take n items) → n ≤ length items → length items ≤ limit + 1 → limit < n → (limit < length bytes) × (left ≡ Some (drop (limit + 1) bytes))
past_limit told left bytes items n limit e h within few above =
    let past = taken_past told left bytes items n e h within in
    let most : n ≡ limit + 1 = omega (arith, within, few, above) in
    (omega (arith, past.0, above), past.1 ∙ ap (λ k. Some (drop k bytes)) most)

-- the last of some takes gave nothing, since nothing was left
pub took_all : (told : Told) (left : Option (List ℕ)) (bytes items : List ℕ) (f n : ℕ) → n ≡ 0 → told ≡ Bytes bytes → Consumes (told_bytes told) left (take (f + n) items) → IsAtEnd left → take f items ≡ bytes
took_all told left bytes items f n none e h end =
    let same : f + n ≡ f = omega (arith, none) in
    taken_all told left bytes (take f items) e (subst (λ k. Consumes (told_bytes told) left (take k items)) same h) end

pub too_short : (xs bytes : List ℕ) (limit : ℕ) → xs ≡ bytes → length xs ≤ limit → limit < length bytes → ⊥
too_short xs bytes limit e short long = omega (arith, ap length e)

pub no_less : (a b : ℕ) → a < b → b ≤ a → ⊥
no_less a b less le = omega arith

abbrev given : {T E : Type 0} → T → Result T E
given v = Ok v

pub not_refused : {T E : Type 0} (v : T) (why : E) → given {E = E} v ≡ Err why → ⊥
not_refused v why e = cc

abbrev the_failure : {T : Type 0} → ReadFail → Result T ReadFail
the_failure why = Err why

pub no_fault : {T : Type 0} → the_failure {T = T} TooLong ≡ the_failure Fault → ⊥
no_fault e = cc
