-- The first word of a line, by where its first blank is.
use Rattle.std.proofs.Common.{◌≡◌, ◌≢◌, ℕ, suc, ◌+◌, ◌<◌, List, [], ◌∷◌, ◌++◌, length, take, drop, get_or, Bool, true, false, refl, ap, sym, ◌∙◌, arith, cond, ◌==◌, drop-cons, add-one, take-append-drop}
use Rattle.std.specs.Prelude.{All}
use Rattle.std.specs.List.{onto_first}
use Rattle.std.proofs.lemmas.List.{take_all, get_or-take, length-take-le}
use Rattle.std.proofs.lemmas.List.Elements.{All-from_get_or}
use Rattle.std.proofs.lemmas.List.Splits.{slice_split_at, slice_split_none}
use Rattle.std.proofs.lemmas.Bool.Decides.{nat_tests}
use Rattle.rwsp_text.specs.Lines.{is_blank, words_of, words_left, words_after, rest_of}

pub none_left : (bytes : List ℕ) (done : Bool) → done ≡ true → words_left bytes done ≡ []
none_left bytes true e = refl
none_left bytes false e = absurd (cc)

nonempty : (bytes : List ℕ) → words_of bytes ≢ []
nonempty [] = λ e. cc
nonempty (b ∷ bytes) = by (is_blank b) (words_of bytes)
  where
    onto : (ps : List (List ℕ)) → onto_first b ps ≢ []
    onto [] = λ e. cc
    onto (p ∷ ps) = λ e. cc

    by : (t : Bool) (ps : List (List ℕ)) → cond t ([] ∷ ps) (onto_first b ps) ≢ []
    by true ps = λ e. cc
    by false ps = onto ps

pub some_left : (bytes : List ℕ) (done : Bool) → done ≡ false → words_left bytes done ≢ []
some_left bytes false e = nonempty bytes
some_left bytes true e = absurd (cc)

no_blank : (b : ℕ) → (b ≡ 32 → ⊥) → is_blank b ≡ false
no_blank b h = grind (arith, nat_tests)

not_end : (n m : ℕ) → n < m → (n == m) ≡ false
not_end n m h = grind (arith, nat_tests)

at_end : (n m : ℕ) → n ≡ m → (n == m) ≡ true
at_end n m h = grind (arith, nat_tests)

pub word_found : (bytes : List ℕ) (i : ℕ) → i < length bytes → ((k : ℕ) → k < i → get_or bytes k 0 ≡ 32 → ⊥) → get_or bytes i 0 ≡ 32 → words_of bytes ≡ take i bytes ∷ words_after bytes i
word_found bytes i less before here =
    let cut : bytes ≡ take i bytes ++ 32 ∷ drop (i + 1) bytes =
    sym (take-append-drop i bytes) ∙ ap (λ t. take i bytes ++ t) (drop-cons bytes i 0 less ∙ ap (λ b. b ∷ drop (suc i) bytes) here ∙ ap (λ n. 32 ∷ drop n bytes) (sym (add-one i))) in
    let none : All (λ b. is_blank b ≡ false) (take i bytes) =
    All-from_get_or (λ b. is_blank b ≡ false) (take i bytes) 0
    (λ k lt. let lt' : k < i = omega (arith, lt, length-take-le i bytes (omega arith)) in
    no_blank (get_or (take i bytes) k 0) (λ e. before k lt' (sym (get_or-take i bytes k 0 lt') ∙ e))) in
    ap words_of cut ∙ slice_split_at is_blank (take i bytes) 32 (drop (i + 1) bytes) none refl
    ∙ ap (λ t. take i bytes ∷ words_left (drop (i + 1) bytes) t) (sym (not_end i (length bytes) less))

pub word_alone : (bytes : List ℕ) (n : ℕ) → n ≡ length bytes → ((k : ℕ) → k < length bytes → get_or bytes k 0 ≡ 32 → ⊥) → words_of bytes ≡ take n bytes ∷ words_after bytes n
word_alone bytes n e before =
    let none : All (λ b. is_blank b ≡ false) bytes =
    All-from_get_or (λ b. is_blank b ≡ false) bytes 0 (λ k lt. no_blank (get_or bytes k 0) (before k lt)) in
    slice_split_none is_blank bytes none
    ∙ ap (λ w. w ∷ []) (sym (take_all n bytes (omega (arith, e))))
    ∙ ap (λ t. take n bytes ∷ words_left (drop (n + 1) bytes) t) (sym (at_end n (length bytes) e))

pub first_word : (bytes : List ℕ) (done : Bool) (w : List ℕ) (ws all : List (List ℕ)) → done ≡ false → words_of bytes ≡ w ∷ ws → words_left bytes done ≡ all → all ≡ w ∷ rest_of all
first_word bytes false w ws all e f g = let same : all ≡ w ∷ ws = sym g ∙ f in same ∙ ap (λ z. w ∷ rest_of z) (sym same)
first_word bytes true w ws all e f g = absurd (cc)

pub last_word : (bytes : List ℕ) (n : ℕ) → n ≡ length bytes → words_of bytes ≡ take n bytes ∷ words_after bytes n → words_of bytes ≡ take n bytes ∷ []
last_word bytes n e f = f ∙ ap (λ t. take n bytes ∷ words_left (drop (n + 1) bytes) t) (at_end n (length bytes) e)

pub next_word : (bytes : List ℕ) (n : ℕ) → n < length bytes → words_of bytes ≡ take n bytes ∷ words_after bytes n → words_of bytes ≡ take n bytes ∷ words_of (drop (n + 1) bytes)
next_word bytes n h f = f ∙ ap (λ t. take n bytes ∷ words_left (drop (n + 1) bytes) t) (not_end n (length bytes) h)
