-- Where words stand in a text.
use Rattle.std.proofs.Common.{◌≡◌, ℕ, suc, List, [], ◌∷◌, ◌++◌, length, drop, Bool, true, false, cond, not, refl, ap, sym, ◌∙◌, arith}
use Rattle.std.specs.Prelude.{◌≢◌, ◌&&◌, All, nat_eq}
use Rattle.std.specs.List.{flat_map}
use Rattle.std.proofs.lemmas.Bool.{and_parts, eqb-true}
use Rattle.std.proofs.lemmas.List.{append-nil}
use Rattle.roster_page.specs.ReadPage.{begins, before, behind, parts}

-- as far as both go, the word and the text are the same
abbrev pub agrees : (word : List ℕ) → List ℕ → Bool
agrees [] text = true
agrees (w ∷ word) [] = true
agrees (w ∷ word) (b ∷ text) = nat_eq w b && agrees word text

-- the word begins nowhere in the text, whatever is behind it
abbrev pub is_clear : (word : List ℕ) → List ℕ → Bool
is_clear word [] = true
is_clear word (b ∷ text) = not (agrees word (b ∷ text)) && is_clear word text

abbrev pub IsClear : (word : List ℕ) → List ℕ → Type 0
IsClear word text = is_clear word text ≡ true

not_true : (b : Bool) → not b ≡ true → b ≡ false
not_true true h = absurd (cc)
not_true false h = refl

-- what a text that is clear says of its first byte, and of the others
clear_parts : (word : List ℕ) (b : ℕ) (text : List ℕ) → IsClear word (b ∷ text) → (agrees word (b ∷ text) ≡ false) × IsClear word text
clear_parts word b text h =
    let p = and_parts (not (agrees word (b ∷ text))) (is_clear word text) h in
    (not_true (agrees word (b ∷ text)) p.0, p.1)

clear_more : (word : List ℕ) (b : ℕ) (text : List ℕ) → agrees word (b ∷ text) ≡ false → IsClear word text → IsClear word (b ∷ text)
clear_more word b text here more = ap (λ t. not t && is_clear word text) here ∙ more

unless_first : (first a b : Bool) → (a ≡ false → b ≡ false) → (first && a) ≡ false → (first && b) ≡ false
unless_first true a b more h = more h
unless_first false a b more h = refl

-- where both don't agree, they don't with more behind the text
still_apart : (word text rest : List ℕ) → agrees word text ≡ false → agrees word (text ++ rest) ≡ false
still_apart [] text rest h = absurd (cc)
still_apart (w ∷ word) [] rest h = absurd (cc)
still_apart (w ∷ word) (b ∷ text) rest h =
    unless_first (nat_eq w b) (agrees word text) (agrees word (text ++ rest)) (still_apart word text rest) h

begins_not : (word text rest : List ℕ) → agrees word text ≡ false → begins word (text ++ rest) ≡ false
begins_not [] text rest h = absurd (cc)
begins_not (w ∷ word) [] rest h = absurd (cc)
begins_not (w ∷ word) (b ∷ text) rest h =
    unless_first (nat_eq w b) (agrees word text) (begins word (text ++ rest)) (begins_not word text rest) h

pub clear_both : (word xs ys : List ℕ) → IsClear word xs → IsClear word ys → IsClear word (xs ++ ys)
clear_both word [] ys h k = k
clear_both word (x ∷ xs) ys h k =
    let p = clear_parts word x xs h in
    clear_more word x (xs ++ ys) (still_apart word (x ∷ xs) ys p.0) (clear_both word xs ys p.1 k)

pub clear_all : (word : List ℕ) (f : ℕ → List ℕ) (ks : List ℕ) → ((k : ℕ) → IsClear word (f k)) → IsClear word (flat_map f ks)
clear_all word f [] h = refl
clear_all word f (k ∷ ks) h = clear_both word (f k) (flat_map f ks) (h k) (clear_all word f ks h)

-- a text without the word's first byte
pub clear_without : (w : ℕ) (word text : List ℕ) → All (λ b. b ≢ w) text → IsClear (w ∷ word) text
clear_without w word [] h = refl
clear_without w word (b ∷ text) h =
    clear_more (w ∷ word) b text (ap (λ t. t && agrees word text) (other w b (h 0 b (omega arith)))) (clear_without w word text (λ k d less. h (suc k) d (omega (arith, less))))
  where
    other : (w b : ℕ) → b ≢ w → nat_eq w b ≡ false
    other w b apart =
        elim (nat_eq w b) as (λ (t : Bool). nat_eq w b ≡ t → t ≡ false) [
          | true ↦ λ same. absurd (apart (sym (eqb-true w b same)))
          | false ↦ λ none. refl
        ] refl

-- past a text that is clear

pub before_past : (word text rest : List ℕ) → IsClear word text → before word (text ++ rest) ≡ text ++ before word rest
unfolding before
before_past word [] rest h = refl
before_past word (b ∷ text) rest h =
    let p = clear_parts word b text h in
    ap (λ t. cond t [] (b ∷ before word (text ++ rest))) (begins_not word (b ∷ text) rest p.0) ∙ ap (λ t. b ∷ t) (before_past word text rest p.1)

pub behind_past : (word text rest : List ℕ) → IsClear word text → behind word (text ++ rest) ≡ behind word rest
unfolding behind
behind_past word [] rest h = refl
behind_past word (b ∷ text) rest h =
    let p = clear_parts word b text h in
    ap (λ t. cond t (drop (length word) (b ∷ text ++ rest)) (behind word (text ++ rest))) (begins_not word (b ∷ text) rest p.0) ∙ behind_past word text rest p.1

pub parts_past : (word text rest : List ℕ) → IsClear word text → parts word (text ++ rest) ≡ parts word rest
unfolding parts
parts_past word [] rest h = refl
parts_past word (b ∷ text) rest h =
    let p = clear_parts word b text h in
    ap (λ t. cond t (before word (drop (length word) (b ∷ text ++ rest)) ∷ parts word (text ++ rest)) (parts word (text ++ rest))) (begins_not word (b ∷ text) rest p.0) ∙ parts_past word text rest p.1

-- nothing is behind it

pub parts_none : (word text : List ℕ) → IsClear word text → parts word text ≡ []
unfolding parts
parts_none word text h = ap (parts word) (sym (append-nil text)) ∙ parts_past word text [] h

-- at a word

begins_here : (word rest : List ℕ) → begins word (word ++ rest) ≡ true
begins_here [] rest = refl
begins_here (w ∷ word) rest = ap (λ t. t && begins word (word ++ rest)) (itself w) ∙ begins_here word rest
  where
    itself : (w : ℕ) → nat_eq w w ≡ true
    itself w = grind arith

behind_word : (word rest : List ℕ) → drop (length word) (word ++ rest) ≡ rest
behind_word [] rest = refl
behind_word (w ∷ word) rest = behind_word word rest

pub before_here : (w : ℕ) (word rest : List ℕ) → before (w ∷ word) (w ∷ word ++ rest) ≡ []
unfolding before
before_here w word rest = ap (λ t. cond t [] (w ∷ before (w ∷ word) (word ++ rest))) (begins_here (w ∷ word) rest)

behind_here : (w : ℕ) (word rest : List ℕ) → behind (w ∷ word) (w ∷ word ++ rest) ≡ rest
unfolding behind
behind_here w word rest =
    ap (λ t. cond t (drop (length (w ∷ word)) (w ∷ word ++ rest)) (behind (w ∷ word) (word ++ rest))) (begins_here (w ∷ word) rest) ∙ behind_word (w ∷ word) rest

-- up to a word, and from behind it

pub before_to : (w : ℕ) (word text rest : List ℕ) → IsClear (w ∷ word) text → before (w ∷ word) (text ++ (w ∷ word ++ rest)) ≡ text
before_to w word text rest h =
    before_past (w ∷ word) text (w ∷ word ++ rest) h ∙ ap (λ t. text ++ t) (before_here w word rest) ∙ append-nil text

pub behind_to : (w : ℕ) (word text rest : List ℕ) → IsClear (w ∷ word) text → behind (w ∷ word) (text ++ (w ∷ word ++ rest)) ≡ rest
behind_to w word text rest h = behind_past (w ∷ word) text (w ∷ word ++ rest) h ∙ behind_here w word rest

-- a part that the word isn't in
pub parts_here : (w : ℕ) (word part rest : List ℕ) → IsClear (w ∷ word) word → IsClear (w ∷ word) part → parts (w ∷ word) (w ∷ word ++ (part ++ rest)) ≡ (part ++ before (w ∷ word) rest) ∷ parts (w ∷ word) rest
unfolding parts
parts_here w word part rest once none =
    let text = word ++ (part ++ rest) in
    ap (λ t. cond t (before (w ∷ word) (drop (length (w ∷ word)) (w ∷ text)) ∷ parts (w ∷ word) text) (parts (w ∷ word) text)) (begins_here (w ∷ word) (part ++ rest))
    ∙ ap (λ t. before (w ∷ word) t ∷ parts (w ∷ word) text) (behind_word (w ∷ word) (part ++ rest))
    ∙ ap (λ t. t ∷ parts (w ∷ word) text) (before_past (w ∷ word) part rest none)
    ∙ ap (λ ps. (part ++ before (w ∷ word) rest) ∷ ps) (parts_past (w ∷ word) word (part ++ rest) once ∙ parts_past (w ∷ word) part rest none)
