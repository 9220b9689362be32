-- Words that are printed on lines with a blank between each two: they are found again in the text, and how long it is.
use Rattle.std.proofs.Common.{◌≡◌, ◌≢◌, ℕ, suc, ◌+◌, ◌*◌, ◌≤◌, List, [], ◌∷◌, ◌++◌, length, false, ◌==◌, ◌||◌, refl, ap, sym, ◌∙◌, arith, append_assoc, append-nil, length-append, mul-le-mul_left}
use Rattle.std.specs.Prelude.{All, slice_index}
use Rattle.std.specs.List.{flat_map, join_with_byte, slice_split, AllByRecursion}
use Rattle.std.proofs.lemmas.List.Splits.{slice_split_at}
use Rattle.std.proofs.lemmas.List.Elements.{All-from_recursion, All-head, All-tail}
use Rattle.std.proofs.lemmas.Bool.{ne_eqb, or_parts}
use Rattle.rwsp_text.specs.Lexemes.{lines_of, words_of_line, is_space}
use Rattle.rwsp_text.proofs.Steps.{IsWordByte}
use Rattle.rwsp_text.proofs.TextSteps.{space_line, line_word}

-- a word that is read as it is printed: it has a byte, no blank and no line end, and doesn't begin a comment
abbrev pub IsPrinted : List ℕ → Type 0
IsPrinted [] = ⊥
IsPrinted (b ∷ bs) = ((b == 35) ≡ false) × AllByRecursion IsWordByte (b ∷ bs)

word_bytes_in : (word : List ℕ) → All (λ b. (is_space b || (b == 10)) ≡ false) word → AllByRecursion IsWordByte word
word_bytes_in [] h = tt
word_bytes_in (b ∷ word) h = (
  or_parts (is_space b) (b == 10) (All-head (λ c. (is_space c || (c == 10)) ≡ false) b word h),
  word_bytes_in word (All-tail (λ c. (is_space c || (c == 10)) ≡ false) b word h),
)

pub printed_word : (word : List ℕ) → 1 ≤ length word → slice_index word 0 ≢ 35 → All (λ b. (is_space b || (b == 10)) ≡ false) word → IsPrinted word
printed_word [] some hash all = absurd (omega (arith, some))
printed_word (b ∷ bs) some hash all = (ne_eqb b 35 hash, word_bytes_in (b ∷ bs) all)

word_bytes : (word : List ℕ) → IsPrinted word → AllByRecursion IsWordByte word
word_bytes [] h = absurd h
word_bytes (b ∷ bs) h = h.1

no_end : (word : List ℕ) → AllByRecursion IsWordByte word → AllByRecursion (λ b. (b == 10) ≡ false) word
no_end [] h = tt
no_end (b ∷ word) h = (h.0.1, no_end word h.1)

-- the words of a line that was printed
pub words_printed : (words : List (List ℕ)) → AllByRecursion IsPrinted words → words_of_line (join_with_byte 32 words) ≡ words
words_printed [] h = refl
words_printed ([] ∷ words) h = absurd h.0
words_printed ((b ∷ bs) ∷ []) h = ap words_of_line (sym (append-nil (b ∷ bs))) ∙ line_word b bs [] [] h.0.0 h.0.1 refl
words_printed ((b ∷ bs) ∷ next ∷ words) h =
    let rest = join_with_byte 32 (next ∷ words) in
    line_word b bs (32 ∷ rest) (slice_split is_space rest) h.0.0 h.0.1 refl
    ∙ ap (λ ws. (b ∷ bs) ∷ ws) (space_line 32 rest refl ∙ words_printed (next ∷ words) h.1)

joined : (P : ℕ → Type 0) (xs ys : List ℕ) → AllByRecursion P xs → AllByRecursion P ys → AllByRecursion P (xs ++ ys)
joined P [] ys h i = i
joined P (x ∷ xs) ys h i = (h.0, joined P xs ys h.1 i)

no_end_joined : (words : List (List ℕ)) → AllByRecursion IsPrinted words → AllByRecursion (λ b. (b == 10) ≡ false) (join_with_byte 32 words)
no_end_joined [] h = tt
no_end_joined (word ∷ []) h = no_end word (word_bytes word h.0)
no_end_joined (word ∷ next ∷ words) h =
    joined (λ b. (b == 10) ≡ false) word (32 ∷ join_with_byte 32 (next ∷ words)) (no_end word (word_bytes word h.0)) (refl, no_end_joined (next ∷ words) h.1)

-- words with a blank between each two: the first, and each other one behind a blank
pub join_spaced : (w : List ℕ) (ws : List (List ℕ)) → join_with_byte 32 (w ∷ ws) ≡ w ++ flat_map (λ v. 32 ∷ v) ws
join_spaced w [] = sym (append-nil w)
join_spaced w (x ∷ ws) = ap (λ t. w ++ 32 ∷ t) (join_spaced x ws)

-- a line that is printed, and what follows
pub line_printed : (words : List (List ℕ)) (rest : List ℕ) → AllByRecursion IsPrinted words → lines_of ((join_with_byte 32 words ++ 10 ∷ []) ++ rest) ≡ join_with_byte 32 words ∷ lines_of rest
line_printed words rest h =
    ap lines_of (append_assoc (join_with_byte 32 words) (10 ∷ []) rest)
    ∙ slice_split_at (λ b. b == 10) (join_with_byte 32 words) 10 rest (All-from_recursion (λ b. (b == 10) ≡ false) (join_with_byte 32 words) (no_end_joined words h)) refl

-- ---- how many bytes a line has at most
-- words of at most m bytes on a line
length-joined : (m : ℕ) (words : List (List ℕ)) → AllByRecursion (λ word. length word ≤ m) words → length (join_with_byte 32 words) ≤ (m + 1) * length words
length-joined m [] h = omega arith
length-joined m (word ∷ []) h = let here = h.0 in omega arith
length-joined m (word ∷ next ∷ words) h =
    let here = h.0 in
    let rest : length (join_with_byte 32 (next ∷ words)) ≤ (m + 1) * suc (length words) = length-joined m (next ∷ words) h.1 in
    let both : length (word ++ (32 ∷ join_with_byte 32 (next ∷ words))) ≡ length word + suc (length (join_with_byte 32 (next ∷ words))) = length-append word (32 ∷ join_with_byte 32 (next ∷ words)) in
    omega arith

pub length_of_line : (m n : ℕ) (words : List (List ℕ)) → AllByRecursion (λ word. length word ≤ m) words → length words ≤ n → length (join_with_byte 32 words ++ 10 ∷ []) ≤ (m + 1) * n + 1
length_of_line m n words short few =
    let line = length-joined m words short in
    let most : (m + 1) * length words ≤ (m + 1) * n = mul-le-mul_left (m + 1) few in
    let whole : length (join_with_byte 32 words ++ 10 ∷ []) ≡ length (join_with_byte 32 words) + 1 = length-append (join_with_byte 32 words) (10 ∷ []) in
    omega arith

-- lines of at most m bytes
pub length_of_lines : {X : Type 0} (f : X → List ℕ) (m : ℕ) (xs : List X) → AllByRecursion (λ x. length (f x) ≤ m) xs → length (flat_map f xs) ≤ length xs * m
length_of_lines f m [] h = omega arith
length_of_lines f m (x ∷ xs) h =
    let here = h.0 in
    let rest : length (flat_map f xs) ≤ length xs * m = length_of_lines f m xs h.1 in
    let both : length (f x ++ flat_map f xs) ≡ length (f x) + length (flat_map f xs) = length-append (f x) (flat_map f xs) in
    omega arith
