-- Steps over the bytes of a text: the front of a list that passes a test, and the lexemes that it adds.
use Rattle.std.proofs.Common.{append_assoc, append-nil, Option, Some, None}
use Rattle.std.proofs.lemmas.List.{map-append}
use Rattle.std.specs.Prelude.{map, IfSome}
use Rattle.std.specs.Option.{option_to_list}
use Rattle.rwsp_text.specs.Lexemes.{Lexeme}
use Rattle.rwsp_text.specs.declared.scan.Token.{Token}
use Rattle.std.proofs.Common.{◌≡◌, ℕ, suc, ◌+◌, ◌<◌, ◌≤◌, List, [], ◌∷◌, ◌++◌, length, Bool, true, false, get_or, take, drop, cond, refl, ap, sym, ◌∙◌, arith, drop-cons, subst, eqb-true, ◌-◌}
use Rattle.std.specs.Prelude.{not, ◌==◌, ◌&&◌, ◌||◌, slice_range}
use Rattle.std.specs.List.{prefix_len, AllByRecursion}
use Rattle.std.proofs.lemmas.List.{drop_all, drop-drop, take-append-drop}
use Rattle.std.proofs.lemmas.Bool.{and_parts, not-false, not-true}
use Rattle.rwsp_text.specs.Lexemes.{is_space, lexemes_from}
use Rattle.rwsp_text.specs.Places.{is_word_byte, is_no_line_end, lexeme_at, IsWithin, AreWithin}
use Rattle.rwsp_text.proofs.Steps.{IsNoLineEnd, EndsLine, IsWordByte, Ends}
use Rattle.rwsp_text.proofs.TextSteps.{at_line_end, at_space, at_word, at_comment}

prefix_step : (p : ℕ → Bool) (xs : List ℕ) (i : ℕ) → i < length xs → prefix_len p (drop i xs) ≡ cond (p (get_or xs i 0)) (1 + prefix_len p (drop (i + 1) xs)) 0
prefix_step p xs i h = let next : suc i ≡ i + 1 = omega arith in ap (prefix_len p) (drop-cons xs i 0 h ∙ ap (λ n. get_or xs i 0 ∷ drop n xs) next)

pub prefix_more : (p : ℕ → Bool) (xs : List ℕ) (i m : ℕ) → i < length xs → p (get_or xs i 0) ≡ true → i + prefix_len p (drop i xs) ≡ m → i + 1 + prefix_len p (drop (i + 1) xs) ≡ m
prefix_more p xs i m h e inv =
    let here : prefix_len p (drop i xs) ≡ 1 + prefix_len p (drop (i + 1) xs) = prefix_step p xs i h ∙ ap (λ b. cond b (1 + prefix_len p (drop (i + 1) xs)) 0) e in
    omega (arith, here, inv)

pub prefix_stop : (p : ℕ → Bool) (xs : List ℕ) (i m : ℕ) → i < length xs → p (get_or xs i 0) ≡ false → i + prefix_len p (drop i xs) ≡ m → i ≡ m
prefix_stop p xs i m h e inv =
    let here : prefix_len p (drop i xs) ≡ 0 = prefix_step p xs i h ∙ ap (λ b. cond b (1 + prefix_len p (drop (i + 1) xs)) 0) e in
    omega (arith, here, inv)

pub prefix_all : (p : ℕ → Bool) (xs : List ℕ) (i m : ℕ) → length xs ≤ i → i + prefix_len p (drop i xs) ≡ m → i ≡ m
prefix_all p xs i m h inv =
    let here : prefix_len p (drop i xs) ≡ 0 = ap (prefix_len p) (drop_all i xs h) in
    omega (arith, here, inv)

abbrev pub Stops : (ℕ → Bool) → List ℕ → Type 0
Stops p [] = Unit {0}
Stops p (x ∷ xs) = p x ≡ false

-- the front passes the test, and what follows doesn't
abbrev pub Front : (ℕ → Bool) → List ℕ → Type 0
Front p xs = AllByRecursion (λ b. p b ≡ true) (take (prefix_len p xs) xs) × Stops p (drop (prefix_len p xs) xs)

front_by : (p : ℕ → Bool) (x : ℕ) (xs : List ℕ) → Front p xs → (k : Bool) → p x ≡ k → Front p (x ∷ xs)
front_by p x xs f true e =
    let long : prefix_len p (x ∷ xs) ≡ suc (prefix_len p xs) = ap (λ b. cond b (1 + prefix_len p xs) 0) e ∙ omega arith in
    let F : ℕ → Type 0 = λ n. AllByRecursion (λ b. p b ≡ true) (take n (x ∷ xs)) × Stops p (drop n (x ∷ xs)) in
    subst F (sym long) ((e, f.0), f.1)
front_by p x xs f false e =
    let long : prefix_len p (x ∷ xs) ≡ 0 = ap (λ b. cond b (1 + prefix_len p xs) 0) e in
    let F : ℕ → Type 0 = λ n. AllByRecursion (λ b. p b ≡ true) (take n (x ∷ xs)) × Stops p (drop n (x ∷ xs)) in
    subst F (sym long) (tt, e)

pub front : (p : ℕ → Bool) (xs : List ℕ) → Front p xs
front p [] = (tt, tt)
front p (x ∷ xs) = front_by p x xs (front p xs) (p x) refl

-- the rest of a text at a place
rest_at : (bs : List ℕ) (at : ℕ) → at < length bs → drop at bs ≡ get_or bs at 0 ∷ drop (at + 1) bs
rest_at bs at h = let next : suc at ≡ at + 1 = omega arith in drop-cons bs at 0 h ∙ ap (λ n. get_or bs at 0 ∷ drop n bs) next

pub step_end : (bs : List ℕ) (at line : ℕ) → at < length bs → get_or bs at 0 ≡ 10 → lexemes_from line (drop at bs) ≡ lexemes_from (line + 1) (drop (at + 1) bs)
step_end bs at line h e = ap (lexemes_from line) (rest_at bs at h ∙ ap (λ b. b ∷ drop (at + 1) bs) e) ∙ at_line_end line (drop (at + 1) bs)

pub step_space : (bs : List ℕ) (at line : ℕ) → at < length bs → is_space (get_or bs at 0) ≡ true → lexemes_from line (drop at bs) ≡ lexemes_from line (drop (at + 1) bs)
step_space bs at line h e = ap (lexemes_from line) (rest_at bs at h) ∙ at_space line (get_or bs at 0) (drop (at + 1) bs) e

no_end_of : (t : List ℕ) → AllByRecursion (λ b. is_no_line_end b ≡ true) t → AllByRecursion IsNoLineEnd t
no_end_of [] h = tt
no_end_of (b ∷ t) h = (not-true (b == 10) h.0, no_end_of t h.1)

line_end_of : (bs : List ℕ) → Stops is_no_line_end bs → EndsLine bs
line_end_of [] h = tt
line_end_of (b ∷ bs) h = eqb-true b 10 (not-false (b == 10) h)

-- a comment at the front of a list
comment_front : (line : ℕ) (r : List ℕ) → lexemes_from line (35 ∷ r) ≡ lexemes_from line (drop (prefix_len is_no_line_end r) r)
comment_front line r =
    let f = front is_no_line_end r in
    let k = prefix_len is_no_line_end r in
    let cut : r ≡ take k r ++ drop k r = sym (take-append-drop k r) in
    ap (λ w. lexemes_from line (35 ∷ w)) cut ∙ at_comment line (take k r) (drop k r) (no_end_of (take k r) f.0) (line_end_of (drop k r) f.1)

pub step_comment : (bs : List ℕ) (at line : ℕ) → at < length bs → get_or bs at 0 ≡ 35 → lexemes_from line (drop at bs) ≡ lexemes_from line (drop (at + prefix_len is_no_line_end (drop at bs)) bs)
step_comment bs at line h e =
    let here : drop at bs ≡ 35 ∷ drop (at + 1) bs = rest_at bs at h ∙ ap (λ b. b ∷ drop (at + 1) bs) e in
    let k = prefix_len is_no_line_end (drop (at + 1) bs) in
    let long : prefix_len is_no_line_end (drop at bs) ≡ 1 + k = ap (prefix_len is_no_line_end) here in
    let place : at + 1 + k ≡ at + prefix_len is_no_line_end (drop at bs) = omega (arith, long) in
    ap (lexemes_from line) here ∙ comment_front line (drop (at + 1) bs) ∙ ap (lexemes_from line) (drop-drop k (at + 1) bs ∙ ap (λ n. drop n bs) place)

word_byte_of : (b : ℕ) → is_word_byte b ≡ true → IsWordByte b
word_byte_of b h = let k = and_parts (not (is_space b)) (not (b == 10)) h in (not-true (is_space b) k.0, not-true (b == 10) k.1)

word_bytes_of : (t : List ℕ) → AllByRecursion (λ b. is_word_byte b ≡ true) t → AllByRecursion IsWordByte t
word_bytes_of [] h = tt
word_bytes_of (b ∷ t) h = (word_byte_of b h.0, word_bytes_of t h.1)

not_both : (a b : Bool) → (not a && not b) ≡ false → (a || b) ≡ true
not_both true b h = refl
not_both false true h = refl
not_both false false h = absurd (cc)

ends_of : (bs : List ℕ) → Stops is_word_byte bs → Ends bs
ends_of [] h = tt
ends_of (b ∷ bs) h = not_both (is_space b) (b == 10) h

-- a word at the front of a list
word_front : (line b : ℕ) (r : List ℕ) → is_word_byte b ≡ true → (b == 35) ≡ false → lexemes_from line (b ∷ r) ≡ record { text = b ∷ take (prefix_len is_word_byte r) r; line = line } ∷ lexemes_from line (drop (prefix_len is_word_byte r) r)
word_front line b r w h =
    let f = front is_word_byte r in
    let k = prefix_len is_word_byte r in
    let cut : r ≡ take k r ++ drop k r = sym (take-append-drop k r) in
    ap (λ x. lexemes_from line (b ∷ x)) cut ∙ at_word line b (take k r) (drop k r) h (word_byte_of b w, word_bytes_of (take k r) f.0) (ends_of (drop k r) f.1)

pub step_word : (bs : List ℕ) (at line : ℕ) → at < length bs → is_word_byte (get_or bs at 0) ≡ true → (get_or bs at 0 == 35) ≡ false → lexemes_from line (drop at bs) ≡ record { text = slice_range bs at (at + prefix_len is_word_byte (drop at bs)); line = line } ∷ lexemes_from line (drop (at + prefix_len is_word_byte (drop at bs)) bs)
step_word bs at line h w e =
    let b = get_or bs at 0 in
    let r = drop (at + 1) bs in
    let k = prefix_len is_word_byte r in
    let here : drop at bs ≡ b ∷ r = rest_at bs at h in
    let one_more : 1 + k ≡ suc k = omega arith in
    let long : prefix_len is_word_byte (drop at bs) ≡ suc k = ap (prefix_len is_word_byte) here ∙ ap (λ c. cond c (1 + k) 0) w ∙ one_more in
    let size : at + prefix_len is_word_byte (drop at bs) - at ≡ suc k = omega (arith, long) in
    let place : at + 1 + k ≡ at + prefix_len is_word_byte (drop at bs) = omega (arith, long) in
    let text : b ∷ take k r ≡ slice_range bs at (at + prefix_len is_word_byte (drop at bs)) = ap (take (suc k)) (sym here) ∙ ap (λ n. take n (drop at bs)) (sym size) in
    ap (lexemes_from line) here ∙ word_front line b r w e
    ∙ ap (λ t. record { text = t; line = line } ∷ lexemes_from line (drop k r)) text
    ∙ ap (λ x. record { text = slice_range bs at (at + prefix_len is_word_byte (drop at bs)); line = line } ∷ lexemes_from line x) (drop-drop k (at + 1) bs ∙ ap (λ n. drop n bs) place)

-- the lexemes so far and those of a step
pub lexemes_go_on : (bytes : List ℕ) (all more : List Token) (left left' whole : List Lexeme) → map (lexeme_at bytes) all ++ left ≡ whole → left ≡ map (lexeme_at bytes) more ++ left' → map (lexeme_at bytes) (all ++ more) ++ left' ≡ whole
lexemes_go_on bytes all more left left' whole h e =
    ap (λ w. w ++ left') (map-append (lexeme_at bytes) all more) ∙ append_assoc (map (lexeme_at bytes) all) (map (lexeme_at bytes) more) left' ∙ ap (λ w. map (lexeme_at bytes) all ++ w) (sym e) ∙ h

-- the tokens so far and that of a step
pub within_more : (bytes : List ℕ) (all : List Token) (o : Option Token) → AreWithin bytes all → IfSome o (IsWithin bytes) → AreWithin bytes (all ++ option_to_list o)
within_more bytes [] None h k = tt
within_more bytes [] (Some t) h k = (k, tt)
within_more bytes (a ∷ all) o h k = (h.0, within_more bytes all o h.1 k)

pub lexemes_done : (bytes : List ℕ) (all : List Token) (line at : ℕ) (whole : List Lexeme) → length bytes ≤ at → map (lexeme_at bytes) all ++ lexemes_from line (drop at bytes) ≡ whole → map (lexeme_at bytes) all ≡ whole
lexemes_done bytes all line at whole h e =
    sym (append-nil (map (lexeme_at bytes) all)) ∙ ap (λ w. map (lexeme_at bytes) all ++ lexemes_from line w) (sym (drop_all at bytes h)) ∙ e
