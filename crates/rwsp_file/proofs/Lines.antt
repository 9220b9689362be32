-- The tokens of a line and the lexemes that they stand for.
use Rattle.std.proofs.Common.{◌≡◌, ℕ, zero, suc, ◌+◌, ◌≤◌, List, [], ◌∷◌, length, Bool, true, false, not, cond, Some, None, refl, ap, sym, ◌∙◌, arith, map, take, drop, nat_lt, ◌==◌, ◌||◌, Result, Ok, Err, IfOk, Vec, Global}
use Rattle.std.specs.Prelude.{position, unwrap_or, is_some}
use Rattle.std.specs.List.{prefix_len, AllByRecursion, list_any}
use Rattle.std.proofs.lemmas.List.{take-map, drop-map}
use Rattle.std.proofs.lemmas.List.Sums.{prefix_len-le-length}
use Rattle.std.proofs.lemmas.Bool.Decides.{nat_tests}
use Rattle.rwsp_text.specs.Lexemes.{Lexeme}
use Rattle.rwsp_text.specs.Places.{lexeme_at}
use Rattle.rwsp_text.specs.declared.scan.Token.{Token}
use Rattle.rwsp_file.specs.Spelling.{is_on_line, on_line, past_line}
use Rattle.rwsp_file.specs.Reading.{Unread}
use Rattle.rwsp_file.proofs.Names.{prefix_len-map}
use Rattle.rwsp_file.proofs.Taken.{mapped_twice}

twice_not_cons : (b : Bool) (m n : ℕ) → m ≡ n → cond (not (not b)) (1 + m) 0 ≡ cond b (1 + n) 0
twice_not_cons true m n e = ap (λ k. 1 + k) e
twice_not_cons false m n e = refl

twice_not : {X : Type 0} (p : X → Bool) (xs : List X) → prefix_len (λ x. not (not (p x))) xs ≡ prefix_len p xs
twice_not p [] = refl
twice_not p (x ∷ xs) = twice_not_cons (p x) _ _ (twice_not p xs)

place_or_length : (k n : ℕ) → k ≤ n → unwrap_or (cond (nat_lt k n) (Some k) None) n ≡ k
place_or_length k n le = grind (arith, nat_tests)

-- the place of the first that fails, or the length
pub place_of_failing : {X : Type 0} (p : X → Bool) (xs : List X) → unwrap_or (position (λ x. not (p x)) xs) (length xs) ≡ prefix_len p xs
place_of_failing p xs = place_or_length _ (length xs) (prefix_len-le-length (λ x. not (not (p x))) xs) ∙ twice_not p xs

is_found : (k n : ℕ) → is_some (cond (nat_lt k n) (Some k) None) ≡ nat_lt k n
is_found k n = at (nat_lt k n) where
  at : (b : Bool) → is_some (cond b (Some k) None) ≡ b
  at true = refl
  at false = refl

one_more : (b : Bool) (k n : ℕ) → nat_lt (cond (not b) (1 + k) 0) (suc n) ≡ (b || nat_lt k n)
one_more true k n = grind (arith, nat_tests)
one_more false k n = grind (arith, nat_tests)

is_before_end : {X : Type 0} (p : X → Bool) (xs : List X) → nat_lt (prefix_len (λ x. not (p x)) xs) (length xs) ≡ list_any p xs
is_before_end p [] = refl
is_before_end p (x ∷ xs) = one_more (p x) (prefix_len (λ y. not (p y)) xs) (length xs) ∙ ap (λ b. p x || b) (is_before_end p xs)

-- a place is found exactly where some element passes
pub is_some-position : {X : Type 0} (p : X → Bool) (xs : List X) → is_some (position p xs) ≡ list_any p xs
is_some-position p xs = is_found _ (length xs) ∙ is_before_end p xs

pub AllByRecursion-drop : {X : Type 0} (P : X → Type 0) (n : ℕ) (xs : List X) → AllByRecursion P xs → AllByRecursion P (drop n xs)
AllByRecursion-drop P zero xs all = all
AllByRecursion-drop P (suc n) [] all = all
AllByRecursion-drop P (suc n) (x ∷ xs) all = AllByRecursion-drop P n xs all.1

-- the images of what is in front, and of what is behind
pub take-prefix-map : {X Y : Type 0} (f : X → Y) (p : Y → Bool) (xs : List X) → map f (take (prefix_len (λ x. p (f x)) xs) xs) ≡ take (prefix_len p (map f xs)) (map f xs)
take-prefix-map f p xs = sym (take-map f (prefix_len (λ x. p (f x)) xs) xs) ∙ ap (λ n. take n (map f xs)) (sym (prefix_len-map f p xs))

pub drop-prefix-map : {X Y : Type 0} (f : X → Y) (p : Y → Bool) (xs : List X) → map f (drop (prefix_len (λ x. p (f x)) xs) xs) ≡ drop (prefix_len p (map f xs)) (map f xs)
drop-prefix-map f p xs = sym (drop-map f (prefix_len (λ x. p (f x)) xs) xs) ∙ ap (λ n. drop n (map f xs)) (sym (prefix_len-map f p xs))

abbrev pub unread : List Lexeme → ℕ → Unread
unread ls end = record { lexemes = ls; end = end }

-- the tokens that are taken stand for the lexemes of the line, and those that are left for what follows
pub line_taken : (bytes : List ℕ) (tokens front : List Token) (n line end : ℕ) (u v : Unread) → v ≡ unread (map (lexeme_at bytes) tokens) end → v ≡ u → n ≡ prefix_len (λ t. t.line == line) tokens → front ≡ take n tokens →
    (map (lexeme_at bytes) front ≡ on_line line u.lexemes) × (end ≡ u.end)
line_taken bytes tokens front n line end u v seen same count taken = (
  ap (map (lexeme_at bytes)) (taken ∙ ap (λ k. take k tokens) count) ∙ take-prefix-map (lexeme_at bytes) (is_on_line line) tokens
      ∙ ap (λ (w : Unread). on_line line w.lexemes) (sym seen ∙ same),
  ap (λ (w : Unread). w.end) (sym seen ∙ same),
)

pub line_left : (bytes : List ℕ) (tokens rest : List Token) (n line end : ℕ) (u v : Unread) → v ≡ unread (map (lexeme_at bytes) tokens) end → v ≡ u → n ≡ prefix_len (λ t. t.line == line) tokens → rest ≡ drop n tokens →
    (map (lexeme_at bytes) rest ≡ past_line line u.lexemes) × (end ≡ u.end)
line_left bytes tokens rest n line end u v seen same count left = (
  ap (map (lexeme_at bytes)) (left ∙ ap (λ k. drop k tokens) count) ∙ drop-prefix-map (lexeme_at bytes) (is_on_line line) tokens
      ∙ ap (λ (w : Unread). past_line line w.lexemes) (sym seen ∙ same),
  ap (λ (w : Unread). w.end) (sym seen ∙ same),
)

pub same_unread : (ls ms : List Lexeme) (a b : ℕ) → (ls ≡ ms) × (a ≡ b) → unread ls a ≡ unread ms b
same_unread ls ms a b e = ap (λ l. unread l a) e.0 ∙ ap (λ k. unread ms k) e.1

-- the lines of the tokens are those of the lexemes
pub lines_seen : {E : Type 0} (r : Result (Vec ℕ Global) E) (bytes : List ℕ) (tokens : List Token) (u v : Unread) (end : ℕ) → v ≡ unread (map (lexeme_at bytes) tokens) end → v ≡ u → IfOk r (λ lines. lines.items ≡ map (λ (t : Token). t.line) tokens) →
    IfOk r (λ lines. lines.items ≡ map (λ (w : Lexeme). w.line) u.lexemes)
lines_seen (Ok lines) bytes tokens u v end seen same h =
    h ∙ sym (mapped_twice (lexeme_at bytes) (λ (w : Lexeme). w.line) tokens) ∙ ap (λ (w : Unread). map (λ (x : Lexeme). x.line) w.lexemes) (sym seen ∙ same)
lines_seen (Err e) bytes tokens u v end seen same h = tt
