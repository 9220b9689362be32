-- The forms of words: no blanks, no `#` in front, and at least one byte.
use Rattle.std.proofs.Common.{◌≡◌, ◌≢◌, ℕ, ◌+◌, ◌<◌, ◌≤◌, List, [], ◌∷◌, ◌++◌, length, get_or, take, Bool, true, false, not, ◌==◌, cond, refl, ap, ◌∙◌, subst, map, arith}
use Rattle.std.specs.Prelude.{filter, slice_index}
use Rattle.std.specs.List.{flat_map, AllByRecursion, slice_split, onto_first, prefix_len, enumerate_from}
use Rattle.std.proofs.lemmas.Bool.{eq-eqb, not-true, or_from}
use Rattle.std.proofs.lemmas.List.{get_or-take}
use Rattle.std.proofs.lemmas.List.Elements.{All-take, All-filter, filter_passes}
use Rattle.std.proofs.lemmas.List.Folds.{length-prefix_len}
use Rattle.std.proofs.lemmas.List.Sums.{prefix_len_passes}
use Rattle.rwsp_text.specs.Lexemes.{Lexeme, is_space, has_some, lines_of, words_of_line, lexemes}
use Rattle.rwsp_terms.specs.declared.data.ShiftRow.{ShiftRow}
use Rattle.rwsp_terms.proofs.Elements.{all_from, all_to, all_joined}
use Rattle.rwsp_model.specs.Validity.{breaks_name}
use Rattle.rwsp_model.proofs.Names.{IsWord}
use Rattle.rwsp_file.specs.Spelling.{FileField, Spell, IsRow, on_line, past_line, is_on_line}
use Rattle.rwsp_file.specs.Spelling.FileField.{NumberField, DemandField, ShiftField, NameField}
use Rattle.rwsp_file.proofs.Lines.{AllByRecursion-drop}

abbrev pub IsWordField : FileField → Type 0
IsWordField (ShiftField row) = IsWord row.name
IsWordField f = Unit {0}

abbrev pub AreWords : List Lexeme → Type 0
AreWords ws = AllByRecursion (λ w. IsWord w.text) ws

pub first_word : (row : ShiftRow) (w : Lexeme) (words : List Lexeme) → IsRow row (w ∷ words) → w.text ≡ row.name
first_word row w [] h = absurd h
first_word row w (b ∷ []) h = absurd h
first_word row w (b ∷ c ∷ []) h = absurd h
first_word row w (b ∷ c ∷ d ∷ []) h = absurd h
first_word row w (b ∷ c ∷ d ∷ e ∷ []) h = h.named
first_word row w (b ∷ c ∷ d ∷ e ∷ f ∷ []) h = h.named
first_word row w (b ∷ c ∷ d ∷ e ∷ f ∷ g ∷ is) h = absurd h

-- the names of shifts that are spelled by words are words
pub names_are_words : (fs : List FileField) (ws : List Lexeme) → Spell fs ws → AreWords ws → AllByRecursion IsWordField fs
names_are_words [] ws s all = tt
names_are_words (f ∷ fs) [] s all = absurd s
names_are_words (NumberField n ∷ fs) (w ∷ ws) s all = (tt, names_are_words fs ws s.1 all.1)
names_are_words (DemandField range ∷ fs) (w ∷ ws) s all = (tt, names_are_words fs ws s.1 all.1)
names_are_words (NameField name ∷ fs) (w ∷ ws) s all = (tt, names_are_words fs ws s.1 all.1)
names_are_words (ShiftField row ∷ fs) (w ∷ ws) s all = (
  subst IsWord (first_word row w (on_line w.line ws) s.0) all.0,
  names_are_words fs (past_line w.line ws) s.1 (AllByRecursion-drop (λ v. IsWord v.text) (prefix_len (is_on_line w.line) ws) ws all.1),
)

pub all_front : {X : Type 0} (P : X → Type 0) (xs ys : List X) → AllByRecursion P (xs ++ ys) → AllByRecursion P xs × AllByRecursion P ys
all_front P [] ys h = (tt, h)
all_front P (x ∷ xs) ys h = ((h.0, (all_front P xs ys h.1).0), (all_front P xs ys h.1).1)

pub all_mapped : {X Y : Type 0} (P : Y → Type 0) (f : X → Y) (xs : List X) → AllByRecursion P (map f xs) → AllByRecursion (λ x. P (f x)) xs
all_mapped P f [] h = tt
all_mapped P f (x ∷ xs) h = (h.0, all_mapped P f xs h.1)

-- the parts of a list that is cut

pub split_parts : {X : Type 0} (p : X → Bool) (Q : X → Type 0) (xs : List X) → AllByRecursion Q xs → AllByRecursion (AllByRecursion (λ x. (p x ≡ false) × Q x)) (slice_split p xs)
split_parts p Q [] h = (tt, tt)
split_parts p Q (x ∷ xs) h = at (p x) refl (slice_split p xs) (split_parts p Q xs h.1) where
  at : (b : Bool) → p x ≡ b → (parts : List (List _)) → AllByRecursion (AllByRecursion (λ y. (p y ≡ false) × Q y)) parts → AllByRecursion (AllByRecursion (λ y. (p y ≡ false) × Q y)) (cond b ([] ∷ parts) (onto_first x parts))
  at true e parts all = (tt, all)
  at false e [] all = (((e, h.0), tt), tt)
  at false e (y ∷ ys) all = (((e, h.0), all.0), all.1)

pub all_weaker : {X : Type 0} (P Q : X → Type 0) → ((x : X) → P x → Q x) → (xs : List X) → AllByRecursion P xs → AllByRecursion Q xs
all_weaker P Q f [] h = tt
all_weaker P Q f (x ∷ xs) h = (f x h.0, all_weaker P Q f xs h.1)

all_units : (bytes : List ℕ) → AllByRecursion (λ _. Unit {0}) bytes
all_units [] = tt
all_units (b ∷ bs) = (tt, all_units bs)

-- a byte of a line, and of a word
abbrev InLine : ℕ → Type 0
InLine b = ((b == 10) ≡ false) × Unit {0}

abbrev InWord : ℕ → Type 0
InWord b = (is_space b ≡ false) × InLine b

some_byte : (word : List ℕ) → has_some word ≡ true → 1 ≤ length word
some_byte [] e = absurd (cc)
some_byte (b ∷ bs) e = omega arith

no_hash_of : (b : ℕ) → not (b == 35) ≡ true → b ≢ 35
no_hash_of b e same = let is : (b == 35) ≡ true = eq-eqb b 35 same in let no : (b == 35) ≡ false = not-true (b == 35) e in cc

abbrev is_no_comment : List ℕ → Bool
is_no_comment word = not (slice_index word 0 == 35)

line_words : (line : List ℕ) → AllByRecursion InLine line → AllByRecursion IsWord (words_of_line line)
line_words line h = all_to IsWord (words_of_line line) (λ i d less.
    let parts = slice_split is_space line in
    let words = filter has_some parts in
    let k = prefix_len is_no_comment words in
    let before : i < k = omega (arith, less, length-prefix_len is_no_comment words) in
    let bytes = All-take (AllByRecursion InWord) k words (All-filter has_some (AllByRecursion InWord) parts (all_from (AllByRecursion InWord) parts (split_parts is_space InLine line h))) i d less in
    record {
      some = some_byte (get_or (take k words) i d) (All-take (λ word. has_some word ≡ true) k words (filter_passes has_some parts) i d less);
      unbroken = all_from (λ b. breaks_name b ≡ false) (get_or (take k words) i d) (all_weaker InWord (λ b. breaks_name b ≡ false) (λ b j. or_from (is_space b) (b == 10) j.0 j.1.0) (get_or (take k words) i d) bytes);
      no_hash = no_hash_of (slice_index (get_or (take k words) i d) 0) (ap is_no_comment (get_or-take k words i d before) ∙ prefix_len_passes is_no_comment words i d before);
    })

abbrev lexeme_on : ℕ → List ℕ → Lexeme
lexeme_on line word = record { text = word; line = line }

lexemes_of_words : (n : ℕ) (words : List (List ℕ)) → AllByRecursion IsWord words → AreWords (map (lexeme_on n) words)
lexemes_of_words n [] h = tt
lexemes_of_words n (word ∷ words) h = (h.0, lexemes_of_words n words h.1)

lexemes_of_lines : (n : ℕ) (lines : List (List ℕ)) → AllByRecursion (AllByRecursion InLine) lines → AreWords (flat_map (λ l. map (lexeme_on l.0) (words_of_line l.1)) (enumerate_from n lines))
lexemes_of_lines n [] h = tt
lexemes_of_lines n (line ∷ lines) h = all_joined (λ (w : Lexeme). IsWord w.text) (map (lexeme_on n) (words_of_line line)) _ (lexemes_of_words n (words_of_line line) (line_words line h.0)) (lexemes_of_lines (n + 1) lines h.1)

-- the lexemes of a text are words
pub lexemes_are_words : (bytes : List ℕ) → AreWords (lexemes bytes)
lexemes_are_words bytes = lexemes_of_lines 1 (lines_of bytes) (split_parts (λ b. b == 10) (λ _. Unit {0}) bytes (all_units bytes))
