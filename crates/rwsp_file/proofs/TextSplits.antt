-- A text is cut at a lexeme, and gone on with behind its end or in front of the lexeme.
use Rattle.std.proofs.Common.{◌≡◌, ℕ, zero, suc, ◌+◌, ◌≤◌, List, [], ◌∷◌, ◌++◌, length, Bool, true, false, refl, ap, sym, ◌∙◌, subst, arith, ◌==◌, ◌||◌, cond, map, inl, inr, append_assoc, append-nil}
use Rattle.std.specs.Prelude.{IsTrue}
use Rattle.std.specs.List.{AllByRecursion, flat_map, enumerate_from, onto_first}
use Rattle.std.proofs.lemmas.Bool.{eqb-true, or_from, or_left}
use Rattle.std.proofs.lemmas.List.{length-append}
use Rattle.rwsp_text.specs.Lexemes.{Lexeme, is_space, lines_of, words_of_line, lexemes_from, lexemes, last_line}
use Rattle.rwsp_text.proofs.Steps.{IsWordByte, IsNoLineEnd, Ends, EndsLine}
use Rattle.rwsp_text.proofs.TextSteps.{at_line_end, at_space, at_word, at_comment}
use Rattle.rwsp_text.proofs.JoinedWords.{IsPrinted, printed_word}
use Rattle.rwsp_model.proofs.Names.{IsWord}
use Rattle.rwsp_file.specs.FirstFailures.{IsGap, EndsWord, BeginsWord}
use Rattle.rwsp_file.proofs.Forms.{lexeme_on}
use Rattle.rwsp_file.proofs.Completions.{on_one, on_fresh, AreLines, StartsFrom}
use Rattle.rwsp_file.proofs.Reached.{Rising, rising_from}

-- the lexemes of lines
abbrev line_lexemes : ℕ → List (List ℕ) → List Lexeme
line_lexemes n ls = flat_map (λ l. map (λ word. record { text = word; line = l.0 }) (words_of_line l.1)) (enumerate_from n ls)

lines_joined : (n : ℕ) (ls ms : List (List ℕ)) → line_lexemes n (ls ++ ms) ≡ line_lexemes n ls ++ line_lexemes (n + length ls) ms
lines_joined n [] ms = let same : n ≡ n + 0 = omega arith in ap (λ k. line_lexemes k ms) same
lines_joined n (l ∷ ls) ms =
    let same : n + 1 + length ls ≡ n + suc (length ls) = omega arith in
    ap (λ ws. on_one n (words_of_line l) ++ ws) (lines_joined (n + 1) ls ms ∙ ap (λ k. line_lexemes (n + 1) ls ++ line_lexemes k ms) same)
    ∙ sym (append_assoc (on_one n (words_of_line l)) (line_lexemes (n + 1) ls) (line_lexemes (n + suc (length ls)) ms))

-- there is always a first line

-- there is a first line
abbrev HasLine : List (List ℕ) → Type 0
HasLine ls = (first : List ℕ) × (rest : List (List ℕ)) × (ls ≡ first ∷ rest)

has_line_by : (b : ℕ) (ls : List (List ℕ)) (t : Bool) → HasLine ls → HasLine (cond t ([] ∷ ls) (onto_first b ls))
has_line_by b ls true h = ([], ls, refl)
has_line_by b ls false h = (b ∷ h.0, h.1, ap (onto_first b) h.2)

has_line : (bytes : List ℕ) → HasLine (lines_of bytes)
has_line [] = ([], [], refl)
has_line (b ∷ bytes) = has_line_by b (lines_of bytes) (b == 10) (has_line bytes)

pub some_line : (bytes : List ℕ) → 1 ≤ last_line bytes
some_line bytes = let l : HasLine (lines_of bytes) = has_line bytes in omega (arith, ap length l.2)

cut_by : (b : ℕ) (ls ms : List (List ℕ)) (t : Bool) → HasLine ls → cond t ([] ∷ (ls ++ ms)) (onto_first b (ls ++ ms)) ≡ cond t ([] ∷ ls) (onto_first b ls) ++ ms
cut_by b ls ms true h = refl
cut_by b ls ms false h = ap (λ (xs : List (List ℕ)). onto_first b (xs ++ ms)) h.2 ∙ ap (λ (xs : List (List ℕ)). onto_first b xs ++ ms) (sym h.2)

lines_cut : (bytes more : List ℕ) → lines_of (bytes ++ 10 ∷ more) ≡ lines_of bytes ++ lines_of more
lines_cut [] more = refl
lines_cut (b ∷ bytes) more =
    ap (λ (ls : List (List ℕ)). cond (b == 10) ([] ∷ ls) (onto_first b ls)) (lines_cut bytes more) ∙ cut_by b (lines_of bytes) (lines_of more) (b == 10) (has_line bytes)

-- what stands behind the end of a text, on the lines that follow
pub behind_text : (n : ℕ) (bytes more : List ℕ) → lexemes_from n (bytes ++ 10 ∷ more) ≡ lexemes_from n bytes ++ lexemes_from (n + last_line bytes) more
behind_text n bytes more = ap (line_lexemes n) (lines_cut bytes more) ∙ lines_joined n (lines_of bytes) (lines_of more)

-- the lines rise

rising_words : (from n end : ℕ) (words : List (List ℕ)) (rest : List Lexeme) → from ≤ n → Rising n end rest → Rising from end (on_one n words ++ rest)
rising_words from n end [] rest le h = rising_from from n end rest le h
rising_words from n end (word ∷ words) rest le h = (le, rising_words n n end words rest (omega arith) h)

rising_lines : (from n end : ℕ) (ls : List (List ℕ)) → from ≤ n → from ≤ end → n + length ls ≤ end + 1 → Rising from end (line_lexemes n ls)
rising_lines from n end [] le few long = few
rising_lines from n end (l ∷ ls) le few long =
    let inside : n ≤ end = omega (arith, long) in
    rising_words from n end (words_of_line l) (line_lexemes (n + 1) ls) le (rising_lines n (n + 1) end ls (omega arith) inside (omega (arith, long)))

pub rising_text : (bytes : List ℕ) → Rising 1 (last_line bytes) (lexemes bytes)
rising_text bytes = rising_lines 1 1 (last_line bytes) (lines_of bytes) (omega arith) (some_line bytes) (omega arith)

starts_of : (n end : ℕ) (ws : List Lexeme) → Rising n end ws → StartsFrom n ws
starts_of n end [] h = tt
starts_of n end (w ∷ ws) h = h.0

pub text_starts : (n : ℕ) (bytes : List ℕ) → StartsFrom n (lexemes_from n bytes)
text_starts n bytes =
    starts_of n (n + last_line bytes) (lexemes_from n bytes) (rising_lines n n (n + last_line bytes) (lines_of bytes) (omega arith) (omega arith) (omega arith))

-- the line on which a text ends

last_by : (b : ℕ) (ls : List (List ℕ)) (t : Bool) → t ≡ false → HasLine ls → length (cond t ([] ∷ ls) (onto_first b ls)) ≡ length ls
last_by b ls true e h = absurd (cc)
last_by b ls false e h = ap (λ (xs : List (List ℕ)). length (onto_first b xs)) h.2 ∙ ap length (sym h.2)

last_joined : (t bytes : List ℕ) → AllByRecursion IsNoLineEnd t → last_line (t ++ bytes) ≡ last_line bytes
last_joined [] bytes h = refl
last_joined (b ∷ t) bytes h = last_by b (lines_of (t ++ bytes)) (b == 10) h.0 (has_line (t ++ bytes)) ∙ last_joined t bytes h.1

-- words that are written on a line, each with a blank behind it, and on new lines

-- words on a line, each with a blank behind it
abbrev pub spread : List (List ℕ) → List ℕ
spread [] = []
spread (word ∷ words) = word ++ 32 ∷ spread words

-- lines of such words, each behind a line feed
abbrev pub spread_lines : List (List (List ℕ)) → List ℕ
spread_lines [] = []
spread_lines (words ∷ lines) = 10 ∷ (spread words ++ spread_lines lines)

pub is_printed : (word : List ℕ) → IsWord word → IsPrinted word
is_printed word h = printed_word word h.some h.no_hash h.unbroken

pub ends_to : (bs : List ℕ) → EndsWord bs → Ends bs
ends_to [] h = tt
ends_to (b ∷ bs) h = h

pub ends_from : (bs : List ℕ) → Ends bs → EndsWord bs
ends_from [] h = tt
ends_from (b ∷ bs) h = h

-- a word in front of what may stand behind a word
pub word_front : (n : ℕ) (word bs : List ℕ) → IsPrinted word → Ends bs → lexemes_from n (word ++ bs) ≡ lexeme_on n word ∷ lexemes_from n bs
word_front n [] bs h e = absurd h
word_front n (b ∷ t) bs h e = at_word n b t bs h.0 h.1 e

lexemes_spread : (n : ℕ) (words : List (List ℕ)) (bs : List ℕ) → AllByRecursion IsWord words → lexemes_from n (spread words ++ bs) ≡ on_one n words ++ lexemes_from n bs
lexemes_spread n [] bs h = refl
lexemes_spread n (word ∷ words) bs h =
    ap (lexemes_from n) (append_assoc word (32 ∷ spread words) bs)
    ∙ word_front n word (32 ∷ (spread words ++ bs)) (is_printed word h.0) refl
    ∙ ap (λ ws. lexeme_on n word ∷ ws) (at_space n 32 (spread words ++ bs) refl ∙ lexemes_spread n words bs h.1)

lexemes_lines : (n : ℕ) (lines : List (List (List ℕ))) → AreLines lines → lexemes_from n (spread_lines lines) ≡ on_fresh n lines
lexemes_lines n [] h = refl
lexemes_lines n (words ∷ lines) h =
    at_line_end n (spread words ++ spread_lines lines) ∙ lexemes_spread (n + 1) words (spread_lines lines) h.0
    ∙ ap (λ ws. on_one (n + 1) words ++ ws) (lexemes_lines (n + 1) lines h.1)

pub lexemes_written : (n : ℕ) (words : List (List ℕ)) (lines : List (List (List ℕ))) → AllByRecursion IsWord words → AreLines lines → lexemes_from n (spread words ++ spread_lines lines) ≡ on_one n words ++ on_fresh n lines
lexemes_written n words lines h k = lexemes_spread n words (spread_lines lines) h ∙ ap (λ ws. on_one n words ++ ws) (lexemes_lines n lines k)

pub lexemes_behind : (bytes : List ℕ) (lines : List (List (List ℕ))) → AreLines lines → lexemes (bytes ++ spread_lines lines) ≡ lexemes bytes ++ on_fresh (last_line bytes) lines
lexemes_behind bytes [] h = ap lexemes (append-nil bytes) ∙ sym (append-nil (lexemes bytes))
lexemes_behind bytes (words ∷ lines) h =
    let next : 1 + last_line bytes ≡ last_line bytes + 1 = omega arith in
    behind_text 1 bytes (spread words ++ spread_lines lines)
    ∙ ap (λ k. lexemes bytes ++ lexemes_from k (spread words ++ spread_lines lines)) next
    ∙ ap (λ ws. lexemes bytes ++ ws) (lexemes_written (last_line bytes + 1) words lines h.0 h.1)

pub lines_end_word : (lines : List (List (List ℕ))) → EndsWord (spread_lines lines)
lines_end_word [] = tt
lines_end_word (words ∷ lines) = refl

-- a text is cut in front of one of its lexemes
pub record Split (n : ℕ) (bytes : List ℕ) (before : List Lexeme) (w : Lexeme) (after : List Lexeme) : Type 0 where
  pub front : List ℕ
  pub back : List ℕ
  pub whole : bytes ≡ front ++ (w.text ++ back)
  pub begins : BeginsWord front
  pub ends : Ends back
  pub printed : IsPrinted w.text
  pub line : w.line + 1 ≡ n + last_line front
  pub left : lexemes_from w.line back ≡ after
  pub same : (more : List ℕ) → lexemes_from n (front ++ more) ≡ before ++ lexemes_from w.line more

-- the front of bytes that a word has, and of those before the end of a line

cut_word : (bs : List ℕ) → (t : List ℕ) × (rest : List ℕ) × (bs ≡ t ++ rest) × AllByRecursion IsWordByte t × Ends rest
cut_word [] = ([], [], refl, tt, tt)
cut_word (b ∷ bs) = at (is_space b) refl (b == 10) refl (cut_word bs) where
  gap : (x y : Bool) → x ≡ true → IsTrue (x || y)
  gap true y e = refl
  gap false y e = absurd (cc)

  end : (x y : Bool) → y ≡ true → IsTrue (x || y)
  end true y e = refl
  end false true e = refl
  end false false e = absurd (cc)

  at : (x : Bool) → is_space b ≡ x → (y : Bool) → (b == 10) ≡ y → (t : List ℕ) × (rest : List ℕ) × (bs ≡ t ++ rest) × AllByRecursion IsWordByte t × Ends rest →
      (t : List ℕ) × (rest : List ℕ) × (b ∷ bs ≡ t ++ rest) × AllByRecursion IsWordByte t × Ends rest
  at true e y f c = ([], b ∷ bs, refl, tt, gap (is_space b) (b == 10) e)
  at false e true f c = ([], b ∷ bs, refl, tt, end (is_space b) (b == 10) f)
  at false e false f c = (b ∷ c.0, c.1, ap (λ (z : List ℕ). b ∷ z) c.2, ((e, f), c.3), c.4)

cut_comment : (bs : List ℕ) → (t : List ℕ) × (rest : List ℕ) × (bs ≡ t ++ rest) × AllByRecursion IsNoLineEnd t × EndsLine rest
cut_comment [] = ([], [], refl, tt, tt)
cut_comment (b ∷ bs) = at (b == 10) refl (cut_comment bs) where
  at : (y : Bool) → (b == 10) ≡ y → (t : List ℕ) × (rest : List ℕ) × (bs ≡ t ++ rest) × AllByRecursion IsNoLineEnd t × EndsLine rest → (t : List ℕ) × (rest : List ℕ) × (b ∷ bs ≡ t ++ rest) × AllByRecursion IsNoLineEnd t × EndsLine rest
  at true f c = ([], b ∷ bs, refl, tt, eqb-true b 10 f)
  at false f c = (b ∷ c.0, c.1, ap (λ (z : List ℕ). b ∷ z) c.2, (f, c.3), c.4)

no_word_gap : (word back : List ℕ) → IsPrinted word → Ends (word ++ back) → ⊥
no_word_gap [] back h e = absurd h
no_word_gap (b ∷ t) back h e =
    let no : (is_space b || (b == 10)) ≡ false = or_from (is_space b) (b == 10) h.1.0.0 h.1.0.1 in
    let both : true ≡ false = sym e ∙ no in
    absurd (cc)

ends_of_line : (bs : List ℕ) → EndsLine bs → Ends bs
ends_of_line [] e = tt
ends_of_line (b ∷ bs) e = subst (λ c. IsTrue (is_space c || (c == 10))) (sym e) refl

-- bytes in front of a text that is cut
module _ (n m : ℕ) (chunk rest : List ℕ) (pre before : List Lexeme) (w : Lexeme) (after : List Lexeme) (s : Split m rest before w after) where
  extended : BeginsWord (chunk ++ s.front) → n + last_line (chunk ++ s.front) ≡ m + last_line s.front → ((more : List ℕ) → lexemes_from n (chunk ++ (s.front ++ more)) ≡ pre ++ lexemes_from m (s.front ++ more)) → Split n (chunk ++ rest) (pre ++ before) w after
  extended begins lines step = record {
    front = chunk ++ s.front;
    back = s.back;
    whole = ap (λ (z : List ℕ). chunk ++ z) s.whole ∙ sym (append_assoc chunk s.front (w.text ++ s.back));
    begins = begins;
    ends = s.ends;
    printed = s.printed;
    line = s.line ∙ sym lines;
    left = s.left;
    same = λ more.
        ap (lexemes_from n) (append_assoc chunk s.front more) ∙ step more
        ∙ ap (λ (ws : List Lexeme). pre ++ ws) (s.same more) ∙ sym (append_assoc pre before (lexemes_from w.line more));
  }

-- behind a gap a word may begin, and where one begins behind other bytes there is a gap
begins_gap : (b : ℕ) (front : List ℕ) → IsGap b → BeginsWord front → BeginsWord (b ∷ front)
begins_gap b front gap (inl e) = inr ([], b, ap (λ (z : List ℕ). b ∷ z) e, gap)
begins_gap b front gap (inr h) = inr (b ∷ h.0, h.1, ap (λ (z : List ℕ). b ∷ z) h.2, h.3)

begins_chunk : (chunk front : List ℕ) → (front ≡ [] → ⊥) → BeginsWord front → BeginsWord (chunk ++ front)
begins_chunk chunk front some (inl e) = absurd (some e)
begins_chunk chunk front some (inr h) = inr (chunk ++ h.0, h.1, ap (λ (z : List ℕ). chunk ++ z) h.2 ∙ sym (append_assoc chunk h.0 (h.1 ∷ [])), h.3)

-- behind a word or a comment something stands before the next word, and it stands so before all else
module _ (m : ℕ) (rest : List ℕ) (before : List Lexeme) (w : Lexeme) (after : List Lexeme) (s : Split m rest before w after) (ends : Ends rest) where
  some_front : s.front ≡ [] → ⊥
  some_front e = no_word_gap w.text s.back s.printed (subst Ends (s.whole ∙ ap (λ (z : List ℕ). z ++ (w.text ++ s.back)) e) ends)

ends_kept : (P : ℕ → Type 0) (front tail more : List ℕ) (E : List ℕ → Type 0) → ((b : ℕ) (bs : List ℕ) → E (b ∷ bs) → P b) → ((b : ℕ) (bs : List ℕ) → P b → E (b ∷ bs)) → (front ≡ [] → ⊥) → E (front ++ tail) → E (front ++ more)
ends_kept P [] tail more E to from some e = absurd (some refl)
ends_kept P (b ∷ front) tail more E to from some e = from b (front ++ more) (to b (front ++ tail) e)

no_ends : (t : List ℕ) → AllByRecursion IsWordByte t → AllByRecursion IsNoLineEnd t
no_ends [] h = tt
no_ends (b ∷ t) h = (h.0.1, no_ends t h.1)

cons_head : (x y : Lexeme) (xs ys : List Lexeme) → x ∷ xs ≡ y ∷ ys → x ≡ y
cons_head x y xs ys e = cc

cons_tail : (x y : Lexeme) (xs ys : List Lexeme) → x ∷ xs ≡ y ∷ ys → xs ≡ ys
cons_tail x y xs ys e = cc

nil_cons : (before : List Lexeme) (w : Lexeme) (after : List Lexeme) → [] ≡ before ++ w ∷ after → ⊥
nil_cons [] w after e = absurd (cc)
nil_cons (x ∷ before) w after e = absurd (cc)

-- one step of cutting a text
abbrev Splits : ℕ → Type 0
Splits k = (n : ℕ) (bytes : List ℕ) → length bytes ≤ k → (before : List Lexeme) (w : Lexeme) (after : List Lexeme) → lexemes_from n bytes ≡ before ++ w ∷ after → Split n bytes before w after

at_word_chunk : (k n b : ℕ) (t rest : List ℕ) → Splits k → length rest ≤ k → IsPrinted (b ∷ t) → Ends rest → (before : List Lexeme) (w : Lexeme) (after : List Lexeme) →
    lexeme_on n (b ∷ t) ∷ lexemes_from n rest ≡ before ++ w ∷ after → Split n ((b ∷ t) ++ rest) before w after
at_word_chunk k n b t rest more less printed ends [] w after e =
    let same : lexeme_on n (b ∷ t) ≡ w = cons_head (lexeme_on n (b ∷ t)) w (lexemes_from n rest) after e in
    subst (λ (x : Lexeme). Split n ((b ∷ t) ++ rest) [] x after) same (record {
      front = [];
      back = rest;
      whole = refl;
      begins = inl refl;
      ends = ends;
      printed = printed;
      line = refl;
      left = cons_tail (lexeme_on n (b ∷ t)) w (lexemes_from n rest) after e;
      same = λ bs. refl;
    })
at_word_chunk k n b t rest more less printed ends (x ∷ before) w after e =
    let same : lexeme_on n (b ∷ t) ≡ x = cons_head (lexeme_on n (b ∷ t)) x (lexemes_from n rest) (before ++ w ∷ after) e in
    let s : Split n rest before w after = more n rest less before w after (cons_tail (lexeme_on n (b ∷ t)) x (lexemes_from n rest) (before ++ w ∷ after) e) in
    let some : s.front ≡ [] → ⊥ = some_front n rest before w after s ends in
    subst (λ (y : Lexeme). Split n ((b ∷ t) ++ rest) (y ∷ before) w after) same
    (extended n n (b ∷ t) rest (lexeme_on n (b ∷ t) ∷ []) before w after s (begins_chunk (b ∷ t) s.front some s.begins)
    (ap (λ l. n + l) (last_joined (b ∷ t) s.front (no_ends (b ∷ t) printed.1)))
    (λ bs. word_front n (b ∷ t) (s.front ++ bs) printed (ends_kept IsGap s.front (w.text ++ s.back) bs Ends (λ c cs h. h) (λ c cs h. h) some (subst Ends s.whole ends))))

at_comment_chunk : (k n : ℕ) (t rest : List ℕ) → Splits k → length rest ≤ k → AllByRecursion IsNoLineEnd t → EndsLine rest → (before : List Lexeme) (w : Lexeme) (after : List Lexeme) →
    lexemes_from n rest ≡ before ++ w ∷ after → Split n ((35 ∷ t) ++ rest) before w after
at_comment_chunk k n t rest more less plain ends before w after e =
    let s : Split n rest before w after = more n rest less before w after e in
    let some : s.front ≡ [] → ⊥ = some_front n rest before w after s (ends_of_line rest ends) in
    extended n n (35 ∷ t) rest [] before w after s (begins_chunk (35 ∷ t) s.front some s.begins)
    (ap (λ l. n + l) (last_joined (35 ∷ t) s.front (refl, plain)))
    (λ bs. at_comment n t (s.front ++ bs) plain (ends_kept (λ b. b ≡ 10) s.front (w.text ++ s.back) bs EndsLine (λ c cs h. h) (λ c cs h. h) some (subst EndsLine s.whole ends)))

at_space_chunk : (k n b : ℕ) (rest : List ℕ) → Splits k → length rest ≤ k → is_space b ≡ true → (b == 10) ≡ false → (before : List Lexeme) (w : Lexeme) (after : List Lexeme) → lexemes_from n (b ∷ rest) ≡ before ++ w ∷ after → Split n (b ∷ rest) before w after
at_space_chunk k n b rest more less space within before w after e =
    let s : Split n rest before w after = more n rest less before w after (sym (at_space n b rest space) ∙ e) in
    extended n n (b ∷ []) rest [] before w after s (begins_gap b s.front (or_left (is_space b) (b == 10) space) s.begins)
    (ap (λ l. n + l) (last_joined (b ∷ []) s.front (within, tt))) (λ bs. at_space n b (s.front ++ bs) space)

at_end_chunk : (k n : ℕ) (rest : List ℕ) → Splits k → length rest ≤ k → (before : List Lexeme) (w : Lexeme) (after : List Lexeme) → lexemes_from n (10 ∷ rest) ≡ before ++ w ∷ after → Split n (10 ∷ rest) before w after
at_end_chunk k n rest more less before w after e =
    let s : Split (n + 1) rest before w after = more (n + 1) rest less before w after e in
    extended n (n + 1) (10 ∷ []) rest [] before w after s (begins_gap 10 s.front refl s.begins) (omega arith) (λ bs. refl)

split_step : (k : ℕ) → Splits k → Splits (suc k)
split_step k more n [] less before w after e = absurd (nil_cons before w after e)
split_step k more n (b ∷ bs) less before w after e = at (b == 10) refl (is_space b) refl (b == 35) refl where
  at : (x : Bool) → (b == 10) ≡ x → (y : Bool) → is_space b ≡ y → (z : Bool) → (b == 35) ≡ z → Split n (b ∷ bs) before w after
  at true f y g z h =
      let same : b ≡ 10 = eqb-true b 10 f in
      subst (λ c. Split n (c ∷ bs) before w after) (sym same) (at_end_chunk k n bs more (omega (arith, less)) before w after (ap (λ c. lexemes_from n (c ∷ bs)) (sym same) ∙ e))
  at false f true g z h = at_space_chunk k n b bs more (omega (arith, less)) g f before w after e
  at false f false g true h =
      let same : b ≡ 35 = eqb-true b 35 h in
      let c : (t : List ℕ) × (rest : List ℕ) × (bs ≡ t ++ rest) × AllByRecursion IsNoLineEnd t × EndsLine rest = cut_comment bs in
      let whole : 35 ∷ (c.0 ++ c.1) ≡ b ∷ bs = ap (λ d. d ∷ (c.0 ++ c.1)) (sym same) ∙ ap (λ (z : List ℕ). b ∷ z) (sym c.2) in
      let long : length bs ≡ length c.0 + length c.1 = ap length c.2 ∙ length-append c.0 c.1 in
      subst (λ (z : List ℕ). Split n z before w after) whole
      (at_comment_chunk k n c.0 c.1 more (omega (arith, less, long)) c.3 c.4 before w after (sym (at_comment n c.0 c.1 c.3 c.4) ∙ ap (lexemes_from n) whole ∙ e))
  at false f false g false h =
      let c : (t : List ℕ) × (rest : List ℕ) × (bs ≡ t ++ rest) × AllByRecursion IsWordByte t × Ends rest = cut_word bs in
      let whole : b ∷ (c.0 ++ c.1) ≡ b ∷ bs = ap (λ (z : List ℕ). b ∷ z) (sym c.2) in
      let long : length bs ≡ length c.0 + length c.1 = ap length c.2 ∙ length-append c.0 c.1 in
      subst (λ (z : List ℕ). Split n z before w after) whole
      (at_word_chunk k n b c.0 c.1 more (omega (arith, less, long)) (h, ((g, f), c.3)) c.4 before w after (sym (at_word n b c.0 c.1 h ((g, f), c.3) c.4) ∙ ap (lexemes_from n) whole ∙ e))

splits : (k : ℕ) → Splits k
splits zero n [] less before w after e = absurd (nil_cons before w after e)
splits zero n (b ∷ bs) less before w after e = absurd (omega (arith, less))
splits (suc k) n bytes less before w after e = split_step k (splits k) n bytes less before w after e

-- a text is cut at each of its lexemes
pub split_text : (bytes : List ℕ) (before : List Lexeme) (w : Lexeme) (after : List Lexeme) → lexemes bytes ≡ before ++ w ∷ after → Split 1 bytes before w after
split_text bytes before w after e = splits (length bytes) 1 bytes (omega arith) before w after e
