-- The reader of a shift's row.
use Rattle.std.proofs.Common.{◌≡◌, ℕ, ◌+◌, ◌≤◌, arith, List, [], ◌∷◌, length, true, Some, None, Ok, refl, ap, sym, ◌∙◌, subst}
use Rattle.std.proofs.lemmas.Option.{same_Some}
use Rattle.rwsp_text.specs.Lexemes.{Lexeme}
use Rattle.rwsp_text.specs.Numbers.{number_of}
use Rattle.rwsp_terms.specs.declared.data.Bounds.{Bounds}
use Rattle.rwsp_terms.specs.declared.data.ShiftRow.{ShiftRow}
use Rattle.rwsp_model.specs.Validity.{AreSmall}
use Rattle.rwsp_file.specs.Spelling.{FileField, Spell, IsShiftRow, IsRow, on_line, past_line}
use Rattle.rwsp_file.specs.Spelling.FileField.{ShiftField}
use Rattle.rwsp_file.specs.Reading.{Unread, ◌>>=◌, or_refuse, limit_of, next_at, words_of_row, row_words, row_words_at, is_new_name, name_fault, new_name, numbers_of_row, shift_of, shift_at}
use Rattle.rwsp_file.specs.declared.row.RowWords.{RowWords}
use Rattle.rwsp_file.specs.declared.misfit.Misfit.{Misfit}
use Rattle.rwsp_file.specs.declared.misfit.Misfit.TheVariants.{BadWord}
use Rattle.rwsp_file.specs.declared.misfit.Fault.TheVariants.{WordCount}
use Rattle.rwsp_file.specs.declared.misfit.Place.TheVariants.{ShiftLine, ShiftName, Start, Minutes, LeastBlock, GreatestBlock}
use Rattle.rwsp_file.proofs.Readers.{Gives, gives_like, gives_value, gives_some, gives_tested, then_gives, bind_ok, bind_assoc, then_ok, ok_same, given}
use Rattle.rwsp_file.proofs.Lines.{unread}
use Rattle.rwsp_file.proofs.FieldReaders.{limited_gives}

-- the words are those of the shift
abbrev pub AreWordsOf : ShiftRow → RowWords → Type 0
AreWordsOf row r = IsShiftRow row r.name r.start r.minutes r.least r.greatest

pub words_found : (words : List Lexeme) (r : RowWords) (row : ShiftRow) → words_of_row words ≡ Some r → AreWordsOf row r → IsRow row words
words_found [] r row e h = absurd (cc)
words_found (a ∷ []) r row e h = absurd (cc)
words_found (a ∷ b ∷ []) r row e h = absurd (cc)
words_found (a ∷ b ∷ c ∷ []) r row e h = absurd (cc)
words_found (a ∷ b ∷ c ∷ d ∷ []) r row e h = absurd (cc)
words_found (a ∷ b ∷ c ∷ d ∷ f ∷ []) r row e h = subst (AreWordsOf row) (sym (same_Some (row_words a b c None d f) r e)) h
words_found (a ∷ b ∷ c ∷ d ∷ f ∷ g ∷ []) r row e h = subst (AreWordsOf row) (sym (same_Some (row_words a b c (Some d) f g) r e)) h
words_found (a ∷ b ∷ c ∷ d ∷ f ∷ g ∷ i ∷ js) r row e h = absurd (cc)

pub words_only : (words : List Lexeme) (row : ShiftRow) → IsRow row words → (r : RowWords) × (words_of_row words ≡ Some r) × AreWordsOf row r
words_only [] row h = absurd h
words_only (a ∷ []) row h = absurd h
words_only (a ∷ b ∷ []) row h = absurd h
words_only (a ∷ b ∷ c ∷ []) row h = absurd h
words_only (a ∷ b ∷ c ∷ d ∷ []) row h = absurd h
words_only (a ∷ b ∷ c ∷ d ∷ f ∷ []) row h = (row_words a b c None d f, refl, h)
words_only (a ∷ b ∷ c ∷ d ∷ f ∷ g ∷ []) row h = (row_words a b c (Some d) f g, refl, h)
words_only (a ∷ b ∷ c ∷ d ∷ f ∷ g ∷ i ∷ js) row h = absurd h

-- a row that keeps the limits, with a new name
pub record IsGoodRow (earlier : List ShiftRow) (row : ShiftRow) : Type 0 where
  pub name : is_new_name earlier row.name ≡ true
  pub times : (row.start ≤ 10000) × (row.length ≤ 10000)
  pub blocks : AreSmall row.bounds

abbrev Numbers : Type 0
Numbers = ℕ × ℕ × Bounds

abbrev numbers : ℕ → ℕ → ℕ → ℕ → Numbers
numbers start minutes least greatest = (start, minutes, record { least = least; greatest = greatest })

-- a word is a number that keeps the limit of times and of bounds
abbrev IsNumber : Lexeme → ℕ → Type 0
IsNumber w n = ((0 ≤ n) × (n ≤ 10000)) × (number_of w.text ≡ Some n)

numbers_gives : (shift : ℕ) (words : RowWords) → Gives (λ n. IsNumber words.start n.0 × IsNumber words.minutes n.1 × IsNumber words.least n.2.least × IsNumber words.greatest n.2.greatest) (numbers_of_row shift words)
unfolding numbers_of_row
numbers_gives shift words =
    gives_like (λ n h. (h.0, h.1.0, h.1.1.0, h.1.1.1.0)) (λ n h. (h.0, (h.1, (h.2, (h.3, refl)))))
    (then_gives (λ (n : Numbers). n.0) (limited_gives (Start shift) (limit_of 6 0 10000) words.start) (λ start _.
    then_gives (λ (n : Numbers). n.1) (limited_gives (Minutes shift) (limit_of 6 0 10000) words.minutes) (λ minutes _.
    then_gives (λ (n : Numbers). n.2.least) (limited_gives (LeastBlock shift) (limit_of 7 0 10000) words.least) (λ least _.
    then_gives (λ (n : Numbers). n.2.greatest) (limited_gives (GreatestBlock shift) (limit_of 7 0 10000) words.greatest) (λ greatest _. gives_value (numbers start minutes least greatest))
    (λ x n c. ap (λ (q : Numbers). q.2.greatest) c)) (λ x n c. ap (λ (q : Numbers). q.2.least) c.1)) (λ x n c. ap (λ (q : Numbers). q.1) c.1.1)) (λ x n c. ap (λ (q : Numbers). q.0) c.1.1.1))

abbrev row_of : List ℕ → Numbers → ShiftRow
row_of name n = record { name = name; start = n.0; length = n.1; bounds = n.2 }

pub name_gives : (earlier : List ShiftRow) (w : Lexeme) → Gives (λ name. (is_new_name earlier name ≡ true) × (w.text ≡ name)) (new_name earlier w)
unfolding new_name
name_gives earlier w =
    gives_like (λ name h. (ap (is_new_name earlier) h.1 ∙ h.0, sym h.1)) (λ name h. (ap (is_new_name earlier) h.1 ∙ h.0, sym h.1))
    (gives_tested (is_new_name earlier w.text) w.text (BadWord (ShiftName (length earlier + 1)) w (name_fault earlier w.text)))

pub shift_gives : (earlier : List ShiftRow) (words : RowWords) → Gives (λ row. IsGoodRow earlier row × AreWordsOf row words) (shift_of earlier words)
unfolding shift_of
shift_gives earlier words =
    gives_like
    (λ row h. let n = h.1.0 in (
      record { name = h.0.0; times = (n.0.0.1, n.1.0.1); blocks = (n.2.0.1, n.3.0.1) },
      record { named = h.0.1; starts = n.0.1; long = n.1.1; from = n.2.1; to = n.3.1 },
    ))
    (λ row h. let good = h.0 in let is = h.1 in
    let number : (n : ℕ) → n ≤ 10000 → (0 ≤ n) × (n ≤ 10000) = λ n few. (omega arith, few) in (
      (good.name, is.named),
      (((number row.start good.times.0, is.starts), (number row.length good.times.1, is.long), (number row.bounds.least good.blocks.0, is.from), (number row.bounds.greatest good.blocks.1, is.to)), refl),
    ))
    (then_gives (λ (row : ShiftRow). row.name) (name_gives earlier words.name) (λ name _.
    then_gives (λ (row : ShiftRow). (row.start, row.length, row.bounds)) (numbers_gives (length earlier + 1) words) (λ n _. gives_value (row_of name n))
    (λ n row c. ap (λ (q : ShiftRow). (q.start, q.length, q.bounds)) c)) (λ name row c. ap (λ (q : ShiftRow). q.name) c.1))

-- the lexemes of the first line, and those behind it
abbrev pub first_line : List Lexeme → List Lexeme
first_line [] = []
first_line (w ∷ ws) = w ∷ on_line w.line ws

abbrev pub later_lines : List Lexeme → List Lexeme
later_lines [] = []
later_lines (w ∷ ws) = past_line w.line ws

-- the line has another count of words
abbrev pub odd_row : List ShiftRow → Lexeme → List Lexeme → Misfit
odd_row earlier w ws = BadWord (ShiftLine (length earlier + 1)) w (WordCount (length (on_line w.line ws) + 1))

-- a row is read from the words of its line
pub row_step : (earlier : List ShiftRow) (w : Lexeme) (ws : List Lexeme) (end : ℕ) →
    shift_at earlier (unread (w ∷ ws) end) ≡ (or_refuse (words_of_row (w ∷ on_line w.line ws)) (odd_row earlier w ws) >>= (λ words. shift_of earlier words >>= (λ row. Ok (row, unread (past_line w.line ws) end))))
unfolding shift_at row_words_at next_at
row_step earlier w ws end =
    bind_assoc (or_refuse (words_of_row (w ∷ on_line w.line ws)) (odd_row earlier w ws)) (λ words. Ok (words, unread (past_line w.line ws) end)) (λ p. shift_of earlier p.0 >>= (λ row. Ok (row, p.1)))

-- the row that the first line spells, and what is left behind it
pub row_gives : (earlier : List ShiftRow) (us : List Lexeme) (end : ℕ) → Gives (λ (p : ShiftRow × Unread). (IsGoodRow earlier p.0 × IsRow p.0 (first_line us)) × (p.1 ≡ unread (later_lines us) end)) (shift_at earlier (unread us end))
unfolding shift_at row_words_at next_at
row_gives earlier [] end = record { found = λ p e. absurd (cc); only = λ p h. absurd h.0.1 }
row_gives earlier (w ∷ ws) end = record {
  found = λ p e.
      let a = bind_ok (or_refuse (words_of_row (w ∷ on_line w.line ws)) (odd_row earlier w ws)) (λ words. shift_of earlier words >>= (λ row. Ok (row, unread (past_line w.line ws) end))) p (sym (row_step earlier w ws end) ∙ e) in
      let b = bind_ok (shift_of earlier a.0) (λ row. Ok (row, unread (past_line w.line ws) end)) p a.2 in
      let s = (shift_gives earlier a.0).found b.0 b.1 in
      subst (λ (q : ShiftRow × Unread). (IsGoodRow earlier q.0 × IsRow q.0 (w ∷ on_line w.line ws)) × (q.1 ≡ unread (past_line w.line ws) end)) (ok_same (b.0, unread (past_line w.line ws) end) p b.2)
      ((s.0, words_found (w ∷ on_line w.line ws) a.0 b.0 ((gives_some (words_of_row (w ∷ on_line w.line ws)) (odd_row earlier w ws)).found a.0 a.1) s.1), refl);
  only = λ p h.
      let a : (r : RowWords) × (words_of_row (w ∷ on_line w.line ws) ≡ Some r) × AreWordsOf p.0 r = words_only (w ∷ on_line w.line ws) p.0 h.0.1 in
      row_step earlier w ws end
      ∙ then_ok (or_refuse (words_of_row (w ∷ on_line w.line ws)) (odd_row earlier w ws)) (λ words. shift_of earlier words >>= (λ row. Ok (row, unread (past_line w.line ws) end))) a.0 p (ap (λ o. or_refuse o (odd_row earlier w ws)) a.1)
      (then_ok (shift_of earlier a.0) (λ row. Ok (row, unread (past_line w.line ws) end)) p.0 p ((shift_gives earlier a.0).only p.0 (h.0.0, a.2)) (ap (λ (v : Unread). given (p.0, v)) (sym h.1)));
}

row_spells : (ls : List Lexeme) (row : ShiftRow) (fs : List FileField) → IsRow row (first_line ls) → Spell fs (later_lines ls) → Spell (ShiftField row ∷ fs) ls
row_spells [] row fs is s = absurd is
row_spells (w ∷ ws) row fs is s = (is, s)

row_spelled : (ls : List Lexeme) (row : ShiftRow) (fs : List FileField) → Spell (ShiftField row ∷ fs) ls → IsRow row (first_line ls) × Spell fs (later_lines ls)
row_spelled [] row fs s = absurd s
row_spelled (w ∷ ws) row fs s = s

pub row_found : (earlier : List ShiftRow) (u v : Unread) (row : ShiftRow) → shift_at earlier u ≡ Ok (row, v) → IsGoodRow earlier row × ((fs : List FileField) → Spell fs v.lexemes → Spell (ShiftField row ∷ fs) u.lexemes)
row_found earlier u v row e =
    let g = (row_gives earlier u.lexemes u.end).found (row, v) e in
    (g.0.0, λ fs s. row_spells u.lexemes row fs g.0.1 (subst (λ (q : Unread). Spell fs q.lexemes) g.1 s))

pub row_only : (earlier : List ShiftRow) (u : Unread) (row : ShiftRow) (fs : List FileField) → IsGoodRow earlier row → Spell (ShiftField row ∷ fs) u.lexemes → (v : Unread) × (shift_at earlier u ≡ Ok (row, v)) × Spell fs v.lexemes
row_only earlier u row fs good s =
    let parts = row_spelled u.lexemes row fs s in
    (unread (later_lines u.lexemes) u.end, (row_gives earlier u.lexemes u.end).only (row, unread (later_lines u.lexemes) u.end) ((good, parts.0), refl), parts.1)
