-- What is awaited of a text can be written, on new lines.
use Rattle.std.proofs.Common.{◌≡◌, ℕ, ◌+◌, ◌<◌, ◌≤◌, List, [], ◌∷◌, ◌++◌, length, true, Some, Result, Ok, refl, ap, arith, map}
use Rattle.std.specs.List.{AllByRecursion}
use Rattle.std.proofs.lemmas.Bool.{ne_eqb}
use Rattle.rwsp_text.specs.Lexemes.{Lexeme}
use Rattle.rwsp_text.specs.Numbers.{number_of}
use Rattle.rwsp_terms.specs.Instance.{Instance}
use Rattle.rwsp_terms.specs.declared.data.ShiftRow.{ShiftRow}
use Rattle.rwsp_model.proofs.Names.{IsWord}
use Rattle.rwsp_file.specs.Spelling.{IsRow}
use Rattle.rwsp_file.specs.Reading.{◌>>=◌, next_at, shift_at, is_new_name}
use Rattle.rwsp_file.specs.declared.misfit.Misfit.{Misfit}
use Rattle.rwsp_file.specs.declared.misfit.Place.{Place}
use Rattle.rwsp_file.proofs.Readers.{one_word, then_ok}
use Rattle.rwsp_file.proofs.Lines.{unread}
use Rattle.rwsp_file.proofs.RowReader.{IsGoodRow}
use Rattle.rwsp_file.proofs.Awaited.{Awaited, read_on, IsSound}
use Rattle.rwsp_file.proofs.Awaited.Awaited.{End, Word, Row}
use Rattle.rwsp_file.proofs.Forms.{lexeme_on, zero_word, zero_is_word}
use Rattle.rwsp_file.proofs.FreshName.{fresh_name, fresh_is_word, fresh_is_new}
use Rattle.rwsp_file.proofs.RowLines.{AllOn, Off, row_in_front}

-- the lexemes of words on one line
abbrev pub on_one : ℕ → List (List ℕ) → List Lexeme
on_one line words = map (lexeme_on line) words

-- the lexemes of words on the lines behind a line
abbrev pub on_fresh : ℕ → List (List (List ℕ)) → List Lexeme
on_fresh line [] = []
on_fresh line (words ∷ lines) = on_one (line + 1) words ++ on_fresh (line + 1) lines

-- the first lexeme stands on the line or on a later one
abbrev pub StartsFrom : ℕ → List Lexeme → Type 0
StartsFrom line [] = Unit {0}
StartsFrom line (w ∷ ws) = line ≤ w.line

pub starts_fresh : (from line : ℕ) (lines : List (List (List ℕ))) → from ≤ line + 1 → StartsFrom from (on_fresh line lines)
starts_fresh from line [] le = tt
starts_fresh from line ([] ∷ lines) le = starts_fresh from (line + 1) lines (omega (arith, le))
starts_fresh from line ((word ∷ words) ∷ lines) le = le

pub off_later : (line from : ℕ) (ws : List Lexeme) → line < from → StartsFrom from ws → Off line ws
off_later line from [] less h = tt
off_later line from (w ∷ ws) less h = ne_eqb w.line line (λ e. omega (arith, less, h, e))

pub on_one_line : (line : ℕ) (words : List (List ℕ)) → AllOn line (on_one line words)
on_one_line line [] = tt
on_one_line line (word ∷ words) = (refl, on_one_line line words)

-- the words on lines can be written
abbrev pub AreLines : List (List (List ℕ)) → Type 0
AreLines lines = AllByRecursion (AllByRecursion IsWord) lines

-- a lexeme is a number that keeps the limits of a row
abbrev pub Numbered : Lexeme → Type 0
Numbered w = (n : ℕ) × (n ≤ 10000) × (number_of w.text ≡ Some n)

pub zero_numbered : (line : ℕ) → Numbered (lexeme_on line zero_word)
zero_numbered line = (0, omega arith, refl)

-- the lexemes are those of a row
abbrev pub GoodRow : List ShiftRow → List Lexeme → Type 0
GoodRow earlier ws = (row : ShiftRow) × IsGoodRow earlier row × IsRow row ws

module _ (earlier : List ShiftRow) (a b c d f : Lexeme) (name : is_new_name earlier a.text ≡ true) (p : Numbered b) (q : Numbered c) (r : Numbered d) (s : Numbered f) where
  -- the row that five words spell
  abbrev made : ShiftRow
  made = record { name = a.text; start = p.0; length = q.0; bounds = record { least = r.0; greatest = s.0 } }

  is_good : IsGoodRow earlier made
  is_good = record { name = name; times = (p.1, q.1); blocks = (r.1, s.1) }

  pub five_words : GoodRow earlier (a ∷ b ∷ c ∷ d ∷ f ∷ [])
  five_words = (made, is_good, record { named = refl; starts = p.2; long = q.2; from = r.2; to = s.2 })

  pub six_words : (long_name : Lexeme) → GoodRow earlier (a ∷ b ∷ c ∷ long_name ∷ d ∷ f ∷ [])
  six_words long_name = (made, is_good, record { named = refl; starts = p.2; long = q.2; from = r.2; to = s.2 })

-- the words of a row that is made up
abbrev pub fresh_row : List ShiftRow → List (List ℕ)
fresh_row earlier = fresh_name earlier ∷ zero_word ∷ zero_word ∷ zero_word ∷ zero_word ∷ []

pub fresh_row_words : (earlier : List ShiftRow) → AllByRecursion IsWord (fresh_row earlier)
fresh_row_words earlier = (fresh_is_word earlier, (zero_is_word, (zero_is_word, (zero_is_word, (zero_is_word, tt)))))

pub fresh_row_good : (earlier : List ShiftRow) (line : ℕ) → length earlier ≤ 7 → GoodRow earlier (on_one line (fresh_row earlier))
fresh_row_good earlier line few =
    five_words earlier (lexeme_on line (fresh_name earlier)) (lexeme_on line zero_word) (lexeme_on line zero_word) (lexeme_on line zero_word) (lexeme_on line zero_word)
    (fresh_is_new earlier few) (zero_numbered line) (zero_numbered line) (zero_numbered line) (zero_numbered line)

-- one word is read
pub word_reads : {X : Type 0} (awaited : Place) (give : Lexeme → Result X Misfit) (w : Lexeme) (ws : List Lexeme) (end : ℕ) (x : X) → give w ≡ Ok x → one_word awaited give (unread (w ∷ ws) end) ≡ Ok (x, unread ws end)
unfolding next_at
word_reads {X} awaited give w ws end x e = ap (λ (r : Result X Misfit). r >>= (λ y. Ok (y, unread ws end))) e

-- words on new lines with which a text can be gone on, and the instance that is read then
pub record Completion (p : Awaited) (line : ℕ) : Type 0 where
  pub lines : List (List (List ℕ))
  pub words : AreLines lines
  pub P : Instance
  pub reads : (end : ℕ) → read_on p (unread (on_fresh line lines) end) ≡ Ok P

pub complete : (p : Awaited) → IsSound p → (line : ℕ) → Completion p line
unfolding read_on
complete (End P) s line = record { lines = []; words = tt; P = P; reads = λ end. refl }
complete (Word form next) s line =
    let x : (y : form.X) × (form.give (lexeme_on (line + 1) s.0.text) ≡ Ok y) = s.0.gives (line + 1) in
    let more : Completion (next x.0) (line + 1) = complete (next x.0) (s.2 (lexeme_on (line + 1) s.0.text) x.0 x.1) (line + 1) in
    record {
      lines = (s.0.text ∷ []) ∷ more.lines;
      words = ((s.0.word, tt), more.words);
      P = more.P;
      reads = λ end.
          then_ok (one_word form.awaited form.give (unread (lexeme_on (line + 1) s.0.text ∷ on_fresh (line + 1) more.lines) end)) (λ p. read_on (next p.0) p.1) (x.0, unread (on_fresh (line + 1) more.lines) end) more.P
          (word_reads form.awaited form.give (lexeme_on (line + 1) s.0.text) (on_fresh (line + 1) more.lines) end x.0 x.1) (more.reads end);
    }
complete (Row earlier next) s line =
    let row : GoodRow earlier (on_one (line + 1) (fresh_row earlier)) = fresh_row_good earlier (line + 1) s.0 in
    let more : Completion (next row.0) (line + 1) = complete (next row.0) (s.2 row.0) (line + 1) in
    record {
      lines = fresh_row earlier ∷ more.lines;
      words = (fresh_row_words earlier, more.words);
      P = more.P;
      reads = λ end.
          then_ok (shift_at earlier (unread (on_one (line + 1) (fresh_row earlier) ++ on_fresh (line + 1) more.lines) end)) (λ p. read_on (next p.0) p.1) (row.0, unread (on_fresh (line + 1) more.lines) end) more.P
          (row_in_front earlier (line + 1) (on_one (line + 1) (fresh_row earlier)) (on_fresh (line + 1) more.lines) end row.0 (on_one_line (line + 1) (fresh_row earlier))
          (off_later (line + 1) (line + 1 + 1) (on_fresh (line + 1) more.lines) (omega arith) (starts_fresh (line + 1 + 1) (line + 1) more.lines (omega arith))) row.1 row.2)
          (more.reads end);
    }
