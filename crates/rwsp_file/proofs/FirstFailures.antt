-- The word at which a text is refused is the first that fails.
use Rattle.std.proofs.Common.{◌≡◌, ℕ, List, [], ◌∷◌, ◌++◌, length, Some, Result, Ok, Err, refl, ap, sym, ◌∙◌, subst, arith, append-nil, append_assoc}
use Rattle.std.proofs.lemmas.Option.{same_Some}
use Rattle.rwsp_text.specs.Lexemes.{Lexeme, lexemes, lexemes_from, last_line}
use Rattle.rwsp_terms.specs.Instance.{Instance}
use Rattle.rwsp_file.specs.Spelling.{SpellsProblem, on_line}
use Rattle.rwsp_file.specs.Reading.{reading, unread_of, misfit_in}
use Rattle.rwsp_file.specs.FirstFailures.{EndsWord, CanGoOnBehind, RestsOn, IsFirstBad, IsFirst, RefusalsAreFirst}
use Rattle.rwsp_file.specs.declared.misfit.Misfit.{Misfit}
use Rattle.rwsp_file.specs.declared.misfit.Misfit.TheVariants.{TextEnds, BadWord}
use Rattle.rwsp_file.specs.declared.misfit.Fault.{Fault}
use Rattle.rwsp_file.specs.declared.misfit.Place.{Place}
use Rattle.rwsp_file.proofs.Lines.{unread}
use Rattle.rwsp_file.proofs.TextLaws.{reading_spells, spells_reading}
use Rattle.rwsp_file.proofs.Readers.{failed}
use Rattle.rwsp_file.proofs.Awaited.{Awaited, read_on, IsSound}
use Rattle.rwsp_file.proofs.Awaited.Awaited.{End, Word, Row}
use Rattle.rwsp_file.proofs.Parts.{whole_text, whole_read}
use Rattle.rwsp_file.proofs.SoundText.{sound_text}
use Rattle.rwsp_file.proofs.Completions.{on_one, on_fresh}
use Rattle.rwsp_file.proofs.Reached.{Rising, Stuck, Found, find}
use Rattle.rwsp_file.proofs.LexemeFailures.{FailsAt, CanEnd, Fails, end_fails, word_fails, lifted}
use Rattle.rwsp_file.proofs.RowFailures.{row_fails}
use Rattle.rwsp_file.proofs.TextSplits.{Split, split_text, spread, spread_lines, lexemes_written, lexemes_behind, lines_end_word, word_front, ends_to, ends_from, rising_text, text_starts}

-- what is stuck fails there
stuck_fails : (q : Awaited) (vs : List Lexeme) (end : ℕ) (why : Misfit) → IsSound q → Stuck q vs end why → Fails q vs end why
stuck_fails (End P) vs end why sound e = end_fails P vs end why e
stuck_fails (Word form next) vs end why sound e = word_fails form next vs end why sound e
stuck_fails (Row earlier next) vs end why sound e = row_fails earlier next vs end why sound e

-- the first failure among lexemes
pub lexemes_fail : (p : Awaited) → IsSound p → (from end : ℕ) (us : List Lexeme) → Rising from end us → (why : Misfit) → read_on p (unread us end) ≡ Err why → Fails p us end why
lexemes_fail p sound from end us rising why e =
    let f : Found p us end why = find p sound from end us rising why e in
    lifted p f.q us f.vs end f.reach why (stuck_fails f.q f.vs end why f.sound f.stuck)

-- how a text is read, by what is awaited of it
read_text : (bytes : List ℕ) (end : ℕ) (ws : List Lexeme) (P : Instance) → lexemes bytes ≡ ws → read_on whole_text (unread ws end) ≡ Ok P → end ≡ last_line bytes → SpellsProblem bytes P
read_text bytes end ws P e h same =
    reading_spells bytes P
    (sym (whole_read (unread_of bytes)) ∙ ap (λ (zs : List Lexeme). read_on whole_text (unread zs (last_line bytes))) e ∙ ap (λ k. read_on whole_text (unread ws k)) (sym same) ∙ h)

spelled_read : (bytes : List ℕ) (ws : List Lexeme) (P : Instance) → lexemes bytes ≡ ws → SpellsProblem bytes P → read_on whole_text (unread ws (last_line bytes)) ≡ Ok P
spelled_read bytes ws P e s = ap (λ (zs : List Lexeme). read_on whole_text (unread zs (last_line bytes))) (sym e) ∙ whole_read (unread_of bytes) ∙ spells_reading bytes P s

-- a text that ends too early can be gone on with
ends_first : (bytes : List ℕ) → CanEnd whole_text (lexemes bytes) (last_line bytes) → CanGoOnBehind bytes
ends_first bytes c = (
  spread_lines c.lines,
  lines_end_word c.lines,
  c.P,
  read_text (bytes ++ spread_lines c.lines) (last_line (bytes ++ spread_lines c.lines)) (lexemes bytes ++ on_fresh (last_line bytes) c.lines) c.P (lexemes_behind bytes c.lines c.are_lines) (c.reads (last_line (bytes ++ spread_lines c.lines))) refl,
)

-- a word that fails first among the lexemes fails first in the text
word_first : (bytes : List ℕ) (awaited : Place) (w : Lexeme) (fault : Fault) → FailsAt whole_text (lexemes bytes) awaited w fault → IsFirstBad bytes awaited w fault
word_first bytes awaited w fault f =
    let s : Split 1 bytes f.before w f.after = split_text bytes f.before w f.after f.whole in
    let front : lexemes s.front ≡ f.before = ap lexemes (sym (append-nil s.front)) ∙ s.same [] ∙ append-nil f.before in
    let behind : (more : List ℕ) → EndsWord more → lexemes (s.front ++ (w.text ++ more)) ≡ f.before ++ w ∷ lexemes_from w.line more =
    λ more ends. s.same (w.text ++ more) ∙ ap (λ (ws : List Lexeme). f.before ++ ws) (word_front w.line w.text more s.printed (ends_to more ends)) in
    record {
      front = s.front;
      back = s.back;
      whole = s.whole ∙ sym (append_assoc s.front w.text s.back);
      begins = s.begins;
      ends = ends_from s.back s.ends;
      line = omega (arith, s.line);
      words = f.whole ∙ ap (λ (ws : List Lexeme). ws ++ w ∷ f.after) (sym front) ∙ ap (λ (ws : List Lexeme). lexemes s.front ++ w ∷ ws) (sym s.left);
      rests = subst (λ (ws : List Lexeme). RestsOn awaited fault (length (on_line w.line ws))) (sym s.left) f.rests;
      can = (
        spread f.can.words ++ spread_lines f.can.lines,
        f.can.P,
        read_text (s.front ++ (spread f.can.words ++ spread_lines f.can.lines)) (last_line (s.front ++ (spread f.can.words ++ spread_lines f.can.lines))) (f.before ++ (on_one w.line f.can.words ++ on_fresh w.line f.can.lines)) f.can.P
            (s.same (spread f.can.words ++ spread_lines f.can.lines) ∙ ap (λ (ws : List Lexeme). f.before ++ ws) (lexemes_written w.line f.can.words f.can.lines f.can.are_words f.can.are_lines))
            (f.can.reads (last_line (s.front ++ (spread f.can.words ++ spread_lines f.can.lines)))) refl,
      );
      cannot = λ more ends rests P spells.
          f.cannot (lexemes_from w.line more) (last_line (s.front ++ (w.text ++ more))) P rests
          (spelled_read (s.front ++ (w.text ++ more)) (f.before ++ w ∷ lexemes_from w.line more) P (behind more ends)
          (subst (λ (bs : List ℕ). SpellsProblem bs P) (append_assoc s.front w.text more) spells));
      broken = λ more P spells.
          f.broken (lexemes_from w.line more) (last_line (s.front ++ more)) P (text_starts w.line more)
          (spelled_read (s.front ++ more) (f.before ++ lexemes_from w.line more) P (s.same more) spells) s.front
          (λ reads. read_text s.front (last_line s.front) f.before P front (reads (last_line s.front)) refl);
    }

text_fails : (bytes : List ℕ) (why : Misfit) → Fails whole_text (lexemes bytes) (last_line bytes) why → IsFirst bytes why
text_fails bytes (TextEnds awaited line) f = (ends_first bytes f.1, f.0)
text_fails bytes (BadWord awaited w fault) f = word_first bytes awaited w fault f

misfit_read : (r : Result Instance Misfit) (why : Misfit) → misfit_in r ≡ Some why → r ≡ Err why
misfit_read (Ok P) why e = absurd (cc)
misfit_read (Err x) why e = ap failed (same_Some x why e)

pub refusals_are_first : RefusalsAreFirst
refusals_are_first bytes why e =
    text_fails bytes why
    (lexemes_fail whole_text sound_text 1 (last_line bytes) (lexemes bytes) (rising_text bytes) why
    (whole_read (unread_of bytes) ∙ misfit_read (reading (unread_of bytes)) why e))
