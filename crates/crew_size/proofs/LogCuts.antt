-- What follows the text of a log as a heading doesn't cut it short.
use Rattle.std.proofs.Common.{◌≡◌, ℕ, zero, suc, ◌+◌, ◌-◌, ◌<◌, ◌≤◌, List, [], ◌∷◌, ◌++◌, length, take, get_or, Bool, true, false, ◌&&◌, ◌||◌, ◌==◌, Option, Some, None, refl, ap, sym, ◌∙◌, subst, arith, inl, inr, ⊎_elim, length-append}
use Rattle.std.specs.Prelude.{◌⊎◌, not, codes, map}
use Rattle.std.specs.List.{join_with_byte, list_all, flat_map, AllByRecursion}
use Rattle.std.proofs.lemmas.Bool.{cases_lt, and_parts}
use Rattle.std.proofs.lemmas.List.{append-nil, append_assoc, get_or_append_left}
use Rattle.std.proofs.Math.Seq.{take-append-add, drop-append-add, take-append_seam, drop-append_seam}
use Rattle.rwsp_text.specs.Fields.{Words, cell_fields, text_of}
use Rattle.rwsp_text.specs.Kinds.{Kind, IsLine}
use Rattle.rwsp_text.specs.Lines.{AreWords, AreLines, text_of_lines}
use Rattle.rwsp_text.proofs.LineLaws.{join_no_feed}
use Rattle.rwsp_text.proofs.KindLaws.{no_words}
use Rattle.rwsp_terms.specs.Instance.{Instance}
use Rattle.refutation_terms.specs.declared.lines.Line.{Line}
use Rattle.refutation_terms.specs.declared.lines.Opening.{Opening}
use Rattle.refutation_terms.specs.declared.lines.Opening.TheVariants.{Full, Turned, Given}
use Rattle.refutation_terms.specs.LogText.{RawLine, raw, raw_fields, line_text, line_kinds, version_kinds, version_of, named_cell}
use Rattle.refutation_terms.specs.TextLaws.{HasNames}
use Rattle.refutation_terms.proofs.LineTables.{rules_fields, version_fields, version_line, raw_line, spelled_raw}
use Rattle.refutation_terms.proofs.Texts.{lines_fields, log_fields, log_written, log_words, third_fields, each_fits}
use Rattle.refutation_log.proofs.LineTexts.{is_writable}
use Rattle.refutation_log.proofs.OneText.{has_names}
use Rattle.refutation_terms.specs.declared.lines.Version.{Version}
use Rattle.refutation_terms.specs.Log.{Log, LineFits, Fits}
use Rattle.crew_size.specs.Sections.{AreWholeLines, BeginsAsHeading, HasHeadingAt, AreUpToHeading}
use Rattle.crew_size.specs.Laws.{LogsAreCutWhole}
use Rattle.crew_size.proofs.Cuts.{line_goes_on}

-- bytes that begin as a heading does have the letters we or n in front
abbrev opens : List ℕ → Bool
opens [] = false
opens (a ∷ []) = false
opens (a ∷ b ∷ bytes) = (a == 119) && (b == 101) || (a == 110)

headings_open : (bytes : List ℕ) → BeginsAsHeading bytes → opens bytes ≡ true
headings_open bytes (inl h) = ap opens h.1
headings_open bytes (inr h) = ap opens h.1

-- the words of a line that is no heading, whatever follows it
record IsOther (ws : Words) : Type 0 where
  words : AreWords ws
  other : (t : List ℕ) → opens (text_of ws ++ t) ≡ false

abbrev AreOther : List Words → Type 0
AreOther lines = AllByRecursion IsOther lines

-- whole lines of a text

whole_tail : (line more : List ℕ) → AreWholeLines (line ++ more) → AreWholeLines more
whole_tail [] more h = h
whole_tail (b ∷ line) more (inl e) = absurd (cc)
whole_tail (b ∷ line) more (inr ([], e)) =
    let none : line ++ more ≡ [] = cc in
    whole_tail line more (inl none)
whole_tail (b ∷ line) more (inr ((c ∷ body), e)) =
    let tails : line ++ more ≡ body ++ 10 ∷ [] = cc in
    whole_tail line more (inr (body, tails))

none_within : (ws : Words) (more : List ℕ) (i : ℕ) → IsOther ws → i < length (text_of ws) → HasHeadingAt (text_of ws ++ more) i → ⊥
none_within ws more zero is less h =
    let yes : opens (text_of ws ++ more) ≡ true = headings_open (text_of ws ++ more) h.1 in
    let no = is.other more in absurd (cc)
none_within ws more (suc i) is less h =
    let body : List ℕ = join_with_byte 32 ws in
    let inside : i < length body = omega (arith, less, length-append body (10 ∷ [])) in
    let whole : text_of ws ++ more ≡ body ++ (10 ∷ more) = append_assoc body (10 ∷ []) more in
    let within : suc i < length (body ++ (10 ∷ more)) = omega (arith, inside, length-append body (10 ∷ more)) in
    let same : suc i - 1 ≡ i = omega arith in
    let other : get_or (body ++ (10 ∷ more)) (suc i - 1) 0 ≡ 10 → ⊥ = λ e.
    join_no_feed ws is.words.1 i 0 inside (sym (get_or_append_left body (10 ∷ more) 0 i inside) ∙ ap (λ k. get_or (body ++ (10 ∷ more)) k 0) (sym same) ∙ e) in
    line_goes_on (body ++ (10 ∷ more)) (suc i) within (λ e. omega (arith, e)) other (subst (λ t. AreWholeLines (take (suc i) t)) whole h.0)

behind_line : (line more : List ℕ) (j : ℕ) → HasHeadingAt (line ++ more) (length line + j) → HasHeadingAt more j
behind_line line more j h = (
  whole_tail line (take j more) (subst AreWholeLines (take-append-add line more j) h.0),
  subst BeginsAsHeading (drop-append-add line more j) h.1,
)

none_in_lines : (lines : List Words) (rest : List ℕ) (i : ℕ) → AreOther lines → i < length (text_of_lines lines) → HasHeadingAt (text_of_lines lines ++ rest) i → ⊥
none_in_lines [] rest i are less h = omega (arith, less)
none_in_lines (ws ∷ lines) rest i are less h =
    let line : List ℕ = text_of ws in
    let more : List ℕ = text_of_lines lines in
    let here : HasHeadingAt (line ++ (more ++ rest)) i = subst (λ t. HasHeadingAt t i) (append_assoc line more rest) h in
    ⊎_elim
    (λ (l : i < length line). none_within ws (more ++ rest) i are.0 l here)
    (λ (l : length line ≤ i).
    let j : ℕ = i - length line in
    let place : i ≡ length line + j = omega (arith, l) in
    let fewer : j < length more = omega (arith, less, l, length-append line more) in
    none_in_lines lines rest j are.1 fewer (behind_line line (more ++ rest) j (subst (HasHeadingAt (line ++ (more ++ rest))) place here)))
    (cases_lt i (length line))

whole_lines : (lines : List Words) → AreWholeLines (text_of_lines lines)
whole_lines [] = inl refl
whole_lines (ws ∷ lines) = by (whole_lines lines)
  where
    by : AreWholeLines (text_of_lines lines) → AreWholeLines (text_of ws ++ text_of_lines lines)
    by (inl e) = inr (join_with_byte 32 ws, ap (λ t. text_of ws ++ t) e ∙ append-nil (text_of ws))
    by (inr e) = inr (text_of ws ++ e.0, ap (λ t. text_of ws ++ t) e.1 ∙ sym (append_assoc (text_of ws) e.0 (10 ∷ [])))

cut_of_lines : (lines : List Words) (rest : List ℕ) → AreOther lines → (rest ≡ []) ⊎ BeginsAsHeading rest → AreUpToHeading (text_of_lines lines) rest
cut_of_lines lines rest are place = record {
  alone = λ i less h. none_in_lines lines rest i are less h;
  cut = by place;
}
  where
    by : (rest ≡ []) ⊎ BeginsAsHeading rest → (rest ≡ []) ⊎ HasHeadingAt (text_of_lines lines ++ rest) (length (text_of_lines lines))
    by (inl e) = inl e
    by (inr h) = inr (subst AreWholeLines (sym (take-append_seam (text_of_lines lines) rest)) (whole_lines lines), subst BeginsAsHeading (sym (drop-append_seam (text_of_lines lines) rest)) h)

-- the lines of a log

rules_other : (R t : List ℕ) → opens (text_of (rules_fields R) ++ t) ≡ false
rules_other [] t = refl
rules_other (k ∷ R) t = refl

-- a first word has two letters at least, and not those that a heading begins with
abbrev is_other_word : List ℕ → Bool
is_other_word (a ∷ b ∷ word) = not (opens (a ∷ b ∷ []))
is_other_word word = false

other_goes_on : (word t : List ℕ) → is_other_word word ≡ true → opens (word ++ t) ≡ false
other_goes_on [] t h = absurd (cc)
other_goes_on (a ∷ []) t h = absurd (cc)
other_goes_on (a ∷ b ∷ word) t h = is_false (opens (a ∷ b ∷ [])) h
  where
    is_false : (yes : Bool) → not yes ≡ true → yes ≡ false
    is_false false h = refl
    is_false true h = absurd (cc)

words_other : (w : List ℕ) (ws : Words) (t : List ℕ) → is_other_word w ≡ true → opens (text_of (w ∷ ws) ++ t) ≡ false
words_other w [] t h = subst (λ bytes. opens bytes ≡ false) (sym (append_assoc w (10 ∷ []) t)) (other_goes_on w (10 ∷ t) h)
words_other w (v ∷ ws) t h =
    let more : List ℕ = 32 ∷ join_with_byte 32 (v ∷ ws) in
    let whole = append_assoc (w ++ more) (10 ∷ []) t ∙ append_assoc w more (10 ∷ t) in
    subst (λ bytes. opens bytes ≡ false) (sym whole) (other_goes_on w (more ++ (10 ∷ t)) h)

-- no kind of line of a table begins as a heading does
abbrev are_other_kinds : {X : Type 0} → List (Kind X) → Bool
are_other_kinds table = list_all (λ kind. is_other_word kind.word) table

kinds_other : {X : Type 0} (table : List (Kind X)) (ws : Words) (x : X) (t : List ℕ) → are_other_kinds table ≡ true → IsLine table ws x → opens (text_of ws ++ t) ≡ false
kinds_other table [] x t h l = absurd (no_words table x l)
kinds_other [] (w ∷ ws) x t h l = absurd l
kinds_other (kind ∷ table) (w ∷ ws) x t h (inl l) =
    words_other w ws t (ap is_other_word l.0 ∙ (and_parts (is_other_word kind.word) (are_other_kinds table) h).0)
kinds_other (kind ∷ table) (w ∷ ws) x t h (inr l) =
    kinds_other table (w ∷ ws) x t (and_parts (is_other_word kind.word) (are_other_kinds table) h).1 l

line_kinds_other : (P : Instance) (goal : Option ℕ) (counts : Bool) → are_other_kinds (line_kinds P goal counts) ≡ true
line_kinds_other P None false = refl
line_kinds_other P None true = refl
line_kinds_other P (Some goal) false = refl
line_kinds_other P (Some goal) true = refl

line_other : (P : Instance) (goal : Option ℕ) (counts : Bool) (line : Line) → HasNames P → LineFits P goal counts line → (t : List ℕ) → opens (line_text P (raw P goal line) ++ t) ≡ false
line_other P goal counts line names fits t =
    let written : RawLine = raw P goal line in
    kinds_other (line_kinds P goal counts) (raw_fields P written) written t (line_kinds_other P goal counts) (raw_line P goal counts written (spelled_raw P goal counts line names fits).0)

lines_other : (P : Instance) (goal : Option ℕ) (counts : Bool) (lines : List Line) → HasNames P → AllByRecursion (LineFits P goal counts) lines → AreLines (lines_fields P goal lines) → AreOther (lines_fields P goal lines)
lines_other P goal counts [] names fit are = tt
lines_other P goal counts (line ∷ lines) names fit are = (
  record { words = are.0; other = line_other P goal counts line names fit.0 },
  lines_other P goal counts lines names fit.1 are.1,
)

third_other : (P : Instance) (o : Opening) (goal : Option ℕ) (counts : Bool) (lines : List Line) → HasNames P → AllByRecursion (LineFits P goal counts) lines → AreLines (third_fields P o goal counts ++ lines_fields P goal lines) → AreOther (third_fields P o goal counts ++ lines_fields P goal lines)
third_other P (Given given) None counts lines names fit are =
    (record { words = are.0; other = λ t. words_other (codes "cells") (flat_map (cell_fields P.days) (map (named_cell P) given)) t refl }, lines_other P None counts lines names fit are.1)
third_other P (Turned turn) None counts lines names fit are = (record { words = are.0; other = λ t. refl }, lines_other P None counts lines names fit are.1)
third_other P Full None true lines names fit are = (record { words = are.0; other = λ t. refl }, lines_other P None true lines names fit are.1)
third_other P Full None false lines names fit are = lines_other P None false lines names fit are
third_other P o (Some goal) counts lines names fit are = (record { words = are.0; other = λ t. refl }, lines_other P (Some goal) counts lines names fit are.1)

version_other : (v : Version) (t : List ℕ) → opens (text_of (version_fields v) ++ t) ≡ false
version_other v t = kinds_other version_kinds (version_fields v) v t refl (version_line v)

log_other : (P : Instance) (g : Log) → HasNames P → Fits P g → AreLines (log_fields P g) → AreOther (log_fields P g)
log_other P g names fits are = (
  record { words = are.0; other = version_other (version_of g.opening g.goal g.counts) },
  (
    record { words = are.1.0; other = rules_other g.named },
    third_other P g.opening g.goal g.counts g.lines names (each_fits P g.goal g.counts g.lines fits.lines) are.1.1,
  ),
)

pub logs_are_cut_whole : LogsAreCutWhole
logs_are_cut_whole P g rest limits fits place =
    let names = has_names P limits in
    subst (λ t. AreUpToHeading t rest) (sym (log_written P g))
    (cut_of_lines (log_fields P g) rest (log_other P g names fits (log_words P g (is_writable P limits) names fits)) place)
