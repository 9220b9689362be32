-- The lines of a header are read where they spell one, and as what they spell.
use Rattle.std.proofs.Common.{◌≡◌, ◌≢◌, ℕ, ◌+◌, ◌≤◌, List, [], ◌∷◌, ◌++◌, map, refl, ap, sym, ◌∙◌, subst, inl, inr, Option, Some, None}
use Rattle.std.specs.Prelude.{codes, Result, Ok, Err}
use Rattle.std.specs.List.Sorted.{IsStrictlyIncreasing}
use Rattle.std.specs.List.{join_with_byte}
use Rattle.std.specs.Fmt.{decimal}
use Rattle.rwsp_text.specs.Fields.{Words, NamedCell, ◌>>=◌, IsName, word_at, cells_at, text_of}
use Rattle.rwsp_text.specs.Kinds.{Kind, AreBlankless, IsLine, IsReadable, read_line}
use Rattle.rwsp_text.specs.Lines.{words_of}
use Rattle.rwsp_text.proofs.KindLaws.{line_found, line_only, lines_are_words, one_kind, no_words}
use Rattle.rwsp_text.proofs.LineLaws.{text_words, words_text}
use Rattle.rwsp_terms.specs.Instance.{Instance, IsDay}
use Rattle.rwsp_model.specs.Validity.{KeepsLimits}
use Rattle.refutation_terms.specs.LogText.{rules_kind, rules_kinds, turn_kind, turn_kinds, goal_kind, goal_kinds, cells_kind, cells_kinds, named_cell}
use Rattle.refutation_terms.specs.Verdict.{SpellsTurn, SpellsCells}
use Rattle.refutation_terms.specs.TextLaws.{IsWritable}
use Rattle.refutation_terms.proofs.LineTables.{rules_fields, turn_fields, rules_line, turn_line, rules_found, turn_found as turn_line_found, rules_readable, turn_readable, turn_words, goal_fields, goal_line, goal_readable}
use Rattle.refutation_terms.specs.declared.cells.GivenCell.{GivenCell}
use Rattle.refutation_terms.proofs.GivenLine.{cells_fields, cells_readable, cells_line, cells_line_found, same_places}
use Rattle.rwsp_model.specs.Refusals.{MatchAnswer}
use Rattle.rwsp_model.specs.declared.fail.Fail.{Fail}
use Rattle.rwsp_model.specs.declared.fail.Fail.TheVariants.{Refused, Memory}
use Rattle.refutation_log.specs.declared.refusal.LineRefusal.{LineRefusal}
use Rattle.refutation_log.specs.declared.refusal.LineRefusal.TheVariants.{Form, Name}
use Rattle.refutation_log.specs.Refusals.{SpellsRules, SpellsGoal, SpellsGivenCells, AreCellsRefused}
use Rattle.refutation_log.specs.Reading.{named_at, goal_at, turn_at, cells_line_at, AreNamesOf, AnswersCells}
use Rattle.refutation_log.proofs.CellsRead.{same_bound}
use Rattle.refutation_log.proofs.LineTexts.{is_writable}

pub turn_visible : (P : Instance) (name : List ℕ) (day : ℕ) → IsWritable P → IsName name → IsDay P day → AreBlankless (turn_fields name day)
turn_visible P name day w n d = (turn_words P name day w n d).1

-- what is spelled is read
pub line_spelled : {X : Type 0} (table : List (Kind X)) (fields : Words) (x : X) (bytes body : List ℕ) → IsReadable table → IsLine table fields x → bytes ≡ body ++ 10 ∷ [] → bytes ≡ text_of fields → read_line table (words_of body) ≡ Some x
line_spelled table fields x bytes body s l e f =
    ap (read_line table) (text_words bytes body fields (lines_are_words table fields x s l) e f) ∙ line_only table fields x s l

-- rules

named_is : (P : Instance) (ws : Words) → named_at P ws ≡ read_line (rules_kinds P) ws
unfolding named_at
named_is P ws = sym (one_kind (rules_kind P) ws)

pub rules_answered : (P : Instance) (bytes body : List ℕ) (o : Option (List ℕ)) → KeepsLimits P → bytes ≡ body ++ 10 ∷ [] → named_at P (words_of body) ≡ o → SpellsRules P bytes o
rules_answered P bytes body None k e h = λ R are f.
    let w = named_is P (words_of body) ∙ line_spelled (rules_kinds P) (rules_fields R) R bytes body (rules_readable P (is_writable P k)) (rules_line P R are) e f in absurd (cc)
rules_answered P bytes body (Some R) k e h =
    let f = rules_found P (words_of body) R (line_found (rules_kinds P) (words_of body) R (sym (named_is P (words_of body)) ∙ h)) in
    (f.1, words_text bytes body (rules_fields R) e f.0)

-- goals

goal_is : (P : Instance) (ws : Words) → goal_at P ws ≡ read_line (goal_kinds P) ws
unfolding goal_at
goal_is P ws = sym (one_kind (goal_kind P) ws)

pub goal_found : (P : Instance) (ws : Words) (goal : ℕ) → IsLine (goal_kinds P) ws goal → (ws ≡ goal_fields goal) × (goal ≤ P.weeks + 1)
goal_found P [] goal l = absurd (no_words (goal_kinds P) goal l)
goal_found P (w ∷ ws) goal (inl l) =
    let s = l.1 in
    subst (λ n. (w ∷ ws ≡ goal_fields n) × (n ≤ P.weeks + 1)) s.made (ap (λ z. z ∷ ws) l.0 ∙ ap (λ us. codes "goal" ∷ us) s.spelled, s.keeps.0.1)
goal_found P (w ∷ ws) goal (inr l) = absurd l

pub goal_answered : (P : Instance) (bytes body : List ℕ) (o : Option ℕ) → KeepsLimits P → bytes ≡ body ++ 10 ∷ [] → goal_at P (words_of body) ≡ o → SpellsGoal P bytes o
goal_answered P bytes body None k e h = λ goal le f.
    let w = goal_is P (words_of body) ∙ line_spelled (goal_kinds P) (goal_fields goal) goal bytes body (goal_readable P (is_writable P k)) (goal_line P goal le) e f in absurd (cc)
goal_answered P bytes body (Some goal) k e h =
    let f = goal_found P (words_of body) goal (line_found (goal_kinds P) (words_of body) goal (sym (goal_is P (words_of body)) ∙ h)) in
    (f.1, words_text bytes body (goal_fields goal) e f.0)

-- turns

turn_is : (P : Instance) (ws : Words) → turn_at P ws ≡ read_line (turn_kinds P) ws
unfolding turn_at
turn_is P ws = sym (one_kind (turn_kind P) ws)

pub turn_found : (P : Instance) (bytes body name : List ℕ) (day : ℕ) → bytes ≡ body ++ 10 ∷ [] → turn_at P (words_of body) ≡ Some (name, day) → SpellsTurn P bytes name day
turn_found P bytes body name day e h =
    let f = turn_line_found P (words_of body) name day (line_found (turn_kinds P) (words_of body) (name, day) (sym (turn_is P (words_of body)) ∙ h)) in
    (f.1, f.2, words_text bytes body (turn_fields name day) e f.0)

pub turn_missed : (P : Instance) (bytes body : List ℕ) → KeepsLimits P → bytes ≡ body ++ 10 ∷ [] → turn_at P (words_of body) ≡ None → (name : List ℕ) (day : ℕ) → SpellsTurn P bytes name day → ⊥
turn_missed P bytes body k e h name day spells =
    let read = turn_is P (words_of body) ∙ line_spelled (turn_kinds P) (turn_fields name day) (name, day) bytes body (turn_readable P (is_writable P k)) (turn_line P name day spells.0 spells.1) e spells.2 in
    cc

pub turn_no_feed : (P : Instance) (bytes : List ℕ) → ((body : List ℕ) → bytes ≢ body ++ 10 ∷ []) → (name : List ℕ) (day : ℕ) → SpellsTurn P bytes name day → ⊥
turn_no_feed P bytes none name day spells = none (join_with_byte 32 (codes "turn" ∷ name ∷ decimal day ∷ [])) spells.2

-- given cells

cells_is : (P : Instance) (ws : Words) → cells_line_at P ws ≡ read_line (cells_kinds P) ws
unfolding cells_line_at
cells_is P ws = under (word_at (codes "cells") ws) ∙ sym (one_kind (cells_kind P) ws)
  where
    under : (o : Option Words) → (o >>= (λ rest. cells_at P.weeks P.days rest)) ≡ (o >>= (λ rest. cells_at P.weeks P.days rest >>= (λ c. Some c)))
    under None = refl
    under (Some rest) = sym (same_bound (cells_at P.weeks P.days rest))

-- the words of a line that says cells
cells_said : (P : Instance) (bytes body : List ℕ) (named : List NamedCell) → bytes ≡ body ++ 10 ∷ [] → cells_line_at P (words_of body) ≡ Some named → SpellsCells P bytes named
cells_said P bytes body named e h =
    let f = cells_line_found P (words_of body) named (line_found (cells_kinds P) (words_of body) named (sym (cells_is P (words_of body)) ∙ h)) in
    (f.1, words_text bytes body (cells_fields P named) e f.0)

-- where the names are those of symbols, it spells given cells
given_spelled : (P : Instance) (bytes : List ℕ) (named : List NamedCell) (given : List GivenCell) → SpellsCells P bytes named → AreNamesOf P named given → SpellsGivenCells P bytes given
given_spelled P bytes named given s a =
    let t : SpellsCells P bytes (map (named_cell P) given) = subst (SpellsCells P bytes) a.0 s in
    ((subst IsStrictlyIncreasing (same_places P given) t.0.0, a.1), t.1)

-- the answer to the words of a line is the answer to the line
pub cells_answered : (P : Instance) (bytes body : List ℕ) (o : Option (List NamedCell)) (r : Result (List GivenCell) (Fail LineRefusal)) → KeepsLimits P → bytes ≡ body ++ 10 ∷ [] → cells_line_at P (words_of body) ≡ o → AnswersCells P o r → MatchAnswer r (SpellsGivenCells P bytes) (AreCellsRefused P bytes)
cells_answered P bytes body None (Ok given) k e h a = absurd a
cells_answered P bytes body None (Err (Refused Form)) k e h a = λ named s.
    let w = cells_is P (words_of body) ∙ line_spelled (cells_kinds P) (cells_fields P named) named bytes body (cells_readable P (is_writable P k)) (cells_line P named s.0) e s.1 in absurd (cc)
cells_answered P bytes body None (Err (Refused Name)) k e h a = absurd a
cells_answered P bytes body (Some named) (Ok given) k e h a = given_spelled P bytes named given (cells_said P bytes body named e h) a
cells_answered P bytes body (Some named) (Err (Refused Form)) k e h a = absurd a
cells_answered P bytes body (Some named) (Err (Refused Name)) k e h a = (named, cells_said P bytes body named e h, a)
cells_answered P bytes body o (Err Memory) k e h a = tt

pub cells_no_feed : (P : Instance) (bytes : List ℕ) → ((body : List ℕ) → bytes ≢ body ++ 10 ∷ []) → AreCellsRefused P bytes Form
cells_no_feed P bytes none named s = none (join_with_byte 32 (cells_fields P named)) s.1
