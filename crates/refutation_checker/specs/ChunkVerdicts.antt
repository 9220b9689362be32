-- Lines that are judged behind other lines, and the answer to the bytes of such lines.
use Rattle.std.specs.Prelude.{◌≡◌, ◌↔◌, ℕ, List, [], ◌∷◌, ◌++◌, Bool, IsTrue, Result, Ok, Err}
use Rattle.rwsp_model.specs.Refusals.{MatchAnswer}
use Rattle.rwsp_model.specs.declared.fail.Fail.{Fail}
use Rattle.refutation_terms.specs.declared.lines.Line.{Line}
use Rattle.refutation_terms.specs.declared.lines.Opening.{Opening}
use Rattle.refutation_terms.specs.declared.lines.LogRefusal.{LogRefusal}
use Rattle.refutation_terms.specs.Tree.{IsTree}
use Rattle.rwsp_text.specs.Lines.{IsNextLine}
use Rattle.refutation_terms.specs.Verdict.{CauseBehind}
use Rattle.refutation_terms.specs.LogText.{lines_text}
use Rattle.refutation_checker.specs.Starts.{Start, StandsBehind}
use Rattle.refutation_checker.specs.LineTexts.{Judging, log_of, IsSoundNext}

-- behind the earlier lines none of the further lines is refused
abbrev pub AreSoundBehind : Judging → Opening → List Line → List Line → Type 0
AreSoundBehind J o earlier [] = Unit {0}
AreSoundBehind J o earlier (line ∷ lines) =
    IsSoundNext J o earlier line × AreSoundBehind J o (earlier ++ line ∷ []) lines

-- the bytes are the text of such lines, and it is said whether the tree is whole with them
pub record AreAllSound (J : Judging) (o : Opening) (earlier : List Line) (bytes : List ℕ)
    (whole : Bool) : Type 0 where
  pub lines : List Line
  pub sound : AreSoundBehind J o earlier lines
  pub text : bytes ≡ lines_text J.problem J.goal lines
  pub tree : IsTrue whole ↔ IsTree (earlier ++ lines)

-- the bytes continue behind the text of such lines with a line that has this cause
pub record IsChunkRefused (J : Judging) (o : Opening) (earlier : List Line) (bytes : List ℕ)
    (why : LogRefusal) : Type 0 where
  pub lines : List Line
  pub line : List ℕ
  pub rest : List ℕ
  pub sound : AreSoundBehind J o earlier lines
  pub text : bytes ≡ lines_text J.problem J.goal lines ++ line ++ rest
  pub is_line : IsNextLine line rest
  pub cause : CauseBehind J.problem (log_of J o (earlier ++ lines)) line why

-- the answer to the bytes behind the earlier lines: whether the tree is whole with them, or why one is refused
abbrev pub IsJudged : Judging → Opening → List Line → List ℕ → Result Bool (Fail LogRefusal) → Type 0
IsJudged J o earlier bytes judged =
    MatchAnswer judged (AreAllSound J o earlier bytes) (IsChunkRefused J o earlier bytes)

-- the answer to a chunk, behind any lines behind which it begins
abbrev pub IsAnswerTo : Judging → Start → Result Bool (Fail LogRefusal) → Type 0
IsAnswerTo J chunk answer =
    (o : Opening) (earlier : List Line) → StandsBehind J.problem J.goal J.counts o earlier chunk
    → IsJudged J o earlier chunk.bytes answer

-- the first failure among answers, or else the last answer
abbrev pub joined_from : Bool → List (Result Bool (Fail LogRefusal)) → Result Bool (Fail LogRefusal)
joined_from whole [] = Ok whole
joined_from whole (Ok last ∷ answers) = joined_from last answers
joined_from whole (Err fail ∷ answers) = Err fail
