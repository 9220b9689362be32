-- Answers of `best`, by reading alone: what their logs say isn't judged.
use Rattle.std.specs.Prelude.{◌≡◌, ℕ, zero, suc, ◌+◌, ◌-◌, ◌==◌, List, [], ◌∷◌, ◌++◌, Some, codes, if◌then◌else◌}
use Rattle.std.specs.Fmt.{decimal}
use Rattle.rwsp_terms.specs.declared.limits.TheConstants.{DAYS_OF_WEEK}
use Rattle.rwsp_terms.specs.declared.data.Symbol.{Symbol}
use Rattle.rwsp_terms.specs.Instance.{Instance}
use Rattle.rwsp_terms.specs.Roster.{IsRoster}
use Rattle.roster_print.specs.RosterText.{roster_text}
use Rattle.refutation_terms.specs.FreeWeekends.{free_weekends}
use Rattle.refutation_terms.specs.Tree.{IsTree}
use Rattle.refutation_terms.specs.Log.{Log, Fits}
use Rattle.refutation_terms.specs.LogText.{log_text}
use Rattle.commands.specs.Lines.{line}

-- the bytes are a free log with this goal that fits the problem and is one whole tree
pub record IsFreeLog (P : Instance) (goal : ℕ) (bytes : List ℕ) : Type 0 where
  pub log : Log
  pub with_goal : log.goal ≡ Some goal
  pub fits : Fits P log
  pub tree : IsTree log.lines
  pub text : bytes ≡ log_text P log

-- the line that says how many free weekends there are
abbrev pub free_line : ℕ → List ℕ
free_line n = line (codes "free " ++ decimal n)

-- the bytes are an answer of `best` with this roster: how many free weekends it has, its text, and a free log for one
-- more
pub record IsBestWith (P : Instance) (bytes : List ℕ) (s : List Symbol) : Type 0 where
  pub weekly : P.days ≡ DAYS_OF_WEEK
  pub roster : IsRoster P s
  pub log : List ℕ
  pub free : IsFreeLog P (free_weekends s + 1) log
  pub whole : bytes ≡ free_line (free_weekends s) ++ roster_text P s ++ log

-- the same of its three parts
pub record AreBestParts (P : Instance) (first part log : List ℕ) (s : List Symbol) : Type 0 where
  pub roster : IsRoster P s
  pub counted : first ≡ free_line (free_weekends s)
  pub printed : part ≡ roster_text P s
  pub free : IsFreeLog P (free_weekends s + 1) log

-- of n lines, how many are left behind a byte
abbrev pub left_behind : (n b : ℕ) → ℕ
left_behind n b = if b == 10 then n - 1 else n

-- how many bytes the first n lines have
unfoldable pub lines_len : (n : ℕ) → List ℕ → ℕ
lines_len n [] = 0
lines_len zero (b ∷ bytes) = 0
lines_len (suc n) (b ∷ bytes) = lines_len (left_behind (suc n) b) bytes + 1
