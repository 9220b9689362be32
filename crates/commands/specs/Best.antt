-- What `best` answers.
use Rattle.std.specs.Prelude.{◌≡◌, ℕ, ◌+◌, ◌*◌, ◌^◌, ◌<◌, Bool, List, [], ◌∷◌, ◌++◌, codes, Option, Some, None}
use Rattle.std.specs.Fmt.{decimal}
use Rattle.rwsp_terms.specs.declared.limits.TheConstants.{DAYS_OF_WEEK}
use Rattle.rwsp_terms.specs.Instance.{Instance, cells, shift_count}
use Rattle.rwsp_terms.specs.Roster.{IsRoster}
use Rattle.rwsp_model.specs.declared.roster.Roster.{Roster}
use Rattle.refutation_terms.specs.Log.{Fits}
use Rattle.refutation_terms.specs.LogText.{log_text}
use Rattle.refutation_terms.specs.FreeWeekends.{free_weekends}
use Rattle.roster_print.specs.RosterText.{roster_text}
use Rattle.refutation_log.specs.Bests.{IsBestFound, IsBestCounted, IsUndecided}
use Rattle.refutation_log.specs.declared.best_found.BestFound.{BestFound}
use Rattle.refutation_log.specs.declared.best_found.BestFound.TheVariants.{Best, NoRoster, Undecided}
use Rattle.plain_words.specs.Statements.{Statement, Says, told_lines}
use Rattle.plain_words.specs.LogTold.{log_statements, rosters_of}
use Rattle.plain_words.specs.declared.pieces.TheConstants.{BUDGET_SPENT, HAS_WEEKENDS}
use Rattle.plain_words.specs.declared.part.Part.TheVariants.{Weekends}
use Rattle.commands.specs.Told.{said_behind, refuted_statements}
use Rattle.commands.specs.Lines.{line}

-- a roster with a proof that none has more free weekends; or a proof that there is no roster; or what is known where
-- the budget was spent, which a budget for all assignments can't be. It counts blocks or not
abbrev pub IsBestAnswer : Instance → ℕ → Bool → BestFound → Type 0
IsBestAnswer P budget counts found =
    IsBestFound P budget found × (IsUndecided found → budget + 1 < 2 * (shift_count P + 1) ^ cells P)
    × IsBestCounted P counts found

-- how many free weekends a roster has, and the roster
abbrev pub counted_text : Instance → Roster → List ℕ
counted_text P s = line (codes "free " ++ decimal (free_weekends s.cells)) ++ roster_text P s.cells

-- the same where there is one
abbrev pub found_text : Instance → Option Roster → List ℕ
found_text P None = []
found_text P (Some s) = counted_text P s

abbrev pub best_text : Instance → BestFound → List ℕ
best_text P (Best s g) = counted_text P s ++ log_text P g
best_text P (NoRoster g) = log_text P g
best_text P (Undecided s g) = found_text P s ++ log_text P g

-- a roster is one of the instance, whose week has seven days
abbrev pub IsWeeklyRoster : Instance → Roster → Type 0
IsWeeklyRoster P s = (P.days ≡ DAYS_OF_WEEK) × (s.days ≡ P.days) × IsRoster P s.cells

-- the same where there is one
abbrev pub IsRosterFound : Instance → Option Roster → Type 0
IsRosterFound P None = Unit {0}
IsRosterFound P (Some s) = IsWeeklyRoster P s

-- what the answer names is the instance's
abbrev pub IsBestOf : Instance → BestFound → Type 0
IsBestOf P (Best s g) = IsWeeklyRoster P s × Fits P g
IsBestOf P (NoRoster g) = Fits P g
IsBestOf P (Undecided s g) = IsRosterFound P s × Fits P g

-- which statements are told of an answer
abbrev pub best_statements : Instance → BestFound → List Statement
best_statements P (Best s g) =
    Says HAS_WEEKENDS.now (Weekends (free_weekends s.cells) ∷ []) ∷ log_statements P (rosters_of g) g
best_statements P (NoRoster g) = refuted_statements g ++ log_statements P (rosters_of g) g
best_statements P (Undecided s g) = said_behind P BUDGET_SPENT.now g

-- what is told of an answer
abbrev pub IsBestTold : Instance → BestFound → List ℕ → Type 0
IsBestTold P found text = text ≡ told_lines P (best_statements P found)

abbrev pub best_status : BestFound → ℕ
best_status (Best s g) = 0
best_status (NoRoster g) = 1
best_status (Undecided s g) = 4

-- the roster of an answer, where it has one
abbrev pub best_roster : BestFound → Option Roster
best_roster (Best s g) = Some s
best_roster (NoRoster g) = None
best_roster (Undecided s g) = s

-- a roster, where there is one, has fewer free weekends
abbrev pub StaysBelow : Option Roster → ℕ → Type 0
StaysBelow None goal = Unit {0}
StaysBelow (Some s) goal = free_weekends s.cells < goal

-- what such a search proves bounds what another has found
abbrev pub Bounds : BestFound → BestFound → Type 0
Bounds (Best s g) b = StaysBelow (best_roster b) (free_weekends s.cells + 1)
Bounds (NoRoster g) b = StaysBelow (best_roster b) 0
Bounds (Undecided s g) b = Unit {0}

-- two answers that may both fit: never a roster beside a proof that there is none, and two best rosters have equally
-- many free weekends
abbrev pub BestsAgree : BestFound → BestFound → Type 0
BestsAgree (Best s g) (Best t h) = free_weekends s.cells ≡ free_weekends t.cells
BestsAgree a b = Bounds a b × Bounds b a
