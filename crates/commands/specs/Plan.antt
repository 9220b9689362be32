-- What `plan` answers.
use Rattle.std.specs.Prelude.{◌≡◌, ℕ, Bool, true, false, List, [], ◌∷◌, ◌++◌, length, nat_le}
use Rattle.rwsp_terms.specs.Instance.{Instance}
use Rattle.rwsp_terms.specs.Roster.{IsRoster}
use Rattle.refutation_terms.specs.Log.{Log, Fits, Passes}
use Rattle.refutation_terms.specs.Strip.{IsReduced}
use Rattle.refutation_terms.specs.LogText.{log_text}
use Rattle.roster_print.specs.RosterText.{roster_text}
use Rattle.refutation_log.specs.Planned.{IsPlanned, IsCounted}
use Rattle.refutation_log.specs.declared.found.Found.{Found}
use Rattle.refutation_log.specs.declared.found.Found.TheVariants.{Roster, NoRoster, Undecided}
use Rattle.plain_words.specs.Statements.{Statement, plain, told_lines}
use Rattle.plain_words.specs.LogTold.{log_statements, reduced_statements}
use Rattle.plain_words.specs.declared.reason.Rosters.TheVariants.{Every}
use Rattle.plain_words.specs.declared.pieces.TheConstants.{BUDGET_SPENT, MEND_LOOKS, REDUCE_MAY}
use Rattle.commands.specs.Told.{said_behind, refuted_statements}
use Rattle.commands.specs.declared.plan.TheConstants.{MOST_LINES_REDUCED}

-- what a plan finds within the budget, which counts blocks or not
abbrev pub IsPlanAnswer : Instance → ℕ → Bool → Found → Type 0
IsPlanAnswer P budget counts found = IsPlanned P budget found × IsCounted P counts found

abbrev pub plan_text : Instance → Found → List ℕ
plan_text P (Roster s) = roster_text P s.cells
plan_text P (NoRoster g) = log_text P g
plan_text P (Undecided g) = log_text P g

-- what the answer names is the instance's, and where there is no roster the log passes
abbrev pub IsPlanOf : Instance → Found → Type 0
IsPlanOf P (Roster s) = (s.days ≡ P.days) × IsRoster P s.cells
IsPlanOf P (NoRoster g) = Passes P g
IsPlanOf P (Undecided g) = Fits P g

-- of a log that isn't long, what is said of its reduction; of another, that reducing it may help
abbrev pub IsSaidShortly : Bool → Instance → Log → List Statement → Type 0
IsSaidShortly true P g said = (h : Log) × IsReduced P g h × (said ≡ reduced_statements P (length g.named) h)
IsSaidShortly false P g said = said ≡ log_statements P Every g ++ plain REDUCE_MAY.now ∷ []

-- the text has got longer by its lines
abbrev pub TellsShortly : Bool → Instance → Log → (before now : List ℕ) → Type 0
TellsShortly short P g before now =
    (said : List Statement) × IsSaidShortly short P g said × (now ≡ before ++ told_lines P said)

-- which statements are told of a refutation
abbrev pub ArePlanStatements : Instance → Log → List Statement → Type 0
ArePlanStatements P g statements =
    (said : List Statement) × IsSaidShortly (nat_le (length g.lines) MOST_LINES_REDUCED) P g said
    × (statements ≡ refuted_statements g ++ said ++ plain MEND_LOOKS.now ∷ [])

-- what is told of an answer
abbrev pub IsPlanTold : Instance → Found → List ℕ → Type 0
IsPlanTold P (Roster s) text = text ≡ []
IsPlanTold P (NoRoster g) text =
    (statements : List Statement) × ArePlanStatements P g statements × (text ≡ told_lines P statements)
IsPlanTold P (Undecided g) text = text ≡ told_lines P (said_behind P BUDGET_SPENT.now g)

abbrev pub plan_status : Found → ℕ
plan_status (Roster s) = 0
plan_status (NoRoster g) = 1
plan_status (Undecided g) = 4

-- two answers that may both fit: not a roster beside a refutation
abbrev pub PlansAgree : Found → Found → Type 0
PlansAgree (Roster s) (NoRoster g) = ⊥
PlansAgree (NoRoster g) (Roster s) = ⊥
PlansAgree a b = Unit {0}
