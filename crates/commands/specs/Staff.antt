-- What `staff` answers.
use Rattle.std.specs.Prelude.{◌≡◌, ℕ, ◌*◌, ◌<◌, ◌≤◌, Bool, List, [], ◌∷◌, ◌++◌, codes, Some}
use Rattle.std.specs.Fmt.{decimal}
use Rattle.rwsp_terms.specs.declared.limits.TheConstants.{MOST_CELLS}
use Rattle.rwsp_terms.specs.Instance.{Instance}
use Rattle.crew_size.specs.Runs.{IsStaffed, IsStaffCounted}
use Rattle.crew_size.specs.Texts.{staff_text}
use Rattle.crew_size.specs.Fitting.{FitsSizes}
use Rattle.crew_size.specs.Laws.{decision_of}
use Rattle.crew_size.specs.declared.verdict.Staffed.{Staffed}
use Rattle.crew_size.specs.declared.run.StaffEnd.{StaffEnd}
use Rattle.crew_size.specs.declared.run.StaffEnd.TheVariants.{Least, NoneTo, Undecided}
use Rattle.plain_words.specs.Statements.{Statement, Says, plain, told_lines}
use Rattle.plain_words.specs.declared.part.Part.TheVariants.{Number}
use Rattle.plain_words.specs.LogTold.{staff_statements}
use Rattle.plain_words.specs.declared.pieces.TheConstants.{LAST_LOG_SPENT, STAFF_RANGE}
use Rattle.commands.specs.Lines.{line}
use Rattle.commands.specs.declared.staff.Answer.{Answer}
use Rattle.commands.specs.declared.staff.Answer.TheVariants.{Run, Range}

-- what an answer says of the problem with each number of weeks from the first to the last; these are refused exactly
-- where the last one gives too many cells
abbrev pub IsStaffAnswer : Instance → (low high budget : ℕ) → (counts : Bool) → Answer → Type 0
IsStaffAnswer P low high budget counts (Range weeks) = (weeks ≡ high) × (MOST_CELLS < high * P.days)
IsStaffAnswer P low high budget counts (Run run) =
    (low ≤ high) × (high * P.days ≤ MOST_CELLS) × IsStaffed P low high budget run × IsStaffCounted P counts run

abbrev pub staff_answer_text : Instance → Answer → List ℕ
staff_answer_text P (Run run) = staff_text P run
staff_answer_text P (Range weeks) = line (codes "staff range: weeks " ++ decimal weeks)

-- what the answer names is the instance's
abbrev pub IsStaffAnswerOf : Instance → Answer → Type 0
IsStaffAnswerOf P (Run run) = FitsSizes P run
IsStaffAnswerOf P (Range weeks) = Unit {0}

-- where the sizes ended with a roster, with none for any of them, or undecided
abbrev pub end_status : StaffEnd → ℕ
end_status (Least s) = 0
end_status NoneTo = 1
end_status (Undecided g) = 4

-- that the budget was spent, where it was
abbrev pub spent_statements : StaffEnd → List Statement
spent_statements (Undecided g) = plain LAST_LOG_SPENT.now ∷ []
spent_statements end = []

-- what is told of an answer
abbrev pub IsStaffTold : Instance → Answer → List ℕ → Type 0
IsStaffTold P (Run run) text = text ≡ told_lines P (spent_statements run.end ++ staff_statements P run)
IsStaffTold P (Range weeks) text = text ≡ told_lines P (Says STAFF_RANGE.now (Number weeks ∷ []) ∷ [])

abbrev pub staff_status : Answer → ℕ
staff_status (Run run) = end_status run.end
staff_status (Range weeks) = 3

-- two answers that may both fit: searches that decide say the same, and the same number of weeks is too great
abbrev pub StaffsAgree : Answer → Answer → Type 0
StaffsAgree (Range m) (Range n) = m ≡ n
StaffsAgree (Run a) (Run b) = (x y : Staffed) → decision_of a ≡ Some x → decision_of b ≡ Some y → x ≡ y
StaffsAgree a b = ⊥
