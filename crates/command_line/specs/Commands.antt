-- The command lines that are accepted.
use Rattle.std.specs.Prelude.{◌≡◌, ℕ, ◌+◌, ◌<◌, ◌≤◌, List, [], ◌∷◌, ◌++◌, map, Option, Some, None, MatchOption, String, codes}
use Rattle.std.specs.Option.{option_map}
use Rattle.std.specs.String.{string_bytes}
use Rattle.std.specs.declared.alloc.Global.{Global}
use Rattle.rwsp_terms.specs.declared.limits.TheConstants.{MOST_WEEKS, USUAL_BUDGET, GREATEST_BUDGET, LONGEST_CALENDAR, USUAL_WORKERS, MOST_WORKERS, MOST_SIZES, USUAL_STAFF_BUDGET, GREATEST_STAFF_BUDGET, USUAL_BEST_BUDGET, LONGEST_REST}
use Rattle.rwsp_text.specs.Fields.{Words}
use Rattle.crew_calendar.specs.Calendar.{FitsDates, IsNotBefore}
use Rattle.command_line.specs.Forms.{Field, File, Number, Day, Range, Setting, Optional, Options, Perhaps, Form, field_at, said_by, forms_text}
use Rattle.command_line.specs.declared.command.TheConstants.{GREATEST_NUMBER, USUAL_MEND_BUDGET}
use Rattle.command_line.specs.declared.command.Command.{Command}
use Rattle.command_line.specs.declared.command.Command.TheVariants.{Trial, OnProblem, OnFiles, Explain}
use Rattle.command_line.specs.declared.command.ProblemTask.{ProblemTask}
use Rattle.command_line.specs.declared.command.ProblemTask.TheVariants.{Plan, Show, Best, Staff, Mend, Rest}
use Rattle.command_line.specs.declared.command.CrewLayout.{CrewLayout}
use Rattle.command_line.specs.declared.command.CrewLayout.TheVariants.{Table, Duties, Csv}
use Rattle.command_line.specs.declared.command.FilesTask.{FilesTask}
use Rattle.command_line.specs.declared.command.FilesTask.TheVariants.{Check, Verify, Reduce, CheckFree, CheckStaff, Crew, Page, Ics, On, Roster, Fill, CheckFill}

-- the words behind the program's name
abbrev pub CommandWords : Type 0
CommandWords = List (String Global)

-- the problem's file
abbrev pub problem_file : Field
problem_file = File (codes "FILE")

-- the budget, in lines of a log
abbrev pub budget : (usual greatest : ℕ) → Setting
budget usual greatest =
    record { word = codes "--budget"; label = codes "B"; least = 1; usual = usual; greatest = greatest }

-- the seed of random numbers
abbrev pub random_seed : Setting
random_seed = record { word = codes "--seed"; label = codes "S"; least = 0; usual = 0; greatest = GREATEST_NUMBER }

-- how many work
abbrev pub worker_count : Setting
worker_count =
    record { word = codes "--workers"; label = codes "N"; least = 1; usual = USUAL_WORKERS; greatest = MOST_WORKERS }

abbrev pub plan_form : Form Command
plan_form = record {
  word = codes "plan";
  fields = problem_file ∷ Options (budget USUAL_BUDGET GREATEST_BUDGET) random_seed ∷ [];
  make = λ v. OnProblem v.0 (Plan v.1.0.0.0 v.1.0.0.1 v.1.0.1.0);
}

abbrev pub check_form : Form Command
check_form = record {
  word = codes "check";
  fields = problem_file ∷ File (codes "LOG") ∷ Optional worker_count ∷ [];
  make = λ v. OnFiles v.0 v.1.0 (Check v.1.1.0.0);
}

-- a form of two files and nothing else
abbrev pub files_form : (word label : List ℕ) → FilesTask → Form Command
files_form word label task =
    record { word = word; fields = problem_file ∷ File label ∷ []; make = λ v. OnFiles v.0 v.1.0 task }

abbrev pub show_form : Form Command
show_form = record { word = codes "show"; fields = problem_file ∷ []; make = λ v. OnProblem v.0 Show }

abbrev pub trial_form : Form Command
trial_form = record {
  word = codes "trial";
  fields = Number (codes "NUMBER") 0 GREATEST_NUMBER ∷ Number (codes "WEEKS") 1 MOST_WEEKS ∷ [];
  make = λ v. Trial v.0 v.1.0;
}

abbrev pub best_form : Form Command
best_form = record {
  word = codes "best";
  fields = problem_file ∷ Optional (budget USUAL_BEST_BUDGET GREATEST_BUDGET) ∷ [];
  make = λ v. OnProblem v.0 (Best v.1.0.0 v.1.0.1);
}

abbrev pub staff_form : Form Command
staff_form = record {
  word = codes "staff";
  fields =
      problem_file ∷ Range (codes "LOW") (codes "HIGH") MOST_WEEKS MOST_SIZES
      ∷ Optional (budget USUAL_STAFF_BUDGET GREATEST_STAFF_BUDGET) ∷ [];
  make = λ v. OnProblem v.0 (Staff v.1.0.0 v.1.0.1 v.1.1.0.0 v.1.1.0.1);
}

-- who is shown: one employee, or all, in a table or for a spreadsheet
abbrev pub crew_field : Field
crew_field = Perhaps (Number (codes "EMPLOYEE") 1 MOST_WEEKS) (codes "--csv")

abbrev pub layout_of : Option (Option ℕ) → CrewLayout
layout_of None = Table
layout_of (Some None) = Csv
layout_of (Some (Some e)) = Duties e

-- what the words ask for there
abbrev pub layout_at : Words → Option (CrewLayout × Words)
layout_at ws = option_map (λ v. (layout_of v.0, v.1)) (field_at crew_field ws)

abbrev pub crew_form : Form Command
crew_form = record {
  word = codes "crew";
  fields =
      problem_file ∷ File (codes "ROSTER") ∷ Day (codes "DATE") ∷ Number (codes "DAYS") 1 LONGEST_CALENDAR
      ∷ crew_field ∷ [];
  make = λ v. OnFiles v.0 v.1.0 (Crew v.1.1.0 v.1.1.1.0 (layout_of v.1.1.1.1.0));
}

abbrev pub mend_form : Form Command
mend_form = record {
  word = codes "mend";
  fields = problem_file ∷ Optional (budget USUAL_MEND_BUDGET GREATEST_BUDGET) ∷ [];
  make = λ v. OnProblem v.0 (Mend v.1.0.0 v.1.0.1);
}

abbrev pub fill_form : Form Command
fill_form = record {
  word = codes "fill";
  fields = problem_file ∷ File (codes "CELLS") ∷ Optional (budget USUAL_BUDGET GREATEST_BUDGET) ∷ [];
  make = λ v. OnFiles v.0 v.1.0 (Fill v.1.1.0.0);
}

abbrev pub rest_form : Form Command
rest_form = record {
  word = codes "rest";
  fields = problem_file ∷ Number (codes "MINUTES") 0 LONGEST_REST ∷ [];
  make = λ v. OnProblem v.0 (Rest v.1.0);
}

abbrev pub ics_form : Form Command
ics_form = record {
  word = codes "ics";
  fields =
      problem_file ∷ File (codes "ROSTER") ∷ Day (codes "DATE") ∷ Number (codes "DAYS") 1 LONGEST_CALENDAR
      ∷ Number (codes "EMPLOYEE") 1 MOST_WEEKS ∷ [];
  make = λ v. OnFiles v.0 v.1.0 (Ics v.1.1.0 v.1.1.1.0 v.1.1.1.1.0);
}

abbrev pub on_form : Form Command
on_form = record {
  word = codes "on";
  fields = problem_file ∷ File (codes "ROSTER") ∷ Day (codes "START") ∷ Day (codes "DATE") ∷ [];
  make = λ v. OnFiles v.0 v.1.0 (On v.1.1.0 v.1.1.1.0);
}

abbrev pub explain_form : Form Command
explain_form = record { word = codes "explain"; fields = problem_file ∷ []; make = λ v. Explain v.0 }

-- the table, in the order of the line of usage
abbrev pub forms : List (Form Command)
forms =
    plan_form ∷ check_form ∷ files_form (codes "verify") (codes "ROSTER") Verify
    ∷ files_form (codes "reduce") (codes "LOG") Reduce ∷ show_form ∷ trial_form ∷ best_form
    ∷ files_form (codes "check-free") (codes "LOG") CheckFree ∷ staff_form
    ∷ files_form (codes "check-staff") (codes "TEXT") CheckStaff ∷ crew_form
    ∷ mend_form ∷ fill_form ∷ files_form (codes "check-fill") (codes "LOG") CheckFill ∷ rest_form
    ∷ files_form (codes "page") (codes "ROSTER") Page ∷ ics_form ∷ on_form
    ∷ files_form (codes "roster") (codes "ANSWER") Roster ∷ explain_form ∷ []

-- the words are a form of the command
abbrev pub IsForm : CommandWords → Command → Type 0
IsForm words command = said_by forms (map string_bytes words) ≡ Some command

-- the words are a form of no command
abbrev pub HasNoForm : CommandWords → Type 0
HasNoForm words = (command : Command) → IsForm words command → ⊥

-- the command that the words are a form of, or none where they are a form of none
abbrev pub IsCommandOf : CommandWords → Option Command → Type 0
IsCommandOf words answer = MatchOption answer (HasNoForm words) (IsForm words)

-- the line of usage
unfoldable pub usage_text : List ℕ
usage_text = codes "usage: rwsp " ++ forms_text forms

-- the name of the problem's file
abbrev pub file_of : Command → List ℕ
file_of (Trial number weeks) = []
file_of (OnProblem file task) = file
file_of (OnFiles file second task) = file
file_of (Explain file) = file

-- the name of the second file; `explain` has the bytes of the problem's file to explain
abbrev pub second_of : Command → List ℕ
second_of (OnFiles file second task) = second
second_of (Explain file) = file
second_of command = []

-- the command reads a problem's file
abbrev pub ReadsProblem : Command → Type 0
ReadsProblem (Trial number weeks) = ⊥
ReadsProblem command = Unit {0}

-- the command reads a second file
abbrev pub ReadsSecond : Command → Type 0
ReadsSecond (OnFiles file second task) = Unit {0}
ReadsSecond (Explain file) = Unit {0}
ReadsSecond command = ⊥

-- n is from 1 to a limit
abbrev pub IsUpTo : (limit n : ℕ) → Type 0
IsUpTo limit n = (1 ≤ n) × (n ≤ limit)

-- the numbers of a task on a problem are in their ranges
abbrev pub IsProblemTaskInRange : ProblemTask → Type 0
IsProblemTaskInRange Show = Unit {0}
IsProblemTaskInRange (Plan budget counts seed) = IsUpTo GREATEST_BUDGET budget
IsProblemTaskInRange (Best budget counts) = IsUpTo GREATEST_BUDGET budget
IsProblemTaskInRange (Mend budget counts) = IsUpTo GREATEST_BUDGET budget
IsProblemTaskInRange (Rest minutes) = minutes ≤ LONGEST_REST
IsProblemTaskInRange (Staff low high budget counts) =
    (1 ≤ low) × (low ≤ high) × (high ≤ MOST_WEEKS) × (high < low + MOST_SIZES) × IsUpTo GREATEST_STAFF_BUDGET budget

-- the number of an employee, where one is asked for
abbrev pub IsLayoutInRange : CrewLayout → Type 0
IsLayoutInRange (Duties e) = 1 ≤ e
IsLayoutInRange layout = Unit {0}

-- the numbers of a task on two files are in their ranges
abbrev pub IsFilesTaskInRange : FilesTask → Type 0
IsFilesTaskInRange (Check workers) = IsUpTo MOST_WORKERS workers
IsFilesTaskInRange (Crew date days layout) = IsUpTo LONGEST_CALENDAR days × IsLayoutInRange layout
IsFilesTaskInRange (Ics date days employee) = IsUpTo LONGEST_CALENDAR days × (1 ≤ employee)
IsFilesTaskInRange (Fill budget) = IsUpTo GREATEST_BUDGET budget
IsFilesTaskInRange task = Unit {0}

-- the numbers of a command are in their ranges
abbrev pub IsInRange : Command → Type 0
IsInRange (Trial number weeks) = IsUpTo MOST_WEEKS weeks
IsInRange (OnProblem file task) = IsProblemTaskInRange task
IsInRange (OnFiles file second task) = IsFilesTaskInRange task
IsInRange (Explain file) = Unit {0}

-- a calendar that the task asks for ends by 9999-12-31, with all duties, and a date isn't before the roster's first day
abbrev pub EndsInTime : FilesTask → Type 0
EndsInTime (Crew date days layout) = FitsDates date days
EndsInTime (Ics date days employee) = FitsDates date days
EndsInTime (On start date) = IsNotBefore start date
EndsInTime task = Unit {0}

abbrev pub IsWithinHorizon : Command → Type 0
IsWithinHorizon (OnFiles file second task) = EndsInTime task
IsWithinHorizon command = Unit {0}
