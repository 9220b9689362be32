-- The text of sections, each with the log of one size, and of the end behind them.
use Rattle.std.specs.Prelude.{ℕ, ◌+◌, ◌-◌, List, [], ◌∷◌, ◌++◌, length, codes}
use Rattle.std.specs.Fmt.{decimal}
use Rattle.rwsp_terms.specs.Instance.{Instance}
use Rattle.roster_print.specs.RosterText.{roster_text}
use Rattle.refutation_terms.specs.Log.{Log}
use Rattle.refutation_terms.specs.LogText.{log_text}
use Rattle.crew_size.specs.Sizes.{with_weeks}
use Rattle.crew_size.specs.declared.run.StaffEnd.{StaffEnd}
use Rattle.crew_size.specs.declared.run.StaffEnd.TheVariants.{Least, NoneTo, Undecided}

-- a heading: a word, a number, what is said of it, and LF
abbrev pub heading : List ℕ → ℕ → List ℕ → List ℕ
heading word m what = word ++ (decimal m ++ (what ++ 10 ∷ []))

-- the heading of m weeks without a roster
abbrev pub refuted_line : ℕ → List ℕ
refuted_line m = heading (codes "weeks ") m (codes " none")

-- of m weeks with a roster
abbrev pub roster_line : ℕ → List ℕ
roster_line m = heading (codes "weeks ") m (codes " roster")

-- of m weeks for which neither was found
abbrev pub undecided_line : ℕ → List ℕ
undecided_line m = heading (codes "weeks ") m (codes " undecided")

-- of an end without a roster
abbrev pub none_line : ℕ → List ℕ
none_line last = heading (codes "none to ") last []

-- a section: its heading, and the text of the log for the problem with that number of weeks
abbrev pub section_text : Instance → ℕ → Log → List ℕ
section_text P m g = refuted_line m ++ log_text (with_weeks P m) g

-- sections, whose sizes rise by one from m
abbrev pub sections_text : Instance → ℕ → List Log → List ℕ
sections_text P m [] = []
sections_text P m (g ∷ logs) = section_text P m g ++ sections_text P (m + 1) logs

-- the end behind the sections, where the next size is m
abbrev pub end_text : Instance → ℕ → StaffEnd → List ℕ
end_text P m (Least s) = roster_line m ++ roster_text (with_weeks P m) s.cells
end_text P m NoneTo = none_line (m - 1)
end_text P m (Undecided g) = undecided_line m ++ log_text (with_weeks P m) g

-- the first size, the log of each size from it on, and the end
pub record Staff : Type 0 where
  pub low : ℕ
  pub logs : List Log
  pub end : StaffEnd

-- the size behind the last log
abbrev pub next_size : Staff → ℕ
next_size run = run.low + length run.logs

-- the staff text of a run
abbrev pub staff_text : Instance → Staff → List ℕ
staff_text P run = sections_text P run.low run.logs ++ end_text P (next_size run) run.end
