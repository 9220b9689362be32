-- What `check-staff` answers.
use Rattle.std.specs.Prelude.{◌≡◌, ℕ, List, ◌++◌, codes}
use Rattle.std.specs.Fmt.{decimal}
use Rattle.rwsp_terms.specs.Instance.{Instance}
use Rattle.crew_size.specs.Laws.{AreSizesDecided}
use Rattle.crew_size.specs.Verdict.{IsStaffAccepted, IsStaffRefused}
use Rattle.crew_size.specs.declared.verdict.Staffed.{Staffed}
use Rattle.crew_size.specs.declared.verdict.Staffed.TheVariants as Decided
use Rattle.crew_size.specs.RefusalText.{staff_refusal_text, NamesItsOwn}
use Rattle.plain_words.specs.Statements.{Statement, told_lines}
use Rattle.plain_words.specs.Told.{staffed_statements, staff_refusal_statements}
use Rattle.commands.specs.Lines.{line}
use Rattle.commands.specs.declared.check_staff.Answer.{Answer}
use Rattle.commands.specs.declared.check_staff.Answer.TheVariants.{Accepted, Refused}

-- what an answer says of the bytes of a staff text: accepted is what the text decides, and so it is
abbrev pub IsCheckedStaff : Instance → List ℕ → Answer → Type 0
IsCheckedStaff P bytes (Accepted staffed) = IsStaffAccepted P bytes staffed × AreSizesDecided P staffed
IsCheckedStaff P bytes (Refused why) = IsStaffRefused P bytes why

-- what an accepted staff text decides
abbrev pub staffed_text : Staffed → List ℕ
staffed_text (Decided.Least low m) = (codes "accepted: least " ++ decimal m) ++ codes " from " ++ decimal low
staffed_text (Decided.NoneTo low last) = (codes "accepted: none " ++ decimal low) ++ codes " to " ++ decimal last

abbrev pub check_staff_text : Instance → Answer → List ℕ
check_staff_text P (Accepted staffed) = line (staffed_text staffed)
check_staff_text P (Refused why) = line (staff_refusal_text P why)

-- what the answer names is the instance's
abbrev pub IsCheckedStaffOf : Instance → Answer → Type 0
IsCheckedStaffOf P (Accepted staffed) = Unit {0}
IsCheckedStaffOf P (Refused why) = NamesItsOwn P why

-- what the statements about an answer are
abbrev pub check_staff_statements : Instance → Answer → List Statement
check_staff_statements P (Accepted staffed) = staffed_statements staffed
check_staff_statements P (Refused why) = staff_refusal_statements P why

-- what is told of an answer
abbrev pub IsCheckStaffTold : Instance → Answer → List ℕ → Type 0
IsCheckStaffTold P answer text = text ≡ told_lines P (check_staff_statements P answer)

abbrev pub check_staff_status : Answer → ℕ
check_staff_status (Accepted staffed) = 0
check_staff_status (Refused why) = 5
