-- What `verify` answers.
use Rattle.std.specs.Prelude.{◌≡◌, ℕ, List, [], ◌∷◌, codes, Some}
use Rattle.rwsp_terms.specs.Instance.{Instance}
use Rattle.rwsp_terms.specs.Roster.{IsRoster, MeetsAll}
use Rattle.rwsp_terms.specs.declared.data.Symbol.{Symbol}
use Rattle.roster_print.specs.RosterText.{SpellsRoster}
use Rattle.roster_print.specs.Refusal.{refusal_of_roster}
use Rattle.roster_print.specs.RefusalText.{roster_refusal_text}
use Rattle.roster_checker.specs.FirstBroken.{IsFirstBroken}
use Rattle.roster_checker.specs.BreaksText.{breaks_text}
use Rattle.plain_words.specs.Statements.{Statement, plain, told_lines}
use Rattle.plain_words.specs.Told.{broken_statement, roster_refusal_statement}
use Rattle.plain_words.specs.declared.pieces.TheConstants.{MEETS}
use Rattle.commands.specs.Lines.{line}
use Rattle.commands.specs.declared.verify.BrokenRoster.{BrokenRoster}
use Rattle.commands.specs.declared.verify.RosterFault.{RosterFault}
use Rattle.commands.specs.declared.verify.RosterFault.TheVariants.{Refused, Breaks}
use Rattle.commands.specs.declared.verify.Answer.{Answer}
use Rattle.commands.specs.declared.verify.Answer.TheVariants.{Meets, Fails}

-- the bytes spell a roster that meets every rule
abbrev pub SpellsRight : Instance → List ℕ → Type 0
SpellsRight P bytes = (s : List Symbol) × SpellsRoster P bytes s × MeetsAll P s

-- a roster of the instance, and the first rule that it breaks
abbrev pub IsBrokenRoster : Instance → BrokenRoster → Type 0
IsBrokenRoster P breach =
    (breach.roster.days ≡ P.days) × IsRoster P breach.roster.cells × IsFirstBroken P breach.roster.cells breach.broken

-- what is wrong with the bytes of a roster: why they spell none, or the first rule that is broken, and where
abbrev pub IsRosterFault : Instance → List ℕ → RosterFault → Type 0
IsRosterFault P bytes (Refused why) = refusal_of_roster P bytes ≡ Some why
IsRosterFault P bytes (Breaks breach) = SpellsRoster P bytes breach.roster.cells × IsBrokenRoster P breach

-- what an answer says of the bytes of a roster
abbrev pub IsVerified : Instance → List ℕ → Answer → Type 0
IsVerified P bytes Meets = SpellsRight P bytes
IsVerified P bytes (Fails fault) = IsRosterFault P bytes fault

abbrev pub broken_line : Instance → BrokenRoster → List ℕ
broken_line P breach = line (breaks_text P breach.broken)

abbrev pub fault_line : Instance → RosterFault → List ℕ
fault_line P (Refused why) = line (roster_refusal_text why)
fault_line P (Breaks breach) = broken_line P breach

abbrev pub verify_text : Instance → Answer → List ℕ
verify_text P Meets = line (codes "meets")
verify_text P (Fails fault) = fault_line P fault

abbrev pub IsFaultOf : Instance → RosterFault → Type 0
IsFaultOf P (Refused why) = Unit {0}
IsFaultOf P (Breaks breach) = IsBrokenRoster P breach

-- what the answer names is the instance's
abbrev pub IsVerifiedOf : Instance → Answer → Type 0
IsVerifiedOf P Meets = Unit {0}
IsVerifiedOf P (Fails fault) = IsFaultOf P fault

-- what is said of a roster that breaks a rule
abbrev pub breach_statement : Instance → BrokenRoster → Statement
breach_statement P breach = broken_statement P breach.roster.cells breach.broken

-- what is said of a roster that is refused or breaks a rule
abbrev pub fault_statement : Instance → RosterFault → Statement
fault_statement P (Refused why) = roster_refusal_statement why
fault_statement P (Breaks breach) = breach_statement P breach

-- and of an answer
abbrev pub verify_statement : Instance → Answer → Statement
verify_statement P Meets = plain MEETS.now
verify_statement P (Fails fault) = fault_statement P fault

-- what is told of an answer
abbrev pub IsVerifyTold : Instance → Answer → List ℕ → Type 0
IsVerifyTold P answer text = text ≡ told_lines P (verify_statement P answer ∷ [])

abbrev pub fault_status : RosterFault → ℕ
fault_status (Refused why) = 3
fault_status (Breaks breach) = 5

abbrev pub verify_status : Answer → ℕ
verify_status Meets = 0
verify_status (Fails fault) = fault_status fault
