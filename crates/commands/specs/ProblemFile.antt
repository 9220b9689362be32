-- What is said of a problem's file by itself.
use Rattle.std.specs.Prelude.{◌≡◌, ℕ, ◌<◌, ◌≤◌, List, [], length, codes, Some, Result, Ok, Err}
use Rattle.rwsp_terms.specs.declared.limits.TheConstants.{LONGEST_FILE}
use Rattle.rwsp_terms.specs.Instance.{Instance}
use Rattle.rwsp_io.specs.Told.{Told}
use Rattle.rwsp_file.specs.Spelling.{SpellsProblem}
use Rattle.rwsp_file.specs.Reading.{file_refusal}
use Rattle.rwsp_file.specs.RefusalText.{file_refusal_text}
use Rattle.rwsp_file.specs.RefusalWords.{refusal_words}
use Rattle.commands.specs.Lines.{line}
use Rattle.commands.specs.Told.{behind_rwsp}
use Rattle.commands.specs.Files.{WhereTold, Holds}
use Rattle.commands.specs.declared.problem_file.Subject.{Subject}
use Rattle.commands.specs.declared.problem_file.ProblemRefusal.{ProblemRefusal}
use Rattle.commands.specs.declared.problem_file.ProblemRefusal.TheVariants.{TooLong, Refused}

-- a problem's file that isn't too long
abbrev pub IsShortFile : List ℕ → Type 0
IsShortFile file = length file ≤ LONGEST_FILE

-- a problem's file that is too long
abbrev pub IsLongFile : List ℕ → Type 0
IsLongFile file = LONGEST_FILE < length file

-- why the bytes of a problem's file are refused; where they spell no problem, they are kept
abbrev pub IsProblemRefusal : List ℕ → ProblemRefusal → Type 0
IsProblemRefusal file TooLong = IsLongFile file
IsProblemRefusal file (Refused why bytes) = IsShortFile file × (file_refusal file ≡ Some why) × (bytes ≡ file)

-- the bytes that a refusal keeps are refused
abbrev pub IsRefusedFile : ProblemRefusal → Type 0
IsRefusedFile TooLong = Unit {0}
IsRefusedFile (Refused why bytes) = IsShortFile bytes × (file_refusal bytes ≡ Some why)

-- the file isn't too long and spells the problem, where its bytes are known
abbrev pub IsProblemOf : Told → Instance → Type 0
IsProblemOf told P = WhereTold told (λ file. IsShortFile file × SpellsProblem file P)

-- a problem with the bytes that spell it, which are the file's, where these are known
abbrev pub IsSubject : Told → Subject → Type 0
IsSubject told subject =
    Holds told subject.file × IsShortFile subject.file × SpellsProblem subject.file subject.problem

-- what was read of a problem's file: the problem, or why the file is refused
abbrev pub IsProblemRead : Told → Result Subject ProblemRefusal → Type 0
IsProblemRead told (Ok subject) = IsProblemOf told subject.problem × IsSubject told subject
IsProblemRead told (Err why) = WhereTold told (λ file. IsProblemRefusal file why) × IsRefusedFile why

abbrev pub problem_refusal_line : ProblemRefusal → List ℕ
problem_refusal_line TooLong = line (codes "too long: problem")
problem_refusal_line (Refused why bytes) = line (file_refusal_text why)

-- what is told of it: in words why the file spells no problem
abbrev pub IsProblemRefusalTold : ProblemRefusal → List ℕ → Type 0
IsProblemRefusalTold TooLong text = text ≡ []
IsProblemRefusalTold (Refused why bytes) text =
    (words : List ℕ) × (refusal_words bytes ≡ Some words) × (text ≡ behind_rwsp words)
