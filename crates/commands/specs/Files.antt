-- What the files hold that a command names.
use Rattle.std.specs.Prelude.{◌≡◌, ℕ, ◌<◌, ◌≤◌, List, length, codes}
use Rattle.rwsp_terms.specs.declared.limits.TheConstants.{LONGEST_FILE, LONGEST_LOG}
use Rattle.rwsp_io.specs.Told.{Told, Silent, Missing, Bytes}
use Rattle.commands.specs.Lines.{line}
use Rattle.commands.specs.declared.stop.Stop.{Stop}
use Rattle.commands.specs.declared.stop.Stop.TheVariants.{ReadFault, Memory}
use Rattle.commands.specs.declared.second_file.SecondKind.{SecondKind}
use Rattle.commands.specs.declared.second_file.SecondKind.TheVariants.{Roster, Log}

-- a fact about the bytes that are known; nothing holds of a file that isn't there
abbrev pub WhereTold : Told → (List ℕ → Type 0) → Type 0
WhereTold Silent Q = Unit {0}
WhereTold Missing Q = ⊥
WhereTold (Bytes bytes) Q = Q bytes

-- the bytes are the file's, where these are known; no file that isn't there has any
abbrev pub Holds : Told → List ℕ → Type 0
Holds told bytes = WhereTold told (λ known. bytes ≡ known)

-- the most bytes that a second file of a kind may have
abbrev pub longest : SecondKind → ℕ
longest Roster = LONGEST_FILE
longest Log = LONGEST_LOG

-- at most as long as its kind may be
abbrev pub IsWithinLimit : SecondKind → List ℕ → Type 0
IsWithinLimit kind bytes = length bytes ≤ longest kind

-- longer than that
abbrev pub IsTooLong : SecondKind → List ℕ → Type 0
IsTooLong kind bytes = longest kind < length bytes

-- the bytes of a second file, which isn't too long
abbrev pub IsSecond : SecondKind → Told → List ℕ → Type 0
IsSecond kind told bytes = Holds told bytes × IsWithinLimit kind bytes

-- the line that says that the second file is too long
abbrev pub too_long_line : SecondKind → List ℕ
too_long_line Roster = line (codes "too long: roster")
too_long_line Log = line (codes "too long: log")

-- a stop at a file whose count has risen, or for want of memory
abbrev pub IsStop : Type 0 → Stop → Type 0
IsStop rose ReadFault = rose
IsStop rose Memory = Unit {0}
