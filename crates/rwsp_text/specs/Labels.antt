-- Labels with numbers.
use Rattle.std.specs.Prelude.{ℕ, List, ◌++◌, codes}
use Rattle.std.specs.Fmt.{decimal}

-- a label, and the number of a line
abbrev pub at_line : List ℕ → ℕ → List ℕ
at_line label number = label ++ codes " line " ++ decimal number
