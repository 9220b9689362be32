-- The text of a refusal.
use Rattle.std.specs.Prelude.{ℕ, List, ◌++◌, codes}
use Rattle.std.specs.Fmt.{decimal}
use Rattle.rwsp_file.specs.declared.refusal.FileRefusal.{FileRefusal}
use Rattle.rwsp_file.specs.declared.refusal.FileRefusal.TheVariants.{Ends, Number, Range, Row, Name, Unknown, Extra}

-- the refusal, and the number of the line
abbrev pub at_line : List ℕ → ℕ → List ℕ
at_line refusal number = codes "file refused: " ++ refusal ++ codes " line " ++ decimal number

abbrev pub file_refusal_text : FileRefusal → List ℕ
file_refusal_text (Ends number) = at_line (codes "ends") number
file_refusal_text (Number number) = at_line (codes "number") number
file_refusal_text (Range number limit) = at_line (codes "range " ++ decimal limit) number
file_refusal_text (Row number) = at_line (codes "row") number
file_refusal_text (Name number) = at_line (codes "name") number
file_refusal_text (Unknown number) = at_line (codes "unknown") number
file_refusal_text (Extra number) = at_line (codes "extra") number

-- the line that a refusal names
abbrev pub refused_line : FileRefusal → ℕ
refused_line (Ends number) = number
refused_line (Number number) = number
refused_line (Range number limit) = number
refused_line (Row number) = number
refused_line (Name number) = number
refused_line (Unknown number) = number
refused_line (Extra number) = number
