-- The canonical text of an instance.
use Rattle.std.specs.Prelude.{ℕ, List, [], ◌∷◌, ◌++◌, slice_index_or, ◌==◌, if◌then◌else◌}
use Rattle.std.specs.List.{flat_map, join_with_byte}
use Rattle.std.specs.Fmt.{decimal}
use Rattle.rwsp_terms.specs.Instance.{Instance, no_bounds}
use Rattle.rwsp_terms.specs.declared.data.Bounds.{Bounds}
use Rattle.rwsp_terms.specs.declared.data.ShiftRow.{ShiftRow}
use Rattle.rwsp_file.specs.Spelling.{FileField, file_lines}
use Rattle.rwsp_file.specs.Spelling.FileField.{NumberField, DemandField, ShiftField, NameField}

-- a demand: one number where the two are equal, else both with `..` between them
abbrev pub demand_text : Bounds → List ℕ
demand_text range =
    if range.least == range.greatest
    then decimal range.least
    else decimal range.least ++ 46 ∷ 46 ∷ decimal range.greatest

-- the words of a field: those of a shift are its name, its start, its length, and the bounds of its blocks
abbrev pub field_words : FileField → List (List ℕ)
field_words (NumberField n) = decimal n ∷ []
field_words (DemandField range) = demand_text range ∷ []
field_words (ShiftField row) =
    row.name ∷ decimal row.start ∷ decimal row.length ∷ decimal row.bounds.least ∷ decimal row.bounds.greatest ∷ []
field_words (NameField name) = name ∷ []

abbrev pub line_words : List FileField → List (List ℕ)
line_words fields = flat_map field_words fields

-- a line of the file: its words with single blanks between them, and a line feed
abbrev pub file_line : List FileField → List ℕ
file_line fields = join_with_byte 32 (line_words fields) ++ 10 ∷ []

-- the canonical text: no comments, single blanks, and a line feed at each line's end
abbrev pub problem_text : Instance → List ℕ
problem_text P = flat_map file_line (file_lines P)

-- the demands of the shift at a place, counted from 0
abbrev pub row_of_demand : Instance → ℕ → List Bounds
row_of_demand P k = slice_index_or P.demand k []

-- the demand of the shift at a place on a day, both counted from 0
abbrev pub range_at : Instance → ℕ → ℕ → Bounds
range_at P k i = slice_index_or (row_of_demand P k) i no_bounds

-- no shift, in place of one that isn't there
abbrev pub no_shift : ShiftRow
no_shift = record { name = []; start = 0; length = 0; bounds = no_bounds }

-- the shift at a place, counted from 0
abbrev pub row_of_shift : Instance → ℕ → ShiftRow
row_of_shift P k = slice_index_or P.shifts k no_shift
