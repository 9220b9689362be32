-- Lines of the texts.
use Rattle.std.specs.Prelude.{ℕ, List, [], ◌∷◌, ◌++◌, codes}
use Rattle.std.specs.Fmt.{decimal}

-- the text and a line feed
abbrev pub line : List ℕ → List ℕ
line text = text ++ 10 ∷ []

-- the line that answers that a week has not the days that the command asks for
abbrev pub not_weekly_line : ℕ → List ℕ
not_weekly_line days = line (codes "not weekly: days " ++ decimal days)
