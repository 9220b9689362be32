-- Rules on the blocks of a class: what watches words for them.
use Rattle.std.specs.Prelude.{ℕ, ◌+◌, Bool, false, ◌==◌, ◌&&◌, nat_le, nat_lt, if◌then◌else◌}
use Rattle.rwsp_terms.specs.declared.data.Symbol.{Symbol}
use Rattle.rwsp_terms.specs.declared.data.Class.{Class}
use Rattle.rwsp_terms.specs.declared.data.Class.TheVariants.{Shift, Off, Work}

-- whether the symbol is in the class
abbrev pub in_class : Class → Symbol → Bool
in_class (Shift x) y = y.number == x.number
in_class Off y = y.number == 0
in_class Work y = nat_lt 0 y.number

-- blocks that are too long: the state is the number of days of the class at the end of the word
abbrev pub most_stops : Class → ℕ → ℕ → Symbol → Bool
most_stops c greatest s x = in_class c x && nat_le greatest s

abbrev pub most_to : Class → ℕ → Symbol → ℕ
most_to c s x = if in_class c x then s + 1 else 0

-- one day more, counted up to the least length
abbrev pub longer : ℕ → ℕ → ℕ
longer s least = if nat_lt s least then s + 1 else s

-- blocks that are too short: the state is the number of days of the class at the end of the word, behind a day outside;
-- the least length stands for so many or more, and for a block that the word begins with
abbrev pub least_stops : Class → ℕ → ℕ → Symbol → Bool
least_stops c least s x = if in_class c x then false else nat_lt 0 s && nat_lt s least

abbrev pub least_to : Class → ℕ → ℕ → Symbol → ℕ
least_to c least s x = if in_class c x then longer s least else 0
