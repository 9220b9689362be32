-- Rules against sequences: what watches words for them.
use Rattle.std.specs.Prelude.{ℕ, ◌+◌, ◌%◌, Option, Some, None, Bool, true, ◌==◌, ◌&&◌, nat_lt, if◌then◌else◌}
use Rattle.rwsp_terms.specs.declared.data.Symbol.{Symbol}
use Rattle.rwsp_terms.specs.declared.data.Sequence.{Sequence}

-- whether a sequence may begin on the day, counted from 0
abbrev pub is_on_day : Option ℕ → ℕ → ℕ → Bool
is_on_day None days p = true
is_on_day (Some day) days p = p % days + 1 == day

-- what a state says: whether the word ends with the first symbol of the sequence, and whether with the first two, each
-- on its day of the week
abbrev pub has_one : ℕ → Bool
has_one s = s % 2 == 1

abbrev pub has_two : ℕ → Bool
has_two s = nat_lt 1 s

-- whether the symbol is the last of the sequence
abbrev pub stops_by : Option Symbol → Symbol → Bool → Bool → Symbol → Bool
stops_by None second one two x = one && (x.number == second.number)
stops_by (Some third) second one two x = two && (x.number == third.number)

-- where the symbol leads; whether the sequence may begin on its day
abbrev pub never_to : Sequence → Bool → ℕ → Symbol → ℕ
never_to q here s x =
    (if here && (x.number == q.first.number) then 1 else 0)
    + (if has_one s && (x.number == q.second.number) then 2 else 0)
