-- When shifts start and end, and the rest between them.
use Rattle.std.specs.Prelude.{ℕ, ◌+◌, ◌-◌, ◌*◌, ◌≤◌, slice_get, Bool, nat_lt}
use Rattle.rwsp_terms.specs.Instance.{Instance}
use Rattle.rwsp_terms.specs.declared.data.Symbol.{Symbol}
-- the minutes of a day, when a shift starts, and how long it is
pub use Rattle.rwsp_terms.specs.Times.{day_minutes, start_in, length_in, start_of}

-- when it ends, in minutes after the midnight before it starts
abbrev pub end_of : Instance → Symbol → ℕ
end_of P x = start_of P x + length_in (slice_get P.shifts (x.number - 1))

-- when a shift starts that is some days later
abbrev pub start_later : Instance → ℕ → Symbol → ℕ
start_later P days y = days * day_minutes + start_of P y

-- between the end of a shift and the start of one some days later are at least so many minutes
abbrev pub Rests : Instance → (days minutes : ℕ) → Symbol → Symbol → Type 0
Rests P days minutes x y = end_of P x + minutes ≤ start_later P days y

-- there are fewer
abbrev pub is_too_short : Instance → (days minutes : ℕ) → Symbol → Symbol → Bool
is_too_short P days minutes x y = nat_lt (start_later P days y) (end_of P x + minutes)
