-- Numbers of minutes as texts.
use Rattle.std.specs.Prelude.{ℕ, ◌+◌, ◌/◌, ◌%◌, List, [], ◌∷◌, ◌++◌, ◌==◌, if◌then◌else◌}
use Rattle.std.specs.Fmt.{decimal}
use Rattle.made_problems.specs.Times.{day_minutes}
use Rattle.plain_words.specs.Fixed.{fixed}
use Rattle.roster_page.specs.declared.pieces.TheConstants.{CLOSED, LATER}

-- a number below 100, in two digits
unfoldable pub two_digits : ℕ → List ℕ
two_digits n = (48 + n / 10) ∷ (48 + n % 10) ∷ []

-- hours and minutes, as 37:20
unfoldable pub hours_text : ℕ → List ℕ
hours_text minutes = decimal (minutes / 60) ++ 58 ∷ two_digits (minutes % 60)

-- a time of day, as 06:00
unfoldable pub clock_text : ℕ → List ℕ
clock_text minutes = two_digits (minutes / 60) ++ 58 ∷ two_digits (minutes % 60)

-- how many days later, where it isn't the same day
unfoldable pub later_text : ℕ → List ℕ
later_text days = if days == 0 then [] else fixed LATER.now ++ decimal days ++ fixed CLOSED.now

-- a number of minutes after midnight: the time of day, and how many days later
unfoldable pub moment_text : ℕ → List ℕ
moment_text minutes = clock_text (minutes % day_minutes) ++ later_text (minutes / day_minutes)
