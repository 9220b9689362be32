-- The choice at a state: the symbol by which most is gained, and the lowest of these.
use Rattle.std.specs.Prelude.{◌≡◌, ◌⊎◌, ℕ, ◌+◌, ◌<◌, ◌≤◌, List, length, Option, Some, None, Bool, true, false, ℤ, ◌+ℤ◌, ◌<ℤ◌, int_lt, if◌then◌else◌}
use Rattle.rwsp_terms.specs.declared.data.Symbol.{Symbol}
use Rattle.rwsp_terms.specs.declared.limits.TheConstants.{GREATEST_REWARD, GREATEST_WEIGHT}
use Rattle.rwsp_terms.specs.Instance.{shift_count, symbol_numbered}
use Rattle.domain_store.specs.Sets.{has_symbol}
use Rattle.clean_words.specs.Moves.{Moves, move_at}
use Rattle.clean_words.specs.declared.choice.Choice.{Choice}
use Rattle.clean_words.specs.declared.day_gains.DayGains.{DayGains}
use Rattle.clean_words.specs.Rows.{Row, gain_at, AreWithin}
use Rattle.clean_words.specs.Trellis.{Trellis, place_of}

-- what a symbol gains on a day behind the day off or not; none where the domain hasn't the symbol
abbrev pub gain_within : List ℕ → (ℕ → Bool → Symbol → ℤ) → ℕ → Bool → ℕ → Option ℤ
gain_within set gain day behind_off x =
    if has_symbol set x then Some (gain day behind_off (symbol_numbered x)) else None

abbrev pub gain_there : Trellis → ℕ → Bool → ℕ → Option ℤ
gain_there T day behind_off x =
    if T.domains (place_of T day) x then Some (T.gain day behind_off (symbol_numbered x)) else None

-- the gains of the first symbols on a day
pub record AreGains (T : Trellis) (day : ℕ) (behind_off : Bool) (count : ℕ) (gains : Row) : Type 0 where
  pub long : length gains ≡ count
  pub each : (x : ℕ) → x < length gains → gain_at gains x ≡ gain_there T day behind_off x
  pub light : AreWithin (GREATEST_WEIGHT + GREATEST_REWARD) gains

abbrev pub gains_behind : DayGains → Bool → Row
gains_behind gains true = gains.behind_off.items
gains_behind gains false = gains.behind_work.items

abbrev pub AreDayGains : Trellis → ℕ → DayGains → Type 0
AreDayGains T day gains =
    (off : Bool) → AreGains T day off (shift_count T.automaton.problem + 1) (gains_behind gains off)

-- the choice of a symbol's number that gains this much and leads to a state, from where so much more is gained
abbrev pub choice_to : ℕ → ℤ → ℕ → Option ℤ → Option Choice
choice_to x gain to None = None
choice_to x gain to (Some after) = Some (record { weight = gain +ℤ after; symbol = symbol_numbered x; to = to })

abbrev pub choice_with : ℕ → Option ℤ → Option ℕ → Row → Option Choice
choice_with x None to next = None
choice_with x (Some gain) None next = None
choice_with x (Some gain) (Some to) next = choice_to x gain to (gain_at next to)

abbrev pub choice_by : Row → Moves → ℕ → Row → ℕ → Option Choice
choice_by gains moves state next x = choice_with x (gain_at gains x) (move_at moves state x) next

-- the later choice only where it gains more
abbrev pub preferred : Option Choice → Option Choice → Option Choice
preferred None later = later
preferred (Some a) None = Some a
preferred (Some a) (Some b) = if int_lt a.weight b.weight then Some b else Some a

-- the first of the greatest choices that the first numbers offer
pub record IsFirstGreatest (offered : ℕ → Option Choice) (count : ℕ) (choice : Choice) : Type 0 where
  pub number : ℕ
  pub within : number < count
  pub is : offered number ≡ Some choice
  pub others :
      (x : ℕ) (c : Choice) → x < count → offered x ≡ Some c
      → (c.weight <ℤ choice.weight) ⊎ ((c.weight ≡ choice.weight) × (number ≤ x))

abbrev pub IsChosen : (ℕ → Option Choice) → ℕ → Option Choice → Type 0
IsChosen offered count None = (x : ℕ) → x < count → offered x ≡ None
IsChosen offered count (Some choice) = IsFirstGreatest offered count choice

abbrev pub weight_of : Option Choice → Option ℤ
weight_of None = None
weight_of (Some c) = Some c.weight
