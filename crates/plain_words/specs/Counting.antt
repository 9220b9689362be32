-- What counting days alone says against a roster: which symbols have no number of blocks that fits, and why, in words.
use Rattle.std.specs.Prelude.{ℕ, zero, suc, ◌+◌, ◌-◌, ◌*◌, ◌/◌, ◌<◌, ◌≤◌, List, [], ◌∷◌, ◌++◌, Bool, ◌&&◌, ◌==◌, not, nat_lt, nat_le, min, pos, if◌then◌else◌}
use Rattle.std.specs.Int.Signed.{le_z}
use Rattle.std.specs.List.{list_any, range_with_len, sum_by}
use Rattle.rwsp_terms.specs.declared.data.Bounds.{Bounds}
use Rattle.rwsp_terms.specs.declared.data.Symbol.{Symbol}
use Rattle.rwsp_terms.specs.declared.data.Class.{Class}
use Rattle.rwsp_terms.specs.declared.data.Class.TheVariants.{Shift, Off, Work}
use Rattle.rwsp_terms.specs.Instance.{Instance, bounds, cells, shift_count, shift_demand, column_least, column_greatest, symbol_numbered}
use Rattle.refutation_terms.specs.BlocksLeaf.{least_days, most_days, shortest}
use Rattle.plain_words.specs.declared.counted.Asked.{Asked}
use Rattle.plain_words.specs.declared.counted.Asked.TheVariants.{Least, Most, Free, Needed}
use Rattle.plain_words.specs.declared.part.Part.TheVariants.{Number, Days, BlocksHave, RoundsHave, DayRange, BlockRange, OfClass}
use Rattle.plain_words.specs.Filled.{filled}
use Rattle.plain_words.specs.Fixed.{fixed}
use Rattle.plain_words.specs.declared.pieces.TheConstants.{COMMA, DEMAND_LEAVES, DEMAND_NEEDS, FIXED_ROUNDS, MADE, MISFIT, NO_BLOCK, ROUNDS, UNLIKE}

-- The tests of a leaf that counts blocks, as they are computed.

abbrev pub can_be : Bounds → (k t : ℕ) → Bool
can_be b k t = nat_le (k * shortest b) t && nat_le t (k * b.greatest)

abbrev pub off_days_fit : Instance → (k t : ℕ) → Bool
off_days_fit P k t =
    le_z (least_days P 0) (pos t) && le_z (pos t) (most_days P 0) && can_be P.off k t
    && can_be P.work k (cells P - t)

abbrev pub blocks_fit : Instance → (x k : ℕ) → Bool
blocks_fit P zero k = list_any (off_days_fit P k) (range_with_len 0 (cells P + 1))
blocks_fit P (suc x) k =
    le_z (pos (k * shortest (bounds P (Shift (symbol_numbered (suc x)))))) (most_days P (suc x))
    && le_z (least_days P (suc x)) (pos (k * (bounds P (Shift (symbol_numbered (suc x)))).greatest))

-- no number of blocks of the symbol, up to one for each cell, has as many days as the demand asks for
abbrev pub is_misfit : Instance → Symbol → Bool
is_misfit P x = not (list_any (blocks_fit P x.number) (range_with_len 0 (cells P + 1)))

-- Words.

-- the lengths of the blocks of a class, of at least one day
abbrev pub lengths : Instance → Class → Bounds
lengths P c = record { least = shortest (bounds P c); greatest = (bounds P c).greatest }

-- for how many blocks of the shortest length there is room in so many days
abbrev pub room_for : Bounds → ℕ → ℕ
room_for b days = days / b.least

-- as many blocks as there is room for have fewer days than the least
abbrev pub are_few : Bounds → Bounds → Bool
are_few b days = nat_lt (room_for b days.greatest * b.greatest) days.least

-- what is counted on a day: the demand of a shift at least, and at most in the weeks that there are; how many weeks the
-- demand leaves the day off at least; and how many it needs for work
abbrev pub asked_on : Instance → Asked → (j : ℕ) → ℕ
asked_on P (Least x) j = (shift_demand P x j).least
asked_on P (Most x) j = min (shift_demand P x j).greatest P.weeks
asked_on P Free j = P.weeks - column_greatest P j
asked_on P Needed j = column_least P j

-- its shift, if it names one, is the instance's
abbrev pub IsAsked : Instance → Asked → Type 0
IsAsked P (Least x) = (0 < x) × (x ≤ shift_count P)
IsAsked P (Most x) = (0 < x) × (x ≤ shift_count P)
IsAsked P what = Unit {0}

-- on all days of the cycle
abbrev pub days_asked : Instance → Asked → ℕ
days_asked P what = sum_by (asked_on P what) (range_with_len 1 P.days)

-- how many days a roster has of a class: of a shift as demanded; days off and days of work are all days
abbrev pub days_of : Instance → Class → Bounds
days_of P (Shift x) =
    record { least = days_asked P (Least x.number); greatest = days_asked P (Most x.number) }
days_of P Off = record { least = days_asked P Free; greatest = cells P - days_asked P Needed }
days_of P Work = record { least = days_asked P Needed; greatest = cells P - days_asked P Free }

-- `14 days of N cannot be made of blocks of 3 days: 4 blocks have at most 12 days, and 5 at least 15`
abbrev pub misfit_by : Instance → Class → Bounds → Bounds → (room : ℕ) → List ℕ
misfit_by P c days b room =
    filled P MISFIT.now
    (DayRange days ∷ OfClass c ∷ DayRange b ∷ BlocksHave room ∷ Days (room * b.greatest) ∷ Number (room + 1)
    ∷ Number ((room + 1) * b.least) ∷ [])

unfoldable pub misfit_words : Instance → Class → List ℕ
misfit_words P c =
    misfit_by P c (days_of P c) (lengths P c) (room_for (lengths P c) (days_of P c).greatest)

-- `no block has at least 5 and at most 3 days of work`
unfoldable pub no_block_words : Instance → Class → List ℕ
no_block_words P c = filled P NO_BLOCK.now (DayRange (lengths P c) ∷ OfClass c ∷ [])

-- how many blocks of these lengths make so many days: as many as reach the least, and as there is room for
abbrev pub blocks_for : Bounds → Bounds → Bounds
blocks_for b days = record {
  least = (days.least + (b.greatest - 1)) / b.greatest;
  greatest = room_for b days.greatest;
}

-- `8 days off make 4 blocks of 2 days`
unfoldable pub made_words : Instance → Class → List ℕ
made_words P c =
    filled P MADE.now
    (DayRange (days_of P c) ∷ OfClass c ∷ BlockRange (blocks_for (lengths P c) (days_of P c)) ∷ DayRange (lengths P c)
    ∷ [])

-- The day off, and work between.

abbrev pub all_days : Instance → Bounds
all_days P = record { least = cells P; greatest = cells P }

-- the lengths of a block of days off and one of work together
abbrev pub rounds : Instance → Bounds
rounds P = record {
  least = (lengths P Off).least + (lengths P Work).least;
  greatest = (lengths P Off).greatest + (lengths P Work).greatest;
}

-- `k blocks of days off and of work take 5k days, and there are 28`, where all are of one length; or
-- `5 blocks of days off and of work have at most 25 days, 6 at least 30, and there are 28`
unfoldable pub rounds_words : Instance → Bounds → (room days : ℕ) → List ℕ
rounds_words P b room days =
    if b.least == b.greatest then filled P FIXED_ROUNDS.now (Number b.least ∷ Number days ∷ [])
    else filled P ROUNDS.now
    (RoundsHave room ∷ Days (room * b.greatest) ∷ Number (room + 1) ∷ Number ((room + 1) * b.least)
    ∷ Number days ∷ [])

-- days off, days of work and all days make different numbers of blocks
unfoldable pub unlike_words : Instance → List ℕ
unlike_words P =
    made_words P Off ++ fixed COMMA.now ++ made_words P Work
    ++ filled P UNLIKE.now (Days (cells P) ∷ BlockRange (blocks_for (rounds P) (all_days P)) ∷ [])

-- the numbers of blocks of both together, of days off, of work, or all three
unfoldable pub turns_words : Instance → List ℕ
turns_words P =
    if are_few (rounds P) (all_days P) then rounds_words P (rounds P) (room_for (rounds P) (cells P)) (cells P)
    else if are_few (lengths P Off) (days_of P Off) then misfit_words P Off
    else if are_few (lengths P Work) (days_of P Work) then misfit_words P Work
    else unlike_words P

-- why no number of blocks has as many days off, and days of work between, as there have to be: the first of these that
-- says it. The demand may need more days of work than there are, or leave more days off at least than at most; and
-- lengths that no number meets come before numbers of blocks
unfoldable pub off_misfit_words : Instance → List ℕ
off_misfit_words P =
    if nat_lt (cells P) (days_asked P Needed)
    then filled P DEMAND_NEEDS.now (Days (days_asked P Needed) ∷ Number (cells P) ∷ [])
    else if nat_lt (days_of P Off).greatest (days_of P Off).least
    then filled P DEMAND_LEAVES.now (DayRange (days_of P Off) ∷ [])
    else if nat_lt (lengths P Off).greatest (lengths P Off).least then no_block_words P Off
    else if nat_lt (lengths P Work).greatest (lengths P Work).least then no_block_words P Work
    else turns_words P

-- why no number of blocks of the symbol fits
unfoldable pub counted_words : Instance → Symbol → List ℕ
counted_words P x =
    if x.number == 0 then off_misfit_words P else misfit_words P (Shift x)
