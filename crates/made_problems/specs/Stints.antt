-- Stints of work and days off, as they are drawn.
use Rattle.std.specs.Prelude.{◌≡◌, ℕ, zero, suc, ◌+◌, ◌-◌, ◌*◌, ◌<◌, ◌≤◌, List, length, drop, slice_index_or, min, max, nat_le, if◌then◌else◌}
use Rattle.std.specs.List.{sum_by}
use Rattle.made_problems.specs.Draws.{next_state, state_after, drawn_between}
use Rattle.made_problems.specs.declared.stint.Stint.{Stint}
use Rattle.made_problems.specs.declared.stint.Pattern.{Pattern}
use Rattle.made_problems.specs.declared.stint.Pattern.TheVariants.{Day, Afternoon, Night}

-- the days of a stint
abbrev pub stint_days : Stint → ℕ
stint_days t = t.work + t.off

-- the days of several stints
abbrev pub total_days : List Stint → ℕ
total_days ts = sum_by stint_days ts

-- a pattern by its number
abbrev pub pattern_of : ℕ → Pattern
pattern_of zero = Day
pattern_of (suc zero) = Afternoon
pattern_of (suc (suc n)) = Night

-- the days off in a stint of this length: 2 to 4, so that 4 to 7 days of work are left
abbrev pub drawn_off : ℕ → ℕ → ℕ
drawn_off x days = drawn_between x (max 2 (days - 7)) (min 4 (days - 4))

-- a stint of this length by two draws, of its days off and of its pattern
abbrev pub stint_of_days : ℕ → ℕ → Stint
stint_of_days x days = record {
  work = days - drawn_off x days;
  off = drawn_off x days;
  pattern = pattern_of (drawn_between (next_state x) 0 2);
}

-- a stint where this many days are left: it takes them all if they are at most 11, else one draw gives its length, so
-- that 6 days or more stay
abbrev pub drawn_stint : ℕ → ℕ → Stint
drawn_stint x left =
    if nat_le left 11 then stint_of_days x left
    else stint_of_days (next_state x) (drawn_between x 6 (min 11 (left - 6)))

-- 4 to 7 days of work and 2 to 4 days off
abbrev pub IsUsual : Stint → Type 0
IsUsual t = (4 ≤ t.work) × (t.work ≤ 7) × (2 ≤ t.off) × (t.off ≤ 4)

-- the stints that a number gives for some days. Each but the last takes three draws, and it is drawn where its own
-- days and those of the stints behind it are left
pub record AreStints (number days : ℕ) (ts : List Stint) : Type 0 where
  pub whole : total_days ts ≡ days
  pub each : (i : ℕ) (d : Stint) → i < length ts
      → slice_index_or ts i d ≡ drawn_stint (state_after number (3 * i)) (total_days (drop i ts))
