-- A leaf against the goal: fewer weeks than it asks for can have their weekend off.
use Rattle.std.specs.Prelude.{ℕ, ◌+◌, ◌*◌, ◌<◌, Bool, ◌&&◌, count_by, Option, Some, None}
use Rattle.std.specs.List.{range_with_len}
use Rattle.rwsp_terms.specs.declared.limits.TheConstants.{DAYS_OF_WEEK, SATURDAY, SUNDAY}
use Rattle.rwsp_terms.specs.Instance.{Instance}
use Rattle.refutation_terms.specs.Word.{Domains}

-- only a log with a goal has it
abbrev pub FewFits : Option ℕ → Type 0
FewFits None = ⊥
FewFits (Some goal) = Unit {0}

-- the domains leave the day off on both days of the weekend of a week, the weeks counted from 0
abbrev pub may_be_free : Domains → ℕ → Bool
may_be_free D i = D (i * DAYS_OF_WEEK + SATURDAY) 0 && D (i * DAYS_OF_WEEK + SUNDAY) 0

-- fewer weeks than the goal can have their weekend off
abbrev pub HasTooFewFree : Instance → ℕ → Domains → Type 0
HasTooFewFree P goal D = count_by (may_be_free D) (range_with_len 0 P.weeks) < goal

-- the log has a goal, and fewer weeks than it can have their weekend off
abbrev pub FewHolds : Instance → Option ℕ → Domains → Type 0
FewHolds P None D = ⊥
FewHolds P (Some goal) D = HasTooFewFree P goal D
