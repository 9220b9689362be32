-- Counted calls, of which the listed ones fail.
use Rattle.std.specs.Prelude.{ℕ, ◌+◌, ◌-◌, ◌^◌, ◌==◌, min, Bool, List}
use Rattle.std.specs.List.{list_any}

-- the numbers of the calls that fail, from 1 on, and how many calls were made; this count stops at 2^64 - 1
pub record CallPlan : Type 0 where
  pub failing : List ℕ
  pub made : ℕ

-- the number of the next call
abbrev pub next_call : CallPlan → ℕ
next_call plan = min (plan.made + 1) (2 ^ 64 - 1)

-- whether the next call is listed
abbrev pub next_fails : CallPlan → Bool
next_fails plan = list_any (λ k. k == next_call plan) plan.failing

-- one more call was made
abbrev pub after_call : CallPlan → CallPlan
after_call plan = record { failing = plan.failing; made = next_call plan }
