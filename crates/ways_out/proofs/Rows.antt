-- The rows of an instance, and their numbers.
use Rattle.std.proofs.Common.{◌≡◌, ℕ, ◌-◌, ◌<◌, ◌≤◌, List, [], length, get_or, ap, arith, Some}
use Rattle.std.specs.Prelude.{slice_get, Option}
use Rattle.std.proofs.lemmas.Option.{slice_get-get_or}
use Rattle.rwsp_terms.specs.declared.data.Bounds.{Bounds}
use Rattle.rwsp_terms.specs.Instance.{Instance, shift_count, shift_demand, range_in, no_bounds}
use Rattle.rwsp_model.specs.Validity.{KeepsLimits}

-- the row of a shift
pub row_there : (P : Instance) (x : ℕ) → KeepsLimits P → 0 < x → x ≤ shift_count P → slice_get P.demand (x - 1) ≡ Some (get_or P.demand (x - 1) [])
row_there P x limits some few =
    let rows = limits.rows in
    slice_get-get_or P.demand (x - 1) [] (omega (arith, some, few, rows))

pub row_long : (P : Instance) (x : ℕ) → KeepsLimits P → 0 < x → x ≤ shift_count P → length (get_or P.demand (x - 1) []) ≡ P.days
row_long P x limits some few =
    let rows = limits.rows in
    limits.long_rows (x - 1) [] (omega (arith, some, few, rows))

-- the demand of a shift on a day
pub demand_there : (P : Instance) (x j : ℕ) → KeepsLimits P → 0 < x → x ≤ shift_count P → shift_demand P x j ≡ get_or (get_or P.demand (x - 1) []) (j - 1) no_bounds
demand_there P x j limits some few = ap (λ (o : Option (List Bounds)). range_in o (j - 1)) (row_there P x limits some few)
