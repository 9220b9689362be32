-- Another number of weeks keeps a problem's limits.
use Rattle.std.proofs.Common.{◌≡◌, ℕ, ◌*◌, ◌≤◌, sym, subst}
use Rattle.rwsp_terms.specs.declared.limits.TheConstants.{MOST_WEEKS, MOST_CELLS}
use Rattle.rwsp_terms.specs.Instance.{Instance}
use Rattle.rwsp_model.specs.Validity.{IsValid, KeepsLimits}
use Rattle.rwsp_model.proofs.Limits.{keeps_valid}

pub other_weeks_keep : (P : Instance) (m : ℕ) → KeepsLimits P → 1 ≤ m → m ≤ MOST_WEEKS → m * P.days ≤ MOST_CELLS → KeepsLimits (record P { weeks = m })
other_weeks_keep P m k some few few_cells = record {
  rows = k.rows;
  long_rows = k.long_rows;
  sequences = k.sequences;
  some_days = k.some_days;
  few_days = k.few_days;
  some_weeks = some;
  few_weeks = few;
  few_cells = few_cells;
  some_shifts = k.some_shifts;
  few_shifts = k.few_shifts;
  demand = k.demand;
  times = k.times;
  blocks = k.blocks;
  off = k.off;
  work = k.work;
  listed = k.listed;
  names = k.names;
  distinct = k.distinct;
}

-- so it keeps a copy of the problem valid
pub other_weeks_valid : (P Q : Instance) (m : ℕ) → Q ≡ P → KeepsLimits P → 1 ≤ m → m ≤ MOST_WEEKS → m * P.days ≤ MOST_CELLS → IsValid (record Q { weeks = m })
other_weeks_valid P Q m same k some few few_cells =
    subst (λ (R : Instance). IsValid (record R { weeks = m })) (sym same) (keeps_valid (record P { weeks = m }) (other_weeks_keep P m k some few few_cells))
