use Rattle.std.proofs.Common.{◌≡◌, ◌-◌, ◌*◌, ◌≤◌, take}
use Rattle.std.specs.List.{sum_by}
use Rattle.std.specs.Prelude.{slice_index_or}
use Rattle.rwsp_terms.specs.declared.limits.TheConstants.{MOST_WEEKS}
use Rattle.rwsp_terms.specs.Instance.{no_bounds}
use Rattle.rwsp_model.proofs.demand.column_range.Given as goal

abbrev pub invariant-loop-row : goal.invariant-loop-row
invariant-loop-row l = record {
  least : l.least ≡ sum_by (λ row. (slice_index_or row (l.day - 1) no_bounds).least) (take l.row-index l.rows);
  greatest : l.greatest ≡ sum_by (λ row. (slice_index_or row (l.day - 1) no_bounds).greatest) (take l.row-index l.rows);
  few : l.least ≤ MOST_WEEKS * l.row-index;
  some : l.greatest ≤ MOST_WEEKS * l.row-index;
}
