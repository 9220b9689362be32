-- The minutes of symbols.
use Rattle.std.proofs.Common.{◌≡◌, ℕ, zero, suc, ◌-◌, ◌<◌, ap, ◌∙◌, arith}
use Rattle.std.specs.Prelude.{Some, option_map, slice_get}
use Rattle.rwsp_terms.specs.declared.data.ShiftRow.{ShiftRow}
use Rattle.rwsp_terms.specs.Instance.{Instance}
use Rattle.made_problems.specs.Times.{length_in}
use Rattle.made_problems.proofs.Rows.{length_is}
use Rattle.roster_page.specs.Hours.{minutes_numbered}

pub minutes_are : (P : Instance) (n length : ℕ) → 0 < n → option_map (λ (r : ShiftRow). r.length) (slice_get P.shifts (n - 1)) ≡ Some length → length ≡ minutes_numbered P n
minutes_are P zero length some h = absurd (omega (arith, some))
minutes_are P (suc k) length some h =
    let e : suc k - 1 ≡ k = omega arith in
    length_is (slice_get P.shifts (suc k - 1)) length h ∙ ap (λ i. length_in (slice_get P.shifts i)) e
