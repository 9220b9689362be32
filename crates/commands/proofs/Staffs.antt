-- What is said of the least crew.
use Rattle.std.proofs.Common.{◌≡◌, ℕ, ◌<◌, ◌≤◌, Bool, List, ap, sym, ◌∙◌, arith}
use Rattle.std.specs.Prelude.{Ok, Err}
use Rattle.rwsp_terms.specs.Instance.{Instance}
use Rattle.rwsp_model.specs.Validity.{KeepsLimits}
use Rattle.crew_size.proofs.OneVerdict.{one_verdict}
use Rattle.crew_size.proofs.Decided.{searches_agree}
use Rattle.commands.specs.Staff.{IsStaffAnswer, StaffsAgree}
use Rattle.commands.specs.CheckStaff.{IsCheckedStaff}
use Rattle.commands.specs.declared.staff.Answer.{Answer as StaffAnswer}
use Rattle.commands.specs.declared.staff.Answer.TheVariants.{Run, Range}
use Rattle.commands.specs.declared.check_staff.Answer.{Answer}
use Rattle.commands.specs.declared.check_staff.Answer.TheVariants.{Accepted, Refused}

-- a staff text has one answer

pub one_checked_staff : (P : Instance) (bytes : List ℕ) (a b : Answer) → KeepsLimits P → IsCheckedStaff P bytes a → IsCheckedStaff P bytes b → a ≡ b
one_checked_staff P bytes (Accepted x) (Accepted y) limits h k =
    let both : Ok x ≡ Ok y = one_verdict P bytes (Ok x) (Ok y) limits h.0 k.0 in
    let same : x ≡ y = cc in
    ap Accepted same
one_checked_staff P bytes (Accepted x) (Refused y) limits h k =
    let both : Ok x ≡ Err y = one_verdict P bytes (Ok x) (Err y) limits h.0 k in
    absurd (cc)
one_checked_staff P bytes (Refused y) (Accepted x) limits h k =
    let both : Ok x ≡ Err y = one_verdict P bytes (Ok x) (Err y) limits k.0 h in
    absurd (cc)
one_checked_staff P bytes (Refused x) (Refused y) limits h k =
    let both : Err x ≡ Err y = one_verdict P bytes (Err x) (Err y) limits h k in
    let same : x ≡ y = cc in
    ap Refused same

-- two searches for the least crew

too_many : (most cells : ℕ) → most < cells → cells ≤ most → ⊥
too_many most cells h k = omega (arith, h, k)

pub staffs_agree : (P : Instance) (low high budget : ℕ) (counts : Bool) (a b : StaffAnswer) → IsStaffAnswer P low high budget counts a → IsStaffAnswer P low high budget counts b → StaffsAgree a b
staffs_agree P low high budget counts (Range m) (Range n) h k = h.0 ∙ sym k.0
staffs_agree P low high budget counts (Range m) (Run run) h k = too_many _ _ h.1 k.1
staffs_agree P low high budget counts (Run run) (Range n) h k = too_many _ _ k.1 h.1
staffs_agree P low high budget counts (Run run) (Run other) h k = λ x y e f. searches_agree P low high budget budget run other x y h.0 h.2 k.2 e f
