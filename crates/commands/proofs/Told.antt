-- An answer has one text that is told.
use Rattle.std.proofs.Common.{◌≡◌, ℕ, List, [], ◌∷◌, ◌++◌, length, Bool, true, false, ap, sym, ◌∙◌}
use Rattle.rwsp_terms.specs.Instance.{Instance}
use Rattle.rwsp_model.specs.Validity.{KeepsLimits}
use Rattle.refutation_terms.specs.Log.{Log}
use Rattle.refutation_log.specs.declared.found.Found.{Found}
use Rattle.refutation_log.specs.declared.found.Found.TheVariants as Founds
use Rattle.refutation_log.specs.declared.best_found.BestFound.{BestFound}
use Rattle.ways_out.specs.declared.answer.WaysOut.{WaysOut}
use Rattle.ways_out.specs.declared.answer.WaysOut.TheVariants as Ways
use Rattle.made_problems.specs.declared.rested.LeastRest.{LeastRest}
use Rattle.plain_words.specs.Statements.{Statement, plain, told_lines}
use Rattle.plain_words.specs.LogTold.{reduced_statements}
use Rattle.plain_words.specs.declared.pieces.TheConstants.{MEND_LOOKS}
use Rattle.commands.specs.Told.{refuted_statements}
use Rattle.commands.specs.Plan.{IsSaidShortly, IsPlanTold}
use Rattle.commands.specs.Best.{IsBestTold}
use Rattle.commands.specs.Staff.{IsStaffTold}
use Rattle.commands.specs.Mend.{IsMendTold}
use Rattle.commands.specs.Rest.{IsRestTold}
use Rattle.commands.specs.Check.{IsCheckTold}
use Rattle.commands.specs.CheckStaff.{IsCheckStaffTold}
use Rattle.commands.specs.Reduce.{IsReduceTold}
use Rattle.commands.specs.Fill.{IsFillTold}
use Rattle.commands.specs.Verify.{IsVerifyTold}
use Rattle.commands.specs.Crew.{IsCrewTold}
use Rattle.commands.specs.Page.{IsPageTold}
use Rattle.commands.specs.Ics.{IsIcsTold}
use Rattle.commands.specs.On.{IsOnTold}
use Rattle.commands.specs.Roster.{IsRosterTold}
use Rattle.commands.specs.declared.staff.Answer.{Answer as Staff}
use Rattle.commands.specs.declared.staff.Answer.TheVariants as Staffs
use Rattle.commands.specs.declared.check.Answer.{Answer as Check}
use Rattle.commands.specs.declared.check_staff.Answer.{Answer as CheckStaff}
use Rattle.commands.specs.declared.reduce.Answer.{Answer as Reduce}
use Rattle.commands.specs.declared.reduce.Answer.TheVariants as Reductions
use Rattle.commands.specs.declared.fill.Answer.{Answer as Fill}
use Rattle.commands.specs.declared.verify.Answer.{Answer as Verify}
use Rattle.commands.specs.declared.crew.Answer.{Answer as Crew}
use Rattle.commands.specs.declared.page.Answer.{Answer as Page}
use Rattle.commands.specs.declared.ics.Answer.{Answer as Ics}
use Rattle.commands.specs.declared.on.Answer.{Answer as On}
use Rattle.commands.specs.declared.roster.Answer.{Answer as Roster}
use Rattle.commands.specs.declared.roster.Answer.TheVariants as Rosters
use Rattle.commands.proofs.Reductions.{one_reduced}

one_shortly : (short : Bool) (P : Instance) (g : Log) (a b : List Statement) → IsSaidShortly short P g a → IsSaidShortly short P g b → a ≡ b
one_shortly true P g a b h k = h.2 ∙ ap (λ (r : Log). reduced_statements P (length g.named) r) (one_reduced P g h.0 k.0 h.1 k.1) ∙ sym k.2
one_shortly false P g a b h k = h ∙ sym k

pub one_plan_told : (P : Instance) (found : Found) (text other : List ℕ) → KeepsLimits P → IsPlanTold P found text → IsPlanTold P found other → text ≡ other
one_plan_told P (Founds.Roster s) text other limits h k = h ∙ sym k
one_plan_told P (Founds.NoRoster g) text other limits h k =
    let same = one_shortly _ P g h.1.0 k.1.0 h.1.1 k.1.1 in
    h.2 ∙ ap (λ s. told_lines P s) (h.1.2 ∙ ap (λ s. refuted_statements g ++ s ++ plain MEND_LOOKS.now ∷ []) same ∙ sym k.1.2) ∙ sym k.2
one_plan_told P (Founds.Undecided g) text other limits h k = h ∙ sym k

pub one_staff_told : (P : Instance) (answer : Staff) (text other : List ℕ) → KeepsLimits P → IsStaffTold P answer text → IsStaffTold P answer other → text ≡ other
one_staff_told P (Staffs.Run run) text other limits h k = h ∙ sym k
one_staff_told P (Staffs.Range weeks) text other limits h k = h ∙ sym k

pub one_mend_told : (P : Instance) (answer : WaysOut) (text other : List ℕ) → KeepsLimits P → IsMendTold P answer text → IsMendTold P answer other → text ≡ other
one_mend_told P (Ways.NoNeed s) text other limits h k = h ∙ sym k
one_mend_told P (Ways.Undecided g) text other limits h k = h ∙ sym k
one_mend_told P (Ways.Changes outcomes) text other limits h k = h ∙ sym k

pub one_reduce_told : (P : Instance) (answer : Reduce) (text other : List ℕ) → KeepsLimits P → IsReduceTold P answer text → IsReduceTold P answer other → text ≡ other
one_reduce_told P (Reductions.Reduced g) text other limits h k = h ∙ sym k
one_reduce_told P (Reductions.Refused why) text other limits h k = h ∙ sym k

-- where the text is a function of the answer

pub one_rest_told : (P : Instance) (answer : LeastRest) (text other : List ℕ) → KeepsLimits P → IsRestTold P answer text → IsRestTold P answer other → text ≡ other
one_rest_told P answer text other limits h k = h ∙ sym k

pub one_check_told : (P : Instance) (answer : Check) (text other : List ℕ) → KeepsLimits P → IsCheckTold P answer text → IsCheckTold P answer other → text ≡ other
one_check_told P answer text other limits h k = h ∙ sym k

pub one_check_staff_told : (P : Instance) (answer : CheckStaff) (text other : List ℕ) → KeepsLimits P → IsCheckStaffTold P answer text → IsCheckStaffTold P answer other → text ≡ other
one_check_staff_told P answer text other limits h k = h ∙ sym k

pub one_fill_told : (P : Instance) (answer : Fill) (text other : List ℕ) → KeepsLimits P → IsFillTold P answer text → IsFillTold P answer other → text ≡ other
one_fill_told P answer text other limits h k = h ∙ sym k

pub one_best_told : (P : Instance) (found : BestFound) (text other : List ℕ) → KeepsLimits P → IsBestTold P found text → IsBestTold P found other → text ≡ other
one_best_told P found text other limits h k = h ∙ sym k

pub one_verify_told : (P : Instance) (answer : Verify) (text other : List ℕ) → KeepsLimits P → IsVerifyTold P answer text → IsVerifyTold P answer other → text ≡ other
one_verify_told P answer text other limits h k = h ∙ sym k

pub one_crew_told : (P : Instance) (answer : Crew) (text other : List ℕ) → KeepsLimits P → IsCrewTold P answer text → IsCrewTold P answer other → text ≡ other
one_crew_told P answer text other limits h k = h ∙ sym k

pub one_page_told : (P : Instance) (answer : Page) (text other : List ℕ) → KeepsLimits P → IsPageTold P answer text → IsPageTold P answer other → text ≡ other
one_page_told P answer text other limits h k = h ∙ sym k

pub one_ics_told : (P : Instance) (answer : Ics) (text other : List ℕ) → KeepsLimits P → IsIcsTold P answer text → IsIcsTold P answer other → text ≡ other
one_ics_told P answer text other limits h k = h ∙ sym k

pub one_on_told : (P : Instance) (answer : On) (text other : List ℕ) → KeepsLimits P → IsOnTold P answer text → IsOnTold P answer other → text ≡ other
one_on_told P answer text other limits h k = h ∙ sym k

pub one_roster_told : (P : Instance) (answer : Roster) (text other : List ℕ) → KeepsLimits P → IsRosterTold P answer text → IsRosterTold P answer other → text ≡ other
one_roster_told P (Rosters.Shown roster) text other limits h k = h ∙ sym k
one_roster_told P (Rosters.Breaks weeks breach) text other limits h k = h ∙ sym k
one_roster_told P Rosters.NoRoster text other limits h k = h ∙ sym k
