-- A refusal that is passed on.
use Rattle.std.proofs.Common.{◌≡◌, subst, sym}
use Rattle.std.specs.Prelude.{Result, Err}
use Rattle.rwsp_model.specs.declared.fail.Fail.{Fail}
use Rattle.rwsp_model.specs.declared.fail.Fail.TheVariants.{Refused, Memory}
use Rattle.rwsp_model.specs.Refusals.{MatchAnswer}
use Rattle.crew_size.specs.declared.verdict.StaffRefusal.{StaffRefusal}

pub refused_again : (T : Type 0) {U : Type 0} (f : Fail StaffRefusal) (r : Result U (Fail StaffRefusal)) (P : T → Type 0) (S : U → Type 0)
    (Q : StaffRefusal → Type 0) → r ≡ Err f → MatchAnswer {T = T} (Err f) P Q → MatchAnswer r S Q
refused_again T {U} Memory r P S Q e h = subst (λ (x : Result U (Fail StaffRefusal)). MatchAnswer x S Q) (sym e) tt
refused_again T {U} (Refused why) r P S Q e h = subst (λ (x : Result U (Fail StaffRefusal)). MatchAnswer x S Q) (sym e) h

-- Q of the refusal, where the answer is one
pub why_refused : (T : Type 0) {R : Type 0} (f : Fail R) (why : R) (P : T → Type 0) (Q : R → Type 0) → f ≡ Refused why → MatchAnswer {T = T} (Err f) P Q → Q why
why_refused T {R} f why P Q e h = subst (λ (x : Fail R). MatchAnswer {T = T} (Err x) P Q) e h
