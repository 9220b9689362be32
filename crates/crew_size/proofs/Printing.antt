-- What the printing of a run reads of it.
use Rattle.std.proofs.Common.{◌≡◌, ℕ, suc, zero, ◌<◌, List, [], ◌∷◌, ◌++◌, length, take, get_or, Some, refl, ap, sym, ◌∙◌, subst, arith}
use Rattle.std.specs.Prelude.{◌≢◌, slice_get}
use Rattle.std.proofs.lemmas.Option.{slice_get-get_or}
use Rattle.rwsp_terms.specs.Instance.{Instance}
use Rattle.refutation_terms.specs.Log.{Log}
use Rattle.crew_size.specs.Texts.{Staff, sections_text, end_text, next_size, staff_text}
use Rattle.crew_size.specs.declared.run.StaffEnd.{StaffEnd}

-- a log is read at its index
pub log_read : (logs items : List Log) (k : ℕ) (g : Log) → items ≡ logs → k < length items → g ≡ get_or items k g → slice_get logs k ≡ Some g
log_read logs items k g e lt is =
    let P : List Log → Type 0 = λ xs. slice_get xs k ≡ Some g in
    subst P e (slice_get-get_or items k g lt ∙ ap (λ (x : Log). Some x) (sym is))

pub some_logs : (logs : List Log) → logs ≢ [] → 0 < length logs
some_logs [] some = absurd (some refl)
some_logs (g ∷ logs) some = omega arith

take_whole : (logs : List Log) (k : ℕ) → k ≡ length logs → take k logs ≡ logs
take_whole [] zero e = refl
take_whole [] (suc k) e = absurd (omega (arith, e))
take_whole (g ∷ logs) zero e = absurd (omega (arith, e))
take_whole (g ∷ logs) (suc k) e = ap (λ (xs : List Log). g ∷ xs) (take_whole logs k (omega (arith, e)))

-- all sections and the end are the staff text
pub text_whole : (P : Instance) (run : Staff) (k m : ℕ) (out text : List ℕ) (end : StaffEnd) → k ≡ length run.logs → m ≡ next_size run → out ≡ sections_text P run.low (take k run.logs) → end ≡ run.end → text ≡ out ++ end_text P m end → text ≡ staff_text P run
text_whole P run k m out text end all size is same e =
    e ∙ ap (λ (o : List ℕ). o ++ end_text P m end) (is ∙ ap (λ (xs : List Log). sections_text P run.low xs) (take_whole run.logs k all))
    ∙ ap (λ n. sections_text P run.low run.logs ++ end_text P n end) size
    ∙ ap (λ (x : StaffEnd). sections_text P run.low run.logs ++ end_text P (next_size run) x) same
