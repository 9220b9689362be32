-- What accepted texts and searches decide.
use Rattle.std.proofs.Common.{◌≡◌, ◌≢◌, ℕ, ◌+◌, ◌-◌, ◌*◌, ◌^◌, ◌<◌, ◌≤◌, List, [], ◌∷◌, ◌++◌, length, get_or, Some, None, refl, ap, sym, ◌∙◌, subst, arith, inl, inr, ⊎_elim}
use Rattle.std.specs.Prelude.{slice_get, codes}
use Rattle.std.specs.Fmt.{decimal}
use Rattle.std.proofs.Math.Nat.{mul-le-mul_right, pow-le-pow_right}
use Rattle.std.proofs.lemmas.Bool.{cases_lt}
use Rattle.std.proofs.lemmas.Option.{slice_get-get_or}
use Rattle.rwsp_terms.specs.Instance.{Instance, shift_count}
use Rattle.rwsp_model.specs.Validity.{IsValid, KeepsLimits}
use Rattle.rwsp_model.proofs.Limits.{keeps_valid}
use Rattle.rwsp_model.proofs.OtherWeeks.{other_weeks_keep}
use Rattle.roster_print.specs.RosterText.{roster_text}
use Rattle.roster_print.proofs.Printed.{printed_is_short, printed_is_spelled}
use Rattle.refutation_terms.specs.Log.{Log, Passes}
use Rattle.refutation_terms.proofs.LogKinds.{plain_leaves_none}
use Rattle.refutation_terms.proofs.Named.{named-IsRule}
use Rattle.refutation_terms.specs.declared.lines.LogKind.TheVariants.{WithoutGoal}
use Rattle.refutation_terms.specs.Verdict.{kind_of_log}
use Rattle.crew_size.specs.Sizes.{with_weeks, IsSize}
use Rattle.crew_size.specs.Texts.{Staff, next_size, roster_line, none_line, sections_text, end_text}
use Rattle.crew_size.specs.Fitting.{EndFits, FitsSizes}
use Rattle.crew_size.specs.Runs.{IsEnd, IsStaffed}
use Rattle.crew_size.specs.Sections.{ArePassing, BeginsAsHeading, IsHeadingsPlace, IsNextSize}
use Rattle.crew_size.specs.Verdict.{IsStaffAccepted}
use Rattle.crew_size.specs.Laws.{HasNoRoster, AreSizesDecided, decision_at, decision_of, AcceptedTextsDecide, SearchesDecide, SearchesAgree, EnoughBudgetDecides, PrintedRunsAreAccepted}
use Rattle.crew_size.specs.declared.run.StaffEnd.{StaffEnd}
use Rattle.crew_size.specs.declared.run.StaffEnd.TheVariants as Ends
use Rattle.crew_size.specs.declared.verdict.Staffed.{Staffed}
use Rattle.crew_size.specs.declared.verdict.Staffed.TheVariants.{Least, NoneTo}
use Rattle.crew_size.proofs.Searches.{AreRefuted, fits_sizes}
use Rattle.crew_size.proofs.Printing.{some_logs}

pub sized_keeps : (P : Instance) (m : ℕ) → KeepsLimits P → IsSize P m → KeepsLimits (with_weeks P m)
sized_keeps P m limits size = other_weeks_keep P m limits size.some size.few size.few_cells

-- a log without a goal and without given cells leaves no roster
none_of_log : (P : Instance) (m : ℕ) (g : Log) → kind_of_log g ≡ WithoutGoal → Passes (with_weeks P m) g → HasNoRoster P m
none_of_log P m g plain passes = λ s meets.
    plain_leaves_none (with_weeks P m) g s passes plain
    (record { is_roster = meets.is_roster; rules = λ r named. meets.rules r (named-IsRule (with_weeks P m) g.named r named) })

-- the logs of the sizes pass
abbrev AllPass : Instance → ℕ → List Log → Type 0
AllPass P low logs = (k : ℕ) (g : Log) → slice_get logs k ≡ Some g → (kind_of_log g ≡ WithoutGoal) × Passes (with_weeks P (low + k)) g

none_among : (P : Instance) (low : ℕ) (logs : List Log) → AllPass P low logs → (k : ℕ) → low ≤ k → k < low + length logs → HasNoRoster P k
none_among P low [] all k a b = absurd (omega (arith, a, b))
none_among P low (h ∷ logs) all k a b =
    let i : ℕ = k - low in
    let within : i < length (h ∷ logs) = omega (arith, a, b) in
    let same : low + i ≡ k = omega (arith, a) in
    let passing = all i (get_or (h ∷ logs) i h) (slice_get-get_or (h ∷ logs) i h within) in
    subst (HasNoRoster P) same (none_of_log P (low + i) (get_or (h ∷ logs) i h) passing.0 passing.1)

all_pass : (P : Instance) (low : ℕ) (logs : List Log) → ArePassing P low logs → AllPass P low logs
all_pass P low logs are k g at = (are.plain k g at, are.passes k g at)

pub accepted_decide : AcceptedTextsDecide
accepted_decide P text (Least low m) h = (
  omega (arith, h.size),
  (h.right.0, h.right.2),
  λ k a b. none_among P low h.logs (all_pass P low h.logs h.ends.stands.passing) k a (omega (arith, b, h.size)),
)
accepted_decide P text (NoneTo low last) h = (
  omega (arith, h.last_size.0, h.last_size.1),
  λ k a b. none_among P low h.logs (all_pass P low h.logs h.stands.passing) k a (omega (arith, b, h.last_size.1)),
)

-- what a search of these sizes decides
abbrev IsDecidedWithin : Instance → ℕ → ℕ → Staffed → Type 0
IsDecidedWithin P low high (Least a m) = (a ≡ low) × (m ≤ high) × AreSizesDecided P (Least a m)
IsDecidedWithin P low high (NoneTo a last) = (a ≡ low) × (last ≡ high) × AreSizesDecided P (NoneTo a last)

decided_of : (P : Instance) (low high : ℕ) (staffed : Staffed) → IsDecidedWithin P low high staffed → AreSizesDecided P staffed
decided_of P low high (Least a m) h = h.2
decided_of P low high (NoneTo a last) h = h.2

decided_by : (P : Instance) (high budget low m : ℕ) (logs : List Log) (end : StaffEnd) (staffed : Staffed) → low ≤ high → AreRefuted P budget low logs → low + length logs ≡ m → IsEnd P high budget m end → decision_at low m end ≡ Some staffed → IsDecidedWithin P low high staffed
decided_by P high budget low m logs (Ends.Least s) staffed le are e h same =
    let eq : Least low m ≡ staffed = cc in
    subst (IsDecidedWithin P low high) eq
    (refl, h.0, (omega (arith, e), (s.cells, h.1.1), λ k a b. none_among P low logs (λ i g at. ((are i g at).2.of_kind, (are i g at).0)) k a (omega (arith, b, e))))
decided_by P high budget low m logs Ends.NoneTo staffed le are e h same =
    let eq : NoneTo low (m - 1) ≡ staffed = cc in
    subst (IsDecidedWithin P low high) eq
    (refl, omega (arith, h), (omega (arith, h, le), λ k a b. none_among P low logs (λ i g at. ((are i g at).2.of_kind, (are i g at).0)) k a (omega (arith, b, e, h))))
decided_by P high budget low m logs (Ends.Undecided g) staffed le are e h same = absurd (cc)

decided_within : (P : Instance) (low high budget : ℕ) (run : Staff) (staffed : Staffed) → low ≤ high → IsStaffed P low high budget run → decision_of run ≡ Some staffed → IsDecidedWithin P low high staffed
decided_within P low high budget run staffed le h same =
    decided_by P high budget low (low + length run.logs) run.logs run.end staffed le h.refuted refl h.end
    (ap (λ n. decision_at n (n + length run.logs) run.end) (sym h.first) ∙ same)

pub searches_decide : SearchesDecide
searches_decide P low high budget run staffed le h same = decided_of P low high staffed (decided_within P low high budget run staffed le h same)

-- two searches

sizes_agree : (P : Instance) (low high a m b n : ℕ) → IsDecidedWithin P low high (Least a m) → IsDecidedWithin P low high (Least b n) → m < n → ⊥
sizes_agree P low high a m b n h k less =
    let le : b ≤ m = omega (arith, h.0, k.0, h.2.0) in
    k.2.2 m le less h.2.1.0 h.2.1.1

within_agree : (P : Instance) (low high : ℕ) (a b : Staffed) → IsDecidedWithin P low high a → IsDecidedWithin P low high b → a ≡ b
within_agree P low high (Least a m) (Least b n) h k =
    let same : m ≡ n =
    ⊎_elim (λ (l : m < n). absurd (sizes_agree P low high a m b n h k l))
    (λ (l : n ≤ m).
    ⊎_elim (λ (r : n < m). absurd (sizes_agree P low high b n a m k h r)) (λ (r : m ≤ n). omega (arith, l, r)) (cases_lt n m))
    (cases_lt m n) in
    ap (λ (x : ℕ). Least x m) (h.0 ∙ sym k.0) ∙ ap (λ (x : ℕ). Least b x) same
within_agree P low high (Least a m) (NoneTo b last) h k =
    let le : b ≤ m = omega (arith, h.0, k.0, h.2.0) in
    let within : m ≤ last = omega (arith, h.1, k.1) in
    absurd (k.2.1 m le within h.2.1.0 h.2.1.1)
within_agree P low high (NoneTo a last) (Least b n) h k =
    let le : a ≤ n = omega (arith, h.0, k.0, k.2.0) in
    let within : n ≤ last = omega (arith, h.1, k.1) in
    absurd (h.2.1 n le within k.2.1.0 k.2.1.1)
within_agree P low high (NoneTo a last) (NoneTo b other) h k =
    ap (λ (x : ℕ). NoneTo x last) (h.0 ∙ sym k.0) ∙ ap (λ (x : ℕ). NoneTo b x) (h.1 ∙ sym k.1)

pub searches_agree : SearchesAgree
searches_agree P low high budget other_budget run other a b le h k e f =
    within_agree P low high a b (decided_within P low high budget run a le h e) (decided_within P low high other_budget other b le k f)

-- a budget for all assignments

enough_by : (P : Instance) (high budget low m : ℕ) (end : StaffEnd) → IsEnd P high budget m end → 2 * (shift_count P + 1) ^ (high * P.days) ≤ budget + 1 → decision_at low m end ≡ None → ⊥
enough_by P high budget low m (Ends.Least s) h enough e = absurd (cc)
enough_by P high budget low m Ends.NoneTo h enough e = absurd (cc)
enough_by P high budget low m (Ends.Undecided g) h enough e =
    let longer : m * P.days ≤ high * P.days = mul-le-mul_right P.days h.0 in
    let some : 0 < shift_count P + 1 = omega arith in
    let more : (shift_count P + 1) ^ (m * P.days) ≤ (shift_count P + 1) ^ (high * P.days) = pow-le-pow_right some longer in
    omega (arith, more, h.1.2, enough)

pub enough_budget : EnoughBudgetDecides
enough_budget P low high budget run h enough none = enough_by P high budget run.low (low + length run.logs) run.end h.end enough (ap (λ n. decision_at run.low (n + length run.logs) run.end) (sym h.first) ∙ none)

-- printed texts

place_at : (logs : List Log) (rest : List ℕ) → BeginsAsHeading rest → IsHeadingsPlace logs rest
place_at [] rest h = tt
place_at (g ∷ logs) rest h = inr h

next_at : (P : Instance) (low m : ℕ) (logs : List Log) → m ≡ low + length logs → IsSize P m → IsNextSize P low logs m
next_at P low m [] e size = size
next_at P low m (g ∷ logs) e size = (size, e)

printed_by : (P : Instance) (high budget low m : ℕ) (logs : List Log) (end : StaffEnd) (staffed : Staffed) → KeepsLimits P → ArePassing P low logs → m ≡ low + length logs → EndFits P m end → (end ≡ Ends.NoneTo → logs ≢ []) → IsEnd P high budget m end → decision_at low m end ≡ Some staffed → IsStaffAccepted P (sections_text P low logs ++ end_text P m end) staffed
printed_by P high budget low m logs (Ends.Least s) staffed limits passing e fits some h same =
    let eq : Least low m ≡ staffed = cc in
    let size : IsSize P m = fits.0 in
    let valid : IsValid (with_weeks P m) = keeps_valid (with_weeks P m) (sized_keeps P m limits size) in
    let bytes : List ℕ = roster_text (with_weeks P m) s.cells in
    subst (IsStaffAccepted P (sections_text P low logs ++ (roster_line m ++ bytes))) eq
    (record {
      logs = logs;
      bytes = bytes;
      size = e;
      ends = record {
        stands = record {
          passing = passing;
          whole = refl;
          place = place_at logs (roster_line m ++ bytes) (inl ((decimal m ++ (codes " roster" ++ 10 ∷ [])) ++ bytes, refl));
        };
        next = next_at P low m logs e size;
        short = printed_is_short (with_weeks P m) s.cells valid fits.2;
      };
      right = (s.cells, printed_is_spelled (with_weeks P m) s.cells valid fits.2, h.1.1);
    })
printed_by P high budget low m logs Ends.NoneTo staffed limits passing e fits some h same =
    let eq : NoneTo low (m - 1) ≡ staffed = cc in
    let long : 0 < length logs = some_logs logs (some refl) in
    subst (IsStaffAccepted P (sections_text P low logs ++ none_line (m - 1))) eq
    (record {
      logs = logs;
      last_size = (long, omega (arith, e, long));
      stands = record {
        passing = passing;
        whole = refl;
        place = place_at logs (none_line (m - 1)) (inr (codes "to " ++ (decimal (m - 1) ++ 10 ∷ []), refl));
      };
    })
printed_by P high budget low m logs (Ends.Undecided g) staffed limits passing e fits some h same = absurd (cc)

pub printed_accepted : PrintedRunsAreAccepted
printed_accepted P low high budget run staffed limits one le size h same =
    let fits : FitsSizes P run = fits_sizes P low high budget run one le size h in
    let moved : IsStaffed P run.low high budget run = subst (λ n. IsStaffed P n high budget run) (sym h.first) h in
    let passing : ArePassing P run.low run.logs = record { sizes = fits.sizes; plain = λ k g at. (moved.refuted k g at).2.of_kind; passes = λ k g at. (moved.refuted k g at).0 } in
    printed_by P high budget run.low (next_size run) run.logs run.end staffed limits passing refl fits.end fits.some moved.end same
