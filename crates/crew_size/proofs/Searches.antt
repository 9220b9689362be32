-- What a search size by size gives, put together.
use Rattle.std.proofs.Common.{◌≡◌, ℕ, ◌+◌, ◌*◌, ◌≤◌, List, [], ◌∷◌, ◌++◌, length, Bool, Some, ap, sym, ◌∙◌, subst, arith, ⊎_elim, length-append}
use Rattle.std.specs.Prelude.{slice_get}
use Rattle.std.proofs.Math.Nat.{mul-le-mul_right}
use Rattle.std.proofs.lemmas.Option.{slice_get_within}
use Rattle.rwsp_terms.specs.Instance.{Instance}
use Rattle.refutation_terms.specs.Log.{Log}
use Rattle.refutation_log.specs.declared.found.Found.TheVariants as Founds
use Rattle.refutation_log.specs.Planned.{IsPlanned, IsCountedLog}
use Rattle.crew_size.specs.Sizes.{with_weeks, IsSize}
use Rattle.crew_size.specs.Texts.{Staff, next_size}
use Rattle.crew_size.specs.Fitting.{EndFits, FitsSizes}
use Rattle.crew_size.specs.Runs.{IsEnd, IsStaffed, IsEndCounted, IsStaffCounted}
use Rattle.crew_size.specs.declared.run.StaffEnd.{StaffEnd}
use Rattle.crew_size.specs.declared.run.StaffEnd.TheVariants.{Least, NoneTo, Undecided}
use Rattle.crew_size.proofs.Fronts.{pushed_at}

-- a smaller size is one too
pub size_below : (P : Instance) (m high : ℕ) → 1 ≤ m → m ≤ high → IsSize P high → IsSize P m
size_below P m high some le size =
    let less : m * P.days ≤ high * P.days = mul-le-mul_right P.days le in
    record { some = some; few = omega (arith, le, size.few); few_cells = omega (arith, less, size.few_cells) }

-- this is said of each log, for its size
abbrev pub AreFor : (ℕ → Log → Type 0) → ℕ → List Log → Type 0
AreFor Said low logs = (k : ℕ) (g : Log) → slice_get logs k ≡ Some g → Said (low + k) g

-- it is that of a plan for its size
abbrev pub IsRefuted : Instance → ℕ → ℕ → Log → Type 0
IsRefuted P budget m g = IsPlanned (with_weeks P m) budget (Founds.NoRoster g)

-- and of one which counts or not
abbrev pub IsCountedFor : Instance → Bool → ℕ → Log → Type 0
IsCountedFor P counts m g = IsCountedLog (with_weeks P m) counts g

abbrev pub AreRefuted : Instance → (budget low : ℕ) → List Log → Type 0
AreRefuted P budget low logs = AreFor (IsRefuted P budget) low logs

abbrev pub AreCounted : Instance → Bool → ℕ → List Log → Type 0
AreCounted P counts low logs = AreFor (IsCountedFor P counts) low logs

pub none_for : (Said : ℕ → Log → Type 0) (low : ℕ) (logs : List Log) → logs ≡ [] → AreFor Said low logs
none_for Said low logs e = λ k g at. let none : slice_get [] k ≡ Some g = subst (λ (ls : List Log). slice_get ls k ≡ Some g) e at in absurd (cc)

pub one_more_for : (Said : ℕ → Log → Type 0) (low m : ℕ) (logs more : List Log) (g : Log) → AreFor Said low logs → low + length logs ≡ m → Said m g → more ≡ logs ++ g ∷ [] → AreFor Said low more
one_more_for Said low m logs more g are e said same =
    subst (AreFor Said low) (sym same)
    (λ k h at.
    ⊎_elim (λ (a : slice_get logs k ≡ Some h). are k h a)
    (λ (b : (k ≡ length logs) × (g ≡ h)).
    subst (λ n. Said n h) (sym e ∙ ap (λ n. low + n) (sym b.0)) (subst (λ (x : Log). Said m x) b.1 said))
    (pushed_at logs g h k at))

pub size_of_more : (low m : ℕ) (logs more : List Log) (g : Log) → low + length logs ≡ m → more ≡ logs ++ g ∷ [] → low + length more ≡ m + 1
size_of_more low m logs more g e same = let long : length more ≡ length logs + 1 = ap length same ∙ length-append logs (g ∷ []) in omega (arith, e, long)

pub is_staffed : (P : Instance) (low high budget m : ℕ) (logs : List Log) (end : StaffEnd) (run : Staff) → run.low ≡ low → run.logs ≡ logs → run.end ≡ end → AreRefuted P budget low logs → low + length logs ≡ m → IsEnd P high budget m end → IsStaffed P low high budget run
is_staffed P low high budget m logs end run a b c are e h =
    let size : low + length run.logs ≡ m = ap (λ (ls : List Log). low + length ls) b ∙ e in
    record {
      first = a;
      refuted = subst (AreRefuted P budget low) (sym b) are;
      end = subst (λ n. IsEnd P high budget n run.end) (sym size) (subst (IsEnd P high budget m) (sym c) h);
    }

pub is_counted : (P : Instance) (counts : Bool) (low m : ℕ) (logs : List Log) (end : StaffEnd) (run : Staff) → run.low ≡ low → run.logs ≡ logs → run.end ≡ end → AreCounted P counts low logs → low + length logs ≡ m → IsEndCounted P counts m end → IsStaffCounted P counts run
is_counted P counts low m logs end run a b c are e h =
    let size : next_size run ≡ m = ap (λ n. n + length run.logs) a ∙ ap (λ (ls : List Log). low + length ls) b ∙ e in
    record {
      logs = subst (λ n. AreCounted P counts n run.logs) (sym a) (subst (AreCounted P counts low) (sym b) are);
      end = subst (λ n. IsEndCounted P counts n run.end) (sym size) (subst (IsEndCounted P counts m) (sym c) h);
    }

-- what a search gives fits its sizes

end_within : (P : Instance) (high budget m : ℕ) (end : StaffEnd) → IsEnd P high budget m end → m ≤ high + 1
end_within P high budget m (Least s) h = omega (arith, h.0)
end_within P high budget m NoneTo h = omega (arith, h)
end_within P high budget m (Undecided g) h = omega (arith, h.0)

end_fits : (P : Instance) (high budget m : ℕ) (end : StaffEnd) → 1 ≤ m → IsSize P high → IsEnd P high budget m end → EndFits P m end
end_fits P high budget m (Least s) some size h = (size_below P m high some h.0 size, h.1.0, h.1.1.is_roster)
end_fits P high budget m NoneTo some size h = tt
end_fits P high budget m (Undecided g) some size h = (size_below P m high some h.0 size, h.1.0.grounded.fits)

fits_sizes_from : (P : Instance) (high budget : ℕ) (run : Staff) → 1 ≤ run.low → run.low ≤ high → IsSize P high → IsStaffed P run.low high budget run → FitsSizes P run
fits_sizes_from P high budget run some le size h =
    let within = end_within P high budget (next_size run) run.end h.end in
    record {
      sizes = λ k g at.
          let lt = slice_get_within run.logs k g at in
          size_below P (run.low + k) high (omega (arith, some)) (omega (arith, lt, within)) size;
      logs = λ k g at. (h.refuted k g at).0.grounded.fits;
      end = end_fits P high budget (next_size run) run.end (omega (arith, some)) size h.end;
      some = λ none empty.
          let all : next_size run ≡ high + 1 = subst (IsEnd P high budget (next_size run)) none h.end in
          let short : length run.logs ≡ 0 = ap length empty in
          omega (arith, all, short, le);
    }

pub fits_sizes : (P : Instance) (low high budget : ℕ) (run : Staff) → 1 ≤ low → low ≤ high → IsSize P high → IsStaffed P low high budget run → FitsSizes P run
fits_sizes P low high budget run some le size h =
    fits_sizes_from P high budget run (subst (λ n. 1 ≤ n) (sym h.first) some) (subst (λ n. n ≤ high) (sym h.first) le) size (subst (λ n. IsStaffed P n high budget run) (sym h.first) h)
