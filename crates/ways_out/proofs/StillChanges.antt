-- A change of a demand leaves each change a change.
use Rattle.std.proofs.Common.{◌≡◌, ℕ, ◌<◌, ◌≤◌, List, length, get_or, refl, sym, subst}
use Rattle.std.specs.Prelude.{All}
use Rattle.rwsp_terms.specs.declared.data.Bounds.{Bounds}
use Rattle.rwsp_terms.specs.declared.data.Sequence.{Sequence}
use Rattle.rwsp_terms.specs.Instance.{Instance, shift_count}
use Rattle.ways_out.specs.declared.change.Change.{Change}
use Rattle.ways_out.specs.declared.change.Change.TheVariants.{LongerBlocks, ShorterBlocks, LowerDemand, HigherDemand, Dropped}
use Rattle.ways_out.specs.Loosened.{raised, lowered, with_demand, loosened, IsChange}
use Rattle.ways_out.specs.Together.{IsOfDemand}
use Rattle.ways_out.proofs.Easier.{class_kept}

-- what instances of one shape have in common
stays_by : (P Q : Instance) (change : Change) → Q.days ≡ P.days → shift_count Q ≡ shift_count P → Q.sequences ≡ P.sequences → IsChange P change → IsChange Q change
stays_by P Q (LongerBlocks c) days shifts forbidden h = class_kept P Q c (sym shifts) h
stays_by P Q (ShorterBlocks c) days shifts forbidden h = class_kept P Q c (sym shifts) h
stays_by P Q (LowerDemand j x) days shifts forbidden h =
    ((h.0.0, subst (λ (n : ℕ). j ≤ n) (sym days) h.0.1), (h.1.0, subst (λ (n : ℕ). x.number ≤ n) (sym shifts) h.1.1))
stays_by P Q (HigherDemand j x) days shifts forbidden h =
    ((h.0.0, subst (λ (n : ℕ). j ≤ n) (sym days) h.0.1), (h.1.0, subst (λ (n : ℕ). x.number ≤ n) (sym shifts) h.1.1))
stays_by P Q (Dropped k) days shifts forbidden h = subst (λ (qs : List Sequence). k < length qs) (sym forbidden) h

demand_stays : (P : Instance) (x j : ℕ) (f : Bounds → Bounds) (change : Change) → IsChange P change → IsChange (with_demand P x j f) change
demand_stays P x j f change h = stays_by P (with_demand P x j f) change refl refl refl h

change_stays : (P : Instance) (loosening change : Change) (n : ℕ) → IsOfDemand loosening → IsChange P change → IsChange (loosened P loosening n) change
change_stays P (LongerBlocks c) change n demand h = absurd demand
change_stays P (ShorterBlocks c) change n demand h = absurd demand
change_stays P (LowerDemand j x) change n demand h = demand_stays P x.number j (lowered n) change h
change_stays P (HigherDemand j x) change n demand h = demand_stays P x.number j (raised n) change h
change_stays P (Dropped k) change n demand h = absurd demand

-- all changes stay changes
pub all_stay : (P Q : Instance) (changes : List Change) (loosening : Change) (n : ℕ) → Q ≡ loosened P loosening n → IsOfDemand loosening → All (IsChange P) changes → All (IsChange Q) changes
all_stay P Q changes loosening n is demand all =
    subst (λ (R : Instance). All (IsChange R) changes) (sym is) (λ k d less. change_stays P loosening (get_or changes k d) n demand (all k d less))

pub all_as : (P Q : Instance) (changes : List Change) → Q ≡ P → All (IsChange P) changes → All (IsChange Q) changes
all_as P Q changes is all = subst (λ (R : Instance). All (IsChange R) changes) (sym is) all
