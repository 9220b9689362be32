-- The domains at the first line of a log, with a symbol for each given cell.
use Rattle.std.proofs.Common.{◌≡◌, ℕ, ◌<◌, ◌≤◌, List, [], length, take, get_or, ap, ◌∙◌, arith, inl, inr, true, ◌&&◌, ◌||◌, ◌==◌, not, IsTrue}
use Rattle.std.specs.Prelude.{nat_le, map}
use Rattle.std.proofs.Math.Bool.{and-true}
use Rattle.std.proofs.lemmas.Bool.{cases_lt, ne_eqb, le-leb}
use Rattle.std.proofs.lemmas.List.{get_or-map, get_or-take, length-map, length-take-le}
use Rattle.std.proofs.lemmas.List.Kept.{AllPairs-from_increasing}
use Rattle.std.proofs.lemmas.List.Elements.{All-get_or}
use Rattle.std.proofs.lemmas.List.Sums.{list_all-from_AllPass}
use Rattle.rwsp_terms.specs.Instance.{Instance, cells, shift_count}
use Rattle.rwsp_model.specs.Validity.{KeepsLimits}
use Rattle.refutation_terms.specs.declared.cells.GivenCell.{GivenCell}
use Rattle.refutation_terms.specs.declared.lines.Opening.TheVariants.{Given}
use Rattle.refutation_terms.specs.GivenCells.{AreGivenIn}
use Rattle.refutation_terms.specs.Word.{AreSame}
use Rattle.refutation_terms.specs.Tree.{cells_leave, opening}
use Rattle.domain_store.specs.Sets.{IsDomain}
use Rattle.domain_store.specs.Store.{Store, domain_at, has_domain, BelongsTo, IsStore, HasDomains}
use Rattle.domain_store.proofs.Idle.{positions_of}

-- the cells before one leave its position as it was
apart : (P : Instance) (given : List GivenCell) (i z : ℕ) (d : GivenCell) → AreGivenIn P given → i < length given → cells_leave (take i given) (get_or given i d).p z ≡ true
apart P given i z d are lt =
    let p : ℕ = (get_or given i d).p in
    list_all-from_AllPass (λ c. not (c.p == p) || (z == c.x.number)) (take i given)
    (λ j e less.
    let q : ℕ = (get_or (take i given) j e).p in
    let before : j < i = omega (arith, less, lt, length-take-le i given) in
    let same : get_or (take i given) j e ≡ get_or given j e = get_or-take i given j e before in
    let within : i < length (map (λ c. c.p) given) = omega (arith, lt, length-map given (λ c. c.p)) in
    let below : get_or (map (λ c. c.p) given) j 0 < get_or (map (λ c. c.p) given) i 0 = AllPairs-from_increasing (map (λ c. c.p) given) are.0 j i 0 before within in
    let first : get_or (map (λ c. c.p) given) j 0 ≡ (get_or given j e).p = get_or-map (λ c. c.p) given j e 0 (omega (arith, before, lt)) in
    let second : get_or (map (λ c. c.p) given) i 0 ≡ p = get_or-map (λ c. c.p) given i d 0 lt in
    let here : q ≡ (get_or given j e).p = ap (λ (c : GivenCell). c.p) same in
    ap (λ b. not b || (z == (get_or (take i given) j e).x.number)) (ne_eqb q p (λ clash. omega (arith, below, first, second, here, clash))))

-- so its domain is full there, and it can have its symbol alone, since the problem has a shift beside the day off
pub record CanBeGiven (S : Store) (c : GivenCell) : Type 0 where
  pub position : c.p < length S.sets
  pub held : IsTrue (has_domain S c.p c.x.number)
  pub another : 2 ≤ length (domain_at S c.p)

pub next_can_be : (P : Instance) (given : List GivenCell) (i : ℕ) (d : GivenCell) (S : Store) → KeepsLimits P → AreGivenIn P given → i < length given → BelongsTo P S → IsStore S → HasDomains S → AreSame P (has_domain S) (opening P (Given (take i given))) → CanBeGiven S (get_or given i d)
next_can_be P given i d S limits are lt belongs now tests same =
    let c : GivenCell = get_or given i d in
    let fits : (c.p < cells P) × (c.x.number ≤ shift_count P) = are.1 i d lt in
    let inside : c.p < length S.sets = omega (arith, fits.0, positions_of P S now belongs) in
    let all : (z : ℕ) → has_domain S c.p z ≡ nat_le z (shift_count P) = λ z.
    same c.p z fits.0 ∙ ap (λ b. nat_le z (shift_count P) && b) (apart P given i z d are lt) ∙ and-true (nat_le z (shift_count P)) in
    let some_shift : 1 ≤ shift_count P = limits.some_shifts in
    let some : 0 < length (domain_at S c.p) = (All-get_or (IsDomain S.shifts) S.sets c.p [] inside now.domains).some in
    record {
      position = inside;
      held = all c.x.number ∙ le-leb c.x.number (shift_count P) fits.1;
      another = elim (cases_lt 1 (length (domain_at S c.p))) [
        | inl two ↦ two
        | inr one ↦
            let clash : 0 ≡ 1 = tests.alone c.p 0 1 (omega (arith, one, some)) (all 0 ∙ le-leb 0 (shift_count P) (omega arith)) (all 1 ∙ le-leb 1 (shift_count P) some_shift) in absurd (omega (arith, clash))
      ];
    }
