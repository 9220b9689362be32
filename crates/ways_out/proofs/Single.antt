-- A roster of an instance with one demand changed is one with that demand as it holds it.
use Rattle.std.proofs.Common.{◌≡◌, ℕ, zero, suc, ◌+◌, ◌-◌, ◌<◌, ◌≤◌, List, [], ◌∷◌, length, get_or, refl, ap, sym, subst, ◌∙◌, arith, inl, inr, Some, ◌==◌}
use Rattle.std.specs.Prelude.{◌⊎◌, slice_get, Option}
use Rattle.std.proofs.lemmas.Int.{ints}
use Rattle.std.proofs.lemmas.Bool.{cases_Bool, cases_lt, eqb-true, eqb-false}
use Rattle.rwsp_terms.specs.declared.data.Bounds.{Bounds}
use Rattle.rwsp_terms.specs.declared.data.Symbol.{Symbol}
use Rattle.rwsp_terms.specs.declared.data.Rule.{Rule}
use Rattle.rwsp_terms.specs.declared.data.Rule.TheVariants.{Most, Least, Never, Day}
use Rattle.rwsp_terms.specs.Instance.{Instance, shift_count, shift_demand, range_in, no_bounds, least, greatest, IsDay}
use Rattle.rwsp_terms.specs.Roster.{MeetsAll, MeetsDay, MeetsRule, IsRule, weeks_with}
use Rattle.rwsp_model.specs.Validity.{KeepsLimits}
use Rattle.ways_out.specs.declared.change.Change.{Change}
use Rattle.ways_out.specs.declared.change.Change.TheVariants.{LongerBlocks, ShorterBlocks, LowerDemand, HigherDemand, Dropped}
use Rattle.ways_out.specs.Loosened.{edited, raised, lowered, lowest, highest, exact, loosened, most_steps, with_demand, IsChange}
use Rattle.ways_out.specs.Together.{IsOfDemand}
use Rattle.ways_out.specs.Helping.{HasNone}
use Rattle.ways_out.proofs.Edited.{length-edited, edited_same}
use Rattle.ways_out.proofs.Valid.{demand_valued}
use Rattle.ways_out.proofs.Rows.{row_long}
use Rattle.ways_out.proofs.Easier.{rule_kept}
use Rattle.ways_out.proofs.Staying.{easier_demand}
use Rattle.ways_out.proofs.OneSymbolEach.{IsInRange, day_by_shifts}

-- what stands at the place that is edited, and elsewhere

here : {X : Type 0} (k : ℕ) (f : X → X) (xs : List X) (d : X) → k < length xs → slice_get (edited k f xs) k ≡ Some (f (get_or xs k d))
here k f [] d less = absurd (omega (arith, less))
here zero f (x ∷ xs) d less = refl
here (suc k) f (x ∷ xs) d less = here k f xs d (omega (arith, less))

read_here : {X : Type 0} (k : ℕ) (f : X → X) (xs : List X) (d : X) → k < length xs → get_or (edited k f xs) k d ≡ f (get_or xs k d)
read_here k f [] d less = absurd (omega (arith, less))
read_here zero f (x ∷ xs) d less = refl
read_here (suc k) f (x ∷ xs) d less = read_here k f xs d (omega (arith, less))

elsewhere : {X : Type 0} (k i : ℕ) (f g : X → X) (xs : List X) → (i ≡ k → ⊥) → slice_get (edited k f xs) i ≡ slice_get (edited k g xs) i
elsewhere k i f g [] other = refl
elsewhere zero zero f g (x ∷ xs) other = absurd (other refl)
elsewhere zero (suc i) f g (x ∷ xs) other = refl
elsewhere (suc k) zero f g (x ∷ xs) other = refl
elsewhere (suc k) (suc i) f g (x ∷ xs) other = elsewhere k i f g xs (λ e. other (ap suc e))

-- the demand that is changed
pub demand_put : (P : Instance) (x j : ℕ) (b : Bounds) → KeepsLimits P → 0 < x → x ≤ shift_count P → IsDay P j → shift_demand (with_demand P x j (λ _. b)) x j ≡ b
demand_put P x j b limits some few day =
    let rows = limits.rows in
    let long = row_long P x limits some few in
    let first = day.0 in
    let last = day.1 in
    ap (λ (o : Option (List Bounds)). range_in o (j - 1)) (here (x - 1) (edited (j - 1) (λ _. b)) P.demand [] (omega (arith, some, few, rows)))
    ∙ read_here (j - 1) (λ _. b) (get_or P.demand (x - 1) []) no_bounds (omega (arith, long, first, last))

module _ (P : Instance) (x j : ℕ) (a b : Bounds) (limits : KeepsLimits P) (some : 0 < x) (few : x ≤ shift_count P) (day : IsDay P j) (s : List Symbol) (meets : MeetsAll (with_demand P x j (λ _. a)) s) (low : b.least ≤ weeks_with P s x j) (high : weeks_with P s x j ≤ b.greatest) where
  in_range : (y : ℕ) → 0 < y → y ≤ shift_count P → IsInRange (with_demand P x j (λ _. b)) s j y
  in_range zero none le = absurd (omega (arith, none))
  in_range (suc y) none le = elim (cases_Bool (suc y == x)) [
    | inl equal ↦ let same = eqb-true (suc y) x equal in
        let put = demand_put P x j b limits some few day in
        subst (λ (n : ℕ). IsInRange (with_demand P x j (λ _. b)) s j n) (sym same)
        (subst (λ (r : Bounds). r.least ≤ weeks_with P s x j) (sym put) low, subst (λ (r : Bounds). weeks_with P s x j ≤ r.greatest) (sym put) high)
    | inr unequal ↦ let other = eqb-false (suc y) x unequal in
        let met = meets.rules (Day j) day (suc y) le in
        let below = met.0 in
        let above = met.1 in
        let same : shift_demand (with_demand P x j (λ _. a)) (suc y) j ≡ shift_demand (with_demand P x j (λ _. b)) (suc y) j =
        ap (λ (o : Option (List Bounds)). range_in o (j - 1)) (elsewhere (x - 1) (suc y - 1) (edited (j - 1) (λ _. a)) (edited (j - 1) (λ _. b)) P.demand (λ e. other (omega (arith, some, e)))) in
        (subst (λ (r : Bounds). r.least ≤ weeks_with P s (suc y) j) same (omega (arith, ints, below)), subst (λ (r : Bounds). weeks_with P s (suc y) j ≤ r.greatest) same (omega (arith, ints, above)))
  ]

  day_met : MeetsDay (with_demand P x j (λ _. b)) j s
  day_met =
      day_by_shifts (with_demand P x j (λ _. b)) j s (length-edited (x - 1) (edited (j - 1) (λ _. b)) P.demand ∙ limits.rows) (record { long = meets.is_roster.long; symbols = meets.is_roster.symbols }) in_range

  kept : (r : Rule) → (r ≡ Day j → ⊥) → IsRule (with_demand P x j (λ _. b)) r → MeetsRule (with_demand P x j (λ _. b)) r s
  kept r other rule =
      rule_kept (with_demand P x j (λ _. a)) (with_demand P x j (λ _. b)) (λ q. q ≡ Day j) (easier_demand P x j (λ _. a) (λ _. b) (λ q. q ≡ Day j) day.0 (λ spared. absurd (spared refl))) s meets r other rule

  all_met : (r : Rule) → IsRule (with_demand P x j (λ _. b)) r → MeetsRule (with_demand P x j (λ _. b)) r s
  all_met (Day i) rule = elim (cases_Bool (i == j)) [
    | inl equal ↦ subst (λ (n : ℕ). MeetsDay (with_demand P x j (λ _. b)) n s) (sym (eqb-true i j equal)) day_met
    | inr unequal ↦ let other = eqb-false i j unequal in kept (Day i) (λ e. let same : i ≡ j = cc in other same) rule
  ]
  all_met (Most c) rule = kept (Most c) (λ e. absurd (cc)) rule
  all_met (Least c) rule = kept (Least c) (λ e. absurd (cc)) rule
  all_met (Never k) rule = kept (Never k) (λ e. absurd (cc)) rule

  -- a roster with one range of the demand is one with another that its number is in
  pub moved : MeetsAll (with_demand P x j (λ _. b)) s
  moved = record {
    is_roster = record { long = meets.is_roster.long; symbols = meets.is_roster.symbols };
    rules = all_met;
  }

-- a demand in its place
valued : (P : Instance) (x j : ℕ) (f : Bounds → Bounds) → KeepsLimits P → 0 < x → x ≤ shift_count P → IsDay P j → with_demand P x j f ≡ with_demand P x j (λ _. f (shift_demand P x j))
valued P x j f limits some few day = sym (demand_valued P x j f (f (shift_demand P x j)) limits some few day refl)

-- a roster holds a number of the range
holds_number : (P : Instance) (x j : ℕ) (a : Bounds) (s : List Symbol) → KeepsLimits P → 0 < x → x ≤ shift_count P → IsDay P j → MeetsAll (with_demand P x j (λ _. a)) s → (a.least ≤ weeks_with P s x j) × (weeks_with P s x j ≤ a.greatest)
holds_number P zero j a s limits some few day meets = absurd (omega (arith, some))
holds_number P (suc x) j a s limits some few day meets =
    let met = meets.rules (Day j) day (suc x) few in
    let below = met.0 in
    let above = met.1 in
    let put = demand_put P (suc x) j a limits some few day in
    (subst (λ (r : Bounds). r.least ≤ weeks_with P s (suc x) j) put (omega (arith, ints, below)), subst (λ (r : Bounds). weeks_with P s (suc x) j ≤ r.greatest) put (omega (arith, ints, above)))

abbrev IsWithin : Bounds → ℕ → Type 0
IsWithin b k = (b.least ≤ k) × (k ≤ b.greatest)

-- no roster with a demand unchanged
none_at_first : (P : Instance) (x j : ℕ) (f : Bounds → Bounds) → KeepsLimits P → 0 < x → x ≤ shift_count P → IsDay P j → ((b : Bounds) → f b ≡ b) → HasNone P → HasNone (with_demand P x j f)
none_at_first P x j f limits some few day same none = λ s meets.
    none s (subst (λ (Q : Instance). MeetsAll Q s) (ap (λ (d : List (List Bounds)). record P { demand = d }) (edited_same (x - 1) (edited (j - 1) f) P.demand (λ row. edited_same (j - 1) f row same))) meets)

bounds_are : (b c : Bounds) → b.least ≡ c.least → b.greatest ≡ c.greatest → b ≡ c
bounds_are b c least greatest = ap (λ (n : ℕ). record { least = n; greatest = b.greatest }) least ∙ ap (λ (n : ℕ). record { least = c.least; greatest = n }) greatest

pub none_with_none : (P : Instance) (change : Change) → KeepsLimits P → IsOfDemand change → IsChange P change → HasNone P → HasNone (loosened P change 0)
none_with_none P (LowerDemand j x) limits demand known none =
    none_at_first P x.number j (lowered 0) limits known.1.0 known.1.1 known.0 (λ b. bounds_are (lowered 0 b) b (omega arith) refl) none
none_with_none P (HigherDemand j x) limits demand known none =
    none_at_first P x.number j (raised 0) limits known.1.0 known.1.1 known.0 (λ b. bounds_are (raised 0 b) b refl (omega arith)) none
none_with_none P (LongerBlocks c) limits demand known none = absurd demand
none_with_none P (ShorterBlocks c) limits demand known none = absurd demand
none_with_none P (Dropped k) limits demand known none = absurd demand

-- no roster with a range of a demand, where there is none with either of two that hold each number of it
none_joined : (P : Instance) (x j : ℕ) (a b e : Bounds) → KeepsLimits P → 0 < x → x ≤ shift_count P → IsDay P j → ((k : ℕ) → a.least ≤ k → k ≤ a.greatest → IsWithin b k ⊎ IsWithin e k) → HasNone (with_demand P x j (λ _. b)) → HasNone (with_demand P x j (λ _. e)) → HasNone (with_demand P x j (λ _. a))
none_joined P x j a b e limits some few day splits none single = λ s meets.
    let held = holds_number P x j a s limits some few day meets in
    elim (splits (weeks_with P s x j) held.0 held.1) [
      | inl in_b ↦ none s (moved P x j a b limits some few day s meets in_b.0 in_b.1)
      | inr in_e ↦ single s (moved P x j a e limits some few day s meets in_e.0 in_e.1)
    ]

low_split : (d : Bounds) (n k : ℕ) → n + 1 ≤ d.least → (lowered (n + 1) d).least ≤ k → k ≤ d.greatest → IsWithin (lowered n d) k ⊎ IsWithin (lowest (lowered (n + 1) d)) k
low_split d n k few low high = elim (cases_lt (d.least - (n + 1)) k) [
  | inl above ↦ inl (omega (arith, few, above), high)
  | inr here ↦ inr (low, omega (arith, low, here, high))
]

high_split : (d : Bounds) (n k : ℕ) → d.least ≤ k → k ≤ (raised (n + 1) d).greatest → IsWithin (raised n d) k ⊎ IsWithin (highest (raised (n + 1) d)) k
high_split d n k low high = elim (cases_lt k (d.greatest + (n + 1))) [
  | inl below ↦ inl (low, omega (arith, below))
  | inr here ↦ inr (omega (arith, low, here, high), high)
]

pub none_further : (P : Instance) (change : Change) (n : ℕ) → KeepsLimits P → IsChange P change → n + 1 ≤ most_steps P change → HasNone (loosened P change n) → HasNone (exact P change (n + 1)) → HasNone (loosened P change (n + 1))
none_further P (LowerDemand j x) n limits known few none single =
    let d = shift_demand P x.number j in
    let put = λ (f : Bounds → Bounds). valued P x.number j f limits known.1.0 known.1.1 known.0 in
    subst HasNone (sym (put (lowered (n + 1))))
    (none_joined P x.number j (lowered (n + 1) d) (lowered n d) (lowest (lowered (n + 1) d)) limits known.1.0 known.1.1 known.0
    (λ k low high. low_split d n k few low high)
    (subst HasNone (put (lowered n)) none) (subst HasNone (put (λ b. lowest (lowered (n + 1) b))) single))
none_further P (HigherDemand j x) n limits known few none single =
    let d = shift_demand P x.number j in
    let put = λ (f : Bounds → Bounds). valued P x.number j f limits known.1.0 known.1.1 known.0 in
    subst HasNone (sym (put (raised (n + 1))))
    (none_joined P x.number j (raised (n + 1) d) (raised n d) (highest (raised (n + 1) d)) limits known.1.0 known.1.1 known.0
    (λ k low high. high_split d n k low high)
    (subst HasNone (put (raised n)) none) (subst HasNone (put (λ b. highest (raised (n + 1) b))) single))
none_further P (LongerBlocks c) n limits known few none single = single
none_further P (ShorterBlocks c) n limits known few none single = single
none_further P (Dropped k) n limits known few none single = single
