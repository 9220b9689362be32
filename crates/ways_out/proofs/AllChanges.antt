-- The list of all changes.
use Rattle.std.proofs.Common.{◌≡◌, ℕ, zero, suc, ◌+◌, ◌-◌, ◌<◌, ◌≤◌, List, [], ◌∷◌, ◌++◌, get_or, refl, ap, sym, subst, ◌∙◌, arith, Some}
use Rattle.std.proofs.lemmas.List.{append_assoc}
use Rattle.std.specs.Prelude.{slice_get, All, Contains}
use Rattle.std.specs.List.{flat_map, range_with_len, AllByRecursion}
use Rattle.rwsp_terms.specs.declared.data.Rule.{Rule}
use Rattle.rwsp_terms.specs.declared.data.Rule.TheVariants.{Most, Least, Never, Day}
use Rattle.rwsp_terms.specs.Instance.{Instance, shift_count, symbol_numbered, IsDay, IsShift}
use Rattle.rwsp_terms.specs.Roster.{IsRule}
use Rattle.rwsp_terms.specs.Rules.{rules, rule_of}
use Rattle.rwsp_terms.proofs.Elements.{all_from, all_to, all_joined}
use Rattle.std.proofs.lemmas.Option.{slice_get-get_or, same_Some}
use Rattle.std.proofs.lemmas.List.Elements.{Contains-append_left, Contains-append_right}
use Rattle.rwsp_model.specs.RuleNumbers.{place_of}
use Rattle.rwsp_model.proofs.Numbering.{rule_found, rule_at_place}
use Rattle.ways_out.specs.declared.change.Change.{Change}
use Rattle.ways_out.specs.declared.change.Change.TheVariants.{LongerBlocks, ShorterBlocks, LowerDemand, HigherDemand, Dropped}
use Rattle.ways_out.specs.Loosened.{changed_rule, IsChange}
use Rattle.ways_out.specs.Laws.{ChangesAreListed}
use Rattle.ways_out.specs.Changes.{changes, changes_of, demand_changes}

-- a rule by its place
pub rule_placed : (P : Instance) (n : ℕ) (r : Rule) → rule_of P (n + 1) ≡ Some r → slice_get (rules P) n ≡ Some r
rule_placed P n r h =
    let next : n + 1 ≡ suc n = omega arith in
    subst (λ (k : ℕ). rule_of P k ≡ Some r) next h

-- the changes of a day are the problem's
day_known : (P : Instance) (j a n : ℕ) → IsDay P j → 1 ≤ a → a + n ≤ shift_count P + 1 → AllByRecursion (IsChange P) (flat_map (demand_changes j) (range_with_len a n))
day_known P j a zero day first last = tt
day_known P j a (suc n) day first last =
    let low : 0 < a = omega (arith, first) in
    let high : a ≤ shift_count P = omega (arith, last) in
    let shift : IsShift P (symbol_numbered a) = (low, high) in
    ((day, shift), ((day, shift), day_known P j (a + 1) n day (omega (arith, first)) (omega (arith, last))))

-- both changes of a shift behind the others
pub both_more : (j n : ℕ) (out mid new : List Change) → mid ≡ out ++ LowerDemand j (symbol_numbered (n + 1)) ∷ [] → new ≡ mid ++ HigherDemand j (symbol_numbered (n + 1)) ∷ [] → new ≡ out ++ demand_changes j (1 + n)
both_more j n out mid new first second =
    let next : n + 1 ≡ 1 + n = omega arith in
    second
    ∙ ap (λ t. t ++ HigherDemand j (symbol_numbered (n + 1)) ∷ []) first
    ∙ append_assoc out (LowerDemand j (symbol_numbered (n + 1)) ∷ []) (HigherDemand j (symbol_numbered (n + 1)) ∷ [])
    ∙ ap (λ (k : ℕ). out ++ demand_changes j k) next

rule_known : (P : Instance) (r : Rule) → IsRule P r → AllByRecursion (IsChange P) (changes_of P r)
rule_known P (Most c) rule = (rule, tt)
rule_known P (Least c) rule = (rule, tt)
rule_known P (Never k) rule = (rule, tt)
rule_known P (Day j) rule = day_known P j 1 (shift_count P) rule (omega arith) (omega arith)

all_known : (P : Instance) (rs : List Rule) → AllByRecursion (IsRule P) rs → AllByRecursion (IsChange P) (flat_map (changes_of P) rs)
all_known P [] h = tt
all_known P (r ∷ rs) h = all_joined (IsChange P) (changes_of P r) (flat_map (changes_of P) rs) (rule_known P r h.0) (all_known P rs h.1)

-- each listed change is the problem's
pub changes_known : (P : Instance) → All (IsChange P) (changes P)
changes_known P =
    all_from (IsChange P) (changes P)
    (all_known P (rules P) (all_to (IsRule P) (rules P) (λ k d less. (rule_found P k (get_or (rules P) k d) (slice_get-get_or (rules P) k d less)).0)))

-- each change of the problem is listed

day_listed : (j a n i x : ℕ) → i < n → x ≡ a + i → Contains (flat_map (demand_changes j) (range_with_len a n)) (LowerDemand j (symbol_numbered x)) × Contains (flat_map (demand_changes j) (range_with_len a n)) (HigherDemand j (symbol_numbered x))
day_listed j a zero i x less is = absurd (omega (arith, less))
day_listed j a (suc n) zero x less is =
    let same : a ≡ x = omega (arith, is) in
    let rest = flat_map (demand_changes j) (range_with_len (a + 1) n) in (
      (0, omega arith, ap (λ (k : ℕ). LowerDemand j (symbol_numbered k)) same),
      (1, omega arith, ap (λ (k : ℕ). HigherDemand j (symbol_numbered k)) same),
    )
day_listed j a (suc n) (suc i) x less is =
    let later = day_listed j (a + 1) n i x (omega (arith, less)) (omega (arith, is)) in
    let rest = flat_map (demand_changes j) (range_with_len (a + 1) n) in (
      Contains-append_right (demand_changes j a) rest (LowerDemand j (symbol_numbered x)) later.0,
      Contains-append_right (demand_changes j a) rest (HigherDemand j (symbol_numbered x)) later.1,
    )

-- a change is among those of its rule
of_rule : (P : Instance) (change : Change) → IsChange P change → IsRule P (changed_rule change) × Contains (changes_of P (changed_rule change)) change
of_rule P (LongerBlocks c) known = (known, (0, omega arith, refl))
of_rule P (ShorterBlocks c) known = (known, (0, omega arith, refl))
of_rule P (LowerDemand j x) known =
    let low = known.1.0 in
    let high = known.1.1 in
    (known.0, (day_listed j 1 (shift_count P) (x.number - 1) x.number (omega (arith, low, high)) (omega (arith, low))).0)
of_rule P (HigherDemand j x) known =
    let low = known.1.0 in
    let high = known.1.1 in
    (known.0, (day_listed j 1 (shift_count P) (x.number - 1) x.number (omega (arith, low, high)) (omega (arith, low))).1)
of_rule P (Dropped k) known = (known, (0, omega arith, refl))

in_part : (P : Instance) (rs : List Rule) (i : ℕ) (r : Rule) (change : Change) → slice_get rs i ≡ Some r → Contains (changes_of P r) change → Contains (flat_map (changes_of P) rs) change
in_part P [] i r change there h = absurd (cc)
in_part P (q ∷ rs) zero r change there h =
    let same : q ≡ r = same_Some q r there in
    Contains-append_left (changes_of P q) (flat_map (changes_of P) rs) change (subst (λ (z : Rule). Contains (changes_of P z) change) (sym same) h)
in_part P (q ∷ rs) (suc i) r change there h = Contains-append_right (changes_of P q) (flat_map (changes_of P) rs) change (in_part P rs i r change there h)

pub changes_are_listed : ChangesAreListed
changes_are_listed P change = (
  λ h. subst (IsChange P) h.2 (changes_known P h.0 change h.1),
  λ known.
      let own = of_rule P change known in
      in_part P (rules P) (place_of P (changed_rule change)) (changed_rule change) change (rule_at_place P (changed_rule change) own.0) own.1,
)
