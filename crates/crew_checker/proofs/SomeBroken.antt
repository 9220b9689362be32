-- A roster that doesn't meet all rules has one that it breaks first.
use Rattle.std.proofs.Common.{◌≡◌, ℕ, zero, suc, ◌+◌, ◌-◌, ◌*◌, ◌/◌, ◌%◌, ◌<◌, ◌≤◌, List, length, refl, sym, subst, arith, inl, inr, Option, Some, None}
use Rattle.std.proofs.Math.Nat.{mod-eq-sub-div-mul, div-mul-le_self, mod-lt}
use Rattle.std.proofs.lemmas.Bool.{cases_lt}
use Rattle.rwsp_terms.specs.declared.data.Symbol.{Symbol}
use Rattle.rwsp_terms.specs.declared.data.Rule.{Rule}
use Rattle.rwsp_terms.specs.declared.data.Rule.TheVariants.{Most, Least, Never, Day}
use Rattle.rwsp_terms.specs.Instance.{Instance}
use Rattle.rwsp_terms.specs.Window.{window, Bad}
use Rattle.rwsp_terms.specs.Roster.{IsRoster, IsRule, MeetsRule, MeetsAll}
use Rattle.rwsp_terms.specs.Rules.{rules, rule_of}
use Rattle.rwsp_model.specs.RuleNumbers.{place_of}
use Rattle.rwsp_model.proofs.Numbering.{rule_numbered, number_at_place, number_within}
use Rattle.roster_checker.specs.FirstBroken.{IsFirstWindow, MeetsBelow, IsFirstBroken}
use Rattle.roster_checker.specs.Places.{IsFirstPlace, IsBrokenAt}
use Rattle.roster_checker.specs.declared.broken.Broken.{Broken}
use Rattle.roster_checker.proofs.FirstBroken.{place_breaks}
use Rattle.refutation_checker.proofs.Deciding.{least_number}

-- a kind of which a window is has a first one
some_window : (IsKind : ℕ → List Symbol → Type 0) (s : List Symbol) → ((p n : ℕ) → IsFirstWindow IsKind s p n → ⊥) → (p len : ℕ) → p < length s → IsKind p (window s p len) → ⊥
some_window IsKind s none p len within bad =
    least_number (λ q. (q < length s) × ((n : ℕ) × IsKind q (window s q n)))
    (λ q least.
    least_number (λ n. IsKind q (window s q n))
    (λ n shortest. none q n (record {
      within = least.0.0;
      here = shortest.0;
      earliest = λ r m less h. (let le : q ≤ r = least.1 r ((let in_it = least.0.0 in omega (arith, less, in_it)), (m, h)) in omega (arith, less, le));
      shortest = λ m less h. (let le : n ≤ m = shortest.1 m h in omega (arith, less, le));
    }))
    least.0.1.0 least.0.1.1)
    p (within, (len, bad))

-- a rule that isn't met is broken at a first place
some_place : (P : Instance) (r : Rule) (s : List Symbol) → IsRule P r → ((p n : ℕ) → IsFirstPlace P r s p n → ⊥) → (MeetsRule P r s → ⊥) → ⊥
some_place P (Most c) s is none broken = broken (some_window (Bad P (Most c)) s none)
some_place P (Least c) s is none broken = broken (some_window (Bad P (Least c)) s none)
some_place P (Never k) s is none broken = broken (some_window (Bad P (Never k)) s none)
some_place P (Day j) s is none broken = none (j - 1) 0 (broken, omega (arith, is), refl)

-- the answer that names a place
abbrev broken_at : Instance → ℕ → ℕ → ℕ → Broken
broken_at P k p n = record { rule = k; week = p / P.days + 1; day = p % P.days + 1; length = n }

is_at : (P : Instance) (k p n : ℕ) → 0 < P.days → IsBrokenAt P (broken_at P k p n) p n
is_at P k p n days =
    let less : p % P.days < P.days = mod-lt p days in
    let parts : p % P.days ≡ p - p / P.days * P.days = mod-eq-sub-div-mul p P.days in
    let few : p / P.days * P.days ≤ p = div-mul-le_self p P.days in
    let week : p / P.days + 1 - 1 ≡ p / P.days = omega arith in
    record {
      week = omega arith;
      day = (omega arith, omega (arith, less));
      position = subst (λ w. w * P.days + (p % P.days + 1 - 1) ≡ p) (sym week) (omega (arith, parts, few));
      length = refl;
    }

-- where no rule is broken first, all are met

abbrev BreaksNone : Instance → List Symbol → Type 0
BreaksNone P s = (b : Broken) → IsFirstBroken P s b → ⊥

met_next : (P : Instance) (s : List Symbol) → 0 < P.days → IsRoster P s → BreaksNone P s → (n : ℕ) → MeetsBelow P s n → (o : Option Rule) → rule_of P n ≡ o → (MeetsBelow P s (suc n) → ⊥) → ⊥
met_next P s days roster none n lower None e goes =
    goes (λ k r less at. elim (cases_lt k n) [
      | inl below ↦ lower k r below at
      | inr more ↦ (let same : k ≡ n = omega (arith, less, more) in let there : rule_of P n ≡ Some r = subst (λ i. rule_of P i ≡ Some r) same at in absurd (cc))
    ])
met_next P s days roster none n lower (Some q) e goes =
    let is : IsRule P q = (rule_numbered P n q e).0 in
    some_place P q s is
    (λ p m first. none (broken_at P n p m) (record { rule = q; number = e; lower = lower; breaks = place_breaks P q s (broken_at P n p m) p m roster.long is (is_at P n p m days) first }))
    (λ met. goes (λ k r less at. elim (cases_lt k n) [
      | inl below ↦ lower k r below at
      | inr more ↦ (let same : k ≡ n = omega (arith, less, more) in
          let there : rule_of P n ≡ Some r = subst (λ i. rule_of P i ≡ Some r) same at in
          let rule : q ≡ r = cc in
          subst (λ (t : Rule). MeetsRule P t s) rule met)
    ]))

met_below : (P : Instance) (s : List Symbol) → 0 < P.days → IsRoster P s → BreaksNone P s → (n : ℕ) → (MeetsBelow P s n → ⊥) → ⊥
met_below P s days roster none zero goes = goes (λ k r less at. absurd (omega (arith, less)))
met_below P s days roster none (suc n) goes = met_below P s days roster none n (λ lower. met_next P s days roster none n lower (rule_of P n) refl goes)

pub some_broken : (P : Instance) (s : List Symbol) → 0 < P.days → IsRoster P s → ((b : Broken) → IsFirstBroken P s b → ⊥) → (MeetsAll P s → ⊥) → ⊥
some_broken P s days roster none broken =
    met_below P s days roster none (length (rules P) + 1) (λ met. broken (record {
      is_roster = roster;
      rules = λ r is. (let within = number_within P r is in met (place_of P r + 1) r (omega (arith, within)) (number_at_place P r (place_of P r + 1) is refl));
    }))
