-- The first broken rule is one, and the check finds it.
use Rattle.std.proofs.Common.{◌≡◌, ℕ, ◌+◌, ◌-◌, ◌*◌, ◌/◌, ◌%◌, ◌<◌, ◌≤◌, inl, inr, List, length, ap, sym, ◌∙◌, arith, subst}
use Rattle.std.proofs.lemmas.Bool.{cases_lt, cases_order}
use Rattle.std.proofs.Math.Nat.{mul-le-mul_right}
use Rattle.std.proofs.lemmas.Nat.{div-mul-add, mod-mul-add}
use Rattle.std.proofs.lemmas.Option.{same_Some}
use Rattle.rwsp_terms.specs.Instance.{Instance}
use Rattle.rwsp_terms.specs.declared.limits.TheConstants.{MOST_CELLS}
use Rattle.rwsp_terms.specs.Window.{Bad}
use Rattle.rwsp_terms.specs.Roster.{MeetsRule, MeetsAll, IsRule}
use Rattle.rwsp_terms.specs.Rules.{rule_of}
use Rattle.rwsp_terms.specs.declared.data.Symbol.{Symbol}
use Rattle.rwsp_terms.specs.declared.data.Rule.{Rule}
use Rattle.rwsp_terms.specs.declared.data.Rule.TheVariants.{Most, Least, Never, Day}
use Rattle.roster_checker.specs.FirstBroken.{BeginsFirstBadWindow, BreaksFirst, FailsDay, IsFirstWindow, IsFirstBroken, position_of}
use Rattle.roster_checker.specs.Places.{IsFirstPlace, IsBrokenAt}
use Rattle.roster_checker.specs.declared.broken.Broken.{Broken}
use Rattle.rwsp_model.proofs.Numbering.{rule_numbered}

-- a rule that is broken isn't met
breaks-not_met : (P : Instance) (r : Rule) (s : List Symbol) (b : Broken) → BreaksFirst P r s b → MeetsRule P r s → ⊥
breaks-not_met P (Most c) s b h met = met _ _ h.first.within h.first.here
breaks-not_met P (Least c) s b h met = met _ _ h.first.within h.first.here
breaks-not_met P (Never k) s b h met = met _ _ h.first.within h.first.here
breaks-not_met P (Day j) s b h met = h.fails met

pub first_broken-not_met : (P : Instance) (s : List Symbol) (b : Broken) → IsFirstBroken P s b → MeetsAll P s → ⊥
first_broken-not_met P s b f all = breaks-not_met P f.rule s b f.breaks (all.rules f.rule (rule_numbered P b.rule f.rule f.number).0)

-- the first window of a kind is one

same_position : (IsKind : ℕ → List Symbol → Type 0) (s : List Symbol) (p m q n : ℕ) → IsFirstWindow IsKind s p m → IsFirstWindow IsKind s q n → p ≡ q
same_position IsKind s p m q n a b =
    elim (cases_order p q) [
      | inl same ↦ same
      | inr other ↦ elim other [ inl less ↦ absurd (b.earliest p m less a.here) | inr more ↦ absurd (a.earliest q n more b.here) ]
    ]

same_length : (IsKind : ℕ → List Symbol → Type 0) (s : List Symbol) (p m n : ℕ) → IsFirstWindow IsKind s p m → IsFirstWindow IsKind s p n → m ≡ n
same_length IsKind s p m n a b =
    elim (cases_order m n) [
      | inl same ↦ same
      | inr other ↦ elim other [ inl less ↦ absurd (b.shortest m less a.here) | inr more ↦ absurd (a.shortest n more b.here) ]
    ]

-- whole weeks and a day are one number in one way
same_weeks : (days w d x y : ℕ) → d < days → y < days → w * days + d ≡ x * days + y → w ≡ x
same_weeks days w d x y d_in y_in e = sym (div-mul-add w days d d_in) ∙ ap (λ n. n / days) e ∙ div-mul-add x days y y_in

same_day : (days w d x y : ℕ) → d < days → y < days → w * days + d ≡ x * days + y → d ≡ y
same_day days w d x y d_in y_in e = sym (mod-mul-add w days d d_in) ∙ ap (λ n. n % days) e ∙ mod-mul-add x days y y_in

-- the fields of an answer but the number of the rule
abbrev SamePlace : Broken → Broken → Type 0
SamePlace a b = (a.week ≡ b.week) × (a.day ≡ b.day) × (a.length ≡ b.length)

same_window : (P : Instance) (r : Rule) (s : List Symbol) (a b : Broken) → BeginsFirstBadWindow P r s a → BeginsFirstBadWindow P r s b → SamePlace a b
same_window P r s a b f g =
    let at : position_of P a.week a.day ≡ position_of P b.week b.day = same_position (Bad P r) s (position_of P a.week a.day) a.length (position_of P b.week b.day) b.length f.first g.first in
    let a_in : a.day - 1 < P.days = omega (arith, f.day.0, f.day.1) in
    let b_in : b.day - 1 < P.days = omega (arith, g.day.0, g.day.1) in
    let weeks : a.week - 1 ≡ b.week - 1 = same_weeks P.days (a.week - 1) (a.day - 1) (b.week - 1) (b.day - 1) a_in b_in at in
    let days : a.day - 1 ≡ b.day - 1 = same_day P.days (a.week - 1) (a.day - 1) (b.week - 1) (b.day - 1) a_in b_in at in (
      omega (arith, f.week.0, g.week.0, weeks),
      omega (arith, f.day.0, g.day.0, days),
      same_length (Bad P r) s (position_of P b.week b.day) a.length b.length (subst (λ p. IsFirstWindow (Bad P r) s p a.length) at f.first) g.first,
    )

same_place : (P : Instance) (r : Rule) (s : List Symbol) (a b : Broken) → BreaksFirst P r s a → BreaksFirst P r s b → SamePlace a b
same_place P (Most c) s a b f g = same_window P (Most c) s a b f g
same_place P (Least c) s a b f g = same_window P (Least c) s a b f g
same_place P (Never k) s a b f g = same_window P (Never k) s a b f g
same_place P (Day j) s a b f g = (f.week ∙ sym g.week, f.day ∙ sym g.day, f.length ∙ sym g.length)

same_answer : (a b : Broken) → a.rule ≡ b.rule → SamePlace a b → a ≡ b
same_answer a b rule place =
    ap (λ n. let c : Broken = record { rule = n; week = a.week; day = a.day; length = a.length } in c) rule
    ∙ ap (λ n. let c : Broken = record { rule = b.rule; week = n; day = a.day; length = a.length } in c) place.0
    ∙ ap (λ n. let c : Broken = record { rule = b.rule; week = b.week; day = n; length = a.length } in c) place.1
    ∙ ap (λ n. let c : Broken = record { rule = b.rule; week = b.week; day = b.day; length = n } in c) place.2

-- the rule that is broken first has one number

not_earlier : (P : Instance) (s : List Symbol) (a b : Broken) → IsFirstBroken P s a → IsFirstBroken P s b → a.rule < b.rule → ⊥
not_earlier P s a b f g less = breaks-not_met P f.rule s a f.breaks (g.lower a.rule f.rule less f.number)

same_number : (P : Instance) (s : List Symbol) (a b : Broken) → IsFirstBroken P s a → IsFirstBroken P s b → a.rule ≡ b.rule
same_number P s a b f g =
    elim (cases_order a.rule b.rule) [
      | inl same ↦ same
      | inr other ↦ elim other [ inl less ↦ absurd (not_earlier P s a b f g less) | inr more ↦ absurd (not_earlier P s b a g f more) ]
    ]

pub first_broken-same : (P : Instance) (s : List Symbol) (a b : Broken) → IsFirstBroken P s a → IsFirstBroken P s b → a ≡ b
first_broken-same P s a b f g =
    let number : a.rule ≡ b.rule = same_number P s a b f g in
    let rule : f.rule ≡ g.rule = same_Some f.rule g.rule (sym f.number ∙ ap (rule_of P) number ∙ g.number) in
    same_answer a b number (same_place P g.rule s a b (subst (λ r. BreaksFirst P r s a) rule f.breaks) g.breaks)

-- the answer that is made of a place

week_within : (weeks days w d : ℕ) → w * days + d < weeks * days → w < weeks
week_within weeks days w d less =
    elim (cases_lt w weeks) [
      | inl within ↦ within
      | inr past ↦ let more : weeks * days ≤ w * days = mul-le-mul_right days past in absurd (omega arith)
    ]

window_begins : (P : Instance) (r : Rule) (s : List Symbol) (b : Broken) (p n : ℕ) → length s ≡ P.weeks * P.days → IsBrokenAt P b p n → IsFirstWindow (Bad P r) s p n → BeginsFirstBadWindow P r s b
window_begins P r s b p n long at first =
    let here : IsFirstWindow (Bad P r) s (position_of P b.week b.day) b.length =
    subst (λ q. IsFirstWindow (Bad P r) s q b.length) (sym at.position) (subst (λ m. IsFirstWindow (Bad P r) s p m) (sym at.length) first) in
    let before : b.week - 1 < P.weeks = week_within P.weeks P.days (b.week - 1) (b.day - 1) (omega (arith, here.within, long)) in
    record {
      week = (at.week, omega (arith, at.week, before));
      day = at.day;
      first = here;
    }

day_fails : (P : Instance) (j : ℕ) (s : List Symbol) (b : Broken) (p n : ℕ) → IsRule P (Day j) → IsBrokenAt P b p n → IsFirstPlace P (Day j) s p n → FailsDay P j s b
day_fails P j s b p n is at first =
    let b_in : b.day - 1 < P.days = omega (arith, at.day.0, at.day.1) in
    let j_in : j - 1 < P.days = omega (arith, is.0, is.1) in
    let e : (b.week - 1) * P.days + (b.day - 1) ≡ 0 * P.days + (j - 1) = at.position ∙ (let h : p ≡ 0 * P.days + (j - 1) = omega (arith, first.1) in h) in
    let weeks : b.week - 1 ≡ 0 = same_weeks P.days (b.week - 1) (b.day - 1) 0 (j - 1) b_in j_in e in
    let days : b.day - 1 ≡ j - 1 = same_day P.days (b.week - 1) (b.day - 1) 0 (j - 1) b_in j_in e in
    record {
      fails = first.0;
      week = omega (arith, at.week, weeks);
      day = omega (arith, at.day.0, is.0, days);
      length = at.length ∙ first.2;
    }

pub place_breaks : (P : Instance) (r : Rule) (s : List Symbol) (b : Broken) (p n : ℕ) → length s ≡ P.weeks * P.days → IsRule P r → IsBrokenAt P b p n → IsFirstPlace P r s p n → BreaksFirst P r s b
place_breaks P (Most c) s b p n long is at first = window_begins P (Most c) s b p n long at first
place_breaks P (Least c) s b p n long is at first = window_begins P (Least c) s b p n long at first
place_breaks P (Never k) s b p n long is at first = window_begins P (Never k) s b p n long at first
place_breaks P (Day j) s b p n long is at first = day_fails P j s b p n is at first

pub place_is_small : (P : Instance) (r : Rule) (s : List Symbol) (p n : ℕ) → length s ≤ MOST_CELLS → P.days ≤ MOST_CELLS → IsRule P r → IsFirstPlace P r s p n → p < MOST_CELLS
place_is_small P (Most c) s p n few days is first = omega (arith, few, first.within)
place_is_small P (Least c) s p n few days is first = omega (arith, few, first.within)
place_is_small P (Never k) s p n few days is first = omega (arith, few, first.within)
place_is_small P (Day j) s p n few days is first = omega (arith, days, is.1, first.1)
