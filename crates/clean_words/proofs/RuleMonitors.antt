-- Each kind of rule has what watches for it.
use Rattle.std.proofs.Common.{◌≡◌, ℕ, ◌<◌, ◌≤◌, List, length, Option, Some, None, ap, sym, ◌∙◌, subst, arith}
use Rattle.std.specs.Prelude.{◌↔◌, MatchOption, slice_get}
use Rattle.std.proofs.lemmas.Option.{same_Some}
use Rattle.rwsp_terms.specs.declared.data.Symbol.{Symbol}
use Rattle.rwsp_terms.specs.declared.data.Class.{Class}
use Rattle.rwsp_terms.specs.declared.data.Sequence.{Sequence}
use Rattle.rwsp_terms.specs.declared.data.Rule.{Rule}
use Rattle.rwsp_terms.specs.declared.data.Rule.TheVariants as TheRules
use Rattle.rwsp_terms.specs.declared.limits.TheConstants.{GREATEST_BOUND, MOST_DAYS}
use Rattle.rwsp_terms.specs.Instance.{Instance, bounds}
use Rattle.rwsp_terms.specs.Rules.{rules, rule_of}
use Rattle.rwsp_terms.specs.Window.{HasNoBadPart}
use Rattle.rwsp_model.proofs.Numbering.{rule_in_range}
use Rattle.clean_words.specs.declared.monitor.Monitor.{Monitor}
use Rattle.clean_words.specs.declared.monitor.Monitor.TheVariants.{Most, Least, Never}
use Rattle.clean_words.specs.Monitors.{Fits, watched_least, Watches, Spares}
use Rattle.clean_words.proofs.BlockWords.{most_watches, least_watches}
use Rattle.clean_words.proofs.SequenceWords.{never_watches}

-- the monitor fits, and watches for the rule
abbrev pub IsOf : Instance → Rule → Monitor → Type 0
IsOf P r m = Fits P m × Watches (HasNoBadPart P r) m

pub of_most : (P : Instance) (r : Rule) (c : Class) (greatest : ℕ) → r ≡ TheRules.Most c → greatest ≡ (bounds P c).greatest → greatest ≤ GREATEST_BOUND → IsOf P r (Most c greatest)
of_most P r c greatest same is few = ((few, tt), subst (λ (q : Rule). Watches (HasNoBadPart P q) (Most c greatest)) (sym same) (most_watches P c greatest is))

pub of_least : (P : Instance) (r : Rule) (c : Class) (least bound : ℕ) → r ≡ TheRules.Least c → bound ≡ (bounds P c).least → bound ≤ GREATEST_BOUND → least ≡ watched_least bound → least ≤ bound → IsOf P r (Least c least)
of_least P r c least bound same is few watched less =
    ((omega (arith, few, less), tt), subst (λ (q : Rule). Watches (HasNoBadPart P q) (Least c least)) (sym same) (least_watches P c least (watched ∙ ap watched_least is)))

pub of_never : (P : Instance) (r : Rule) (k : ℕ) (q : Sequence) (days : ℕ) → r ≡ TheRules.Never k → slice_get P.sequences k ≡ Some q → days ≡ P.days → 1 ≤ days → days ≤ MOST_DAYS → IsOf P r (Never q days)
of_never P r k q days same is week some few =
    (((omega (arith, some), few), week), subst (λ (z : Rule). Watches (HasNoBadPart P z) (Never q days)) (sym same) (never_watches P k q days is week))

pub of_day : (P : Instance) (r : Rule) (j : ℕ) → r ≡ TheRules.Day j → (p : ℕ) (w : List Symbol) → HasNoBadPart P r p w
of_day P r j same p w = subst (λ (q : Rule). HasNoBadPart P q p w) (sym same) (λ before part after e bad. bad)

-- the rule of a number
spares_one : (P : Instance) (number : ℕ) (r : Rule) → rule_of P number ≡ Some r → (p : ℕ) (w : List Symbol) → HasNoBadPart P r p w ↔ Spares P number p w
spares_one P number r is p w = (
  λ h q named. subst (λ (z : Rule). HasNoBadPart P z p w) (same_Some r q (sym is ∙ named)) h,
  λ h. h r is,
)

pub of_number : (P : Instance) (number : ℕ) (r : Rule) (found : Option Monitor) → rule_of P number ≡ Some r → MatchOption found ((p : ℕ) (w : List Symbol) → HasNoBadPart P r p w) (λ m. Fits P m × Watches (HasNoBadPart P r) m)
    → MatchOption found ((p : ℕ) (w : List Symbol) → Spares P number p w) (λ m. Fits P m × Watches (Spares P number) m)
of_number P number r None is h = λ p w. (spares_one P number r is p w).0 (h p w)
of_number P number r (Some m) is h = (
  h.0,
  λ p w.
      let one = spares_one P number r is p w in
      let watched = h.1 p w in
      (λ spares. watched.0 (one.1 spares), λ goes. one.0 (watched.1 goes)),
)

pub no_number : (P : Instance) (number : ℕ) → ((0 < number) × (number ≤ length (rules P)) → ⊥) → (p : ℕ) (w : List Symbol) → Spares P number p w
no_number P number out p w r is = absurd (out (rule_in_range P number r is))
