-- Which rules are short doesn't depend on the weeks.
use Rattle.std.proofs.Common.{ℕ, List}
use Rattle.std.specs.Prelude.{◌↔◌}
use Rattle.rwsp_terms.specs.declared.data.Class.TheVariants.{Shift, Off, Work}
use Rattle.rwsp_terms.specs.declared.data.Rule.{Rule}
use Rattle.rwsp_terms.specs.declared.data.Rule.TheVariants.{Most, Least, Never, Day}
use Rattle.rwsp_terms.specs.Instance.{Instance}
use Rattle.rwsp_terms.specs.Roster.{IsRule}
use Rattle.rwsp_terms.specs.Rules.{IsShort}
use Rattle.domain_store.specs.Cycles.{AreShortRules}
use Rattle.clean_words.proofs.OtherWeeks.{sized, names_there, names_here}

abbrev IsShortRule : Instance → Rule → Type 0
IsShortRule P r = IsRule P r × IsShort P r

same_short : (P : Instance) (m : ℕ) (r : Rule) → IsShortRule P r ↔ IsShortRule (sized P m) r
same_short P m (Most (Shift x)) = (λ h. h, λ h. h)
same_short P m (Most Off) = (λ h. h, λ h. h)
same_short P m (Most Work) = (λ h. h, λ h. h)
same_short P m (Least (Shift x)) = (λ h. h, λ h. h)
same_short P m (Least Off) = (λ h. h, λ h. h)
same_short P m (Least Work) = (λ h. h, λ h. h)
same_short P m (Never k) = (λ h. h, λ h. h)
same_short P m (Day j) = (λ h. h, λ h. h)

pub short_there : (P : Instance) (m : ℕ) (R : List ℕ) → AreShortRules P R → AreShortRules (sized P m) R
short_there P m R short = record {
  are_rules = short.are_rules;
  all_short = λ r. (
    λ names. (same_short P m r).0 ((short.all_short r).0 (names_here P m R r names)),
    λ h. names_there P m R r ((short.all_short r).1 ((same_short P m r).1 h)),
  );
}
