-- The bounds of one turn from position 0 on, with all short rules.
use Rattle.std.specs.Prelude.{◌≡◌, ◌⊎◌, ℕ, ◌<◌, List, slice_get, false, Option, Some, None}
use Rattle.rwsp_terms.specs.declared.data.Weight.{Weight}
use Rattle.rwsp_terms.specs.declared.limits.TheConstants.{SEARCHED_ROUNDS}
use Rattle.rwsp_terms.specs.Instance.{Instance}
use Rattle.refutation_terms.specs.declared.lines.Line.{Line}
use Rattle.refutation_terms.specs.declared.lines.Line.TheVariants.{Closing}
use Rattle.refutation_terms.specs.declared.lines.Leaf.TheVariants.{Words}
use Rattle.refutation_terms.specs.declared.lines.WordClaim.TheVariants.{Light}
use Rattle.refutation_terms.specs.Word.{Domains, AreSame}
use Rattle.refutation_terms.specs.Log.{LineFits, Holds}
use Rattle.refutation_terms.specs.Ranges.{AreWeightsOf}
use Rattle.refutation_terms.specs.Sharp.{plain_bounds, IsSearched, HoldsAtTop, NoBoundHolds}
use Rattle.domain_store.specs.Store.{Store, BelongsTo, has_domain}
use Rattle.domain_store.specs.Cycles.{AreShortRules}

-- the weights of a plain bound, or of a round of the search
abbrev pub AreTopWeights : Instance → Domains → List ℕ → List Weight → Type 0
AreTopWeights P D R y = ((k : ℕ) × (slice_get (plain_bounds P) k ≡ Some y))
    ⊎ ((k : ℕ) × (k < SEARCHED_ROUNDS) × IsSearched P D R k y)

-- a bound of one turn from position 0 on, by all short rules and such weights
abbrev pub IsTopBound : Instance → Domains → Line → Type 0
IsTopBound P D (Closing (Words p R (Light turns reward y))) = (p ≡ 0) × (turns ≡ 1) × AreShortRules P R × AreTopWeights P D R y
IsTopBound P D line = ⊥

-- the domains are those of the start, and the line is such a bound under them
pub record IsStartBound (P : Instance) (start S : Store) (line : Line) : Type 0 where
  pub same : AreSame P (has_domain S) (has_domain start)
  pub bound : IsTopBound P (has_domain start) line

-- such weights whose bound holds, or none where no such bound holds
abbrev pub IsTopAnswer : Instance → Domains → List ℕ → Option (List Weight) → Type 0
IsTopAnswer P D R None = NoBoundHolds P D R
IsTopAnswer P D R (Some y) = AreWeightsOf P y × AreTopWeights P D R y × HoldsAtTop P D R y

-- what a propagator of bounds is made of: its problem, the domains that it was made with, the list of all short
-- rules, and weights whose bound holds there, if some do
pub record TopWatch : Type 0 where
  pub problem : Instance
  pub start : Store
  pub rules : List ℕ
  pub weights : Option (List Weight)

pub record IsTopWatch (w : TopWatch) : Type 0 where
  pub belongs : BelongsTo w.problem w.start
  pub short : AreShortRules w.problem w.rules
  pub answer : IsTopAnswer w.problem (has_domain w.start) w.rules w.weights

-- a bound that holds under the domains, or none where no bound of the start holds
abbrev pub IsBoundLook : Instance → Store → Store → Option Line → Type 0
IsBoundLook P start S None = (line : Line) → IsStartBound P start S line → Holds P None (has_domain S) line → ⊥
IsBoundLook P start S (Some line) =
    LineFits P None false line × IsStartBound P start S line × Holds P None (has_domain S) line
