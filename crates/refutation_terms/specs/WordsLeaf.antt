-- A leaf of words: what is claimed of the clean words from a position on.
use Rattle.std.specs.Prelude.{◌≡◌, ◌⊎◌, ℕ, ◌*◌, ◌<◌, ◌≤◌, List, length, Option, Some, None, ℤ, pos, ◌+ℤ◌, ◌*ℤ◌, ◌<ℤ◌, ◌≤ℤ◌}
use Rattle.rwsp_terms.specs.declared.limits.TheConstants.{GREATEST_REWARD}
use Rattle.rwsp_terms.specs.declared.data.Symbol.{Symbol}
use Rattle.rwsp_terms.specs.declared.data.Weight.{Weight}
use Rattle.rwsp_terms.specs.declared.data.Rule.{Rule}
use Rattle.rwsp_terms.specs.declared.data.Rule.TheVariants as TheRules
use Rattle.rwsp_terms.specs.Instance.{Instance, cells}
use Rattle.rwsp_terms.specs.Rules.{Names}
use Rattle.refutation_terms.specs.declared.lines.WordClaim.{WordClaim}
use Rattle.refutation_terms.specs.declared.lines.WordClaim.TheVariants.{Dead, Light}
use Rattle.refutation_terms.specs.Word.{Domains, Over, Clean, weight, total}
use Rattle.refutation_terms.specs.FreeWeekends.{free_weight}
use Rattle.refutation_terms.specs.Ranges.{IsLength, AreRules, AreWeightsOf, HasWeight}
use Rattle.refutation_terms.specs.Escape.{IsLeastClean, IsLeastHeaviestBy}

-- only a log with a goal rewards free weekends, and there the words begin on the first day
abbrev pub RewardFits : Option ℕ → ℕ → ℕ → Type 0
RewardFits None p reward = reward ≡ 0
RewardFits (Some goal) p reward = (p ≡ 0) × (reward ≤ GREATEST_REWARD)

-- the numbers of the leaf are in their ranges, in a log with this goal or none
abbrev pub WordsFit : Instance → Option ℕ → ℕ → List ℕ → WordClaim → Type 0
WordsFit P goal p R (Dead len) = (p < cells P) × IsLength len × AreRules P R
WordsFit P goal p R (Light turns reward y) =
    (p < cells P) × IsLength (turns * cells P) × AreRules P R × AreWeightsOf P y × RewardFits goal p reward

-- it rests on the rules of its list, and on those of the days on which something weighs
abbrev pub WordsCite : Instance → List ℕ → WordClaim → Rule → Type 0
WordsCite P R (Dead len) r = Names P R r
WordsCite P R (Light turns reward y) r = Names P R r ⊎ ((j : ℕ) × HasWeight y j × (r ≡ TheRules.Day j))

-- what a word from position p on weighs, with the reward for each of its free weekends where the log has a goal
abbrev pub worth : Instance → Option ℕ → List Weight → ℕ → ℕ → List Symbol → ℤ
worth P None y reward p u = weight P y p u
worth P (Some goal) y reward p u = free_weight P y reward p u

-- the least that a roster can weigh which meets the demand, and has as many free weekends as the goal if there is one
abbrev pub owed : Instance → Option ℕ → List Weight → ℕ → ℤ
owed P None y reward = total P y
owed P (Some goal) y reward = total P y +ℤ pos (reward * goal)

-- no word of this length from p on is clean for the rules
abbrev pub IsDead : Instance → Domains → ℕ → ℕ → List ℕ → Type 0
IsDead P D p len R = (u : List Symbol) → length u ≡ len → Over P D p u → Clean P R p u → ⊥

-- every clean word of this number of turns, from p on, weighs less than is owed for these turns
abbrev pub IsTooLight : Instance → Option ℕ → Domains → ℕ → ℕ → ℕ → List ℕ → List Weight → Type 0
IsTooLight P goal D p turns reward R y =
    (u : List Symbol) → length u ≡ turns * cells P → Over P D p u → Clean P R p u
    → worth P goal y reward p u <ℤ (pos turns *ℤ owed P goal y reward)

-- the claim is true under the domains
abbrev pub WordsHold : Instance → Option ℕ → Domains → ℕ → List ℕ → WordClaim → Type 0
WordsHold P goal D p R (Dead len) = IsDead P D p len R
WordsHold P goal D p R (Light turns reward y) = IsTooLight P goal D p turns reward R y

-- the word shows that it isn't: the least clean word, or the least of the heaviest, which weighs enough
abbrev pub WordsEscape : Instance → Option ℕ → Domains → ℕ → List ℕ → WordClaim → List Symbol → Type 0
WordsEscape P goal D p R (Dead len) w = IsLeastClean P D p len R w
WordsEscape P goal D p R (Light turns reward y) w =
    IsLeastHeaviestBy P D p (turns * cells P) R (worth P goal y reward p) w
    × ((pos turns *ℤ owed P goal y reward) ≤ℤ worth P goal y reward p w)
