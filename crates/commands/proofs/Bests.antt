-- What is said of the most free weekends.
use Rattle.std.proofs.Common.{◌≡◌, ℕ, ◌+◌, ◌<◌, ◌≤◌, Bool, List, Option, Some, None, arith, subst, refl}
use Rattle.rwsp_terms.specs.Instance.{Instance}
use Rattle.rwsp_terms.specs.Roster.{MeetsAll}
use Rattle.rwsp_terms.specs.declared.data.Symbol.{Symbol}
use Rattle.rwsp_model.specs.declared.roster.Roster.{Roster}
use Rattle.refutation_terms.specs.Log.{Log, Passes}
use Rattle.refutation_terms.specs.FreeWeekends.{free_weekends}
use Rattle.refutation_terms.proofs.LogKinds.{goal_leaves_none}
use Rattle.refutation_log.specs.declared.best_found.BestFound.{BestFound}
use Rattle.refutation_log.specs.declared.best_found.BestFound.TheVariants.{Best, NoRoster, Undecided}
use Rattle.commands.specs.Best.{IsBestAnswer, best_roster, StaysBelow, Bounds, BestsAgree}
use Rattle.commands.proofs.Logs.{meets_named}

below : (goal n : ℕ) → (goal ≤ n → ⊥) → n < goal
below goal n h = omega (arith, h)

-- a roster that meets every rule has fewer free weekends than the goal of a free log that passes
pub below_goal : (P : Instance) (goal : ℕ) (g : Log) (t : List Symbol) → Passes P g → g.goal ≡ Some goal → MeetsAll P t → free_weekends t < goal
below_goal P goal g t passes is meets =
    below goal (free_weekends t) (λ many. goal_leaves_none P g t goal passes is (meets_named P g.named t meets) many)

-- which rosters such a search has meets every rule

pub best_meets : (P : Instance) (budget : ℕ) (counts : Bool) (a : BestFound) (t : Roster) → IsBestAnswer P budget counts a → best_roster a ≡ Some t → MeetsAll P t.cells
best_meets P budget counts (Best s g) t h e = let same : s ≡ t = cc in subst (λ (u : Roster). MeetsAll P u.cells) same h.0.0.1
best_meets P budget counts (NoRoster g) t h e = absurd (cc)
best_meets P budget counts (Undecided None g) t h e = absurd (cc)
best_meets P budget counts (Undecided (Some s) g) t h e = let same : s ≡ t = cc in subst (λ (u : Roster). MeetsAll P u.cells) same h.0.0.1

stays_below : (P : Instance) (goal : ℕ) (g : Log) (found : Option Roster) → Passes P g → g.goal ≡ Some goal → ((t : Roster) → found ≡ Some t → MeetsAll P t.cells) → StaysBelow found goal
stays_below P goal g None passes is meets = tt
stays_below P goal g (Some s) passes is meets = below_goal P goal g s.cells passes is (meets s refl)

bounds : (P : Instance) (budget : ℕ) (counts : Bool) (a b : BestFound) → IsBestAnswer P budget counts a → IsBestAnswer P budget counts b → Bounds a b
bounds P budget counts (Best s g) b h k = stays_below P (free_weekends s.cells + 1) g (best_roster b) h.0.1.0 h.0.1.1 (λ t e. best_meets P budget counts b t k e)
bounds P budget counts (NoRoster g) b h k = stays_below P 0 g (best_roster b) h.0.0 h.0.1 (λ t e. best_meets P budget counts b t k e)
bounds P budget counts (Undecided s g) b h k = tt

same_count : (m n : ℕ) → m < n + 1 → n < m + 1 → m ≡ n
same_count m n h k = omega (arith, h, k)

pub bests_agree : (P : Instance) (budget : ℕ) (counts : Bool) (a b : BestFound) → IsBestAnswer P budget counts a → IsBestAnswer P budget counts b → BestsAgree a b
bests_agree P budget counts (Best s g) (Best t h) x y =
    same_count (free_weekends s.cells) (free_weekends t.cells) (bounds P budget counts (Best t h) (Best s g) y x) (bounds P budget counts (Best s g) (Best t h) x y)
bests_agree P budget counts a b x y = (bounds P budget counts a b x y, bounds P budget counts b a y x)
