-- The free leaf of one turn at the top.
use Rattle.std.proofs.Common.{◌≡◌, ℕ, ◌<◌, ◌≤◌, List, [], refl, arith, Some, Bool, true, false, ◌&&◌}
use Rattle.std.proofs.lemmas.Int.{ints}
use Rattle.rwsp_terms.specs.declared.limits.TheConstants.{MOST_CELLS}
use Rattle.rwsp_terms.specs.declared.data.Symbol.{Symbol}
use Rattle.rwsp_terms.specs.Instance.{Instance, cells}
use Rattle.rwsp_terms.specs.Rules.{NamesShortRules}
use Rattle.rwsp_terms.specs.Weights.{AreWeights}
use Rattle.rwsp_model.specs.Validity.{KeepsLimits}
use Rattle.rwsp_model.proofs.Limits.{some_cells}
use Rattle.refutation_terms.specs.declared.lines.Line.TheVariants.{Closing}
use Rattle.refutation_terms.specs.declared.lines.Leaf.{Leaf}
use Rattle.refutation_terms.specs.declared.lines.Leaf.TheVariants.{Words}
use Rattle.refutation_terms.specs.declared.lines.WordClaim.TheVariants.{Light}
use Rattle.refutation_terms.specs.declared.lines.Opening.TheVariants.{Full}
use Rattle.refutation_terms.specs.Word.{Domains, AreSame, full}
use Rattle.refutation_terms.specs.WordsLeaf.{IsTooLight}
use Rattle.refutation_terms.specs.Leaves.{LeafFits}
use Rattle.refutation_terms.specs.Tree.{opening}
use Rattle.refutation_terms.specs.Log.{GoalFits}
use Rattle.refutation_terms.specs.Ranges.{AreRules}
use Rattle.refutation_terms.specs.Verdict.{Escapes}
use Rattle.refutation_terms.proofs.SameDomains.{turned_round, same_holds}
use Rattle.refutation_log.specs.FreeSharp.{HoldsFreeAtTop}
use Rattle.refutation_log.specs.OneLeaf.{ClosesAll}

abbrev pub top_leaf : List ℕ → Leaf
top_leaf R = Words 0 R (Light 1 1 [])

no_weights : AreWeights []
no_weights = record { ascends = λ i j d less within. absurd (omega (arith, within)); small = λ k d less. absurd (omega (arith, less)) }

pub leaf_fits : (P : Instance) (goal : ℕ) (R : List ℕ) → KeepsLimits P → AreRules P R → LeafFits P (Some goal) false (top_leaf R)
leaf_fits P goal R limits rules =
    let some : 0 < cells P = some_cells P limits in
    let few : cells P ≤ MOST_CELLS = limits.few_cells in
    (some, (omega (arith, some), omega (arith, few)), rules, (no_weights, λ k d less. absurd (omega (arith, less))), (refl, omega arith))

-- a word that escapes the leaf shows that it doesn't hold
escaped : (P : Instance) (goal : ℕ) (D : Domains) (R : List ℕ) (w : List Symbol) → Escapes P (Some goal) D (Closing (top_leaf R)) w → IsTooLight P (Some goal) D 0 1 1 R [] → ⊥
escaped P goal D R w h light =
    let clean = h.0.heavy.clean in
    let less = light w clean.long clean.over clean.clean in
    omega (arith, ints, less, h.1)

-- under equal domains it holds too
same_light : (P : Instance) (goal : ℕ) (R : List ℕ) (D E : Domains) → KeepsLimits P → GoalFits P Full (Some goal) → AreRules P R → AreSame P D E → IsTooLight P (Some goal) D 0 1 1 R [] → IsTooLight P (Some goal) E 0 1 1 R []
same_light P goal R D E limits fits rules same h = same_holds P (Some goal) false D E (Closing (top_leaf R)) (some_cells P limits) fits (leaf_fits P goal R limits rules) same h

-- where no word escapes it over full domains, it holds at the top
pub holds_without_escape : (P : Instance) (goal : ℕ) (R : List ℕ) (D : Domains) → KeepsLimits P → GoalFits P Full (Some goal) → AreRules P R → AreSame P D (full P) → IsTooLight P (Some goal) D 0 1 1 R [] → HoldsFreeAtTop P goal R
holds_without_escape P goal R D limits fits rules same h = same_light P goal R D (full P) limits fits rules same h

-- and where one does, it doesn't
pub fails_by_escape : (P : Instance) (goal : ℕ) (R : List ℕ) (D : Domains) (w : List Symbol) → KeepsLimits P → GoalFits P Full (Some goal) → AreRules P R → AreSame P D (full P) → Escapes P (Some goal) D (Closing (top_leaf R)) w → HoldsFreeAtTop P goal R → ⊥
fails_by_escape P goal R D w limits fits rules same h k =
    escaped P goal D R w h (same_light P goal R (full P) D limits fits rules (turned_round P D (full P) same) k)

and_true : (b : Bool) → b ≡ (b && true)
and_true true = refl
and_true false = refl

-- where it holds there, it closes all cases
pub top_closes : (P : Instance) (goal : ℕ) (R : List ℕ) → KeepsLimits P → GoalFits P Full (Some goal) → AreRules P R → NamesShortRules P R → HoldsFreeAtTop P goal R → ClosesAll P Full (Some goal) (top_leaf R)
top_closes P goal R limits fits rules short holds = record {
  goal_fits = fits;
  allowed = tt;
  short = λ r named. ((short r).0 named).1;
  holds = same_light P goal R (full P) (opening P Full) limits fits rules (λ p x inside. and_true (full P p x)) holds;
}
