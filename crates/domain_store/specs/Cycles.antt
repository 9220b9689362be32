-- The leaf of two turns round the cycle, and the symbols that it takes away.
use Rattle.std.specs.Prelude.{◌≡◌, ℕ, ◌*◌, ◌<◌, List, false}
use Rattle.rwsp_terms.specs.declared.data.Symbol.{Symbol}
use Rattle.rwsp_terms.specs.Instance.{Instance, cells}
use Rattle.rwsp_terms.specs.Rules.{NamesShortRules}
use Rattle.refutation_terms.specs.declared.lines.Line.{Line}
use Rattle.refutation_terms.specs.declared.lines.Line.TheVariants.{Closing}
use Rattle.refutation_terms.specs.declared.lines.Leaf.TheVariants.{Words}
use Rattle.refutation_terms.specs.declared.lines.WordClaim.TheVariants.{Dead}
use Rattle.refutation_terms.specs.Ranges.{AreRules}
use Rattle.refutation_terms.specs.Word.{Domains}
use Rattle.refutation_terms.specs.Tree.{is_idle}
use Rattle.refutation_terms.specs.Sharp.{NoWordHas}

-- the ascending list of all short rules
pub record AreShortRules (P : Instance) (R : List ℕ) : Type 0 where
  pub are_rules : AreRules P R
  pub all_short : NamesShortRules P R

-- the dead leaf of two turns from position 0 on, by all short rules
abbrev pub IsCycleLeaf : Instance → Line → Type 0
IsCycleLeaf P (Closing (Words p R (Dead len))) = (p ≡ 0) × (len ≡ 2 * cells P) × AreShortRules P R
IsCycleLeaf P line = ⊥

-- the symbol is beside another in the domain of the position, and no word of two turns that is clean for the
-- short rules has it there
pub record IsCycleSpent (P : Instance) (D : Domains) (p : ℕ) (x : Symbol) : Type 0 where
  pub position : p < cells P
  pub useful : is_idle P D p x.number ≡ false
  pub short : List ℕ
  pub all_short : NamesShortRules P short
  pub nowhere : NoWordHas P D short p x
