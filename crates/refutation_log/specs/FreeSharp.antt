-- When a free log is sharp: it splits only where no leaf is at hand, and splits on what is forced where something is.
use Rattle.std.specs.Prelude.{◌≡◌, ℕ, List, [], slice_get, Some}
use Rattle.rwsp_terms.specs.declared.data.Symbol.{Symbol}
use Rattle.rwsp_terms.specs.Instance.{Instance}
use Rattle.rwsp_terms.specs.Rules.{NamesShortRules}
use Rattle.refutation_terms.specs.declared.lines.Line.{Line}
use Rattle.refutation_terms.specs.declared.lines.Line.TheVariants.{Split}
use Rattle.refutation_terms.specs.Word.{Domains, full}
use Rattle.refutation_terms.specs.FewLeaf.{HasTooFewFree}
use Rattle.refutation_terms.specs.WordsLeaf.{IsTooLight}
use Rattle.refutation_terms.specs.Tree.{domains_at}
use Rattle.refutation_terms.specs.Log.{Log, NamesOnlyCited}
use Rattle.refutation_terms.specs.Sharp.{IsSharpSplit, IsUnclosed}

-- what holds at each split of a sharp free log: what holds at one of a sharp log, and enough weeks can be free
pub record IsFreeSharpSplit (P : Instance) (goal : ℕ) (D : Domains) (R : List ℕ) (p : ℕ) (x : Symbol) : Type 0 where
  pub sharp : IsSharpSplit P D R p x
  pub not_few : HasTooFewFree P goal D → ⊥

-- the free leaf of one turn holds under full domains, where each free weekend weighs 1 and nothing else weighs
abbrev pub HoldsFreeAtTop : Instance → ℕ → List ℕ → Type 0
HoldsFreeAtTop P goal R = IsTooLight P (Some goal) (full P) 0 1 1 R []

-- it doesn't hold for the list of all short rules
pub record FailsFreeAtTop (P : Instance) (goal : ℕ) : Type 0 where
  pub short : List ℕ
  pub all_short : NamesShortRules P short
  pub fails : HoldsFreeAtTop P goal short → ⊥

-- a sharp free log with this goal, by the list of all short rules: its header names what it cites and no more, and it
-- is split or left open at the top only where that leaf doesn't hold
pub record IsFreeSharp (P : Instance) (goal : ℕ) (g : Log) : Type 0 where
  pub cited : NamesOnlyCited P g
  pub short : List ℕ
  pub all_short : NamesShortRules P short
  pub splits : (k p : ℕ) (x : Symbol) → slice_get g.lines k ≡ Some (Split p x)
      → IsFreeSharpSplit P goal (domains_at P g.opening g.lines k) short p x
  pub top : (line : Line) → slice_get g.lines 0 ≡ Some line → IsUnclosed line → HoldsFreeAtTop P goal short → ⊥
