-- The reasons by which a search closes cases.
use Rattle.std.specs.Prelude.{◌⊎◌, ◌↔◌, ℕ, List}
use Rattle.rwsp_terms.specs.declared.data.Symbol.{Symbol}
use Rattle.rwsp_terms.specs.Instance.{Instance}
use Rattle.refutation_terms.specs.declared.lines.Line.{Line}
use Rattle.domain_store.specs.Store.{Store, has_domain}
use Rattle.domain_store.specs.Looks.{HasPlainLeaves, IsUnweighed}
use Rattle.refutation_log.specs.Planned.{IsPlain}
use Rattle.propagators.specs.Days.{IsDaySpent}
use Rattle.domain_store.specs.Cycles.{AreShortRules, IsCycleLeaf, IsCycleSpent}

-- all window and day leaves of the problem, and the dead leaf of two turns; the symbols are spent that a day leaf or
-- the words of two turns take away
pub record AreCaseReasons (P : Instance) (leaves : Store → Line → Type 0) (spent : Store → ℕ → Symbol → Type 0)
    : Type 0 where
  -- the list of all short rules
  pub rules : List ℕ
  pub short : AreShortRules P rules
  pub plain : HasPlainLeaves P leaves
  pub cycle : (S : Store) (line : Line) → IsCycleLeaf P line → leaves S line
  pub taken : (S : Store) (p : ℕ) (x : Symbol)
      → spent S p x ↔ (IsDaySpent P (has_domain S) p x ⊎ IsCycleSpent P (has_domain S) p x)

-- each leaf is a window leaf or a day leaf
abbrev pub ArePlain : (Store → Line → Type 0) → Type 0
ArePlain leaves = (S : Store) (line : Line) → leaves S line → IsPlain line

-- no leaf weighs words
abbrev pub WeighNoWords : (Store → Line → Type 0) → Type 0
WeighNoWords leaves = (S : Store) (line : Line) → leaves S line → IsUnweighed line
