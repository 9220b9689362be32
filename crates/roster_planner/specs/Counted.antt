-- What is known where counting blocks leaves no roster.
use Rattle.std.specs.Prelude.{◌≡◌, ℕ, [], ◌∷◌, true, Option, None}
use Rattle.rwsp_terms.specs.Instance.{Instance}
use Rattle.refutation_terms.specs.declared.lines.Line.TheVariants.{Closing}
use Rattle.refutation_terms.specs.declared.lines.Leaf.{Leaf}
use Rattle.refutation_terms.specs.declared.lines.Opening.{Opening}
use Rattle.refutation_terms.specs.Word.{Domains}
use Rattle.refutation_terms.specs.Log.{Log, Passes, NamesOnlyCited}
use Rattle.domain_store.specs.Store.{Store, has_domain}
use Rattle.domain_store.specs.Leaves.{IsHoldingLeaf}
use Rattle.domain_store.specs.declared.look.Look.{Look}
use Rattle.domain_store.specs.declared.look.Look.TheVariants.{Closed}
use Rattle.refutation_log.specs.Planned.{IsCountedLog, IsPlain, NoPlainLeafHolds}
use Rattle.roster_search.specs.Founds.{IsLogOf}

-- the tree of the log is one leaf
abbrev pub IsOneLeaf : Log → Type 0
IsOneLeaf g = (leaf : Leaf) × (g.lines ≡ Closing leaf ∷ [])

-- a log of one leaf that passes, with this opening, and this goal or none. It names what it cites and no more, and is
-- as one of a plan that counts
pub record IsCountedProof (P : Instance) (o : Opening) (goal : Option ℕ) (g : Log) : Type 0 where
  pub passes : Passes P g
  pub same_opening : g.opening ≡ o
  pub same_goal : g.goal ≡ goal
  pub cited : NamesOnlyCited P g
  pub one_leaf : IsOneLeaf g
  pub counted : IsCountedLog P true g

-- a log of a search, from this opening, for this goal or none, that passes, and whose tree is a window leaf or a day
-- leaf
pub record IsPlainProof (P : Instance) (start : Opening) (goal : Option ℕ) (g : Log) : Type 0 where
  pub passes : Passes P g
  pub is_log : IsLogOf P start goal g
  pub leaf : Leaf
  pub plain : IsPlain (Closing leaf)
  pub lines : g.lines ≡ Closing leaf ∷ []

-- a window leaf or a day leaf that holds
abbrev pub IsPlainLeaf : Instance → Domains → Leaf → Type 0
IsPlainLeaf P D leaf = IsHoldingLeaf P None D (Closing leaf) × IsPlain (Closing leaf)

-- so is the line that is seen; where none is, no window leaf and no day leaf holds
abbrev pub IsPlainLook : Instance → Store → Look → Type 0
IsPlainLook P S (Closed line) = IsHoldingLeaf P None (has_domain S) line × IsPlain line
IsPlainLook P S look = NoPlainLeafHolds P (has_domain S)
