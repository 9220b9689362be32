-- What a search goes over, and what it finds there.
use Rattle.std.specs.Prelude.{◌<◌}
use Rattle.rwsp_terms.specs.Instance.{cells}
use Rattle.refutation_terms.specs.declared.lines.Line.{Line}
use Rattle.refutation_terms.specs.declared.lines.Opening.TheVariants.{Full}
use Rattle.refutation_terms.specs.Log.{GoalFits}
use Rattle.domain_store.specs.Store.{BelongsTo, has_domain}
use Rattle.domain_store.specs.Cycles.{AreShortRules}
use Rattle.domain_store.specs.Leaves.{IsHoldingLeaf}
use Rattle.propagators.specs.declared.field.Field.{Field}

-- what holds of each field
pub record IsField (f : Field) : Type 0 where
  pub rules : AreShortRules f.automaton.now.problem f.automaton.now.rules
  pub belongs : BelongsTo f.automaton.now.problem f.doms.now
  pub goal : GoalFits f.automaton.now.problem Full f.goal
  pub position : f.place.now.position < cells f.automaton.now.problem

-- a leaf that holds there
abbrev pub IsLeafIn : Field → Line → Type 0
IsLeafIn f line = IsHoldingLeaf f.automaton.now.problem f.goal (has_domain f.doms.now) line
