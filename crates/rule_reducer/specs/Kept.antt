-- What a log keeps when rules, or rules and given cells, are taken out of it.
use Rattle.std.specs.Prelude.{◌≡◌}
use Rattle.refutation_terms.specs.Log.{Log, size}
use Rattle.rule_reducer.specs.Leaving.{GivesNoMore}

-- what is known before its first line, its goal if it has one, whether it may count, and how many lines are worked out
pub record KeepsAllButRules (before after : Log) : Type 0 where
  pub opening : after.opening ≡ before.opening
  pub goal : after.goal ≡ before.goal
  pub counts : after.counts ≡ before.counts
  pub size : size after ≡ size before

-- the same, but that some of its given cells are gone
pub record LosesCellsAndRules (before after : Log) : Type 0 where
  pub opening : GivesNoMore before.opening after.opening
  pub goal : after.goal ≡ before.goal
  pub counts : after.counts ≡ before.counts
  pub size : size after ≡ size before
