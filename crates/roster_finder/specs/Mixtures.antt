-- Mixtures of words.
use Rattle.std.specs.Prelude.{◌≡◌, ◌*◌, All}
use Rattle.roster_finder.specs.declared.mixture.Mixture.{Mixture}
use Rattle.roster_finder.specs.declared.setting.Setting.{Setting}
use Rattle.roster_finder.specs.ByStep.{IsByStep}
use Rattle.roster_finder.specs.Quotas.{IsQuotaOf}
use Rattle.roster_finder.specs.Weighers.{IsWeigherOf}
use Rattle.roster_finder.specs.Words.{IsWordOf}

-- its words, its quotas and its weights go by the setting's steps, and it has room to weigh its longest words
pub record IsMixtureOf (setting : Setting) (mixture : Mixture) : Type 0 where
  pub words : All (IsWordOf setting) mixture.words.items
  pub quotas : All (IsQuotaOf setting) mixture.quotas.items
  pub weights : IsByStep setting mixture.weights
  pub weigher : IsWeigherOf setting.layer.now mixture.weigher
  pub days : mixture.weigher.last_steps.rows ≡ setting.demand.now.days * mixture.long_weeks
