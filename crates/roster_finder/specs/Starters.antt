-- What start words are made with.
use Rattle.std.specs.Prelude.{◌≡◌, ◌+◌, length}
use Rattle.roster_finder.specs.declared.shares.Shares.{Shares}
use Rattle.roster_finder.specs.declared.start.Starter.{Starter}
use Rattle.roster_finder.specs.declared.steady_layer.SteadyLayer.{SteadyLayer}
use Rattle.roster_finder.specs.declared.walk.Walk.{Walk}

-- it has room for the layer's nodes and steps on the walk's days
pub record IsStarterOf (layer : SteadyLayer) (walk : Walk) (starter : Starter) : Type 0 where
  pub days : starter.closes.rows ≡ walk.cells + 1
  pub nodes : starter.closes.columns ≡ layer.nodes
  pub weekdays : starter.taken.rows ≡ walk.days
  pub steps : starter.taken.columns ≡ length layer.steps.items
  pub begins : length starter.begins.items ≡ layer.nodes

-- they have a share for each of the layer's steps on each day of the walk's weeks
pub record AreSharesOf (layer : SteadyLayer) (walk : Walk) (shares : Shares) : Type 0 where
  pub weekdays : shares.uses.rows ≡ walk.days
  pub steps : shares.uses.columns ≡ length layer.steps.items
