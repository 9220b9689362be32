-- Walks of one shape: through as many days, in as long weeks, of as many symbols and nodes.
use Rattle.std.specs.Prelude.{◌≡◌}
use Rattle.roster_finder.specs.declared.walk.Walk.{Walk}
use Rattle.roster_finder.specs.declared.steady_layer.SteadyLayer.{SteadyLayer}

pub record HaveOneShape (a b : Walk) : Type 0 where
  pub cells : a.cells ≡ b.cells
  pub days : a.days ≡ b.days
  pub symbols : a.symbols.below ≡ b.symbols.below
  pub nodes : a.nodes.below ≡ b.nodes.below

-- the symbols and nodes of the walk are those of the layer
pub record IsWalkOf (layer : SteadyLayer) (walk : Walk) : Type 0 where
  pub symbols : walk.symbols.below ≡ layer.symbols
  pub nodes : walk.nodes.below ≡ layer.nodes
