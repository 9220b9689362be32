-- What words are weighed with.
use Rattle.std.specs.Prelude.{◌≡◌, length}
use Rattle.roster_finder.specs.declared.heavy_word.Weigher.{Weigher}
use Rattle.roster_finder.specs.declared.steady_layer.SteadyLayer.{SteadyLayer}

-- it has room for the nodes and the steps of the layer
pub record IsWeigherOf (layer : SteadyLayer) (weigher : Weigher) : Type 0 where
  pub nodes : weigher.last_steps.columns ≡ layer.nodes
  pub steps : weigher.last_steps.below ≡ length layer.steps.items
