-- What a move goes over.
use Rattle.std.specs.Prelude.{◌≡◌, ◌<◌, ◌≤◌}
use Rattle.roster_finder.specs.declared.draft.Window.{Window}
use Rattle.roster_finder.specs.declared.rewriting.Rewriting.{Rewriting}
use Rattle.roster_finder.specs.declared.walk.Walk.{Walk}
use Rattle.roster_finder.specs.declared.window.Mover.{Mover}
use Rattle.roster_finder.specs.declared.window.TheConstants.{LONGEST_WINDOW}
use Rattle.roster_finder.specs.declared.steady_layer.SteadyLayer.{SteadyLayer}
use Rattle.roster_finder.specs.DayDomains.{AreDomainsFor}

-- the window begins on the walk and is no longer than it, nor than windows may be
pub record IsWindowOf (walk : Walk) (window : Window) : Type 0 where
  pub start : window.start < walk.cells
  pub few : window.len ≤ LONGEST_WINDOW
  pub within : window.len ≤ walk.cells

-- its window is one of the walk, and its domains have the walk's days and symbols
pub record IsRewritingOf (walk : Walk) (rewriting : Rewriting) : Type 0 where
  pub window : IsWindowOf walk rewriting.window
  pub domains : AreDomainsFor walk rewriting.domains.now

-- it has room for the symbols and the nodes of the layer
pub record IsMoverOf (layer : SteadyLayer) (mover : Mover) : Type 0 where
  pub symbols : mover.prices.columns ≡ layer.symbols
  pub nodes : mover.parents.columns ≡ layer.nodes
