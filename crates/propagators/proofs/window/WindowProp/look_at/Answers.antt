-- No window over the position holds.
use Rattle.std.proofs.Common.{◌≡◌, ◌∙◌, ap}
use Rattle.propagators.specs.Windows.{WindowWatch}
use Rattle.propagators.proofs.Watching.{looked_at, span_looked_at}
use Rattle.propagators.proofs.window.WindowProp.look_at.Goals as goal

pub invariant_of-self : goal.invariant_of-self
invariant_of-self c =
    let S = c.args.doms.now in
    let sets : c.self.inside.sets ≡ c.args.self.now.sets = ap (λ (w : WindowWatch). w.sets) c.self.view_is in (
      looked_at c.self.inside.problem.now S c.self.inside.sets c.self.inside.pending.items c.args.p c.self.invariant.0 (sets ∙ c.requires.tracked) c.in_default.ensures,
      span_looked_at c.self.inside.pending.items c.args.p c.self.inside.first c.self.inside.end c.self.invariant.1,
    )
