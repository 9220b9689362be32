-- There is nothing that it has to hold.
use Rattle.std.proofs.Common.{◌≡◌, ap, sym, subst, false, get_or, List, Bool, ℕ}
use Rattle.propagators.specs.Windows.{WindowWatch}
use Rattle.propagators.proofs.Watching.{empty_span}
use Rattle.propagators.proofs.window.WindowProp.empty_span.Goals as goal

pub invariant_of-self : goal.invariant_of-self
invariant_of-self c =
    let same : c.self.inside.pending.items ≡ c.args.self.now.pending = ap (λ (w : WindowWatch). w.pending) c.self.view_is in (
      c.self.invariant.0,
      empty_span c.self.inside.pending.items c.self.inside.first c.self.inside.end c.self.invariant.1 (subst (λ (l : List Bool). (q : ℕ) → get_or l q false ≡ false) (sym same) c.requires),
    )
