use Rattle.std.proofs.Common.{◌∙◌, ap, sym, subst, ◌==◌, not}
use Rattle.std.specs.Prelude.{filter}
use Rattle.std.proofs.lemmas.List.{take_all}
use Rattle.refutation_terms.specs.GivenCells.{AreGivenIn}
use Rattle.refutation_terms.proofs.LeftCells.{given_still}
use Rattle.refutation_terms.proofs.cells.GivenCells.without.Goals as goal

pub returns-clause-given : goal.returns-clause-given
returns-clause-given c = λ P are.
    let given = c.args.self.now in
    let left = c.loop-cell.invariant ∙ ap (filter (λ c'. not (c'.p == c.args.p))) (take_all c.loop-cell.cell-index given (rw (c.deref-cell-items.ensures.value, c.self.view_is) at c.loop-cell-test.false)) in
    subst (AreGivenIn P) (sym left) (given_still P c.args.p given are)
