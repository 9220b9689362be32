-- All positions have the store's domains.
use Rattle.std.proofs.Common.{arith, sym, subst}
use Rattle.rwsp_terms.specs.Instance.{Instance}
use Rattle.domain_store.specs.Store.{BelongsTo}
use Rattle.propagators.proofs.Turning.{all_known}
use Rattle.propagators.proofs.two_turns.Cycle.undo_to.Goals as goal

pub returns-clause-stands : goal.returns-clause-stands
returns-clause-stands c =
    let P : Instance → Type 0 = λ z. BelongsTo z c.args.doms.now in
    all_known c.loop-p.self c.args.doms.now (subst P (sym c.loop-p.invariant.problem) c.requires) c.loop-p.invariant.long
    (λ q less. c.loop-p.invariant.done q (omega (arith, less, c.loop-p-test.false, c.cells-p-end.ensures.positions)))
