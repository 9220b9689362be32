use Rattle.std.proofs.Common.{get_or}
use Rattle.refutation_terms.specs.declared.cells.GivenCell.{GivenCell}
use Rattle.domain_store.proofs.Openings.{CanBeGiven, next_can_be}
use Rattle.domain_store.proofs.opening.give.Goals as goal

abbrev no_cell : GivenCell
no_cell = record { p = 0; x = record { number = 0 } }

can_be : (c : goal.After-set_only-arg-in-loop-cell-1) → CanBeGiven c.loop-cell.domains (get_or c.args.given.now c.loop-cell.cell-index no_cell)
can_be c =
    next_can_be c.args.problem.now c.args.given.now c.loop-cell.cell-index no_cell c.loop-cell.domains c.prove_limits.ensures c.requires.cells c.loop-cell-test.true
    c.loop-cell.invariant.belongs c.prove_facts.ensures.now c.prove_facts.ensures.tests c.loop-cell.invariant.has

pub set_only-requires-clause-held : goal.set_only-requires-clause-held
set_only-requires-clause-held c = (can_be c).held

pub set_only-requires-clause-another : goal.set_only-requires-clause-another
set_only-requires-clause-another c = (can_be c).another
