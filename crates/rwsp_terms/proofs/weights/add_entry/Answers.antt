use Rattle.std.proofs.Common.{◌≢◌, arith}
use Rattle.std.specs.Prelude.{pos}
use Rattle.std.proofs.lemmas.Int.{ints}
use Rattle.rwsp_terms.proofs.Ascending.{inserted, left_out}
use Rattle.rwsp_terms.proofs.weights.add_entry.Goals as goal

pub returns-in_ok-insert-clause-sets : goal.returns-in_ok-insert-clause-sets
returns-in_ok-insert-clause-sets c =
    let some : c.args.entry.value ≢ pos 0 = omega (arith, ints) in
    rw c.in_ok-insert.ensures.items (inserted _ _ _ c.requires.weights c.requires.place (c.requires.value.0, c.requires.value.1, some))

pub returns-else-entry-ne0-clause-sets : goal.returns-else-entry-ne0-clause-sets
returns-else-entry-ne0-clause-sets c = left_out _ _ _ _ _ (omega (arith, ints)) c.requires.weights c.requires.place

pub returns-in_ok-insert-clause-weights : goal.returns-in_ok-insert-clause-weights
returns-in_ok-insert-clause-weights c =
    let some : c.args.entry.value ≢ pos 0 = omega (arith, ints) in
    rw c.in_ok-insert.ensures.items (inserted _ _ _ c.requires.weights c.requires.place (c.requires.value.0, c.requires.value.1, some)).weights
