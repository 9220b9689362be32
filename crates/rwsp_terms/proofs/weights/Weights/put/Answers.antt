-- What is said of the entries is said of the weights.
use Rattle.std.proofs.Common.{arith, w32}
use Rattle.std.proofs.lemmas.Int.{ints, to_z-of_z}
use Rattle.rwsp_terms.proofs.weights.Weights.put.Goals as goal

pub place_of_entry-requires : goal.place_of_entry-requires
place_of_entry-requires c = rw c.deref.ensures.value c.self.invariant.ascends

pub change_entry-requires-clause-weights : goal.change_entry-requires-clause-weights
change_entry-requires-clause-weights c = c.self.invariant

pub change_entry-requires-clause-place : goal.change_entry-requires-clause-place
change_entry-requires-clause-place c = rw c.deref.ensures.value at c.in-Ok.ensures

pub change_entry-requires-clause-value : goal.change_entry-requires-clause-value
change_entry-requires-clause-value c =
    let same = to_z-of_z w32 c.args.value (omega (arith, ints, c.requires.low, c.requires.high)) in
    rw same (c.requires.low, c.requires.high)

pub invariant_of-self : goal.invariant_of-self
invariant_of-self c = c.change_entry.ensures.weights

pub add_entry-requires-clause-weights : goal.add_entry-requires-clause-weights
add_entry-requires-clause-weights c = c.self.invariant

pub add_entry-requires-clause-place : goal.add_entry-requires-clause-place
add_entry-requires-clause-place c = rw c.deref.ensures.value at c.in-Err.ensures

pub add_entry-requires-clause-value : goal.add_entry-requires-clause-value
add_entry-requires-clause-value c =
    let same = to_z-of_z w32 c.args.value (omega (arith, ints, c.requires.low, c.requires.high)) in
    rw same (c.requires.low, c.requires.high)

pub invariant_of-self-in-Err : goal.invariant_of-self-in-Err
invariant_of-self-in-Err c = c.add_entry.ensures.weights

pub returns-in-Ok-clause-weights : goal.returns-in-Ok-clause-weights
returns-in-Ok-clause-weights c = c.change_entry.ensures.weights

pub returns-in-Ok-clause-sets : goal.returns-in-Ok-clause-sets
returns-in-Ok-clause-sets c =
    let same = to_z-of_z w32 c.args.value (omega (arith, ints, c.requires.low, c.requires.high)) in
    rw (same, c.self.view_is) at c.change_entry.ensures

pub returns-in-Err-clause-weights : goal.returns-in-Err-clause-weights
returns-in-Err-clause-weights c = c.add_entry.ensures.weights

pub returns-in-Err-clause-sets : goal.returns-in-Err-clause-sets
returns-in-Err-clause-sets c =
    let same = to_z-of_z w32 c.args.value (omega (arith, ints, c.requires.low, c.requires.high)) in
    rw (same, c.self.view_is) at c.add_entry.ensures.sets

pub returns-in-Err-clause-kept : goal.returns-in-Err-clause-kept
returns-in-Err-clause-kept c = rw c.self.view_is at c.add_entry.ensures.kept
