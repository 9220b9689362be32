use Rattle.std.proofs.Common.{arith}
use Rattle.std.proofs.Math.Nat.{mul-le-mul_right}
use Rattle.rwsp_terms.specs.Instance.{cells}
use Rattle.propagators.proofs.near_closing.small_leaf.Goals as goal

pub leaf_of-requires-clause-few : goal.leaf_of-requires-clause-few
leaf_of-requires-clause-few c =
    let fewer = mul-le-mul_right (cells c.args.field.now.automaton.now.problem) c.few_turns-fewer.ensures.few in omega (arith, fewer, c.requires.few)

pub leaf_of-requires-2-clause-few : goal.leaf_of-requires-2-clause-few
leaf_of-requires-2-clause-few c =
    let fewer = mul-le-mul_right (cells c.args.field.now.automaton.now.problem) c.few_turns-fewer-2.ensures.few in omega (arith, fewer, c.requires.few)
