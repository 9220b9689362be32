use Rattle.std.proofs.Common.{arith}
use Rattle.std.proofs.Math.Nat.{div-le_self}
use Rattle.refutation_log.proofs.fields.put_place.Goals as goal

pub overflow_add-p : goal.overflow_add-p
overflow_add-p c = omega (arith, div-le_self c.args.p c.days-days.result, c.prove_limits.ensures.few_cells)
