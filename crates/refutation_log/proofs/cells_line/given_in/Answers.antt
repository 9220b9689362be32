use Rattle.std.proofs.Common.{◌+◌, ◌∙◌, arith, sym, subst, false}
use Rattle.refutation_log.proofs.CellsRead.{CellsSoFar, none_read, known_read, unknown_read, cell_found, all_known, one_unknown, cell_missed}
use Rattle.refutation_log.proofs.cells_line.given_in.Goals as goal
use Rattle.refutation_log.proofs.cells_line.given_in.Goals.{in-Some-symbol+in_ok-put-in-Some-symbol, in-None}

pub loop-fields-init : goal.loop-fields-init
loop-fields-init c = none_read c.args.problem.now c.args.fields.now c.new-given.result c.new-given.ensures

pub returns-in_default : goal.returns-in_default
returns-in_default c =
    cell_missed c.args.problem.now c.args.fields.now c.loop-fields.fields c.loop-fields.given c.loop-fields.is_known c.loop-fields.next
    c.loop-fields.invariant c.loop-fields-test.ensures c.in_default.ensures

pub overflow_add-next : goal.overflow_add-next
overflow_add-next c =
    let f = cell_found c.args.problem.now c.loop-fields.next c.loop-fields.fields _ _ c.in-Some.ensures in
    omega (arith, f.0, c.prove_limits.ensures.few_cells)

pub loop-fields-smaller : goal.loop-fields-smaller
loop-fields-smaller c = (cell_found c.args.problem.now c.loop-fields.next c.loop-fields.fields _ _ c.in-Some.ensures).1

pub loop-fields-preserved : goal.loop-fields-preserved
loop-fields-preserved c =
    let P = c.args.problem.now in
    let words = c.args.fields.now in
    let given = c.match-symbol.given in
    let next = c.in-Some.p + 1 in
    elim c.match-symbol.branch [
      | in-Some-symbol+in_ok-put-in-Some-symbol w ↦
          subst (λ b. CellsSoFar P words c.cell.new.fields given b next) (sym w.is_known-is)
          (known_read P words c.loop-fields.fields c.cell.new.fields c.loop-fields.given given c.loop-fields.is_known c.loop-fields.next c.in-Some.p c.in-Some.name.now w.in-Some-symbol.x
          c.loop-fields.invariant c.loop-fields-test.ensures c.in-Some.ensures (sym w.in-Some-symbol.ensures) (w.given-is ∙ w.in_ok-put-in-Some-symbol.ensures.added))
      | in-None w ↦
          subst (λ b. CellsSoFar P words c.cell.new.fields given b next) (sym w.is_known-is)
          (subst (λ g. CellsSoFar P words c.cell.new.fields g false next) (sym w.given-is)
          (unknown_read P words c.loop-fields.fields c.cell.new.fields c.loop-fields.given c.loop-fields.is_known c.loop-fields.next c.in-Some.p c.in-Some.name.now
          c.loop-fields.invariant c.loop-fields-test.ensures c.in-Some.ensures (sym w.in-None.ensures)))
    ]

pub returns-then-is_known : goal.returns-then-is_known
returns-then-is_known c =
    all_known c.args.problem.now c.args.fields.now c.loop-fields.fields c.loop-fields.given c.loop-fields.is_known c.loop-fields.next c.loop-fields.invariant c.loop-fields-test.ensures c.if-is_known.true

pub returns-else-is_known : goal.returns-else-is_known
returns-else-is_known c =
    one_unknown c.args.problem.now c.args.fields.now c.loop-fields.fields c.loop-fields.given c.loop-fields.is_known c.loop-fields.next c.loop-fields.invariant c.loop-fields-test.ensures c.if-is_known.false
