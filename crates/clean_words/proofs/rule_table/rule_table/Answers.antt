use Rattle.std.proofs.Common.{◌≡◌, drop, arith, subst}
use Rattle.clean_words.specs.Tables.{IsReader}
use Rattle.clean_words.proofs.Readers.{reader_first, reader_none}
use Rattle.clean_words.proofs.rule_table.rule_table.Goals as goal

pub loop-left-init : goal.loop-left-init
loop-left-init c =
    let P = c.args.problem.now in
    record {
      few = omega (arith, c.len-left.ensures);
      table = reader_none P c.args.list.now c.len-left.result c.in_ok-table.table c.len-left.ensures (reader_first P c.args.told c.in_ok-table.table c.in_ok-table.ensures);
    }

pub returns : goal.returns
returns c =
    let none : c.loop-left.left ≡ 0 = omega (arith, c.loop-left-test.false) in
    subst (λ n. IsReader c.args.problem.now (drop n c.args.list.now) c.loop-left.table) none c.loop-left.invariant.table
