use Rattle.std.proofs.Common.{◌+◌, drop}
use Rattle.clean_words.proofs.Readers.{reader_at, reader_same, reader_joined}
use Rattle.clean_words.proofs.rule_table.with_rule.Goals as goal

pub returns-in_default : goal.returns-in_default
returns-in_default c =
    let P = c.args.problem.now in
    let R = c.args.list.now in
    reader_at P R c.args.place c.at.result c.args.table c.at.ensures (reader_same P c.at.result (drop (c.args.place + 1) R) c.args.table c.requires.table c.in_default.ensures)

pub returns : goal.returns
returns c =
    reader_joined c.args.problem.now c.args.list.now c.args.place c.at.result c.in-Some.monitor c.args.table c.in_ok-own.own c.joined.result c.at.ensures c.requires.table c.in_ok-own.ensures c.in-Some.ensures.1
    c.joined.ensures.table c.joined.ensures.first c.joined.ensures.both
