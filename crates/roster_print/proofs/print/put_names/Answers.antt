use Rattle.std.proofs.Common.{◌++◌, ap, sym, ◌∙◌}
use Rattle.roster_print.proofs.Printing.{join_from, week_symbols}
use Rattle.roster_print.proofs.print.put_names.Goals as goal

pub returns : goal.returns
returns c =
    join_from c.args.problem.now c.args.week.now c.args.out.now.items c.extend_from_slice.new.self.items c.put_after_blanks.new.out.items
    (sym c.is_empty.ensures ∙ c.if-is_empty.false)
    (c.in_ok-extend_from_slice.ensures.items ∙ ap (λ n. c.args.out.now.items ++ n) c.name.ensures)
    c.in_ok-put_after_blanks.ensures

pub put_after_blanks-requires : goal.put_after_blanks-requires
put_after_blanks-requires c = week_symbols c.args.problem.now c.args.week.now 1 _ c.requires
