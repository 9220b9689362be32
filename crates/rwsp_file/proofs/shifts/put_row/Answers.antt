use Rattle.std.proofs.Common.{◌∙◌}
use Rattle.rwsp_file.proofs.Names.{push_names}
use Rattle.rwsp_file.proofs.shifts.put_row.Goals as goal

pub returns-clause-names : goal.returns-clause-names
returns-clause-names c =
    push_names c.args.names.now.keys _ c.args.rows.now.items _ c.in_ok-name.name c.args.row c.requires.names
    c.in_ok-insert_full.ensures.keys c.in_ok-push.ensures.items (c.in_ok-name.ensures.items ∙ c.bytes.ensures) c.requires.fresh
