use Rattle.std.proofs.Common.{ℕ, List, ap, ◌∙◌, Vec, Global}
use Rattle.std.specs.Prelude.{position}
use Rattle.std.specs.Str.{bytes_eq}
use Rattle.rwsp_terms.specs.declared.data.ShiftRow.{ShiftRow}
use Rattle.rwsp_file.proofs.Names.{same_position}
use Rattle.rwsp_file.proofs.shifts.Shifts.place.Goals as goal

pub returns-clause-place : goal.returns-clause-place
returns-clause-place c =
    c.get_index_of.ensures.index
    ∙ same_position (λ (k : Vec ℕ Global). k.items) (λ (row : ShiftRow). row.name) (bytes_eq c.args.name.now) c.self.inside.names.keys c.self.inside.rows.items c.self.invariant
    ∙ ap (λ (rows : List ShiftRow). position (λ row. bytes_eq c.args.name.now row.name) rows) c.self.view_is
