use Rattle.std.proofs.Common.{refl}
use Rattle.rwsp_file.proofs.Lines.{same_unread, line_taken, line_left}
use Rattle.rwsp_file.proofs.cursor.Cursor.take_line.Goals as goal

pub returns-clause-taken : goal.returns-clause-taken
returns-clause-taken c =
    same_unread _ _ _ _ (line_taken c.self.inside.bytes.now c.self.inside.tokens.now c.split_at.result.0.now c.count_on_line.result c.args.line c.self.inside.end c.args.self.now _
    refl c.self.view_is c.count_on_line.ensures.count c.split_at.ensures.front)

pub returns-clause-left : goal.returns-clause-left
returns-clause-left c =
    same_unread _ _ _ _ (line_left c.self.inside.bytes.now c.self.inside.tokens.now c.split_at.result.1.now c.count_on_line.result c.args.line c.self.inside.end c.args.self.now _
    refl c.self.view_is c.count_on_line.ensures.count c.split_at.ensures.back)
