use Rattle.std.proofs.Common.{refl}
use Rattle.rwsp_file.proofs.Lines.{lines_seen}
use Rattle.rwsp_file.proofs.cursor.Cursor.lines.Goals as goal

pub returns : goal.returns
returns c = lines_seen c.lines_of.result c.self.inside.bytes.now c.self.inside.tokens.now c.args.self.now _ c.self.inside.end refl c.self.view_is c.lines_of.ensures
