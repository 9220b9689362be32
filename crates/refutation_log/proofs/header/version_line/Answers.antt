use Rattle.refutation_log.proofs.HeaderLines.{version_unread}
use Rattle.refutation_log.proofs.header.version_line.Goals as goal

pub returns-in-None : goal.returns-in-None
returns-in-None c = version_unread c.args.kind _ c.in-Some.bytes.now _ c.in-Some.ensures.line.1 c.in-Some.ensures.end c.in-None.ensures
