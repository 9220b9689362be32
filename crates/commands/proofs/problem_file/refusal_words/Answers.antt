use Rattle.commands.proofs.Explained.{has_words}
use Rattle.commands.proofs.problem_file.refusal_words.Goals as goal

pub unreachable-requires : goal.unreachable-requires
unreachable-requires c =
    has_words c.args.bytes.now c.requires.refused.0 c.requires.refused.1 (rw c.in-None.is at c.in_ok-words.ensures)
