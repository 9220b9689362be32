use Rattle.std.proofs.Common.{sym, subst}
use Rattle.rwsp_model.specs.Parts.{instance_of}
use Rattle.rwsp_file.specs.Spelling.{SpellsProblem}
use Rattle.rwsp_file.proofs.TextLaws.{reading_spells}
use Rattle.rwsp_file.proofs.read.read_problem.Goals as goal

pub of_valid-requires : goal.of_valid-requires
of_valid-requires c =
    let spelled : SpellsProblem c.args.bytes.now (instance_of c.in_ok-parts.parts) = reading_spells c.args.bytes.now (instance_of c.in_ok-parts.parts) c.in_ok-parts.ensures.ok in
    spelled.valid

pub returns-clause-ok : goal.returns-clause-ok
returns-clause-ok c =
    subst (SpellsProblem c.args.bytes.now) (sym c.of_valid.ensures) (reading_spells c.args.bytes.now (instance_of c.in_ok-parts.parts) c.in_ok-parts.ensures.ok)
