use Rattle.std.proofs.Common.{refl, arith}
use Rattle.std.proofs.lemmas.Option.{slice_get_read}
use Rattle.test_helpers.proofs.Files.{rest_there, rest_past}
use Rattle.test_helpers.proofs.memory.rest_of.Goals as goal

pub returns-then-from-len-clause-rest : goal.returns-then-from-len-clause-rest
returns-then-from-len-clause-rest c =
    let found = c.in-Some.ensures.lookup in
    rest_there c.args.files.now c.args.place c.args.from c.in-Some.file.now c.deref.result.now (slice_get_read c.args.files.now _ c.args.place _ refl found.3.0 found.1) c.deref.ensures.value

pub returns-else-from-len-clause-rest : goal.returns-else-from-len-clause-rest
returns-else-from-len-clause-rest c =
    let found = c.in-Some.ensures.lookup in
    rest_past c.args.files.now c.args.place c.args.from c.in-Some.file.now (slice_get_read c.args.files.now _ c.args.place _ refl found.3.0 found.1) (omega (arith, c.len.ensures))
