use Rattle.std.specs.Prelude.{slice_get}
use Rattle.test_helpers.proofs.Files.{took, counted}
use Rattle.test_helpers.proofs.memory.MemoryShelfShelf.take.Goals as goal

pub returns-clause-bytes : goal.returns-clause-bytes
returns-clause-bytes c =
    rw c.in-Some.is (took (slice_get c.args.self.now.files.items c.in-Some.place) _ _ _ _ (rw c.deref.ensures.value at c.rest_of.ensures.rest) c.give-count.ensures.bytes c.give-count.ensures.end)

pub returns-clause-count : goal.returns-clause-count
returns-clause-count c =
    rw c.in-Some.is (counted _ _ _ _ _ (rw c.deref.ensures.value at c.rest_of.ensures.rest) c.give-count.ensures.count)
