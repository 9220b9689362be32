use Rattle.std.proofs.Common.{◌≢◌, arith}
use Rattle.std.specs.Prelude.{pos}
use Rattle.std.proofs.lemmas.Int.{ints}
use Rattle.rwsp_terms.proofs.Ascending.{changed, removed}
use Rattle.rwsp_terms.proofs.weights.change_entry.Goals as goal

pub returns-then-entry-eq0 : goal.returns-then-entry-eq0
returns-then-entry-eq0 c =
    rw c.remove.ensures.items (removed _ _ _ _ c.args.entry _ (omega (arith, ints)) c.requires.weights c.requires.place)

pub returns-else-entry-eq0 : goal.returns-else-entry-eq0
returns-else-entry-eq0 c =
    let some : c.args.entry.value ≢ pos 0 = omega (arith, ints) in
    changed _ _ _ c.requires.weights c.requires.place (c.requires.value.0, c.requires.value.1, some)
