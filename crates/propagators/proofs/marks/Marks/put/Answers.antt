-- One bit more is set.
use Rattle.std.proofs.Common.{◌≡◌, ◌⊎◌, ◌*◌, ◌/◌, ◌%◌, ◌^◌, ◌<◌, ℕ, List, IsTrue, length, set, ap, subst, arith}
use Rattle.std.specs.Prelude.{◌↔◌}
use Rattle.std.specs.Int.RustNames.{bit_or}
use Rattle.std.proofs.lemmas.List.{get_or_read}
use Rattle.propagators.specs.Marks.{is_marked}
use Rattle.propagators.proofs.Marking.{marked_put}
use Rattle.propagators.proofs.marks.Marks.put.Goals as goal

pub returns-clause-marks : goal.returns-clause-marks
returns-clause-marks c t =
    let words = c.self.inside.words.items in
    let within : c.args.state / 64 < length c.self.inside.words.items = omega (arith, c.requires, ap length c.self.view_is) in
    let read = get_or_read words (c.args.state / 64) c.index-before.result.now within c.index-before.ensures 0 in
    let new : List ℕ = set words (c.args.state / 64) (bit_or c.index-before.result.now (1 * 2 ^ (c.args.state % 64) % 2 ^ 64)) in
    let P : List ℕ → Type 0 = λ row. IsTrue (is_marked new t) ↔ (IsTrue (is_marked row t) ⊎ (c.args.state ≡ t)) in
    subst P c.self.view_is (marked_put words c.args.state c.index-before.result.now t within read)
