-- All words are without bits.
use Rattle.std.proofs.Common.{◌≡◌, ◌≤◌, length, ap, arith, rules, vec_len}
use Rattle.propagators.proofs.Marking.{all_clear}
use Rattle.propagators.proofs.marks.Marks.clear.Goals as goal

pub returns-clause-none : goal.returns-clause-none
returns-clause-none c state =
    let all : vec_len c.self.inside.words ≡ length c.self.inside.words.items = search rules in
    let long : length c.loop-place.self-inside.words.items ≤ c.loop-place.place = omega (arith, ap length c.self.view_is, c.loop-place.invariant.long, all, c.len-place-end.ensures) in
    all_clear c.loop-place.self-inside.words.items c.loop-place.place state long c.loop-place.invariant.none
