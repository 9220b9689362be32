use Rattle.std.proofs.Common.{◌≡◌, ℕ, ◌+◌, ◌-◌, ◌<◌, [], length, sym, ◌∙◌, subst, arith}
use Rattle.std.specs.Prelude.{slice_index_or}
use Rattle.std.proofs.lemmas.List.{get_or_default}
use Rattle.clean_words.specs.Trellis.{Trellis, trellis, IsRow}
use Rattle.clean_words.proofs.rows.rows_before.Goals as goal

pub row_before-requires-clause-next : goal.row_before-requires-clause-next
row_before-requires-clause-next g c =
    let T : Trellis = trellis c.args.words.now (g.G.Gain.gain_of c.args.gain.now) in
    let k : ℕ = c.loop-i.i - 1 in
    let lt : k < length c.loop-i.rows.items = omega (arith, c.loop-i.invariant.long, c.loop-i.auto.i, c.requires.some) in
    let day : c.args.last - k ≡ c.args.last - c.loop-i.i + 1 = omega (arith, c.loop-i.auto.i, c.loop-i-test.true, c.requires.inside) in
    let row = c.loop-i.invariant.rows k lt in
    let there = subst (λ (n : ℕ). IsRow T n (slice_index_or c.loop-i.rows.items k [])) day row in
    subst (IsRow T (c.args.last - c.loop-i.i + 1)) (sym (c.index.ensures ∙ get_or_default c.loop-i.rows.items k _ [] lt)) there
