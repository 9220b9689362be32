use Rattle.std.proofs.Common.{◌≡◌, ℕ, ◌+◌, ◌-◌, refl, subst, arith}
use Rattle.clean_words.specs.Trellis.{Trellis, trellis, IsRow}
use Rattle.clean_words.proofs.Steps.{end_row}
use Rattle.clean_words.proofs.kept_rows.kept_rows.Goals as goal

pub loop-left-init : goal.loop-left-init
loop-left-init g c =
    let T : Trellis = trellis c.args.words.now (g.G.Gain.gain_of c.args.gain.now) in
    record {
      kept = rw c.new-kept.ensures.items (refl, λ i lt. absurd (omega (arith, lt)));
      first = end_row T (c.args.words.now.days - 0) c.states.result c.in_ok-first.first c.in_ok-first.ensures c.states.ensures (omega arith);
    }

pub loop-left-preserved : goal.loop-left-preserved
loop-left-preserved g c =
    let T : Trellis = trellis c.args.words.now (g.G.Gain.gain_of c.args.gain.now) in
    let day : c.args.words.now.days - 1 - c.loop-left.left ≡ c.args.words.now.days - (c.loop-left.left + 1) = omega arith in
    record {
      kept = c.in_ok-keep.ensures T (rw c.replace-next.ensures.value c.loop-left.invariant.first) c.loop-left.invariant.kept;
      first = rw c.replace-next.ensures.after (subst (λ (n : ℕ). IsRow T n c.in_ok-row.row) day c.in_ok-row.ensures);
    }
