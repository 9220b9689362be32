use Rattle.std.proofs.Common.{arith}
use Rattle.plain_words.proofs.Bytes.{next_part, next_byte, all_filled}
use Rattle.plain_words.proofs.filled.put_filled.Goals.{then-byte-eq-HOLE+then-used-parts+in_ok-put_part, else-byte-eq-HOLE+in_ok-push, else-byte-eq-HOLE-via-then-byte-eq-HOLE+else-used-parts, else-byte-eq-HOLE-via-else-byte-eq-HOLE}
use Rattle.plain_words.proofs.filled.put_filled.Goals as goal

pub loop-byte-preserved : goal.loop-byte-preserved
loop-byte-preserved c = elim c.if-byte-eq-HOLE.branch [
  | then-byte-eq-HOLE+then-used-parts+in_ok-put_part w ↦
      rw (w.out-is, w.used-is, w.in_ok-put_part.ensures)
      (next_part c.args.problem.now c.args.text.now c.args.parts.now c.loop-byte.byte-index c.loop-byte.used 0 _ _ _ c.loop-byte-test.true w.if-used-parts.true w.if-byte-eq-HOLE.true c.loop-byte.invariant)
  | else-byte-eq-HOLE+in_ok-push w ↦
      rw (w.out-is, w.used-is, w.in_ok-push.ensures.items)
      (next_byte c.args.problem.now c.args.text.now c.args.parts.now c.loop-byte.byte-index c.loop-byte.used 0 _ _ c.loop-byte-test.true
      (λ hole. elim w.else-byte-eq-HOLE.branch [
        | else-byte-eq-HOLE-via-then-byte-eq-HOLE+else-used-parts v ↦ omega (arith, v.if-used-parts.false)
        | else-byte-eq-HOLE-via-else-byte-eq-HOLE v ↦ absurd (v.if-byte-eq-HOLE.false hole)
      ])
      c.loop-byte.invariant)
]

pub returns : goal.returns
returns c = all_filled c.args.problem.now c.args.text.now c.args.parts.now c.loop-byte.byte-index c.loop-byte.used _ _ c.loop-byte-test.false c.loop-byte.invariant
