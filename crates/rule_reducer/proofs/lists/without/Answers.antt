use Rattle.std.proofs.Common.{ℕ, sym, subst, arith, not, ◌==◌, get_or, ◌<◌}
use Rattle.std.specs.Prelude.{All}
use Rattle.std.specs.List.Sorted.{IsStrictlyIncreasing}
use Rattle.rule_reducer.proofs.Kept.{front_ascends, lower_in_front, kept_more, kept_all}
use Rattle.rule_reducer.proofs.lists.without.Goals as goal

pub put_other-requires-clause-ascends : goal.put_other-requires-clause-ascends
put_other-requires-clause-ascends c =
    subst IsStrictlyIncreasing (sym c.loop-listed.invariant)
    (front_ascends c.numbers-listed-items.result.now c.args.number c.loop-listed.listed-index c.numbers-listed-items.ensures.ascends (omega arith))

pub put_other-requires-clause-last : goal.put_other-requires-clause-last
put_other-requires-clause-last c =
    let items = c.numbers-listed-items.result.now in
    subst (All (λ k. k < get_or items c.loop-listed.listed-index 0)) (sym c.loop-listed.invariant)
    (lower_in_front items c.args.number c.loop-listed.listed-index 0 c.numbers-listed-items.ensures.ascends (omega arith))

pub loop-listed-preserved : goal.loop-listed-preserved
loop-listed-preserved c =
    kept_more (λ (k : ℕ). not (k == c.args.number)) c.numbers-listed-items.result.now c.loop-listed.kept c.put_other.new.kept c.loop-listed.listed-index 0
    c.loop-listed.invariant c.in_ok-put_other.ensures (omega arith)

pub returns : goal.returns
returns c =
    kept_all (λ (k : ℕ). not (k == c.args.number)) c.numbers-listed-items.result.now c.args.list.now c.loop-listed.kept c.loop-listed.listed-index
    c.loop-listed.invariant (omega arith) c.numbers-listed-items.ensures.value
