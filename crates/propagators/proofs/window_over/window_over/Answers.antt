-- One rule more has no window over the position.
use Rattle.std.proofs.Common.{ℕ, ◌<◌, arith}
use borrow.Author.Count.{below_more}
use Rattle.propagators.specs.Windows.{NoWindowOver}
use Rattle.propagators.proofs.window_over.window_over.Goals as goal

pub loop-number-preserved : goal.loop-number-preserved
loop-number-preserved c =
    let IsNone : ℕ → Type 0 = λ k. NoWindowOver c.args.problem.now c.args.doms.now k c.args.q in
    record {
      some = omega arith;
      before = below_more IsNone c.loop-number.number c.loop-number.invariant.before c.in_default.ensures;
    }

pub returns : goal.returns
returns c number p len window over =
    let less : number < c.loop-number.number = omega (arith, window.fits.1, c.rule_count-number-end.ensures.value, c.loop-number-test.false) in
    c.loop-number.invariant.before number less p len window over
