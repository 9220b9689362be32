use Rattle.std.proofs.Common.{sym, arith}
use Rattle.rwsp_text.proofs.Numerals.{plain_within, plain_below, plain_above}
use Rattle.rwsp_text.proofs.fields.number_in.Goals.{else-low-n-via-then-low-n+else-n-high, else-low-n-via-else-low-n}
use Rattle.rwsp_text.proofs.fields.number_in.Goals as goal

pub returns-then-n-high-clause-value : goal.returns-then-n-high-clause-value
returns-then-n-high-clause-value c =
    sym (plain_within c.args.low c.args.high c.args.text.now c.in_ok-n.n (cc) (sym c.in_ok-n.ensures) (omega arith) (omega arith))

pub returns-else-low-n-clause-value : goal.returns-else-low-n-clause-value
returns-else-low-n-clause-value c = elim c.else-low-n.branch [
  | else-low-n-via-then-low-n+else-n-high w ↦ sym (plain_above c.args.low c.args.high c.args.text.now c.in_ok-n.n (cc) (sym c.in_ok-n.ensures) (omega arith))
  | else-low-n-via-else-low-n w ↦ sym (plain_below c.args.low c.args.high c.args.text.now c.in_ok-n.n (cc) (sym c.in_ok-n.ensures) (omega arith))
]
