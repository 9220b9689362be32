-- No symbol is above the last that was tried.
use Rattle.std.proofs.Common.{◌<◌, ◌≤◌, arith}
use Rattle.rwsp_terms.specs.declared.limits.TheConstants.{MOST_SHIFTS}
use Rattle.propagators.proofs.window.is_part.Goals as goal

pub returns : goal.returns
returns c t x has =
    let small : x ≤ MOST_SHIFTS = c.requires x has in
    let less : x < c.loop-x.x = omega arith in
    c.loop-x.invariant x less has
