use Rattle.std.proofs.Common.{◌≡◌, ◌++◌, drop}
use Rattle.roster_page.specs.Escaped.{escaped_within}
use Rattle.roster_page.proofs.escaped.put_escaped.Given as goal

abbrev pub invariant-loop-place : goal.invariant-loop-place
invariant-loop-place l = l.out.items ++ escaped_within l.within (drop l.place l.name) ≡ l.fn.out.items ++ escaped_within 0 l.name
