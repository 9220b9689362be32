use Rattle.std.proofs.Common.{◌≡◌}
use Rattle.std.specs.List.{flat_map, range_with_len}
use Rattle.roster_print.specs.RosterText.{week_text, week_at}
use Rattle.roster_print.proofs.print.print_roster.Given as goal

abbrev pub invariant-loop-week : goal.invariant-loop-week
invariant-loop-week l = l.out.items ≡ flat_map (λ k. week_text l.problem (week_at l.problem l.cells k)) (range_with_len 0 l.week)
