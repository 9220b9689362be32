use Rattle.std.proofs.Common.{◌≡◌, length}
use Rattle.roster_finder.proofs.day_domains.undecided_days.Given as goal

abbrev pub invariant-loop-p : goal.invariant-loop-p
invariant-loop-p l = l.undecided.below ≡ length l.domains.sets
