use Rattle.std.proofs.Common.{All, ◌≤◌}
use Rattle.roster_finder.specs.Parts.{ArePartsOf}
use Rattle.roster_finder.specs.Quotas.{IsQuotaOf}
use Rattle.roster_finder.specs.declared.cuts.TheConstants.{MOST_CUTS}
use Rattle.roster_finder.proofs.cuts.Parts.join_along.Given as goal

abbrev pub invariant-loop-k : goal.invariant-loop-k
invariant-loop-k l = record { parts : ArePartsOf l.setting l.self; quotas : All (IsQuotaOf l.setting) l.quotas.items; few : l.new ≤ MOST_CUTS }
