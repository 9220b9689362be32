-- What a trial finds.
use Rattle.std.proofs.Common.{ℕ, ◌≤◌, sym, subst}
use Rattle.rwsp_terms.specs.declared.limits.TheConstants.{TRIAL_BUDGET}
use Rattle.rwsp_terms.specs.Instance.{Instance}
use Rattle.rwsp_terms.specs.Roster.{MeetsAll}
use Rattle.made_problems.specs.Blocks.{roster_of}
use Rattle.made_problems.specs.Generated.{IsGenerated}
use Rattle.made_problems.specs.Laws.{HiddenRostersMeet}
use Rattle.refutation_log.specs.Planned.{IsPlanned}
use Rattle.refutation_log.specs.declared.found.Found.{Found}
use Rattle.refutation_log.specs.declared.found.Found.TheVariants as Founds
use Rattle.commands.specs.Trial.{IsTried}
use Rattle.commands.proofs.Logs.{exclusive}

-- a generated problem has a roster, so nothing refutes it
pub tried_as_planned : (number weeks : ℕ) (P : Instance) (found : Found) → HiddenRostersMeet → 1 ≤ weeks → IsGenerated number weeks P → IsPlanned P TRIAL_BUDGET found → IsTried P found
tried_as_planned number weeks P (Founds.Roster s) law some is h = h
tried_as_planned number weeks P (Founds.Undecided g) law some is h = (h.0, h.1)
tried_as_planned number weeks P (Founds.NoRoster g) law some is h =
    let meets : MeetsAll P (roster_of is.0) = subst (λ (Q : Instance). MeetsAll Q (roster_of is.0)) (sym is.2) (law number weeks is.0 some is.1) in
    exclusive P (roster_of is.0) g meets h.0 h.2.of_kind
