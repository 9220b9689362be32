-- The outcomes of the changes that each of some workers took.
use Rattle.std.specs.Prelude.{ℕ, ◌<◌, List, length, slice_index_or, Result, IfOk, Vec}
use Rattle.std.specs.declared.alloc.AllocError.{AllocError}
use Rattle.std.specs.declared.alloc.Global.{Global}
use Rattle.rwsp_terms.specs.Instance.{Instance}
use Rattle.roster_planner.specs.declared.effort.Effort.{Effort}
use Rattle.ways_out.specs.declared.change.Change.{Change}
use Rattle.ways_out.specs.declared.change.Outcome.{Outcome}
use Rattle.ways_out.specs.declared.side_by_side.Placed.{Placed}
use Rattle.ways_out.specs.Helping.{IsOutcome}

-- what is known of the change at a place
abbrev pub IsOutcomeAt : Instance → Effort → List Change → ℕ → Outcome → Type 0
IsOutcomeAt P effort changes place outcome = (c : Change) → IsOutcome P effort (slice_index_or changes place c) outcome

-- each is the outcome of the change at its place
abbrev pub IsShare : Instance → Effort → List Change → List Placed → Type 0
IsShare P effort changes share =
    (k : ℕ) (d : Placed) → k < length share
    → IsOutcomeAt P effort changes (slice_index_or share k d).place (slice_index_or share k d).outcome

-- those of each worker, where it ended
abbrev pub AreShares : Instance → Effort → List Change → List (Result (Vec Placed Global) AllocError) → Type 0
AreShares P effort changes shares =
    (w : ℕ) (d : Result (Vec Placed Global) AllocError) → w < length shares
    → IfOk (slice_index_or shares w d) (λ v. IsShare P effort changes v.items)
