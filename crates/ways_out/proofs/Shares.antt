-- The outcomes of the changes that workers took.
use Rattle.std.proofs.Common.{◌≡◌, ℕ, ◌<◌, List, length, get_or, sym, subst}
use Rattle.std.specs.Prelude.{Result, Ok, IfOk, Vec}
use Rattle.std.specs.declared.alloc.AllocError.{AllocError}
use Rattle.std.specs.declared.alloc.Global.{Global}
use Rattle.rwsp_terms.specs.Instance.{Instance}
use Rattle.roster_planner.specs.declared.effort.Effort.{Effort}
use Rattle.ways_out.specs.declared.change.Change.{Change}
use Rattle.ways_out.specs.declared.side_by_side.Placed.{Placed}
use Rattle.ways_out.specs.Shares.{IsShare, AreShares}

-- the share of a worker who ended
pub share_there : (P : Instance) (effort : Effort) (changes : List Change) (shares : List (Result (Vec Placed Global) AllocError)) (w : ℕ) (read : Result (Vec Placed Global) AllocError) (share : Vec Placed Global) → w < length shares → AreShares P effort changes shares → read ≡ get_or shares w read → read ≡ Ok share → IsShare P effort changes share.items
share_there P effort changes shares w read share less all there is =
    let here : IfOk read (λ v. IsShare P effort changes v.items) =
    subst (λ r. IfOk r (λ v. IsShare P effort changes v.items)) (sym there) (all w read less) in
    subst (λ r. IfOk r (λ v. IsShare P effort changes v.items)) is here
