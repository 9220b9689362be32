-- What follows from the domains that are counted: for callers.
use Rattle.std.proofs.Common.{ℕ, Bool, true, false, None}
use Rattle.rwsp_terms.specs.declared.data.Symbol.{Symbol}
use Rattle.rwsp_terms.specs.Instance.{Instance}
use Rattle.refutation_terms.specs.Word.{Domains}
use Rattle.refutation_terms.specs.Log.{Holds}
use Rattle.refutation_terms.specs.declared.lines.Line.TheVariants.{Closing}
use Rattle.refutation_terms.specs.declared.lines.Leaf.TheVariants.{Day}
use Rattle.propagators.specs.Overruns.{Misses, IsWithinDemand}

-- an overrun is a leaf that holds
pub holds_where_overrun : (P : Instance) (D : Domains) (j : ℕ) (x : Symbol) (over : Bool) → Misses P D j x.number over → Holds P None D (Closing (Day j x over))
holds_where_overrun P D j x true h = h
holds_where_overrun P D j x false h = h.0

-- and where there is none, no leaf holds
pub holds_nowhere : (P : Instance) (D : Domains) (j : ℕ) (x : Symbol) (over : Bool) → IsWithinDemand P D j x.number → Holds P None D (Closing (Day j x over)) → ⊥
holds_nowhere P D j x true within h = within.not_over h
holds_nowhere P D j x false within h = within.not_short h
