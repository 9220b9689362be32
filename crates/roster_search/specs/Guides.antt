-- What a guide may give a search, and what the search sees with it.
use Rattle.std.specs.Prelude.{◌≡◌, ℕ, ◌<◌, ◌≤◌, Option, Some, None, length, false}
use Rattle.std.specs.Option.{IfSome}
use Rattle.rwsp_terms.specs.declared.data.Symbol.{Symbol}
use Rattle.rwsp_terms.specs.Instance.{Instance}
use Rattle.rwsp_terms.specs.Roster.{MeetsAll}
use Rattle.rwsp_model.specs.Schedule.{Schedule}
use Rattle.refutation_terms.specs.declared.lines.Line.{Line}
use Rattle.refutation_terms.specs.Word.{Within}
use Rattle.refutation_terms.specs.declared.lines.Opening.{Opening}
use Rattle.refutation_terms.specs.FewLeaf.{FewHolds}
use Rattle.refutation_terms.specs.Log.{HoldsOpening}
use Rattle.refutation_terms.specs.Laws.{HasGoal}
use Rattle.domain_store.specs.Store.{Store, has_domain}
use Rattle.domain_store.specs.Splits.{is_idle_in}
use Rattle.domain_store.specs.Leaves.{IsHoldingLeaf}
use Rattle.domain_store.specs.Looks.{IsUnweighed, Closes, IsCut}
use Rattle.roster_search.specs.declared.order.NextSplit.{NextSplit}
use Rattle.roster_search.specs.declared.sight.Sight.{Sight}
use Rattle.roster_search.specs.declared.sight.Sight.TheVariants.{Leaf, Cut, Quiet}

-- a leaf that holds under the domains, or none
abbrev pub IsLeafGiven : Instance → Option ℕ → Store → Option Line → Type 0
IsLeafGiven P goal S line = IfSome line (IsHoldingLeaf P goal (has_domain S))

-- a roster of the problem's days that meets every rule and has as many free weekends as the goal, where there is one
abbrev pub IsWantedRoster : Instance → Option ℕ → Schedule → Type 0
IsWantedRoster P goal s = (s.days ≡ P.days) × MeetsAll P s.cells × HasGoal goal s.cells

-- such a roster that holds the cells that the opening gives
abbrev pub IsWantedBehind : Instance → Opening → Option ℕ → Schedule → Type 0
IsWantedBehind P start goal s = IsWantedRoster P goal s × HoldsOpening start s.cells

-- where there is a goal, no leaf of the propagator weighs words
abbrev pub AreUnweighed : Option ℕ → (Store → Line → Type 0) → Type 0
AreUnweighed None leaves = Unit {0}
AreUnweighed (Some goal) leaves = (S : Store) (line : Line) → leaves S line → IsUnweighed line

-- a position, and a symbol of its domain that has another beside it
abbrev pub IsSplitIn : Store → NextSplit → Type 0
IsSplitIn S next = (next.p < length S.sets) × (is_idle_in S next.p next.x.number ≡ false)

-- the domain has no symbol
abbrev pub IsEmpty : Store → ℕ → Type 0
IsEmpty S p = (x : ℕ) → x ≤ S.shifts → has_domain S p x ≡ false

-- such a roster, within the domains
abbrev pub IsMetRoster : Instance → Option ℕ → Store → Schedule → Type 0
IsMetRoster P goal S s = IsWantedRoster P goal s × Within P (has_domain S) s.cells

-- a leaf that a guide gave
abbrev pub IsGiven : Instance → Option ℕ → Store → Sight → Type 0
IsGiven P goal S (Leaf line) = IsHoldingLeaf P goal (has_domain S) line
IsGiven P goal S sight = ⊥

-- no leaf of the propagator holds, and with a goal, as many weeks as that can still have a free weekend
abbrev pub IsOpen : Instance → Option ℕ → (Line → Type 0) → Store → Type 0
IsOpen P goal leaves S = (Closes P leaves S → ⊥) × (FewHolds P goal (has_domain S) → ⊥)

-- a leaf that holds, or what is seen of open domains
abbrev pub IsSight : Instance → Option ℕ → (Line → Type 0) → (ℕ → Symbol → Type 0) → Store → Sight → Type 0
IsSight P goal leaves spent S (Cut p x line) = IsOpen P goal leaves S × IsCut P spent S p x line
IsSight P goal leaves spent S Quiet = IsOpen P goal leaves S × ((p : ℕ) (x : Symbol) → spent p x → ⊥)
IsSight P goal leaves spent S given = IsGiven P goal S given
