-- Lines that end inside some open splits, and the domains there.
use Rattle.std.specs.Prelude.{◌≡◌, ℕ, ◌<◌, ◌≤◌, List, [], ◌∷◌, ◌++◌, length, Bool, true, false, IsTrue, not, ◌||◌, nat_le, count_by}
use Rattle.refutation_terms.specs.declared.lines.Line.{Line}
use Rattle.refutation_terms.specs.declared.lines.Line.TheVariants.{Split}
use Rattle.refutation_terms.specs.Word.{Domains}
use Rattle.refutation_terms.specs.Tree.{IsTree, Side, First, Second, narrowed}
use Rattle.domain_store.specs.Store.{Store, store_at, domain_at, has_domain}
use Rattle.domain_store.specs.declared.open_split.OpenSplit.{OpenSplit}

-- the store has these domains at the first n positions
abbrev pub Agrees : ℕ → Store → Domains → Type 0
Agrees n S D = (p z : ℕ) → p < n → has_domain S p z ≡ D p z

-- a split at one of n positions, under the domains at its mark, which isn't before `from`
pub record IsSplitAt (n : ℕ) (S : Store) (D : Domains) (from : ℕ) (o : OpenSplit) : Type 0 where
  pub order : from ≤ o.mark.len
  pub within : o.mark.len ≤ length S.trail
  pub domains : Agrees n (store_at S o.mark.len) D
  pub position : o.p < n
  pub held : IsTrue (has_domain (store_at S o.mark.len) o.p o.x.number)
  pub another : 2 ≤ length (domain_at (store_at S o.mark.len) o.p)

-- the lines of the first side of a split, as far as they were read when the side began that is being read
abbrev pub IsFirstSide : Bool → List Line → Type 0
IsFirstSide true lines = IsTree lines
IsFirstSide false lines = lines ≡ []

abbrev pub side_in : Bool → Side
side_in true = Second
side_in false = First

abbrev pub NoLines : List Line → Type 0
NoLines lines = lines ≡ []

-- the lines lead under the domains D into the splits, the outermost first, and there are followed by lines as Q says.
-- The store has the domains there, and at the mark of each split it had those at the split
abbrev pub InSplits : (List Line → Type 0) → ℕ → Store → Domains → ℕ → List OpenSplit → List Line → Type 0
InSplits Q n S D from [] lines = (from ≤ length S.trail) × Agrees n S D × Q lines
InSplits Q n S D from (o ∷ splits) lines =
    IsSplitAt n S D from o × (first : List Line) × (rest : List Line) × (lines ≡ Split o.p o.x ∷ (first ++ rest))
    × IsFirstSide o.in_second first
    × InSplits Q n S (narrowed D (Split o.p o.x) (side_in o.in_second)) o.mark.len splits rest

-- the lines are a whole tree, and the store has the domains before it; or they end inside the splits, where the next
-- tree begins
abbrev pub HasRead : Bool → ℕ → Store → Domains → List OpenSplit → List Line → Type 0
HasRead true n S D splits lines = (splits ≡ []) × InSplits IsTree n S D 0 [] lines
HasRead false n S D splits lines = InSplits NoLines n S D 0 splits lines

-- some lines lead into the splits and end there with a whole tree
abbrev pub IsBehindTree : Store → List OpenSplit → Type 0
IsBehindTree S splits = (D : Domains) × (lines : List Line) × InSplits IsTree (length S.sets) S D 0 splits lines

-- how many of the splits are in their first side, so that their second is still to come
abbrev pub second_sides_to_come : List OpenSplit → ℕ
second_sides_to_come splits = count_by (λ o. not o.in_second) splits

-- a split at the position is idle under the domains of the store: the symbol isn't in the domain, or is alone there
abbrev pub is_idle_in : Store → ℕ → ℕ → Bool
is_idle_in S p x = not (has_domain S p x) || nat_le (length (domain_at S p)) 1
