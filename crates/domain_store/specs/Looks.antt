-- What a propagator says of domains.
use Rattle.std.specs.Prelude.{◌≡◌, ◌≢◌, ◌↔◌, ℕ, ◌<◌, Bool, false, None, IsTrue}
use Rattle.rwsp_terms.specs.declared.data.Symbol.{Symbol}
use Rattle.rwsp_terms.specs.Instance.{Instance, cells}
use Rattle.refutation_terms.specs.declared.lines.Line.{Line}
use Rattle.refutation_terms.specs.declared.lines.Line.TheVariants.{Split, Closing}
use Rattle.refutation_terms.specs.declared.lines.Leaf.TheVariants.{Window, Day, Words}
use Rattle.refutation_terms.specs.declared.lines.WordClaim.TheVariants.{Light}
use Rattle.refutation_terms.specs.Tree.{First, narrowed, is_idle}
use Rattle.refutation_terms.specs.Log.{Holds, LineFits}
use Rattle.domain_store.specs.Store.{Store, BelongsTo, HasSameShape, domain_at, has_domain}
use Rattle.domain_store.specs.Leaves.{IsHoldingLeaf}
use Rattle.domain_store.specs.declared.look.Look.{Look}
use Rattle.domain_store.specs.declared.look.Look.TheVariants.{Quiet, Closed, Cut}

-- some leaf of these holds under the domains: they are closed
abbrev pub Closes : Instance → (Line → Type 0) → Store → Type 0
Closes P leaves S = (line : Line) × leaves line × Holds P None (has_domain S) line

-- a line that weighs no words
abbrev pub IsUnweighed : Line → Type 0
IsUnweighed (Closing (Words p R (Light turns reward y))) = ⊥
IsUnweighed line = Unit {0}

-- one of the leaves, and it holds
abbrev pub IsClosing : Instance → (Line → Type 0) → Store → Line → Type 0
IsClosing P leaves S line = leaves line × IsHoldingLeaf P None (has_domain S) line

-- a spent symbol, which is in the domain of its position beside another, and a leaf that holds once it is alone there
-- and weighs no words
pub record IsCut (P : Instance) (spent : ℕ → Symbol → Type 0) (S : Store)
    (p : ℕ) (x : Symbol) (line : Line) : Type 0 where
  pub is_spent : spent p x
  pub position : p < cells P
  pub useful : is_idle P (has_domain S) p x.number ≡ false
  pub unweighed : IsUnweighed line
  pub leaf : IsHoldingLeaf P None (narrowed (has_domain S) (Split p x) First) line

-- closed exactly where a leaf holds; a cut exactly where none does and a symbol is spent; quiet where there is
-- neither
abbrev pub IsLook : Instance → (Line → Type 0) → (ℕ → Symbol → Type 0) → Store → Look → Type 0
IsLook P leaves spent S Quiet = (Closes P leaves S → ⊥) × ((p : ℕ) (x : Symbol) → spent p x → ⊥)
IsLook P leaves spent S (Closed line) = IsClosing P leaves S line
IsLook P leaves spent S (Cut p x line) = (Closes P leaves S → ⊥) × IsCut P spent S p x line

-- what two looks see together: what the second sees where it sees a leaf that holds or the first sees nothing, and
-- else what the first sees
abbrev pub joined : Look → Look → Look
joined Quiet second = second
joined first (Closed line) = Closed line
joined first second = first

-- the leaves include all window and day leaves of the problem
pub record HasPlainLeaves (P : Instance) (leaves : Store → Line → Type 0) : Type 0 where
  pub windows : (S : Store) (number p len : ℕ) → LineFits P None false (Closing (Window number p len))
      → leaves S (Closing (Window number p len))
  pub days : (S : Store) (j : ℕ) (x : Symbol) (over : Bool) → LineFits P None false (Closing (Day j x over))
      → leaves S (Closing (Day j x over))

-- the position is one of the problem, and its domain has the symbol and another beside it
pub record IsBesideAnother (P : Instance) (S : Store) (p : ℕ) (x : Symbol) : Type 0 where
  pub position : p < cells P
  pub useful : is_idle P (has_domain S) p x.number ≡ false

-- under all domains of a problem that is served, a spent symbol is beside another
abbrev pub AreSpentBesideAnother : (Instance → Type 0) → (Store → ℕ → Symbol → Type 0) → Type 0
AreSpentBesideAnother serves spent = (P : Instance) (S : Store) (p : ℕ) (x : Symbol) → serves P
    → BelongsTo P S → spent S p x → IsBesideAnother P S p x

-- two states of a propagator serve the same problems, with the same leaves and the same spent symbols
pub record IsSame {A : Type 0} (served : A → Instance → Type 0) (lines : A → Store → Line → Type 0)
    (symbols : A → Store → ℕ → Symbol → Type 0) (old new : A) : Type 0 where
  pub serves : (P : Instance) → served old P ↔ served new P
  pub leaves : (S : Store) (line : Line) → lines old S line ↔ lines new S line
  pub spent : (S : Store) (p : ℕ) (x : Symbol) → symbols old S p x ↔ symbols new S p x

-- the domains differ at one position at most, and there some symbols of the domain before are left
pub record IsNarrowedAt (before now : Store) (p : ℕ) : Type 0 where
  pub shape : HasSameShape before now
  pub others : (q : ℕ) → q ≢ p → domain_at now q ≡ domain_at before q
  pub fewer : (x : ℕ) → IsTrue (has_domain now p x) → IsTrue (has_domain before p x)
