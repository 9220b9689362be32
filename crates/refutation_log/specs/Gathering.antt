-- The weights of a line, gathered one by one.
use Rattle.std.specs.Prelude.{◌≡◌, ℕ, List, [], ◌∷◌, ◌++◌, Option, Some, None, ℤ, AllPairs, Result, Ok, Err}
use Rattle.rwsp_terms.specs.declared.data.Symbol.{Symbol}
use Rattle.rwsp_terms.specs.declared.data.Weight.{Weight}
use Rattle.rwsp_terms.specs.Instance.{Instance}
use Rattle.rwsp_terms.specs.Weights.{ComesBefore}
use Rattle.rwsp_model.specs.declared.fail.Fail.{Fail}
use Rattle.rwsp_model.specs.declared.fail.Fail.TheVariants.{Refused}
use Rattle.refutation_terms.specs.LogText.{weights_of}
use Rattle.rwsp_text.specs.Fields.{NamedWeight}
use Rattle.refutation_log.specs.declared.refusal.LineRefusal.{LineRefusal}
use Rattle.refutation_log.specs.declared.refusal.LineRefusal.TheVariants.{Form, Name}
use Rattle.refutation_log.specs.declared.gather.Gathered.{Gathered}
use Rattle.refutation_log.specs.declared.gather.Gathered.TheVariants.{Rising, Falling, Unknown}

-- the answer to rules and gathered weights
abbrev pub IsWeighed : List ℕ → Gathered → Result (List ℕ × List Weight) (Fail LineRefusal) → Type 0
IsWeighed R (Rising z) r = r ≡ Ok (R, z)
IsWeighed R Falling r = r ≡ Err (Refused Form)
IsWeighed R Unknown r = r ≡ Err (Refused Name)

-- weights that were read: all names known and ascending, all known, or not all known
abbrev pub Gives : Instance → List NamedWeight → Gathered → Type 0
Gives P y (Rising z) = (weights_of P y ≡ Some z) × AllPairs ComesBefore z
Gives P y Falling = (z : List Weight) × (weights_of P y ≡ Some z) × (AllPairs ComesBefore z → ⊥)
Gives P y Unknown = weights_of P y ≡ None

-- the same of what reading gives, if it gives any
abbrev pub GivesAll : Instance → Option (List NamedWeight) → Option Gathered → Type 0
GivesAll P None None = Unit {0}
GivesAll P None (Some s) = ⊥
GivesAll P (Some y) None = ⊥
GivesAll P (Some y) (Some s) = Gives P y s

-- what a symbol weighs on a day
abbrev pub entry_of : ℕ → Symbol → ℤ → Weight
entry_of j x v = record { day = j; symbol = x; value = v }

-- the weights with this one behind them
abbrev pub with_last : List Weight → ℕ → Symbol → ℤ → List Weight
with_last z j x v = z ++ entry_of j x v ∷ []

-- what is gathered with one weight more, of a known symbol or not
abbrev pub IsAdded : Gathered → Option Symbol → ℕ → ℤ → Gathered → Type 0
IsAdded s None j v new = new ≡ Unknown
IsAdded Unknown (Some x) j v new = new ≡ Unknown
IsAdded Falling (Some x) j v new = new ≡ Falling
IsAdded (Rising z) (Some x) j v (Rising w) = (w ≡ with_last z j x v) × AllPairs ComesBefore w
IsAdded (Rising z) (Some x) j v Falling = AllPairs ComesBefore (with_last z j x v) → ⊥
IsAdded (Rising z) (Some x) j v Unknown = ⊥
