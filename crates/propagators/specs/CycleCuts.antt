-- Symbols that no word of two turns has.
use Rattle.std.specs.Prelude.{◌≡◌, ℕ, ◌<◌, false}
use Rattle.rwsp_terms.specs.declared.data.Symbol.{Symbol}
use Rattle.rwsp_terms.specs.Instance.{cells}
use Rattle.refutation_terms.specs.Tree.{is_idle}
use Rattle.refutation_terms.specs.Sharp.{NoWordHas}
use Rattle.domain_store.specs.Store.{Store, has_domain}
use Rattle.propagators.specs.Known.{KnownCycle}

-- the symbol is beside another in the domain of the position, and no clean word of two turns has it there
pub record IsUnsupported (C : KnownCycle) (S : Store) (p : ℕ) (x : Symbol) : Type 0 where
  pub position : p < cells C.problem
  pub useful : is_idle C.problem (has_domain S) p x.number ≡ false
  pub nowhere : NoWordHas C.problem (has_domain S) C.rules p x
