-- What a roster keeps.
use Rattle.std.specs.Prelude.{ℕ, List}
use Rattle.rwsp_terms.specs.declared.data.Symbol.{Symbol}

-- the days of its problem, and its cells in order
pub record Schedule : Type 0 where
  pub days : ℕ
  pub cells : List Symbol
