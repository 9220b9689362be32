-- Sets of symbols, as the ascending lists of their numbers.
use Rattle.std.specs.Prelude.{ℕ, ◌+◌, ◌<◌, ◌≤◌, ◌^◌, List, [], ◌∷◌, length, Bool, ◌==◌, not, All, filter}
use Rattle.std.specs.Int.{bit_at}
use Rattle.std.specs.List.{list_any, range_with_len}
use Rattle.std.specs.List.Sorted.{IsStrictlyIncreasing}
use Rattle.rwsp_terms.specs.declared.limits.TheConstants.{MOST_SYMBOLS}

-- whether the set has the symbol
abbrev pub has_symbol : List ℕ → ℕ → Bool
has_symbol set x = list_any (λ y. y == x) set

-- the set less the symbol
abbrev pub without_symbol : ℕ → List ℕ → List ℕ
without_symbol x set = filter (λ y. not (y == x)) set

-- a set with some symbol and none above the last
pub record IsDomain (last : ℕ) (set : List ℕ) : Type 0 where
  pub some : 0 < length set
  pub ascends : IsStrictlyIncreasing set
  pub symbols : All (λ x. x ≤ last) set

-- the symbols whose bits are set: the lowest bit is that of the day off, and each shift has its own
abbrev pub symbols_of : ℕ → List ℕ
symbols_of bits = filter (λ x. bit_at bits x == 1) (range_with_len 0 MOST_SYMBOLS)

-- the number that has the bits of these symbols
abbrev pub bits_of : List ℕ → ℕ
bits_of [] = 0
bits_of (x ∷ set) = 2 ^ x + bits_of set
