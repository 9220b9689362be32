-- A leaf that counts: no number of blocks of a symbol has as many days as the demand asks for.
use Rattle.std.specs.Prelude.{◌≡◌, ◌⊎◌, ℕ, zero, suc, ◌+◌, ◌-◌, ◌*◌, ◌<◌, ◌≤◌, ◌==◌, ◌&&◌, not, IsTrue, List, ◌++◌, length, Bool, Contains, count_by, ℤ, pos, ◌≤ℤ◌}
use Rattle.std.specs.Int.{int_max, int_min}
use Rattle.std.specs.List.{range_with_len}
use Rattle.rwsp_terms.specs.declared.data.Bounds.{Bounds}
use Rattle.rwsp_terms.specs.declared.data.Symbol.{Symbol}
use Rattle.rwsp_terms.specs.declared.data.Class.TheVariants.{Shift, Off, Work}
use Rattle.rwsp_terms.specs.declared.data.Rule.{Rule}
use Rattle.rwsp_terms.specs.declared.data.Rule.TheVariants as TheRules
use Rattle.rwsp_terms.specs.Instance.{Instance, cells, bounds, least, greatest, IsDay, IsSymbol, symbol_numbered}
use Rattle.rwsp_terms.specs.Window.{cell}
use Rattle.rwsp_terms.specs.Rules.{block_rules}
use Rattle.refutation_terms.specs.Word.{int_sum_by}

-- a block of the symbol begins at the position: it is there, and not on the day before, round the cycle
abbrev pub begins_block : List Symbol → ℕ → ℕ → Bool
begins_block s x p = ((cell s p).number == x) && not ((cell s (p + (length s - 1))).number == x)

-- how many blocks of the symbol a roster has
abbrev pub block_count : List Symbol → ℕ → ℕ
block_count s x = count_by (begins_block s x) (range_with_len 0 (length s))

-- how many days a block has at least
abbrev pub shortest : Bounds → ℕ
shortest b = b.least + (1 - b.least)

-- the least and the greatest number of days that a roster can have the symbol, which meets the demand of each day. The
-- greatest may be negative for the day off, where more is demanded than there are weeks
abbrev pub least_days : Instance → ℕ → ℤ
least_days P x = int_sum_by (λ j. int_max (pos 0) (least P x j)) (range_with_len 1 P.days)

abbrev pub most_days : Instance → ℕ → ℤ
most_days P x = int_sum_by (λ j. int_min (pos P.weeks) (greatest P x j)) (range_with_len 1 P.days)

-- so many blocks of these lengths can have so many days in all
abbrev pub CanBe : Bounds → ℕ → ℕ → Type 0
CanBe b k t = (k * shortest b ≤ t) × (t ≤ k * b.greatest)

-- so many blocks of the shift can have as many days as the demand asks for
abbrev pub ShiftBlocksFit : Instance → Symbol → ℕ → Type 0
ShiftBlocksFit P x k =
    (pos (k * shortest (bounds P (Shift x))) ≤ℤ most_days P x.number)
    × (least_days P x.number ≤ℤ pos (k * (bounds P (Shift x)).greatest))

-- so can this number of blocks of days off, and as many blocks of work all other days
abbrev pub OffBlocksFit : Instance → ℕ → Type 0
OffBlocksFit P k =
    (t : ℕ) × (least_days P 0 ≤ℤ pos t) × (pos t ≤ℤ most_days P 0)
    × (t ≤ cells P) × CanBe P.off k t × CanBe P.work k (cells P - t)

abbrev pub BlocksFitBy : Instance → ℕ → ℕ → Type 0
BlocksFitBy P zero k = OffBlocksFit P k
BlocksFitBy P (suc x) k = ShiftBlocksFit P (symbol_numbered (suc x)) k

-- the number of blocks of the symbol is one that a roster may have, by counting days alone
abbrev pub BlockCountFits : Instance → Symbol → ℕ → Type 0
BlockCountFits P x k = BlocksFitBy P x.number k

-- no number of blocks fits, up to one for each cell
abbrev pub BlocksHold : Instance → Symbol → Type 0
BlocksHold P x = (k : ℕ) → k ≤ cells P → BlockCountFits P x k → ⊥

-- its symbol is the problem's, and only a log that may count has it
abbrev pub BlocksFit : Instance → Bool → Symbol → Type 0
BlocksFit P counts x = IsTrue counts × IsSymbol P x

-- the rules on both lengths of the blocks of the symbol, and with the day off those of work
abbrev pub block_rules_of : ℕ → List Rule
block_rules_of zero = block_rules Off ++ block_rules Work
block_rules_of (suc x) = block_rules (Shift (symbol_numbered (suc x)))

abbrev pub IsBlockRule : ℕ → Rule → Type 0
IsBlockRule x r = Contains (block_rules_of x) r

-- it rests on the lengths of its symbol's blocks, of the day off on those of work too, and on every day
abbrev pub BlocksCite : Instance → Symbol → Rule → Type 0
BlocksCite P x r = IsBlockRule x.number r ⊎ ((j : ℕ) × IsDay P j × (r ≡ TheRules.Day j))

-- no leaf of this kind holds
abbrev pub NoBlocksHold : Instance → Type 0
NoBlocksHold P = (x : Symbol) → IsSymbol P x → BlocksHold P x → ⊥

-- the one symbol is counted before the other: the shifts in their order, then the day off
abbrev pub IsCountedBefore : Symbol → Symbol → Type 0
IsCountedBefore y x = (0 < y.number) × ((y.number < x.number) ⊎ (x.number ≡ 0))

-- the leaf of the symbol holds, and that of no symbol that is counted before it
pub record IsFirstBlocks (P : Instance) (x : Symbol) : Type 0 where
  pub symbol : IsSymbol P x
  pub holds : BlocksHold P x
  pub first : (y : Symbol) → IsSymbol P y → IsCountedBefore y x → BlocksHold P y → ⊥
