-- The blocks of equal symbols that stints are made of.
use Rattle.std.specs.Prelude.{ℕ, ◌-◌, List, [], ◌∷◌, ◌++◌, replicate, nat_le, if◌then◌else◌}
use Rattle.std.specs.List.{flat_map}
use Rattle.rwsp_terms.specs.Instance.{symbol_numbered}
use Rattle.rwsp_terms.specs.declared.data.Symbol.{Symbol}
use Rattle.made_problems.specs.declared.stint.Stint.{Stint}
use Rattle.made_problems.specs.declared.stint.Pattern.{Pattern}
use Rattle.made_problems.specs.declared.stint.Pattern.TheVariants.{Day, Afternoon, Night}

-- some days of one symbol
pub record Block : Type 0 where
  pub symbol : Symbol
  pub days : ℕ

abbrev pub block : ℕ → ℕ → Block
block number days = record { symbol = symbol_numbered number; days = days }

-- the blocks of a stint's work: of the shifts 1 (day), 2 (afternoon) and 3 (night)
abbrev pub work_blocks : Pattern → ℕ → List Block
work_blocks Day work = block 1 work ∷ []
work_blocks Afternoon work = block 1 2 ∷ block 2 (work - 2) ∷ []
work_blocks Night work =
    if nat_le 6 work then block 1 2 ∷ block 2 2 ∷ block 3 (work - 4) ∷ []
    else block 2 2 ∷ block 3 (work - 2) ∷ []

-- the blocks of a stint: its work, and then its days off
abbrev pub blocks_of : Stint → List Block
blocks_of t = work_blocks t.pattern t.work ++ block 0 t.off ∷ []

-- the cells that blocks fill
abbrev pub cells_of : List Block → List Symbol
cells_of blocks = flat_map (λ b. replicate b.days b.symbol) blocks

-- the roster of the stints, one after the other
abbrev pub roster_of : List Stint → List Symbol
roster_of ts = flat_map (λ t. cells_of (blocks_of t)) ts
