-- Where a rule is broken first, by a position. No public contract cites these.
use Rattle.std.specs.Prelude.{◌≡◌, ℕ, ◌+◌, ◌≤◌, List, pos, ◌≤ℤ◌}
use Rattle.rwsp_terms.specs.Instance.{Instance, least, greatest}
use Rattle.rwsp_terms.specs.Roster.{MeetsDay, weeks_with}
use Rattle.rwsp_terms.specs.Window.{Bad}
use Rattle.rwsp_terms.specs.declared.data.Symbol.{Symbol}
use Rattle.rwsp_terms.specs.declared.data.Rule.{Rule}
use Rattle.rwsp_terms.specs.declared.data.Rule.TheVariants.{Day}
use Rattle.roster_checker.specs.FirstBroken.{IsFirstWindow, position_of}
use Rattle.roster_checker.specs.declared.broken.Broken.{Broken}

-- the position and the length of the first window that breaks the rule; for a day whose demand isn't met, its
-- position in the first week, and 0
abbrev pub IsFirstPlace : Instance → Rule → List Symbol → ℕ → ℕ → Type 0
IsFirstPlace P (Day j) s p n = (MeetsDay P j s → ⊥) × (p + 1 ≡ j) × (n ≡ 0)
IsFirstPlace P r s p n = IsFirstWindow (Bad P r) s p n

-- as many weeks hold the symbol on the day as are demanded
abbrev pub MeetsDemand : Instance → ℕ → ℕ → List Symbol → Type 0
MeetsDemand P x j s = (least P x j ≤ℤ pos (weeks_with P s x j)) × (pos (weeks_with P s x j) ≤ℤ greatest P x j)

-- the answer has the day of the position, and the length
pub record IsBrokenAt (P : Instance) (b : Broken) (p n : ℕ) : Type 0 where
  pub week : 1 ≤ b.week
  pub day : (1 ≤ b.day) × (b.day ≤ P.days)
  pub position : position_of P b.week b.day ≡ p
  pub length : b.length ≡ n
