-- The windows that break a rule, whichever of the possible words is there.
use Rattle.std.specs.Prelude.{◌≡◌, ℕ, ◌+◌, ◌<◌, ◌≤◌, Option, Some, None}
use Rattle.rwsp_terms.specs.declared.data.Symbol.{Symbol}
use Rattle.rwsp_terms.specs.declared.data.Rule.{Rule}
use Rattle.rwsp_terms.specs.declared.limits.TheConstants.{GREATEST_BOUND}
use Rattle.rwsp_terms.specs.Instance.{Instance}
use Rattle.domain_store.specs.declared.bad_windows.BadWindow.{BadWindow}
use Rattle.domain_store.specs.Views.{AreAllBad}

-- the one length for which every possible word from the position on is bad, or none
abbrev pub IsBadLength : Instance → Rule → (ℕ → Symbol → Type 0) → ℕ → Option ℕ → Type 0
IsBadLength P r A p None = (len : ℕ) → AreAllBad P r A p len → ⊥
IsBadLength P r A p (Some n) = AreAllBad P r A p n × ((len : ℕ) → AreAllBad P r A p len → len ≡ n)

-- no bad window begins before the position
abbrev pub HasNoneBefore : Instance → Rule → (ℕ → Symbol → Type 0) → ℕ → Type 0
HasNoneBefore P r A end = (q len : ℕ) → q < end → AreAllBad P r A q len → ⊥

-- the window is the first that is bad
pub record IsFirstBad (P : Instance) (r : Rule) (A : ℕ → Symbol → Type 0) (end : ℕ) (w : BadWindow) : Type 0 where
  pub within : w.start < end
  pub length : IsBadLength P r A w.start (Some w.length)
  pub earliest : HasNoneBefore P r A w.start

-- no bad window has the position in it
abbrev pub HasNoneOver : Instance → Rule → (ℕ → Symbol → Type 0) → ℕ → Type 0
HasNoneOver P r A p = (start len : ℕ) → start ≤ p → p < start + len → AreAllBad P r A start len → ⊥

-- the window is bad, and begins at the position or before it
pub record IsBadNear (P : Instance) (r : Rule) (A : ℕ → Symbol → Type 0) (p : ℕ) (w : BadWindow) : Type 0 where
  pub early : w.start ≤ p
  pub some : 0 < w.length
  pub few : w.length ≤ GREATEST_BOUND + 2
  pub bad : AreAllBad P r A w.start w.length
