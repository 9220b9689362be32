-- The scarcest shift that is demanded up to a place.
use Rattle.std.specs.Prelude.{◌≡◌, ◌⊎◌, ◌<◌, ◌≤◌, Option, Some, None, ℕ}
use Rattle.rwsp_terms.specs.declared.data.Symbol.{Symbol}
use Rattle.rwsp_terms.specs.Instance.{Instance}
use Rattle.refutation_terms.specs.declared.lines.Turn.{Turn}
use Rattle.refutation_terms.specs.Sharp.{IsDemanded, IsNoScarcer}

-- the day is an earlier one, or it is this one and the symbol's number at most n
abbrev pub IsUpTo : ℕ → ℕ → ℕ → Symbol → Type 0
IsUpTo day n j x = (j < day) ⊎ ((j ≡ day) × (x.number ≤ n))

-- no shift is demanded up to number n on the day, or the turn is to the scarcest that is
abbrev pub IsScarcestUpTo : Instance → ℕ → ℕ → Option Turn → Type 0
IsScarcestUpTo P day n None = (j : ℕ) (x : Symbol) → IsUpTo day n j x → IsDemanded P j x → ⊥
IsScarcestUpTo P day n (Some t) =
    IsUpTo day n t.day t.x
    × IsDemanded P t.day t.x
    × ((j : ℕ) (x : Symbol) → IsUpTo day n j x → IsDemanded P j x → IsNoScarcer P t j x)
