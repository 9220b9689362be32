-- What a shelf tells of a name, and when a count of faults has risen.
use Rattle.std.specs.Prelude.{ℕ, ◌+◌, ◌-◌, ◌^◌, ◌≤◌, min, List, Option, Some, None, Bool, true, false}

-- of a name a shelf tells nothing, or that nothing is held under it, or the bytes
pub data Told : Type 0 where
  Silent : Told
  Missing : Told
  Bytes : (bytes : List ℕ) → Told

-- whether it tells that nothing is held
abbrev pub is_missing : Told → Bool
is_missing Silent = false
is_missing Missing = true
is_missing (Bytes bytes) = false

-- the bytes, where they are known
abbrev pub told_bytes : Told → Option (List ℕ)
told_bytes Silent = None
told_bytes Missing = None
told_bytes (Bytes bytes) = Some bytes

-- the count has risen, or is at its last value
abbrev pub Rose : ℕ → ℕ → Type 0
Rose before now = min (before + 1) (2 ^ 64 - 1) ≤ now

-- no count of a shelf has fallen
abbrev pub NeverFall : (List ℕ → ℕ) → (List ℕ → ℕ) → Type 0
NeverFall before now = (name : List ℕ) → before name ≤ now name

-- every count of a shelf has risen
abbrev pub AllRose : (List ℕ → ℕ) → (List ℕ → ℕ) → Type 0
AllRose before now = (name : List ℕ) → Rose (before name) (now name)
