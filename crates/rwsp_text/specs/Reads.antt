-- What a reader's call returned and left, against what reading gives.
use Rattle.std.specs.Prelude.{◌≡◌, ℕ, Option, Some, None}
use Rattle.rwsp_text.specs.Fields.{Words}

-- where it gave nothing, nothing is said of what is left
abbrev pub Reads : {X : Type 0} → Option (X × Words) → Option X → Words → Type 0
Reads read None left = read ≡ None
Reads read (Some x) left = read ≡ Some (x, left)

abbrev pub ReadsRest : {X : Type 0} → Option Words → Option X → Words → Type 0
ReadsRest read None left = read ≡ None
ReadsRest read (Some x) left = read ≡ Some left

-- a number is taken, or all stays
abbrev pub TakesNumber : Option (ℕ × Words) → Option ℕ → Words → Words → Type 0
TakesNumber read None old new = (read ≡ None) × (new ≡ old)
TakesNumber read (Some n) old new = read ≡ Some (n, new)
