use Rattle.std.proofs.Common.{◌≡◌, ◌+◌, ◌<◌, ℕ, false}
use Rattle.plain_words.specs.Told.{is_outside}
use Rattle.plain_words.proofs.told.first_shift_outside.Given as goal

abbrev pub invariant-loop-place : goal.invariant-loop-place
invariant-loop-place l = (i : ℕ) → i < l.place → is_outside l.problem l.cells l.day (1 + i) ≡ false
