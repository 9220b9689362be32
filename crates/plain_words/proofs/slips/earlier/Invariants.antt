use Rattle.std.proofs.Common.{◌≡◌, ◌+◌, ◌<◌, ℕ, false}
use Rattle.plain_words.specs.Sentences.{stands_at}
use Rattle.plain_words.proofs.slips.earlier.Given as goal

abbrev pub invariant-loop-i : goal.invariant-loop-i
invariant-loop-i l = (i : ℕ) → i < l.i → stands_at l.problem l.place (0 + i) ≡ false
