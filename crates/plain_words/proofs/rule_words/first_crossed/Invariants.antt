use Rattle.std.proofs.Common.{◌≡◌, ◌+◌, ◌<◌, ℕ, false}
use Rattle.plain_words.specs.RuleWords.{is_crossed}
use Rattle.plain_words.proofs.rule_words.first_crossed.Given as goal

abbrev pub invariant-loop-place : goal.invariant-loop-place
invariant-loop-place l = (i : ℕ) → i < l.place → is_crossed l.problem l.day (1 + i) ≡ false
