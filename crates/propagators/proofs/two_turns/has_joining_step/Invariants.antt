use Rattle.std.proofs.Common.{ℕ, ◌<◌, ◌≡◌}
use Rattle.std.specs.Prelude.{IsTrue}
use Rattle.clean_words.specs.declared.step.Step.{Step}
use Rattle.propagators.specs.Marks.{is_marked, StandsAt}
use Rattle.propagators.proofs.two_turns.has_joining_step.Given as goal

abbrev pub invariant-loop-step : goal.invariant-loop-step
invariant-loop-step l = (i : ℕ) (s : Step) → i < l.step-index → StandsAt l.steps i s → s.symbol ≡ l.x → IsTrue (is_marked l.before s.from) → IsTrue (is_marked l.behind s.to) → ⊥
