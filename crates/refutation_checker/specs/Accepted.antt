-- What is found of a text that is accepted.
use Rattle.std.specs.Prelude.{◌≡◌, ℕ, List}
use Rattle.rwsp_terms.specs.Instance.{Instance}
use Rattle.refutation_terms.specs.declared.lines.LogKind.{LogKind}
use Rattle.refutation_terms.specs.Log.{Log}
use Rattle.refutation_terms.specs.Verdict.{IsAccepted}
use Rattle.refutation_checker.specs.declared.verdict.PassedLog.{PassedLog}

-- what a log that passes shows: that no roster meets its rules with what it opens with and its goal, if it has one
abbrev pub shown_by : Log → PassedLog
shown_by g = record { named = g.named; opening = g.opening; goal = g.goal }

-- the text is that of a log of this kind that passes, and shows this
abbrev pub IsPassedText : Instance → LogKind → List ℕ → PassedLog → Type 0
IsPassedText P kind text passed = (g : Log) × IsAccepted P kind text g × (shown_by g ≡ passed)
