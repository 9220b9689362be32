-- Laws of verdicts.
use Rattle.std.specs.Prelude.{ℕ, List, Result}
use Rattle.rwsp_terms.specs.Instance.{Instance}
use Rattle.refutation_terms.specs.declared.lines.LogKind.{LogKind}
use Rattle.refutation_terms.specs.declared.lines.LogRefusal.{LogRefusal}
use Rattle.refutation_terms.specs.Log.{Log}
use Rattle.refutation_terms.specs.Verdict.{IsVerdict}
use Rattle.refutation_log.specs.ReadLog.{HasLogsOf}

-- no text is without a verdict as a log of a kind that the problem has: it is that of a log that passes, or is refused
-- for a cause
abbrev pub TextsHaveAVerdict : Type 0
TextsHaveAVerdict =
    (P : Instance) (kind : LogKind) (text : List ℕ) → HasLogsOf P kind
    → ((verdict : Result Log LogRefusal) → IsVerdict P kind text verdict → ⊥) → ⊥
