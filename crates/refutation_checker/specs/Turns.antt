-- The turn of a header, and the header, judged.
use Rattle.std.specs.Prelude.{◌≡◌, ℕ, List, pos, ◌<ℤ◌}
use Rattle.rwsp_terms.specs.declared.data.Rule.{Rule}
use Rattle.rwsp_terms.specs.declared.data.Rule.TheVariants as TheRules
use Rattle.rwsp_terms.specs.Instance.{Instance, least}
use Rattle.rwsp_terms.specs.Rules.{Names}
use Rattle.refutation_terms.specs.declared.lines.Opening.{Opening}
use Rattle.refutation_terms.specs.declared.lines.Opening.TheVariants.{Turned}
use Rattle.refutation_terms.specs.declared.lines.Turn.{Turn}
use Rattle.refutation_terms.specs.declared.lines.LogRefusal.{LogRefusal}
use Rattle.refutation_terms.specs.declared.lines.LogRefusal.TheVariants as Refusals
use Rattle.refutation_terms.specs.declared.lines.LogKind.{LogKind}
use Rattle.refutation_terms.specs.Log.{OpeningCites, IsAllowed}
use Rattle.refutation_terms.specs.Verdict.{IsLeast, IsUnnamed}
use Rattle.refutation_log.specs.declared.header.Header.{Header}
use Rattle.refutation_log.specs.Headers.{BeginsWithHeader}
use Rattle.refutation_checker.specs.LineTexts.{Judging}

-- the day of the turn, if the log has one, is named, and some week must hold its symbol there
pub record IsSoundTurn (P : Instance) (named : List ℕ) (o : Opening) : Type 0 where
  pub named_day : (r : Rule) → OpeningCites o r → Names P named r
  pub allowed : IsAllowed P o

-- the lowest cause to refuse a turn, whose line is the third
abbrev pub TurnFault : Instance → List ℕ → Turn → LogRefusal → Type 0
TurnFault P named t (Refusals.Unnamed i k) = (i ≡ 3) × IsLeast (IsUnnamed P named (λ r. r ≡ TheRules.Day t.day)) k
TurnFault P named t (Refusals.Turn i) = (i ≡ 3) × Names P named (TheRules.Day t.day)
    × (least P t.x.number t.day <ℤ pos 1)
TurnFault P named t why = ⊥

-- why a turn is refused, where a log has one
abbrev pub IsTurnFault : Instance → List ℕ → Opening → LogRefusal → Type 0
IsTurnFault P named (Turned t) why = TurnFault P named t why
IsTurnFault P named o why = ⊥

-- the text begins with this header, of a log of this kind, whose turn is sound
abbrev pub HasSoundHeader : Instance → LogKind → List ℕ → Header → Type 0
HasSoundHeader P kind text h =
    BeginsWithHeader P kind text h.named h.opening h.goal h.counts h.body.now × IsSoundTurn P h.named h.opening

-- what the lines below it are judged by
abbrev pub judging_under : Instance → Header → Judging
judging_under P h = record { problem = P; named = h.named; goal = h.goal; counts = h.counts }
