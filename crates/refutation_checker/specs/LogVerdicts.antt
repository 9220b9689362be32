-- The lines of a log, judged without their text.
use Rattle.std.specs.Prelude.{◌≡◌, ◌⊎◌, ℕ, ◌+◌, [], length, take, slice_get, Some}
use Rattle.rwsp_terms.specs.Instance.{Instance}
use Rattle.refutation_terms.specs.declared.lines.Line.{Line}
use Rattle.refutation_terms.specs.declared.lines.Opening.{Opening}
use Rattle.refutation_terms.specs.declared.lines.LogRefusal.{LogRefusal}
use Rattle.refutation_terms.specs.Tree.{IsTree, domains_at}
use Rattle.refutation_terms.specs.Log.{Log}
use Rattle.refutation_terms.specs.Verdict.{header_lines}
use Rattle.domain_store.specs.States.{State, IsStateOf}
use Rattle.refutation_checker.specs.LineTexts.{Judging, HasCause}
use Rattle.refutation_checker.specs.ChunkVerdicts.{AreSoundBehind}
use Rattle.refutation_checker.specs.Turns.{IsSoundTurn, IsTurnFault}

-- the log with this opening in place of its own
abbrev pub with_opening : Opening → Log → Log
with_opening o g = record { named = g.named; opening = o; goal = g.goal; counts = g.counts; lines = g.lines }

-- what the lines of a log are judged by, whatever it opens with
abbrev pub judging_of : Instance → Log → Judging
judging_of P g = record { problem = P; named = g.named; goal = g.goal; counts = g.counts }

-- the first i lines have no cause
abbrev pub AreSoundTo : Instance → Log → ℕ → Type 0
AreSoundTo P g i = AreSoundBehind (judging_of P g) g.opening [] (take i g.lines)

-- and the walk has read them
pub record IsPassed (P : Instance) (g : Log) (i : ℕ) (w : State) : Type 0 where
  pub walked : IsStateOf P g.opening (take i g.lines) w
  pub sound : AreSoundTo P g i

-- the line behind the first i lines, which are no whole tree, has this cause, and they have none
pub record IsRefusedAt (P : Instance) (g : Log) (i : ℕ) (why : LogRefusal) : Type 0 where
  pub line : Line
  pub here : slice_get g.lines i ≡ Some line
  pub in_tree : IsTree (take i g.lines) → ⊥
  pub sound : AreSoundTo P g i
  pub cause : HasCause (judging_of P g) (domains_at P g.opening (take i g.lines) (length (take i g.lines)))
      (header_lines g.opening g.goal g.counts + i + 1) line why

-- the turn has this cause, or a line behind lines that have none
abbrev pub IsCauseIn : Instance → Log → LogRefusal → Type 0
IsCauseIn P g why =
    IsTurnFault P g.named g.opening why ⊎ (IsSoundTurn P g.named g.opening × ((i : ℕ) × IsRefusedAt P g i why))
