-- Where some lines of a log begin.
use Rattle.std.specs.Prelude.{◌≡◌, ℕ, ◌+◌, List, length, Bool, Option}
use Rattle.rwsp_terms.specs.Instance.{Instance}
use Rattle.refutation_terms.specs.declared.lines.Line.{Line}
use Rattle.refutation_terms.specs.declared.lines.Opening.{Opening}
use Rattle.refutation_terms.specs.Verdict.{header_lines}
use Rattle.domain_store.specs.States.{State, IsStateOf}

-- the bytes of some lines of a text, the number of the first of them, and the walk in front of it
pub record Start : Type 0 where
  pub walk : State
  pub bytes : List ℕ
  pub first : ℕ

-- the walk and the number are those behind these lines of a log with this goal or none, which may count or not
pub record StandsBehind (P : Instance) (goal : Option ℕ) (counts : Bool) (o : Opening) (earlier : List Line)
    (s : Start) : Type 0 where
  pub state : IsStateOf P o earlier s.walk
  pub counted : s.first ≡ header_lines o goal counts + length earlier + 1
