-- What holds of every problem with a least rest.
use Rattle.std.specs.Prelude.{◌≡◌, ◌↔◌, ◌⊎◌, ℕ, List, Contains, true}
use Rattle.rwsp_terms.specs.Instance.{Instance, IsShift}
use Rattle.rwsp_terms.specs.Roster.{MeetsAll}
use Rattle.rwsp_terms.specs.declared.data.Symbol.{Symbol}
use Rattle.rwsp_terms.specs.declared.data.Sequence.{Sequence}
use Rattle.made_problems.specs.Times.{is_too_short}
use Rattle.made_problems.specs.Rested.{days_apart, rested, HasRest}

-- each roster that meets all rules has the rest
abbrev pub RostersRest : Type 0
RostersRest = (P : Instance) (minutes : ℕ) (s : List Symbol) → MeetsAll (rested P minutes) s → HasRest P minutes s

-- the sequence is of two shifts so many days apart, with too short a rest between them
pub record IsTooClose (P : Instance) (days minutes : ℕ) (q : Sequence) : Type 0 where
  pub first : Symbol
  pub last : Symbol
  pub first_is : IsShift P first
  pub last_is : IsShift P last
  pub short : is_too_short P days minutes first last ≡ true
  pub is : q ≡ days_apart days first last

-- a sequence is forbidden exactly where the file forbids it, or it is of two shifts that are too close, on the next
-- day or over a day off
abbrev pub SequencesAreThose : Type 0
SequencesAreThose =
    (P : Instance) (minutes : ℕ) (q : Sequence)
    → Contains (rested P minutes).sequences q
    ↔ (Contains P.sequences q ⊎ IsTooClose P 1 minutes q ⊎ IsTooClose P 2 minutes q)
