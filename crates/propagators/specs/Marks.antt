-- Sets of states, for the places between days.
use Rattle.std.specs.Prelude.{◌≡◌, ◌≢◌, ℕ, ◌+◌, ◌*◌, ◌/◌, ◌%◌, ◌<◌, ◌↔◌, List, [], length, Bool, false, ◌==◌, IsTrue, All, slice_index, slice_index_or}
use Rattle.std.specs.Int.{bit_at}
use Rattle.domain_store.specs.Sets.{has_symbol}
use Rattle.clean_words.specs.declared.step.Step.{Step}
use Rattle.propagators.specs.declared.marks.TheConstants.{WORD_BITS}
use Rattle.propagators.specs.declared.marks.Way.{Way}
use Rattle.propagators.specs.declared.marks.Way.TheVariants.{On, Back}

-- whether the words have the bit of the state
abbrev pub is_marked : List ℕ → ℕ → Bool
is_marked row k = bit_at (slice_index row (k / WORD_BITS)) (k % WORD_BITS) == 1

abbrev pub row_at : List (List ℕ) → ℕ → List ℕ
row_at rows i = slice_index_or rows i []

-- the domain that a day has, round the cycle
abbrev pub has_on : List (List ℕ) → ℕ → ℕ → Bool
has_on sets i x = has_symbol (slice_index_or sets (i % length sets) []) x

-- the state from which a step leads this way, and the one to which it leads
abbrev pub here_of : Way → Step → ℕ
here_of On s = s.from
here_of Back s = s.to

abbrev pub there_of : Way → Step → ℕ
there_of On s = s.to
there_of Back s = s.from

-- the element is at the place
abbrev pub StandsAt : {X : Type 0} → List X → ℕ → X → Type 0
StandsAt xs k x = (k < length xs) × (slice_index_or xs k x ≡ x)

-- one of the first steps, by a symbol of the domain, leads this way from a marked state to this one
pub record IsJoined (way : Way) (steps : List Step) (has : ℕ → Bool) (row : List ℕ) (t number : ℕ) : Type 0 where
  pub step : Step
  pub place : ℕ
  pub below : place < number
  pub stands : StandsAt steps place step
  pub marked : IsTrue (is_marked row (here_of way step))
  pub held : IsTrue (has step.symbol.number)
  pub joins : there_of way step ≡ t

-- the second row marks just the states to which steps lead this way from those that the first row marks
abbrev pub IsPass : Way → List Step → (ℕ → Bool) → List ℕ → List ℕ → Type 0
IsPass way steps has row next =
    (t : ℕ) → IsTrue (is_marked next t) ↔ IsJoined way steps has row t (length steps)

-- behind a day the states are marked to which steps lead from the day's marked states
abbrev pub IsFrontStep : List Step → List (List ℕ) → List (List ℕ) → ℕ → Type 0
IsFrontStep steps sets rows i = IsPass On steps (has_on sets i) (row_at rows i) (row_at rows (i + 1))

-- on a day the states are marked from which steps lead to marked states behind it
abbrev pub IsBackStep : List Step → List (List ℕ) → List (List ℕ) → ℕ → Type 0
IsBackStep steps sets rows i = IsPass Back steps (has_on sets i) (row_at rows (i + 1)) (row_at rows i)

-- each row has `width` words
abbrev pub IsWide : List (List ℕ) → ℕ → Type 0
IsWide rows width = (i : ℕ) → i < length rows → length (row_at rows i) ≡ width

-- the steps are between states that `width` words are for
pub record FitsInto (width : ℕ) (steps : List Step) : Type 0 where
  pub from : All (λ s. s.from < WORD_BITS * width) steps
  pub to : All (λ s. s.to < WORD_BITS * width) steps

-- all days have right steps now that had them, and so has the day that was mended
abbrev pub MendsFront : List Step → List (List ℕ) → ℕ → List (List ℕ) → List (List ℕ) → Type 0
MendsFront steps sets day old new =
    (i : ℕ) → i + 1 < length new → (i ≢ day → IsFrontStep steps sets old i) → IsFrontStep steps sets new i

abbrev pub MendsBack : List Step → List (List ℕ) → ℕ → List (List ℕ) → List (List ℕ) → Type 0
MendsBack steps sets day old new =
    (i : ℕ) → i + 1 < length new → (i ≢ day → IsBackStep steps sets old i) → IsBackStep steps sets new i

-- the rows before the first day and behind each day: state 0 alone is marked, before the first
pub record IsFirstFront (days width : ℕ) (rows : List (List ℕ)) : Type 0 where
  pub long : length rows ≡ days + 1
  pub wide : IsWide rows width
  pub first : (t : ℕ) → IsTrue (is_marked (row_at rows 0) t) ↔ (0 ≡ t)
  pub none : (i t : ℕ) → is_marked (row_at rows (i + 1)) t ≡ false

-- the same rows: all states are marked, behind the last day
pub record IsFirstBack (days width : ℕ) (rows : List (List ℕ)) : Type 0 where
  pub long : length rows ≡ days + 1
  pub wide : IsWide rows width
  pub last : (k : ℕ) → k < WORD_BITS * width → IsTrue (is_marked (row_at rows days) k)
  pub none : (i t : ℕ) → i ≢ days → is_marked (row_at rows i) t ≡ false
