-- What a cycle keeps of its fields.
use Rattle.std.specs.Prelude.{◌≡◌, ℕ, ◌+◌, ◌*◌, ◌<◌, ◌≤◌, ◌↔◌, List, [], length, Bool, false, IsTrue, Contains, slice_index_or}
use Rattle.rwsp_terms.specs.declared.limits.TheConstants.{MOST_CELLS}
use Rattle.rwsp_terms.specs.declared.data.Symbol.{Symbol}
use Rattle.rwsp_terms.specs.Instance.{cells, shift_count}
use Rattle.domain_store.specs.Sets.{has_symbol}
use Rattle.clean_words.specs.declared.step.Step.{Step}
use Rattle.clean_words.specs.Automata.{RuleAutomaton, IsAutomaton}
use Rattle.propagators.specs.Known.{KnownCycle, IsSupportedAt}
use Rattle.propagators.specs.Marks.{is_marked, row_at, IsFrontStep, IsBackStep, IsWide, FitsInto}

-- the marks of all places between days are those of the domains
pub record IsCycle (A : RuleAutomaton) (sets front back : List (List ℕ)) : Type 0 where
  pub automaton : IsAutomaton A
  pub some : 0 < cells A.problem
  pub few : cells A.problem ≤ MOST_CELLS
  pub long : length sets ≡ cells A.problem
  pub small : (p x : ℕ) → IsTrue (has_symbol (slice_index_or sets p []) x) → x ≤ shift_count A.problem
  -- the number of words of a row
  pub width : ℕ
  pub fits : FitsInto width A.steps
  pub front_long : length front ≡ 2 * cells A.problem + 1
  pub front_wide : IsWide front width
  pub first : (t : ℕ) → IsTrue (is_marked (row_at front 0) t) ↔ (0 ≡ t)
  pub fronts : (i : ℕ) → i < 2 * cells A.problem → IsFrontStep A.steps sets front i
  pub back_long : length back ≡ 2 * cells A.problem + 1
  pub back_wide : IsWide back width
  pub last : (k : ℕ) → k < length A.moves → IsTrue (is_marked (row_at back (2 * cells A.problem)) k)
  pub backs : (i : ℕ) → i < 2 * cells A.problem → IsBackStep A.steps sets back i

-- a step by the symbol from a marked state to a marked one
abbrev pub HasJoiningStep : List Step → Symbol → List ℕ → List ℕ → Type 0
HasJoiningStep steps x before behind =
    (s : Step) × Contains steps s × (s.symbol ≡ x) × IsTrue (is_marked before s.from) × IsTrue (is_marked behind s.to)

-- each symbol is supported at a position that isn't pending
pub record AreAwaited (C : KnownCycle) (pending : List Bool) : Type 0 where
  pub long : length pending ≡ cells C.problem
  pub settled : (p : ℕ) → p < cells C.problem → slice_index_or pending p false ≡ false → IsSupportedAt C p
