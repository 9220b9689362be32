-- What is found by a pattern is found for its rule.
use Rattle.std.proofs.Common.{ℕ, ◌+◌, ◌-◌, ◌<◌, ◌≤◌, arith, Some, None}
use Rattle.std.specs.Prelude.{Option, MatchOption}
use Rattle.rwsp_terms.specs.declared.data.Symbol.{Symbol}
use Rattle.rwsp_terms.specs.declared.data.Rule.{Rule}
use Rattle.rwsp_terms.specs.Instance.{Instance}
use Rattle.rwsp_terms.specs.Window.{Bad}
use Rattle.domain_store.specs.declared.pattern.Pattern.{Pattern}
use Rattle.domain_store.specs.declared.bad_windows.BadWindow.{BadWindow}
use Rattle.domain_store.specs.Views.{LiesIn, AreAllBad}
use Rattle.domain_store.specs.Patterns.{IsPatternOf, IsPlacedFor, NonePlaced, IsFirstPlaced}
use Rattle.domain_store.specs.BadWindows.{IsBadLength, HasNoneBefore, IsFirstBad, HasNoneOver, IsBadNear}
use Rattle.domain_store.proofs.Words.{HasSome, placed_bad, bad_placed}
use Rattle.domain_store.proofs.Starts.{one_bad_length, begins_behind_run, few_behind}

pub bad_length_of : (P : Instance) (r : Rule) (A : ℕ → Symbol → Type 0) (m : Pattern) (p n : ℕ)
    → HasSome A → IsPatternOf (Bad P r) m → IsPlacedFor A m p n → IsBadLength P r A p (Some n)
bad_length_of P r A m p n some is placed = (
  placed_bad P r A m p n is placed,
  λ len each. one_bad_length P r A m p n len some is placed each,
)

-- no window of the pattern, and so none that is bad
none_at : (P : Instance) (r : Rule) (A : ℕ → Symbol → Type 0) (m : Pattern) (from end q len : ℕ)
    → HasSome A → IsPatternOf (Bad P r) m → NonePlaced A m from end → from ≤ q → q < end → AreAllBad P r A q len → ⊥
none_at P r A m from end q len some is none low high each =
    let there = bad_placed P r A m q len some is each in
    none q there.0 low high there.1

pub first_bad : (P : Instance) (r : Rule) (A : ℕ → Symbol → Type 0) (m : Pattern) (end : ℕ) (found : Option BadWindow)
    → HasSome A → IsPatternOf (Bad P r) m → MatchOption found (NonePlaced A m 0 end) (IsFirstPlaced A m 0 end)
    → MatchOption found (HasNoneBefore P r A end) (IsFirstBad P r A end)
first_bad P r A m end None some is none = λ q len less each. none_at P r A m 0 end q len some is none (omega arith) less each
first_bad P r A m end (Some w) some is h = record {
  within = h.within.1;
  length = bad_length_of P r A m w.start w.length some is h.placed;
  earliest = λ q len less each. none_at P r A m 0 w.start q len some is h.earliest (omega arith) less each;
}

-- from the day before the run behind which a window may begin, up to the position
pub bad_near : (P : Instance) (r : Rule) (A : ℕ → Symbol → Type 0) (m : Pattern) (p run : ℕ) (found : Option BadWindow)
    → HasSome A → IsPatternOf (Bad P r) m → m.most < p → run ≤ m.most → (run < m.most → LiesIn A m.inner (p - run - 1) → ⊥)
    → MatchOption found (NonePlaced A m (p - run - 1) (p + 1)) (IsFirstPlaced A m (p - run - 1) (p + 1))
    → MatchOption found (HasNoneOver P r A p) (IsBadNear P r A p)
bad_near P r A m p run None some is far few ends none = λ start len early late each.
    let there = bad_placed P r A m start len some is each in
    let from = begins_behind_run A m p run start there.0 far few ends (omega (arith, late, there.2)) there.1 in
    none start there.0 from (omega (arith, early)) there.1
bad_near P r A m p run (Some w) some is far few ends h =
    let behind = few_behind m.last in
    record {
      early = omega (arith, h.within.1);
      some = omega (arith, h.placed.2);
      few = omega (arith, h.placed.2, h.placed.1.most, is.judged.few, behind);
      bad = placed_bad P r A m w.start w.length is h.placed;
    }
