-- The marks of a cycle in which no position has a symbol.
use Rattle.std.proofs.Common.{◌≡◌, ◌≢◌, ◌⊎◌, inl, inr, ℕ, zero, suc, ◌+◌, ◌-◌, ◌*◌, ◌%◌, ◌^◌, ◌<◌, ◌≤◌, List, [], length, get_or, set, replicate, refl, ap, sym, ◌∙◌, subst, arith, false, IsTrue, Option, Some, None, get_or-set_same, get_or-set_other}
use Rattle.std.specs.Prelude.{◌↔◌}
use Rattle.std.proofs.lemmas.Bool.{cases_lt}
use Rattle.std.proofs.lemmas.List.{length-set, length-replicate, get_or-replicate, get_or_past}
use Rattle.std.proofs.lemmas.List.Elements.{Contains-get_or}
use Rattle.rwsp_terms.specs.declared.limits.TheConstants.{MOST_CELLS}
use Rattle.rwsp_terms.specs.Instance.{cells}
use Rattle.domain_store.specs.Sets.{has_symbol}
use Rattle.clean_words.specs.declared.step.Step.{Step}
use Rattle.clean_words.specs.Moves.{Moves, move_at}
use Rattle.clean_words.specs.Automata.{RuleAutomaton, IsAutomaton}
use Rattle.propagators.specs.declared.marks.TheConstants.{WORD_BITS}
use Rattle.propagators.specs.declared.marks.Way.{Way}
use Rattle.propagators.specs.declared.marks.Way.TheVariants.{On, Back}
use Rattle.propagators.specs.Marks.{is_marked, row_at, has_on, IsPass, IsWide, FitsInto, IsFirstFront, IsFirstBack}
use Rattle.propagators.specs.KeptCycle.{IsCycle}
use Rattle.propagators.proofs.Marking.{unlike, unmarked, all_marked}
use Rattle.propagators.proofs.Mending.{wide_set}

-- moves begin and end at states, so words for all states are enough for all steps
from_within : (moves : Moves) (s x t : ℕ) → move_at moves s x ≡ Some t → s < length moves
from_within moves s x t e = elim (cases_lt s (length moves)) [
  | inl less ↦ less
  | inr past ↦
      let none : List (Option ℕ) = [] in
      let read : move_at moves s x ≡ None = ap (λ row. get_or row x None) (get_or_past moves s none past) in
      let nowhere : Option ℕ = None in
      let clash : nowhere ≡ Some t = sym read ∙ e in
      absurd (cc)
]

fits_into : (A : RuleAutomaton) (width : ℕ) → IsAutomaton A → length A.moves ≤ WORD_BITS * width → FitsInto width A.steps
fits_into A width a room = record {
  from = λ k d less.
      let s = get_or A.steps k d in
      let moves = (a.stepped s.from s.symbol s.to).0 (Contains-get_or A.steps k d less) in
      omega (arith, from_within A.moves s.from s.symbol.number s.to moves, room);
  to = λ k d less.
      let s = get_or A.steps k d in
      let moves = (a.stepped s.from s.symbol s.to).0 (Contains-get_or A.steps k d less) in
      omega (arith, (a.inside s.from s.symbol.number s.to moves).1, room);
}

-- rows without marks

abbrev pub no_rows : ℕ → ℕ → List (List ℕ)
no_rows days width = replicate (days + 1) (replicate width 0)

wide_rows : (n : ℕ) (row : List ℕ) → IsWide (replicate n row) (length row)
wide_rows n row i less =
    let within : i < n = omega (arith, less, length-replicate n row) in
    ap length (get_or-replicate n i row [] within)

unmarked_row : (n width i t : ℕ) → is_marked (row_at (replicate n (replicate width 0)) i) t ≡ false
unmarked_row zero width i t = unmarked 0 t
unmarked_row (suc n) width zero t = unmarked width t
unmarked_row (suc n) width (suc i) t = unmarked_row n width i t

-- a row is put among rows without marks
pub row_fits : (width days day : ℕ) (rows : List (List ℕ)) (row : List ℕ) → day < days + 1 → rows ≡ no_rows days width → length row ≡ width → (day < length rows) × (length row ≡ length (row_at rows day))
row_fits width days day rows row within is long =
    let none : List ℕ = replicate width 0 in
    let many : length rows ≡ days + 1 = ap length is ∙ length-replicate (days + 1) none in
    let read : row_at rows day ≡ none = ap (λ r. row_at r day) is ∙ get_or-replicate (days + 1) day none [] within in
    (omega (arith, many, within), long ∙ sym (ap length read ∙ length-replicate width 0))

record IsPut (days width day : ℕ) (row : List ℕ) (rows : List (List ℕ)) : Type 0 where
  pub long : length rows ≡ days + 1
  pub wide : IsWide rows width
  pub here : row_at rows day ≡ row
  pub none : (i t : ℕ) → i ≢ day → is_marked (row_at rows i) t ≡ false

row_put : (days width day : ℕ) (row : List ℕ) (rows : List (List ℕ)) → day < days + 1 → length row ≡ width → rows ≡ set (no_rows days width) day row → IsPut days width day row rows
row_put days width day row rows within long is =
    let empty : List ℕ = replicate width 0 in
    let many : length (no_rows days width) ≡ days + 1 = length-replicate (days + 1) empty in
    let less : day < length (no_rows days width) = omega (arith, many, within) in
    let P : ℕ → Type 0 = λ w. IsWide (no_rows days width) w in
    let Q : List (List ℕ) → Type 0 = λ r. IsWide r width in
    record {
      long = ap length is ∙ length-set (no_rows days width) day row ∙ many;
      wide = subst Q (sym is) (wide_set (no_rows days width) day row width less (subst P (length-replicate width 0) (wide_rows (days + 1) empty)) long);
      here = ap (λ r. row_at r day) is ∙ get_or-set_same (no_rows days width) day row [] less;
      none = λ i t other. ap (λ r. is_marked (row_at r i) t) is ∙ ap (λ r. is_marked r t) (get_or-set_other (no_rows days width) day i row [] other) ∙ unmarked_row (days + 1) width i t;
    }

pub first_front_by : (days width : ℕ) (row empty : List ℕ) (rows : List (List ℕ)) → empty ≡ replicate width 0 → length row ≡ length empty → ((t : ℕ) → IsTrue (is_marked row t) ↔ (IsTrue (is_marked empty t) ⊎ (0 ≡ t)))
    → rows ≡ set (no_rows days width) 0 row → IsFirstFront days width rows
first_front_by days width row empty rows none long puts is =
    let p = row_put days width 0 row rows (omega arith) (long ∙ ap length none ∙ length-replicate width 0) is in
    record {
      long = p.long;
      wide = p.wide;
      first = λ t. (
        λ h. elim ((puts t).0 (ap (λ r. is_marked r t) (sym p.here) ∙ h)) [
          | inl was ↦ absurd (unlike (is_marked empty t) (ap (λ r. is_marked r t) none ∙ unmarked width t) was)
          | inr same ↦ same
        ],
        λ e. ap (λ r. is_marked r t) p.here ∙ (puts t).1 (inr e),
      );
      none = λ i t. p.none (i + 1) t (λ e. omega (arith, e));
    }

pub first_back_by : (days width : ℕ) (row : List ℕ) (rows : List (List ℕ)) → row ≡ replicate width (2 ^ 64 - 1) → rows ≡ set (no_rows days width) days row → IsFirstBack days width rows
first_back_by days width row rows all is =
    let p = row_put days width days row rows (omega arith) (ap length all ∙ length-replicate width (2 ^ 64 - 1)) is in
    record {
      long = p.long;
      wide = p.wide;
      last = λ k less. ap (λ r. is_marked r k) (p.here ∙ all) ∙ all_marked width k less;
      none = p.none;
    }

-- no position has a symbol yet

none_held : (n i x : ℕ) (sets : List (List ℕ)) → sets ≡ replicate n [] → IsTrue (has_symbol (get_or sets i []) x) → ⊥
none_held n i x sets e h =
    let P : List ℕ → Type 0 = λ d. IsTrue (has_symbol d x) in
    let read : get_or sets i [] ≡ [] = ap (λ s. get_or s i []) e ∙ empty_at n i in
    nothing (subst P read h)
  where
    empty_at : (m k : ℕ) → get_or (replicate {A = List ℕ} m []) k [] ≡ []
    empty_at zero k = refl
    empty_at (suc m) zero = refl
    empty_at (suc m) (suc k) = empty_at m k

    nothing : IsTrue (has_symbol [] x) → ⊥
    nothing g = cc

no_pass : (way : Way) (steps : List Step) (sets : List (List ℕ)) (n i : ℕ) (row next : List ℕ) → sets ≡ replicate n [] → ((t : ℕ) → is_marked next t ≡ false) → IsPass way steps (has_on sets i) row next
no_pass way steps sets n i row next empty none t = (
  λ h. absurd (unlike (is_marked next t) (none t) h),
  λ j. absurd (none_held n (i % length sets) j.step.symbol.number sets empty j.held),
)

pub started : (A : RuleAutomaton) (sets front back : List (List ℕ)) (width n days : ℕ) → IsAutomaton A → 0 < cells A.problem → cells A.problem ≤ MOST_CELLS → length A.moves ≤ WORD_BITS * width → sets ≡ replicate n [] → n ≡ cells A.problem → days ≡ 2 * cells A.problem
    → IsFirstFront days width front → IsFirstBack days width back → IsCycle A sets front back
started A sets front back width n days a some few room empty all turns f b = record {
  automaton = a;
  some = some;
  few = few;
  long = ap length empty ∙ length-replicate n [] ∙ all;
  small = λ p x has. absurd (none_held n p x sets empty has);
  width = width;
  fits = fits_into A width a room;
  front_long = f.long ∙ ap (λ k. k + 1) turns;
  front_wide = f.wide;
  first = f.first;
  fronts = λ i less. no_pass On A.steps sets n i (row_at front i) (row_at front (i + 1)) empty (f.none i);
  back_long = b.long ∙ ap (λ k. k + 1) turns;
  back_wide = b.wide;
  last = (let P : ℕ → Type 0 = λ d. (k : ℕ) → k < length A.moves → IsTrue (is_marked (row_at back d) k) in
      subst P turns (λ k less. b.last k (omega (arith, less, room))));
  backs = λ i less. no_pass Back A.steps sets n i (row_at back (i + 1)) (row_at back i) empty (λ t. b.none i t (λ e. omega (arith, e, less, turns)));
}
