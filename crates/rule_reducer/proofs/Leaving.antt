-- Given cells that are left out of a log in parts.
use Rattle.std.proofs.Common.{◌≡◌, ℕ, zero, suc, ◌+◌, ◌<◌, ◌≤◌, List, [], ◌∷◌, length, get_or, refl, ap, sym, ◌∙◌, subst, arith, inl, inr, Bool, true, false, cond, not, ◌==◌}
use Rattle.std.specs.Prelude.{Contains, Option, Some, None, filter, map, nat_lt, nat_le}
use Rattle.std.specs.List.Sorted.{IsStrictlyIncreasing}
use Rattle.std.proofs.lemmas.Bool.{cases_lt, cases_order, lt-ltb, le-ltb, le-leb, lt-leb, eq-eqb, ne_eqb, or_from, or_left, or_right}
use Rattle.std.proofs.lemmas.List.Elements.{All-contains, All-contains_itself, All-filter, filter_agree}
use Rattle.std.proofs.lemmas.List.Filters.{length-filter_both}
use Rattle.std.proofs.lemmas.List.Kept.{IsStrictlyIncreasing-filter}
use Rattle.rwsp_terms.specs.Instance.{Instance, cells, IsSymbol}
use Rattle.refutation_terms.specs.declared.cells.GivenCell.{GivenCell}
use Rattle.refutation_terms.specs.declared.lines.Opening.{Opening}
use Rattle.refutation_terms.specs.declared.lines.Opening.TheVariants.{Full, Turned, Given}
use Rattle.refutation_terms.specs.GivenCells.{AreGivenIn}
use Rattle.refutation_terms.specs.Log.{Log, GoalFits, Fits, Passes}
use Rattle.refutation_terms.specs.Strip.{cells_given, opening_without}
use Rattle.refutation_log.specs.Filled.{GivesOnly}
use Rattle.refutation_checker.specs.LogVerdicts.{with_opening}
use Rattle.rule_reducer.specs.Leaving.{is_outside, cells_outside, opening_outside, cell_count, GivesNoMore, PassesWithFewer, IsPartLeft}

-- lists of which a part is left out

was_there : {A : Type 0} (test : A → Bool) (xs : List A) (y : A) → Contains (filter test xs) y → Contains xs y
was_there test xs y has = All-contains (Contains xs) (filter test xs) y (All-filter test (Contains xs) xs (All-contains_itself xs)) has

no_longer : {A : Type 0} (test : A → Bool) (xs : List A) → length (filter test xs) ≤ length xs
no_longer test xs = omega (arith, length-filter_both test (λ x. not (test x)) (λ x. refl) xs)

-- an element that fails is left out
shorter : {A : Type 0} (test : A → Bool) (xs : List A) (i : ℕ) (d : A) → i < length xs → test (get_or xs i d) ≡ false → length (filter test xs) < length xs
shorter test [] i d lt fails = absurd (omega (arith, lt))
shorter test (x ∷ xs) zero d lt fails = omega (arith, ap (λ b. length (cond b (x ∷ filter test xs) (filter test xs))) fails, no_longer test xs)
shorter test (x ∷ xs) (suc i) d lt fails = below (test x) (shorter test xs i d (omega (arith, lt)) fails)
  where
    below : (b : Bool) → length (filter test xs) < length xs → length (cond b (x ∷ filter test xs) (filter test xs)) < length (x ∷ xs)
    below true less = omega (arith, less)
    below false less = omega (arith, less)

-- a part of one position

one_outside : (p q : ℕ) → is_outside p (p + 1) q ≡ not (q == p)
one_outside p q = elim (cases_order q p) [
  | inl same ↦ or_from (nat_lt q p) (nat_le (p + 1) q) (le-ltb q p (omega (arith, same))) (lt-leb (p + 1) q (omega (arith, same))) ∙ sym (ap not (eq-eqb q p same))
  | inr (inl below) ↦ or_left (nat_lt q p) (nat_le (p + 1) q) (lt-ltb q p below) ∙ sym (ap not (ne_eqb q p (λ e. omega (arith, e, below))))
  | inr (inr above) ↦ or_right (nat_lt q p) (nat_le (p + 1) q) (le-leb (p + 1) q (omega (arith, above))) ∙ sym (ap not (ne_eqb q p (λ e. omega (arith, e, above))))
]

without_one : (p : ℕ) (o : Opening) → opening_outside p (p + 1) o ≡ opening_without p o
without_one p (Given given) = ap Given (filter_agree (λ (c : GivenCell). is_outside p (p + 1) c.p) (λ c. not (c.p == p)) (λ c. one_outside p c.p) given)
without_one p Full = refl
without_one p (Turned t) = refl

-- what an opening gives without a part

pub no_more_self : (o : Opening) → GivesNoMore o o
no_more_self (Given given) = (given, refl, λ c has. has)
no_more_self Full = refl
no_more_self (Turned t) = refl

pub no_more_on : (a b c : Opening) → GivesNoMore a b → GivesNoMore b c → GivesNoMore a c
no_more_on (Given given) b c first second =
    let later : GivesOnly first.0 c = subst (λ o. GivesNoMore o c) first.1 second in
    (later.0, later.1, λ x has. first.2 x (later.2 x has))
no_more_on Full b c first second = subst (λ o. GivesNoMore o c) first second
no_more_on (Turned t) b c first second = subst (λ o. GivesNoMore o c) first second

outside_no_more : (from to : ℕ) (o : Opening) → GivesNoMore o (opening_outside from to o)
outside_no_more from to (Given given) = (cells_outside from to given, refl, λ c has. was_there (λ e. is_outside from to e.p) given c has)
outside_no_more from to Full = refl
outside_no_more from to (Turned t) = refl

outside_count : (from to : ℕ) (o : Opening) → cell_count (opening_outside from to o) ≤ cell_count o
outside_count from to (Given given) = no_longer (λ c. is_outside from to c.p) given
outside_count from to Full = omega arith
outside_count from to (Turned t) = omega arith

-- where as many cells are given, none is in the part
none_inside : (from to : ℕ) (o : Opening) (c : GivenCell) → cell_count (opening_outside from to o) ≡ cell_count o → Contains (cells_given o) c → is_outside from to c.p ≡ false → ⊥
none_inside from to (Given given) c same has inside =
    let test : GivenCell → Bool = λ e. is_outside from to e.p in
    let less : length (filter test given) < length given = shorter test given has.0 c has.1 (ap test has.2 ∙ inside) in
    omega (arith, less, same)
none_inside from to Full c same has inside = omega (arith, has.1)
none_inside from to (Turned t) c same has inside = omega (arith, has.1)

-- what is left of a problem's cells is the problem's

positions_left : (test : ℕ → Bool) (given : List GivenCell) → map (λ c. c.p) (filter (λ c. test c.p) given) ≡ filter test (map (λ c. c.p) given)
positions_left test [] = refl
positions_left test (c ∷ given) = by (test c.p) (positions_left test given)
  where
    by : (b : Bool) → map (λ c. c.p) (filter (λ c. test c.p) given) ≡ filter test (map (λ c. c.p) given) → map (λ c. c.p) (cond b (c ∷ filter (λ c. test c.p) given) (filter (λ c. test c.p) given)) ≡ cond b (c.p ∷ filter test (map (λ c. c.p) given)) (filter test (map (λ c. c.p) given))
    by true e = ap (λ ks. c.p ∷ ks) e
    by false e = e

outside_given : (P : Instance) (from to : ℕ) (given : List GivenCell) → AreGivenIn P given → AreGivenIn P (cells_outside from to given)
outside_given P from to given are =
    let test : ℕ → Bool = is_outside from to in (
      subst IsStrictlyIncreasing (sym (positions_left test given)) (IsStrictlyIncreasing-filter test (map (λ c. c.p) given) are.0),
      All-filter (λ c. test c.p) (λ c. (c.p < cells P) × IsSymbol P c.x) given are.1,
    )

pub outside_fits : (P : Instance) (from to : ℕ) (o : Opening) (g : Log) → Fits P (with_opening o g) → Fits P (with_opening (opening_outside from to o) g)
outside_fits P from to (Given given) g fits = record {
  named = fits.named;
  opening = outside_given P from to given fits.opening;
  goal = goal_fits (cells_outside from to given) g.goal fits.goal;
  counts = fits.counts;
  lines = fits.lines;
}
  where
    goal_fits : (rest : List GivenCell) (goal : Option ℕ) → GoalFits P (Given given) goal → GoalFits P (Given rest) goal
    goal_fits rest None fits = tt
    goal_fits rest (Some goal) fits = absurd (cc fits.0)
outside_fits P from to Full g fits = fits
outside_fits P from to (Turned t) g fits = fits

-- one part

fewer_none : (P : Instance) (g : Log) (o : Opening) → Passes P (with_opening o g) → PassesWithFewer P g o o
fewer_none P g o passes = record { passes = passes; no_more = no_more_self o; count = omega arith }

pub part_left : (P : Instance) (g : Log) (from to : ℕ) (before rest : Opening) → rest ≡ opening_outside from to before → (cell_count rest ≡ cell_count before → ⊥) → Passes P (with_opening rest g) → IsPartLeft P g from to before rest
part_left P g from to before rest is other passes = record {
  fewer = record {
    passes = passes;
    no_more = subst (GivesNoMore before) (sym is) (outside_no_more from to before);
    count = omega (arith, ap cell_count is, outside_count from to before);
  };
  needed = λ same. absurd (other same);
}

pub part_empty : (P : Instance) (g : Log) (from to : ℕ) (before rest : Opening) → rest ≡ opening_outside from to before → Passes P (with_opening before g) → cell_count rest ≡ cell_count before → IsPartLeft P g from to before before
part_empty P g from to before rest is passes as_many = record {
  fewer = fewer_none P g before passes;
  needed = λ same. (refl, λ c has inside without. none_inside from to before c (ap cell_count (sym is) ∙ as_many) has inside);
}

-- part by part

-- with the parts before the position left out where the log passes without them
pub record LeftSoFar (P : Instance) (g : Log) (size : ℕ) (old now : Opening) (from : ℕ) : Type 0 where
  pub fewer : PassesWithFewer P g old now
  pub needed : cell_count now ≡ cell_count old → (now ≡ old)
      × (size ≡ 1 → (c : GivenCell) → Contains (cells_given old) c → c.p < from → Passes P (with_opening (opening_without c.p old) g) → ⊥)

pub left_more : (P : Instance) (g : Log) (size : ℕ) (old now next : Opening) (from : ℕ) → LeftSoFar P g size old now from → IsPartLeft P g from (from + size) now next → LeftSoFar P g size old next (from + size)
left_more P g size old now next from so_far part = record {
  fewer = record {
    passes = part.fewer.passes;
    no_more = no_more_on old now next so_far.fewer.no_more part.fewer.no_more;
    count = omega (arith, so_far.fewer.count, part.fewer.count);
  };
  needed = λ same.
      let before = so_far.needed (omega (arith, same, so_far.fewer.count, part.fewer.count)) in
      let here = part.needed (omega (arith, same, so_far.fewer.count, part.fewer.count)) in (
        here.0 ∙ before.0,
        λ one c has less without. elim (cases_lt c.p from) [
          | inl lt ↦ before.1 one c has lt without
          | inr le ↦
              let at : c.p ≡ from = omega (arith, one, less, le) in
              here.1 c (subst (λ o. Contains (cells_given o) c) (sym before.0) has)
              (ap (λ k. is_outside from (from + k) c.p) one ∙ one_outside from c.p ∙ ap not (eq-eqb c.p from at))
              (subst (λ o. Passes P (with_opening o g))
              (sym (ap (λ k. opening_outside from (from + k) now) one ∙ without_one from now ∙ ap (λ k. opening_without k now) (sym at) ∙ ap (opening_without c.p) before.0)) without)
        ],
      );
}
