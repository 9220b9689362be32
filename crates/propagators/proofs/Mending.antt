-- Rows that are mended day after day.
use Rattle.std.proofs.Common.{get_or-set_same, get_or-set_other, ◌≡◌, ◌≢◌, inl, inr, ℕ, ◌+◌, ◌*◌, ◌%◌, ◌<◌, ◌≤◌, List, [], length, get_or, set, refl, ap, sym, ◌∙◌, subst, arith, Bool, replicate}
use Rattle.std.specs.Prelude.{All}
use Rattle.std.proofs.lemmas.Bool.{cases_eq}
use Rattle.std.proofs.lemmas.List.{get_or_read, length-set, length-replicate, get_or-replicate}
use Rattle.std.proofs.lemmas.Nat.{mod_below}
use Rattle.domain_store.specs.Sets.{has_symbol}
use Rattle.clean_words.specs.declared.step.Step.{Step}
use Rattle.propagators.specs.declared.marks.TheConstants.{WORD_BITS}
use Rattle.propagators.specs.declared.marks.Way.{Way}
use Rattle.propagators.specs.declared.marks.Way.TheVariants.{On, Back}
use Rattle.propagators.specs.Marks.{row_at, there_of, has_on, IsWide, IsPass, IsFrontStep, IsBackStep, FitsInto}

read_set : (sets : List (List ℕ)) (i : ℕ) (set : List ℕ) → 0 < length sets → set ≡ get_or sets (i % length sets) set → set ≡ get_or sets (i % length sets) []
read_set sets i set some read = get_or_read sets (i % length sets) set (mod_below i (length sets) some) read []

pub step_read : (way : Way) (steps : List Step) (sets : List (List ℕ)) (i : ℕ) (row next set : List ℕ) → 0 < length sets → set ≡ get_or sets (i % length sets) set → IsPass way steps (has_symbol set) row next → IsPass way steps (has_on sets i) row next
step_read way steps sets i row next set some read step =
    let P : List ℕ → Type 0 = λ s. IsPass way steps (has_symbol s) row next in
    subst P (read_set sets i set some read) step

-- what a pass needs of the rows and of the steps
pub fits_here : (steps : List Step) (old rows : List (List ℕ)) → (width : ℕ) × IsWide old width × FitsInto width steps → ((width : ℕ) → IsWide old width → IsWide rows width) → (width : ℕ) × IsWide rows width × FitsInto width steps
fits_here steps old rows fits wide = (fits.0, wide fits.0 fits.1, fits.2)

pass_read : (way : Way) (steps : List Step) (has : ℕ → Bool) (row row2 next next2 : List ℕ) → row ≡ row2 → next ≡ next2 → IsPass way steps has row next → IsPass way steps has row2 next2
pass_read way steps has row row2 next next2 same same_next pass =
    subst (λ (ys : List ℕ). IsPass way steps has row2 ys) same_next (subst (λ (xs : List ℕ). IsPass way steps has xs next) same pass)

-- the front has been mended up to day i: that day's step alone may be wrong
pub record FrontMended (steps : List Step) (sets : List (List ℕ)) (day : ℕ) (old rows : List (List ℕ)) (i : ℕ) : Type 0 where
  pub past : day ≤ i
  pub before : (j : ℕ) → j ≤ day → row_at rows j ≡ row_at old j
  pub behind : (j : ℕ) → i < j → row_at rows j ≡ row_at old j
  pub mended : (j : ℕ) → j + 1 < length rows → j ≢ i → (j ≢ day → IsFrontStep steps sets old j) → IsFrontStep steps sets rows j
  pub first : row_at rows 0 ≡ row_at old 0
  pub long : length rows ≡ length old
  pub wide : (width : ℕ) → IsWide old width → IsWide rows width

pub front_unmended : (steps : List Step) (sets : List (List ℕ)) (day : ℕ) (rows : List (List ℕ)) → FrontMended steps sets day rows rows day
front_unmended steps sets day rows = record { past = omega arith; before = λ j less. refl; behind = λ j less. refl; mended = λ j less other old. old other; first = refl; long = refl; wide = λ width w. w }

pub front_more : (steps : List Step) (sets : List (List ℕ)) (day : ℕ) (old rows new : List (List ℕ)) (i : ℕ) → FrontMended steps sets day old rows i → IsFrontStep steps sets new i → ((j : ℕ) → j ≢ i + 1 → row_at new j ≡ row_at rows j) → length new ≡ length rows → ((width : ℕ) → IsWide rows width → IsWide new width)
    → FrontMended steps sets day old new (i + 1)
front_more steps sets day old rows new i m step others long wide = record {
  past = omega (arith, m.past);
  before = λ j less. others j (λ e. omega (arith, e, less, m.past)) ∙ m.before j less;
  behind = λ j less. others j (λ e. omega (arith, e, less)) ∙ m.behind j (omega (arith, less));
  mended = λ j less other before. elim (cases_eq j i) [
    | inl same ↦ let P : ℕ → Type 0 = λ k. IsFrontStep steps sets new k in subst P (sym same) step
    | inr apart ↦ pass_read On steps (has_on sets j) (row_at rows j) (row_at new j) (row_at rows (j + 1)) (row_at new (j + 1)) (sym (others j other)) (sym (others (j + 1) (λ e. apart (omega (arith, e))))) (m.mended j (omega (arith, less, long)) apart before)
  ];
  first = others 0 (λ e. omega (arith, e)) ∙ m.first;
  long = long ∙ m.long;
  wide = λ width w. wide width (m.wide width w);
}

pub front_stays : (steps : List Step) (sets : List (List ℕ)) (day : ℕ) (old rows new : List (List ℕ)) (i : ℕ) → FrontMended steps sets day old rows i → IsFrontStep steps sets new i → new ≡ rows
    → (j : ℕ) → j + 1 < length new → (j ≢ day → IsFrontStep steps sets old j) → IsFrontStep steps sets new j
front_stays steps sets day old rows new i m step same j less before = elim (cases_eq j i) [
  | inl here ↦ let P : ℕ → Type 0 = λ k. IsFrontStep steps sets new k in subst P (sym here) step
  | inr apart ↦
      let P : List (List ℕ) → Type 0 = λ r. IsFrontStep steps sets r j in
      subst P (sym same) (m.mended j (omega (arith, less, ap length same)) apart before)
]

-- the back has been mended down to day i: the step of the day before it alone may be wrong
pub record BackMended (steps : List Step) (sets : List (List ℕ)) (day : ℕ) (old rows : List (List ℕ)) (i : ℕ) : Type 0 where
  pub within : i ≤ day + 1
  pub mended : (j : ℕ) → j + 1 < length rows → j + 1 ≢ i → (j ≢ day → IsBackStep steps sets old j) → IsBackStep steps sets rows j
  pub last : (j : ℕ) → day < j → row_at rows j ≡ row_at old j
  pub before : (j : ℕ) → j < i → row_at rows j ≡ row_at old j
  pub long : length rows ≡ length old
  pub wide : (width : ℕ) → IsWide old width → IsWide rows width

pub back_unmended : (steps : List Step) (sets : List (List ℕ)) (day : ℕ) (rows : List (List ℕ)) → BackMended steps sets day rows rows (day + 1)
back_unmended steps sets day rows = record {
  within = omega arith;
  mended = λ j less other old. old (λ e. other (omega (arith, e)));
  last = λ j less. refl;
  before = λ j less. refl;
  long = refl;
  wide = λ width w. w;
}

pub back_more : (steps : List Step) (sets : List (List ℕ)) (day : ℕ) (old rows new : List (List ℕ)) (i k : ℕ) → k ≡ i + 1 → BackMended steps sets day old rows k → IsBackStep steps sets new i → ((j : ℕ) → j ≢ i → row_at new j ≡ row_at rows j) → length new ≡ length rows → ((width : ℕ) → IsWide rows width → IsWide new width)
    → BackMended steps sets day old new i
back_more steps sets day old rows new i k next m step others long wide = record {
  within = omega (arith, m.within, next);
  mended = λ j less other before. elim (cases_eq j i) [
    | inl same ↦ let P : ℕ → Type 0 = λ n. IsBackStep steps sets new n in subst P (sym same) step
    | inr apart ↦ pass_read Back steps (has_on sets j) (row_at rows (j + 1)) (row_at new (j + 1)) (row_at rows j) (row_at new j) (sym (others (j + 1) other)) (sym (others j apart)) (m.mended j (omega (arith, less, long)) (λ e. apart (omega (arith, e, next))) before)
  ];
  last = λ j less. others j (λ e. omega (arith, e, less, m.within, next)) ∙ m.last j less;
  before = λ j less. others j (λ e. omega (arith, e, less)) ∙ m.before j (omega (arith, less, next));
  long = long ∙ m.long;
  wide = λ width w. wide width (m.wide width w);
}

pub back_stays : (steps : List Step) (sets : List (List ℕ)) (day : ℕ) (old rows new : List (List ℕ)) (i k : ℕ) → k ≡ i + 1 → BackMended steps sets day old rows k → IsBackStep steps sets new i → new ≡ rows
    → (j : ℕ) → j + 1 < length new → (j ≢ day → IsBackStep steps sets old j) → IsBackStep steps sets new j
back_stays steps sets day old rows new i k next m step same j less before = elim (cases_eq j i) [
  | inl here ↦ let P : ℕ → Type 0 = λ n. IsBackStep steps sets new n in subst P (sym here) step
  | inr apart ↦
      let P : List (List ℕ) → Type 0 = λ r. IsBackStep steps sets r j in
      subst P (sym same) (m.mended j (omega (arith, less, ap length same)) (λ e. apart (omega (arith, e, next))) before)
]

-- rows that are all the same are as wide
pub wide_replicate : (days : ℕ) (row : List ℕ) (rows : List (List ℕ)) (spare : List ℕ) → rows ≡ replicate days row → spare ≡ row → IsWide rows (length spare)
wide_replicate days row rows spare e is i less =
    let within : i < days = omega (arith, less, ap length e, length-replicate days row) in
    ap (λ r. length (row_at r i)) e ∙ ap length (get_or-replicate days i row [] within) ∙ sym (ap length is)

-- the rows are as wide as the row that there is room for, and the steps lead to states that it is for
pub room_for : (way : Way) (now rows : List (List ℕ)) (spare : List ℕ) (steps : List Step) (i : ℕ) → rows ≡ now → i < length now → (width : ℕ) × IsWide now width × FitsInto width steps → IsWide rows (length spare) → All (λ s. there_of way s < WORD_BITS * length spare) steps
room_for way now rows spare steps i same within fits wide = by_way way (subst (λ (w : ℕ). FitsInto w steps) width fits.2)
  where
    width : fits.0 ≡ length spare
    width =
        let P : List (List ℕ) → Type 0 = λ r. length (row_at r i) ≡ length spare in
        sym (fits.1 i within) ∙ subst P same (wide i (omega (arith, within, ap length same)))

    by_way : (w : Way) → FitsInto (length spare) steps → All (λ s. there_of w s < WORD_BITS * length spare) steps
    by_way On f = f.to
    by_way Back f = f.from

-- the pass from a row that is kept to one that is put
pub pass_put : (way : Way) (steps : List Step) (has : ℕ → Bool) (now rows : List (List ℕ)) (row next put : List ℕ) (i k : ℕ) → rows ≡ now → i < length now → k < length now → i ≢ k → row ≡ get_or rows i row → put ≡ next → IsPass way steps has row next
    → IsPass way steps has (row_at (set rows k put) i) (row_at (set rows k put) k)
pass_put way steps has now rows row next put i k same i_in k_in apart read is_put pass =
    let long : length rows ≡ length now = ap length same in
    let kept : row ≡ row_at (set rows k put) i = get_or_read rows i row (omega (arith, i_in, long)) read [] ∙ sym (get_or-set_other rows k i put [] apart) in
    let there_now : next ≡ row_at (set rows k put) k = sym is_put ∙ sym (get_or-set_same rows k put [] (omega (arith, k_in, long))) in
    pass_read way steps has row (row_at (set rows k put) i) next (row_at (set rows k put) k) kept there_now pass

-- the pass from a row to one that is there already
pub pass_same : (way : Way) (steps : List Step) (has : ℕ → Bool) (now rows : List (List ℕ)) (row next other : List ℕ) (i k : ℕ) → rows ≡ now → i < length now → k < length now → row ≡ get_or rows i row → other ≡ get_or rows k other → next ≡ other → IsPass way steps has row next
    → IsPass way steps has (row_at rows i) (row_at rows k)
pass_same way steps has now rows row next other i k same i_in k_in read read_other is_other pass =
    let long : length rows ≡ length now = ap length same in
    pass_read way steps has row (row_at rows i) next (row_at rows k) (get_or_read rows i row (omega (arith, i_in, long)) read [])
    (is_other ∙ get_or_read rows k other (omega (arith, k_in, long)) read_other []) pass

pub wide_set : (rows : List (List ℕ)) (day : ℕ) (row : List ℕ) (width : ℕ) → day < length rows → IsWide rows width → length row ≡ width → IsWide (set rows day row) width
wide_set rows day row width within wide long i less =
    elim (cases_eq i day) [
      | inl same ↦ ap (λ k. length (row_at (set rows day row) k)) same ∙ ap length (get_or-set_same rows day row [] within) ∙ long
      | inr other ↦ ap length (get_or-set_other rows day i row [] other) ∙ wide i (omega (arith, less, length-set rows day row))
    ]

-- the row that is kept free is swapped with one of the rows
pub wide_swapped : (now rows : List (List ℕ)) (spare put old row free : List ℕ) (k : ℕ) → rows ≡ now → k < length now → IsWide rows (length spare) → length put ≡ length spare → row ≡ put → free ≡ old → old ≡ get_or rows k old → IsWide (set rows k row) (length free)
wide_swapped now rows spare put old row free k same k_in wide long is_row is_free read =
    let within : k < length rows = omega (arith, k_in, ap length same) in
    let width : length free ≡ length spare = ap length (is_free ∙ get_or_read rows k old within read []) ∙ wide k within in
    subst (λ (w : ℕ). IsWide (set rows k row) w) (sym width) (wide_set rows k row (length spare) within wide (ap length is_row ∙ long))
