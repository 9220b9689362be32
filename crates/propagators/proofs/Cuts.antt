-- Which day leaves hold once one domain is cut to a symbol.
use Rattle.std.proofs.Common.{◌≡◌, ◌≢◌, ℕ, ◌+◌, ◌-◌, ◌*◌, ◌/◌, ◌%◌, ◌<◌, ◌≤◌, refl, ap, sym, ◌∙◌, subst, arith, Bool, true, false, pos, ℤ, inl, inr, None}
use Rattle.std.specs.Prelude.{◌<ℤ◌, ◌≤ℤ◌}
use Rattle.std.proofs.lemmas.Int.{ints}
use Rattle.std.proofs.lemmas.Bool.{cases_eq}
use Rattle.std.proofs.lemmas.Nat.{div_below, mod_below, div-add-mod'}
use Rattle.rwsp_terms.specs.declared.data.Symbol.{Symbol}
use Rattle.rwsp_terms.specs.Instance.{Instance, cells, shift_count, least, greatest, IsDay, symbol_numbered}
use Rattle.refutation_terms.specs.declared.lines.Line.TheVariants.{Split, Closing}
use Rattle.refutation_terms.specs.declared.lines.Leaf.TheVariants.{Day}
use Rattle.refutation_terms.specs.Word.{Domains}
use Rattle.refutation_terms.specs.DayLeaf.{fixed, possible, HasTooMany, HasTooFew}
use Rattle.refutation_terms.specs.Tree.{First, narrowed, is_idle}
use Rattle.refutation_terms.specs.Log.{Holds, LineFits}
use Rattle.domain_store.specs.Store.{Store, has_domain}
use Rattle.propagators.specs.Overruns.{IsWithinDemand, IsFirstOverrun}
use Rattle.propagators.proofs.Standing.{holds_where_overrun, holds_nowhere}
use Rattle.domain_store.specs.Looks.{Closes, IsClosing, IsCut}
use Rattle.propagators.specs.Days.{IsDayLeaf, IsDaySpent, Saturates, position_in_week, TakesNone, IsPlaceBeside, IsDayCut}
use Rattle.propagators.proofs.CutCounts.{held, useful, place_within, fixed_elsewhere, possible_elsewhere, fixed_of_symbol, fixed_of_other, possible_of_symbol, possible_of_other}

-- numbers against the demand

more_is_over : (g : ℤ) (f n : ℕ) → g ≤ℤ pos f → n ≡ f + 1 → g <ℤ pos n
more_is_over g f n h e = omega (arith, ints)

fewer_is_short : (l : ℤ) (c n : ℕ) → pos c ≤ℤ l → n + 1 ≡ c → pos n <ℤ l
fewer_is_short l c n h e = omega (arith, ints)

still_over : (g : ℤ) (f n : ℕ) → g <ℤ pos n → n ≤ f → g <ℤ pos f
still_over g f n h le = omega (arith, ints)

still_short : (l : ℤ) (c n : ℕ) → pos n <ℤ l → c ≤ n → pos c <ℤ l
still_short l c n h le = omega (arith, ints)

was_full : (g : ℤ) (f n : ℕ) → g <ℤ pos n → n ≡ f + 1 → g ≤ℤ pos f
was_full g f n h e = omega (arith, ints)

was_tight : (l : ℤ) (c n : ℕ) → pos n <ℤ l → n + 1 ≡ c → pos c ≤ℤ l
was_tight l c n h e = omega (arith, ints)

-- a saturated symbol makes its own leaf hold where it is alone, and where it is gone

pub over_once_alone : (P : Instance) (D : Domains) (i j : ℕ) (x : Symbol) → i < P.weeks → IsDay P j → is_idle P D (position_in_week P i j) x.number ≡ false → Saturates P D j x.number true
    → HasTooMany P (narrowed D (Split (position_in_week P i j) x) First) j x.number
over_once_alone P D i j x lt day h full =
    more_is_over (greatest P x.number j) (fixed P D j x.number) (fixed P (narrowed D (Split (position_in_week P i j) x) First) j x.number) full (fixed_of_symbol P D i j x lt day h)

pub short_once_gone : (P : Instance) (D : Domains) (i j z : ℕ) (x : Symbol) → i < P.weeks → IsDay P j → z ≢ x.number → D (position_in_week P i j) z ≡ true → Saturates P D j z false
    → HasTooFew P (narrowed D (Split (position_in_week P i j) x) First) j z
short_once_gone P D i j z x lt day other has tight =
    fewer_is_short (least P z j) (possible P D j z) (possible P (narrowed D (Split (position_in_week P i j) x) First) j z) tight (possible_of_other P D i j z x true lt day other has)

-- and no other leaf holds

over_only_so : (P : Instance) (D : Domains) (i j l z : ℕ) (x : Symbol) → i < P.weeks → IsDay P j → IsDay P l → is_idle P D (position_in_week P i j) x.number ≡ false
    → TakesNone P D j x.number → IsWithinDemand P D l z → HasTooMany P (narrowed D (Split (position_in_week P i j) x) First) l z → ⊥
over_only_so P D i j l z x lt day other h none within over =
    elim (cases_eq l j) [
      | inr apart ↦
          let same : fixed P (narrowed D (Split (position_in_week P i j) x) First) l z ≡ fixed P D l z = fixed_elsewhere P D i j l z x day other apart in
          within.not_over (still_over (greatest P z l) (fixed P D l z) (fixed P (narrowed D (Split (position_in_week P i j) x) First) l z) over (omega (arith, same)))
      | inl same ↦
          let N = narrowed D (Split (position_in_week P i j) x) First in
          let here : HasTooMany P N j z = subst (λ k. HasTooMany P N k z) same over in
          let inside : IsWithinDemand P D j z = subst (λ k. IsWithinDemand P D k z) same within in
          elim (cases_eq z x.number) [
            | inr beside ↦ inside.not_over (still_over (greatest P z j) (fixed P D j z) (fixed P N j z) here (fixed_of_other P D i j z x lt day beside))
            | inl itself ↦
                let own : HasTooMany P N j x.number = subst (HasTooMany P N j) itself here in
                none i true lt h (was_full (greatest P x.number j) (fixed P D j x.number) (fixed P N j x.number) own (fixed_of_symbol P D i j x lt day h))
          ]
    ]

short_beside : (P : Instance) (D : Domains) (i j z : ℕ) (x : Symbol) (held : Bool) → D (position_in_week P i j) z ≡ held → i < P.weeks → IsDay P j → x.number ≤ shift_count P → z ≢ x.number → D (position_in_week P i j) x.number ≡ true
    → TakesNone P D j z → IsWithinDemand P D j z → HasTooFew P (narrowed D (Split (position_in_week P i j) x) First) j z → ⊥
short_beside P D i j z x true has lt day small other here none within short =
    let N = narrowed D (Split (position_in_week P i j) x) First in
    none i false lt (useful P D (position_in_week P i j) z x.number small (λ e. other (sym e)) here has)
    (was_tight (least P z j) (possible P D j z) (possible P N j z) short (possible_of_other P D i j z x true lt day other has))
short_beside P D i j z x false has lt day small other here none within short =
    let N = narrowed D (Split (position_in_week P i j) x) First in
    let same : possible P N j z + 0 ≡ possible P D j z = possible_of_other P D i j z x false lt day other has in
    within.not_short (still_short (least P z j) (possible P D j z) (possible P N j z) short (omega (arith, same)))

short_only_so : (P : Instance) (D : Domains) (i j l z : ℕ) (x : Symbol) → i < P.weeks → IsDay P j → IsDay P l → x.number ≤ shift_count P → is_idle P D (position_in_week P i j) x.number ≡ false
    → TakesNone P D l z → IsWithinDemand P D l z → HasTooFew P (narrowed D (Split (position_in_week P i j) x) First) l z → ⊥
short_only_so P D i j l z x lt day other small h none within short =
    elim (cases_eq l j) [
      | inr apart ↦
          let same : possible P (narrowed D (Split (position_in_week P i j) x) First) l z ≡ possible P D l z = possible_elsewhere P D i j l z x day other apart in
          within.not_short (still_short (least P z l) (possible P D l z) (possible P (narrowed D (Split (position_in_week P i j) x) First) l z) short (omega (arith, same)))
      | inl same ↦
          let N = narrowed D (Split (position_in_week P i j) x) First in
          let has : D (position_in_week P i j) x.number ≡ true = held P D (position_in_week P i j) x.number h in
          let here : HasTooFew P N j z = subst (λ k. HasTooFew P N k z) same short in
          let inside : IsWithinDemand P D j z = subst (λ k. IsWithinDemand P D k z) same within in
          let takes : TakesNone P D j z = subst (λ k. TakesNone P D k z) same none in
          elim (cases_eq z x.number) [
            | inr beside ↦ short_beside P D i j z x (D (position_in_week P i j) z) refl lt day small beside has takes inside here
            | inl itself ↦
                let own : HasTooFew P N j x.number = subst (HasTooFew P N j) itself here in
                let kept : possible P N j x.number ≡ possible P D j x.number = possible_of_symbol P D i j x lt day has in
                let within_x : IsWithinDemand P D j x.number = subst (IsWithinDemand P D j) itself inside in
                within_x.not_short (still_short (least P x.number j) (possible P D j x.number) (possible P N j x.number) own (omega (arith, kept)))
          ]
    ]

closes_nowhere : (P : Instance) (D : Domains) (i j l z : ℕ) (x : Symbol) (over : Bool) → i < P.weeks → IsDay P j → x.number ≤ shift_count P → is_idle P D (position_in_week P i j) x.number ≡ false
    → IsDay P l → IsWithinDemand P D l z → TakesNone P D j x.number → TakesNone P D l z → Holds P None (narrowed D (Split (position_in_week P i j) x) First) (Closing (Day l (symbol_numbered z) over)) → ⊥
closes_nowhere P D i j l z x true lt day small h other within own none holds = over_only_so P D i j l z x lt day other h own within holds
closes_nowhere P D i j l z x false lt day small h other within own none holds = short_only_so P D i j l z x lt day other small h none within holds

spent_at_place : (P : Instance) (D : Domains) (i j : ℕ) (x : Symbol) → i < P.weeks → IsDay P j → x.number ≤ shift_count P
    → ((l z : ℕ) → IsDay P l → z ≤ shift_count P → IsWithinDemand P D l z) → ((l z : ℕ) → IsDay P l → z ≤ shift_count P → TakesNone P D l z)
    → IsDaySpent P D (position_in_week P i j) x → ⊥
spent_at_place P D i j x lt day small within none spent =
    let l = spent.closes.0 in
    let z = spent.closes.1.number in
    let fits = spent.closes.3 in
    closes_nowhere P D i j l z x spent.closes.2 lt day small spent.useful fits.0 (within l z fits.0 fits.1) (none j x.number day small) (none l z fits.0 fits.1) spent.closes.4

pub none_spent : (P : Instance) (D : Domains) (p : ℕ) (x : Symbol) → 1 ≤ P.days → x.number ≤ shift_count P
    → ((l z : ℕ) → IsDay P l → z ≤ shift_count P → IsWithinDemand P D l z) → ((l z : ℕ) → IsDay P l → z ≤ shift_count P → TakesNone P D l z)
    → IsDaySpent P D p x → ⊥
none_spent P D p x some small within none spent =
    let lt : p / P.days < P.weeks = div_below p P.days P.weeks some spent.position in
    let less : p % P.days < P.days = mod_below p P.days some in
    let day : IsDay P (p % P.days + 1) = (omega arith, omega arith) in
    let at : p ≡ position_in_week P (p / P.days) (p % P.days + 1) = sym (div-add-mod' p P.days) ∙ (let e : p % P.days ≡ p % P.days + 1 - 1 = omega arith in ap (λ r. p / P.days * P.days + r) e) in
    spent_at_place P D (p / P.days) (p % P.days + 1) x lt day small within none (subst (λ q. IsDaySpent P D q x) at spent)

-- cuts by a place

pub over_cut : (P : Instance) (D : Domains) (j p : ℕ) (x z : Symbol) (over : Bool) → over ≡ true → IsDay P j → x.number ≤ shift_count P → Saturates P D j x.number over → IsPlaceBeside P D j x.number p z
    → IsDayCut P D p x j x over
over_cut P D j p x z false is day small full beside = absurd (cc)
over_cut P D j p x z true is day small full beside =
    let at : is_idle P D (position_in_week P beside.week j) x.number ≡ false = subst (λ q. is_idle P D q x.number ≡ false) beside.position beside.beside.useful in
    record {
      position = subst (λ q. q < cells P) (sym beside.position) (place_within P beside.week j beside.within day);
      useful = beside.beside.useful;
      fits = (day, small);
      holds = subst (λ q. HasTooMany P (narrowed D (Split q x) First) j x.number) (sym beside.position) (over_once_alone P D beside.week j x beside.within day at full);
    }

pub short_cut : (P : Instance) (D : Domains) (j p : ℕ) (x z : Symbol) (over : Bool) → over ≡ false → IsDay P j → x.number ≤ shift_count P → Saturates P D j x.number over → IsPlaceBeside P D j x.number p z
    → IsDayCut P D p z j x over
short_cut P D j p x z true is day small tight beside = absurd (cc)
short_cut P D j p x z false is day small tight beside =
    let b = beside.beside in
    let other : x.number ≢ z.number = λ e. b.other (sym e) in
    let has : D p x.number ≡ true = held P D p x.number b.useful in
    let at : D (position_in_week P beside.week j) x.number ≡ true = subst (λ q. D q x.number ≡ true) beside.position has in
    record {
      position = subst (λ q. q < cells P) (sym beside.position) (place_within P beside.week j beside.within day);
      useful = useful P D p z.number x.number small other has b.held;
      fits = (day, small);
      holds = subst (λ q. HasTooFew P (narrowed D (Split q z) First) j x.number) (sym beside.position) (short_once_gone P D beside.week j x.number z beside.within day other at tight);
    }

-- one day more
pub one_day_more : (P : Instance) (D : Domains) (n : ℕ) → ((j z : ℕ) → IsDay P j → j < n → z ≤ shift_count P → TakesNone P D j z) → ((z : ℕ) → z ≤ shift_count P → TakesNone P D n z)
    → (j z : ℕ) → IsDay P j → j < n + 1 → z ≤ shift_count P → TakesNone P D j z
one_day_more P D n before here j z day less small =
    elim (cases_eq n j) [
      | inl same ↦ subst (λ k. TakesNone P D k z) same (here z small)
      | inr other ↦ before j z day (omega (arith, less, other)) small
    ]

pub one_symbol_more : (P : Instance) (D : Domains) (j n : ℕ) → ((z : ℕ) → z < n → TakesNone P D j z) → TakesNone P D j n → (z : ℕ) → z < n + 1 → TakesNone P D j z
one_symbol_more P D j n before here z less =
    elim (cases_eq n z) [
      | inl same ↦ subst (TakesNone P D j) same here
      | inr other ↦ before z (omega (arith, less, other))
    ]

-- what the looks say

pub closing_day : (P : Instance) (S : Store) (j : ℕ) (x : Symbol) (over : Bool) → IsFirstOverrun P (has_domain S) j x.number over → IsClosing P (IsDayLeaf P) S (Closing (Day j x over))
closing_day P S j x over first =
    let fits : LineFits P None false (Closing (Day j x over)) = (first.day, first.first.symbol) in
    (fits, record { leaf = tt; fits = fits; short = tt; holds = holds_where_overrun P (has_domain S) j x over first.first.holds })

pub none_closes : (P : Instance) (S : Store) → ((j z : ℕ) → IsDay P j → z ≤ shift_count P → IsWithinDemand P (has_domain S) j z) → Closes P (IsDayLeaf P) S → ⊥
none_closes P S within (Closing (Day j x over), among, holds) = holds_nowhere P (has_domain S) j x over (within j x.number among.0 among.1) holds
none_closes P S within (line, among, holds) = absurd among

pub cut_day : (P : Instance) (S : Store) (p : ℕ) (x : Symbol) (j : ℕ) (counted : Symbol) (over : Bool) → IsDayCut P (has_domain S) p x j counted over → IsCut P (IsDaySpent P (has_domain S)) S p x (Closing (Day j counted over))
cut_day P S p x j counted over cut = record {
  is_spent = record { position = cut.position; useful = cut.useful; closes = (j, counted, over, cut.fits, cut.holds) };
  position = cut.position;
  useful = cut.useful;
  unweighed = tt;
  leaf = record { leaf = tt; fits = cut.fits; short = tt; holds = cut.holds };
}
