-- The number of blocks that a roster has of a symbol fits, and so a leaf of blocks that holds leaves no roster.
use Rattle.std.proofs.Common.{◌≡◌, ℕ, zero, suc, ◌+◌, ◌-◌, ◌*◌, ◌<◌, ◌≤◌, List, ◌∷◌, length, get_or, refl, ap, sym, ◌∙◌, subst, arith, inl, inr, Bool, true, false, cond, ◌==◌, ◌&&◌, not, count_by, pos, ℤ}
use Rattle.std.specs.Prelude.{All, ◌≤ℤ◌, ◌+ℤ◌}
use Rattle.std.specs.List.{range_with_len}
use Rattle.std.specs.Int.{int_max, int_min}
use Rattle.std.proofs.lemmas.Int.{ints, clamps}
use Rattle.std.proofs.lemmas.Bool.{cases_Bool, eqb-true, eqb-false, not-true, not-false}
use Rattle.std.proofs.lemmas.List.FromFn.{length-range_with_len}
use Rattle.std.proofs.lemmas.List.Sums.{count_by-le-length}
use Rattle.std.proofs.Math.Nat.{add-mod_right}
use Rattle.rwsp_terms.specs.declared.data.Bounds.{Bounds}
use Rattle.rwsp_terms.specs.declared.data.Symbol.{Symbol}
use Rattle.rwsp_terms.specs.declared.data.Class.{Class}
use Rattle.rwsp_terms.specs.declared.data.Class.TheVariants.{Shift, Off, Work}
use Rattle.rwsp_terms.specs.declared.data.Rule.{Rule}
use Rattle.rwsp_terms.specs.declared.data.Rule.TheVariants as TheRules
use Rattle.rwsp_terms.specs.Instance.{Instance, cells, shift_count, bounds, least, greatest, IsDay, IsSymbol, symbol_numbered, off_symbol}
use Rattle.rwsp_terms.specs.Window.{cell, window, InClass, TooLong, TooShort}
use Rattle.rwsp_terms.specs.Roster.{IsRoster, MeetsDay, MeetsRule, weeks_with}
use Rattle.rwsp_terms.proofs.Windows.{length-window, get_or-window, window-add}
use Rattle.rwsp_terms.proofs.Counting.{count_next, count_same}
use Rattle.refutation_terms.specs.Word.{int_sum_by}
use Rattle.refutation_terms.specs.BlocksLeaf.{begins_block, block_count, shortest, least_days, most_days, CanBe, BlocksFitBy, BlocksCite, BlocksHold}
use Rattle.refutation_terms.specs.Laws.{BlockCountsFit}
use Rattle.refutation_terms.proofs.Windows.{no_bad_met}
use Rattle.refutation_terms.proofs.Turning.{weeks_with-holds_in}
use Rattle.refutation_terms.proofs.Sums.{sum_same, sum_le, sum_shift, sum_rows, sum_exchange}
use Rattle.refutation_terms.proofs.CyclicCounts.{GoesRound, InARow, counted, rises, count_later, runs_most, runs_least, runs_between, count_rest}

-- the test tells the cells of the class, round the cycle
record Tells (c : Class) (s : List Symbol) (f : ℕ → Bool) : Type 0 where
  yes : (q : ℕ) → f q ≡ true → InClass c (cell s q)
  nay : (q : ℕ) → f q ≡ false → InClass c (cell s q) → ⊥
  round : GoesRound (length s) f

-- the cells with a symbol, and those without
abbrev has : List Symbol → ℕ → ℕ → Bool
has s x q = (cell s q).number == x

abbrev lacks : List Symbol → ℕ → ℕ → Bool
lacks s x q = not ((cell s q).number == x)

has_round : (s : List Symbol) (x : ℕ) → GoesRound (length s) (has s x)
has_round s x i = ap (λ r. (get_or s r off_symbol).number == x) (add-mod_right i (length s))

tells_shift : (s : List Symbol) (x : ℕ) → Tells (Shift (symbol_numbered x)) s (has s x)
tells_shift s x = record {
  yes = λ q e. ap symbol_numbered (eqb-true (cell s q).number x e);
  nay = λ q e same. eqb-false (cell s q).number x e (ap (λ (z : Symbol). z.number) same);
  round = has_round s x;
}

tells_off : (s : List Symbol) → Tells Off s (has s 0)
tells_off s = record {
  yes = λ q e. eqb-true (cell s q).number 0 e;
  nay = λ q e same. eqb-false (cell s q).number 0 e same;
  round = has_round s 0;
}

tells_work : (s : List Symbol) → Tells Work s (lacks s 0)
tells_work s = record {
  yes = λ q e. let ne = eqb-false (cell s q).number 0 (not-true ((cell s q).number == 0) e) in omega (arith, ne);
  nay = λ q e some. let no = eqb-true (cell s q).number 0 (not-false ((cell s q).number == 0) e) in omega (arith, no, some);
  round = λ i. ap not (has_round s 0 i);
}

all_in : (c : Class) (s : List Symbol) (f : ℕ → Bool) → Tells c s f → (q n : ℕ) → InARow f q n → All (InClass c) (window s q n)
all_in c s f tells q n on k d lt =
    let less : k < n = omega (arith, lt, length-window s q n) in
    subst (InClass c) (sym (get_or-window s q n k d less)) (tells.yes (q + k) (on k less))

-- a run that is too long, and one that ends too soon, is a window that breaks a rule
long_window : (c : Class) (s : List Symbol) (f : ℕ → Bool) (M q : ℕ) → Tells c s f → InARow f q (suc M) → TooLong c M (window s q (suc M))
long_window c s f M q tells on = record {
  long = let e : suc M ≡ M + 1 = omega arith in length-window s q (suc M) ∙ e;
  within = all_in c s f tells q (suc M) on;
}

short_window : (c : Class) (s : List Symbol) (f : ℕ → Bool) (a q n : ℕ) → Tells c s f → f q ≡ false → InARow f (q + 1) (suc n) → f (q + 1 + suc n) ≡ false → suc n < a → TooShort c a (window s q (suc (suc n + 1)))
short_window c s f a q n tells low on end few = record {
  before = cell s q;
  block = window s (q + 1) (suc n);
  after = cell s (q + 1 + suc n);
  whole = ap (λ w. cell s q ∷ w) (window-add s (q + 1) (suc n) 1);
  starts = tells.nay q low;
  within = all_in c s f tells (q + 1) (suc n) on;
  ends = tells.nay (q + 1 + suc n) end;
  some = omega (arith, length-window s (q + 1) (suc n));
  few = omega (arith, few, length-window s (q + 1) (suc n));
}

-- so a roster without such windows has so many cells of the class as its runs can have
can_be : (c : Class) (b : Bounds) (s : List Symbol) (f : ℕ → Bool) → Tells c s f → ((p len : ℕ) → 0 < length s → TooLong c b.greatest (window s p len) → ⊥) → ((p len : ℕ) → 0 < length s → TooShort c b.least (window s p len) → ⊥) → CanBe b (counted (length s) (rises f)) (counted (length s) f)
can_be c b s f tells not_long not_short =
    let L = length s in
    let k = counted L (rises f) in
    let t = counted L f in
    let most : t ≤ b.greatest * k = runs_most L b.greatest f tells.round (λ q lt on. not_long q (suc b.greatest) (omega (arith, lt)) (long_window c s f b.greatest q tells on)) in
    let least : shortest b * k ≤ t =
    runs_least L (shortest b) f tells.round
    (λ some q n low on few. elim (cases_Bool (f (q + 1 + suc n))) [
      | inl high ↦ high
      | inr end ↦ absurd (not_short q (suc (suc n + 1)) some (short_window c s f b.least q n tells low on end (omega (arith, few))))
    ]) in
    let d : b.greatest * k ≡ k * b.greatest = omega arith in
    let e : shortest b * k ≡ k * shortest b = omega arith in
    (subst (λ m. m ≤ t) e least, subst (λ m. t ≤ m) d most)

-- the blocks of a symbol are the runs of its cells
blocks_are_runs : (s : List Symbol) (x : ℕ) → block_count s x ≡ counted (length s) (rises (has s x))
blocks_are_runs s x =
    let L = length s in
    sym (count_later L (begins_block s x) (λ i. let e : i + L + (L - 1) ≡ i + (L - 1) + L = omega arith in
    ap (λ b. b && not (has s x (i + L + (L - 1)))) (has_round s x i) ∙ ap (λ b. has s x i && not b) (ap (has s x) e ∙ has_round s x (i + (L - 1)))) 1)
    ∙ count_same (λ i. begins_block s x (i + 1)) (rises (has s x)) 0 L
    (λ i le lt. let e : i + 1 + (L - 1) ≡ i + L = omega (arith, lt) in ap (λ b. has s x (i + 1) && not b) (ap (has s x) e ∙ has_round s x i))

-- a count as a sum of integers
sum_of_count : (f : ℕ → Bool) (a n : ℕ) → int_sum_by (λ q. pos (cond (f q) 1 0)) (range_with_len a n) ≡ pos (count_by f (range_with_len a n))
sum_of_count f a zero = refl
sum_of_count f a (suc n) =
    let more : int_sum_by (λ q. pos (cond (f q) 1 0)) (range_with_len (a + 1) n) ≡ pos (count_by f (range_with_len (a + 1) n)) = sum_of_count f (a + 1) n in
    ap (λ z. pos (cond (f a) 1 0) +ℤ z) more ∙ added (cond (f a) 1 0) (count_by f (range_with_len (a + 1) n)) ∙ ap pos (sym (count_next f a n))
  where
    added : (m n : ℕ) → pos m +ℤ pos n ≡ pos (m + n)
    added m n = omega (arith, ints)

-- the cells with a symbol, day by day
cells_by_day : (P : Instance) (s : List Symbol) (x : ℕ) → length s ≡ cells P → pos (counted (length s) (has s x)) ≡ int_sum_by (λ j. pos (weeks_with P s x j)) (range_with_len 1 P.days)
cells_by_day P s x long =
    let none : 0 ≡ 0 * P.days = omega arith in
    let g : ℕ → ℤ = λ q. pos (cond (has s x q) 1 0) in
    sym (sum_of_count (has s x) 0 (length s))
    ∙ ap (λ n. int_sum_by g (range_with_len 0 n)) long
    ∙ ap (λ b. int_sum_by g (range_with_len b (cells P))) none
    ∙ sum_rows g P.days 0 P.weeks
    ∙ sum_exchange (λ i k. g (i * P.days + k)) (range_with_len 0 P.weeks) (range_with_len 0 P.days)
    ∙ sum_same (λ k. int_sum_by (λ i. g (i * P.days + k)) (range_with_len 0 P.weeks)) (λ k. pos (weeks_with P s x (1 + k))) 0 P.days
    (λ k le lt.
    let back : k ≡ 1 + k - 1 = omega arith in
    let day : IsDay P (1 + k) = (omega arith, omega (arith, lt)) in
    sum_of_count (λ i. has s x (i * P.days + k)) 0 P.weeks
    ∙ ap (λ b. pos (count_by (λ i. has s x (i * P.days + b)) (range_with_len 0 P.weeks))) back
    ∙ ap pos (sym (weeks_with-holds_in P s x (1 + k) day long)))
    ∙ sym (sum_shift (λ j. pos (weeks_with P s x j)) 1 0 P.days)

-- a roster that meets every day has so many as the demand asks for
days_fit : (P : Instance) (s : List Symbol) (x : ℕ) → length s ≡ cells P → x ≤ shift_count P → ((j : ℕ) → IsDay P j → MeetsDay P j s) → (least_days P x ≤ℤ pos (counted (length s) (has s x))) × (pos (counted (length s) (has s x)) ≤ℤ most_days P x)
days_fit P s x long small met =
    let sum = cells_by_day P s x long in
    let day : (j : ℕ) → 1 ≤ j → j < 1 + P.days → IsDay P j = λ j le lt. (omega (arith, le), omega (arith, lt)) in
    let low : least_days P x ≤ℤ int_sum_by (λ j. pos (weeks_with P s x j)) (range_with_len 1 P.days) =
    sum_le (λ j. int_max (pos 0) (least P x j)) (λ j. pos (weeks_with P s x j)) 1 P.days (λ j le lt. not_below (least P x j) (weeks_with P s x j) (met j (day j le lt) x small).0) in
    let high : int_sum_by (λ j. pos (weeks_with P s x j)) (range_with_len 1 P.days) ≤ℤ most_days P x =
    sum_le (λ j. pos (weeks_with P s x j)) (λ j. int_min (pos P.weeks) (greatest P x j)) 1 P.days (λ j le lt. not_above (greatest P x j) (weeks_with P s x j) P.weeks (weeks P s x j) (met j (day j le lt) x small).1) in
    (subst (λ z. least_days P x ≤ℤ z) (sym sum) low, subst (λ z. z ≤ℤ most_days P x) (sym sum) high)
  where
    not_below : (l : ℤ) (c : ℕ) → l ≤ℤ pos c → int_max (pos 0) l ≤ℤ pos c
    not_below l c le = omega (arith, ints, clamps)

    not_above : (g : ℤ) (c w : ℕ) → c ≤ w → pos c ≤ℤ g → pos c ≤ℤ int_min (pos w) g
    not_above g c w le less = omega (arith, ints, clamps)

    weeks : (P : Instance) (s : List Symbol) (x j : ℕ) → weeks_with P s x j ≤ P.weeks
    weeks P s x j = omega (arith, count_by-le-length (λ i. (get_or s (i * P.days + (j - 1)) off_symbol).number == x) (range_with_len 0 P.weeks), length-range_with_len 0 P.weeks)

between : (l g : ℤ) (a t b : ℕ) → l ≤ℤ pos t → pos t ≤ℤ g → a ≤ t → t ≤ b → (pos a ≤ℤ g) × (l ≤ℤ pos b)
between l g a t b low high le less = (omega (arith, ints), omega (arith, ints))

-- where both lengths of its blocks are met, the class has so many cells as they can have
class_can_be : (P : Instance) (c : Class) (s : List Symbol) (f : ℕ → Bool) → length s ≡ cells P → Tells c s f → MeetsRule P (TheRules.Most c) s → MeetsRule P (TheRules.Least c) s → CanBe (bounds P c) (counted (length s) (rises f)) (counted (length s) f)
class_can_be P c s f long tells most least =
    can_be c (bounds P c) s f tells
    (λ p len some. no_bad_met P (TheRules.Most c) s some long most p len)
    (λ p len some. no_bad_met P (TheRules.Least c) s some long least p len)

-- the number of blocks fits
count_fits : (P : Instance) (n : ℕ) (s : List Symbol) → IsRoster P s → n ≤ shift_count P → ((r : Rule) → BlocksCite P (symbol_numbered n) r → MeetsRule P r s) → BlocksFitBy P n (block_count s n)
count_fits P zero s roster small met =
    let L = length s in
    let days = days_fit P s 0 roster.long small (λ j day. met (TheRules.Day j) (inr (j, day, refl))) in
    let k = counted L (rises (has s 0)) in
    let off : CanBe P.off k (counted L (has s 0)) =
    class_can_be P Off s (has s 0) roster.long (tells_off s) (met (TheRules.Most Off) (inl (0, omega arith, refl))) (met (TheRules.Least Off) (inl (1, omega arith, refl))) in
    let work : CanBe P.work (counted L (rises (lacks s 0))) (counted L (lacks s 0)) =
    class_can_be P Work s (lacks s 0) roster.long (tells_work s) (met (TheRules.Most Work) (inl (2, omega arith, refl))) (met (TheRules.Least Work) (inl (3, omega arith, refl))) in
    let rest : counted L (has s 0) + counted L (lacks s 0) ≡ L = count_rest L (has s 0) in
    let inside : counted L (has s 0) ≤ cells P = omega (arith, rest, roster.long) in
    let others : counted L (lacks s 0) ≡ cells P - counted L (has s 0) = omega (arith, rest, roster.long) in
    subst (BlocksFitBy P 0) (sym (blocks_are_runs s 0)) (
      counted L (has s 0),
      days.0,
      days.1,
      inside,
      off,
      subst (CanBe P.work k) others (subst (λ m. CanBe P.work m (counted L (lacks s 0))) (runs_between L (has s 0) (has_round s 0)) work),
    )
count_fits P (suc n) s roster small met =
    let L = length s in
    let x = suc n in
    let c : Class = Shift (symbol_numbered x) in
    let days = days_fit P s x roster.long small (λ j day. met (TheRules.Day j) (inr (j, day, refl))) in
    let k = counted L (rises (has s x)) in
    let shift : CanBe (bounds P c) k (counted L (has s x)) =
    class_can_be P c s (has s x) roster.long (tells_shift s x) (met (TheRules.Most c) (inl (0, omega arith, refl))) (met (TheRules.Least c) (inl (1, omega arith, refl))) in
    subst (BlocksFitBy P x) (sym (blocks_are_runs s x))
    (between (least_days P x) (most_days P x) (k * shortest (bounds P c)) (counted L (has s x)) (k * (bounds P c).greatest) days.0 days.1 shift.0 shift.1)

pub block_counts_fit : BlockCountsFit
block_counts_fit P x s roster is met = (
  omega (arith, count_by-le-length (begins_block s x.number) (range_with_len 0 (length s)), length-range_with_len 0 (length s), roster.long),
  count_fits P x.number s roster is met,
)

-- a leaf of blocks that holds leaves no roster that meets the rules that it cites
pub blocks_leave_none : (P : Instance) (x : Symbol) (s : List Symbol) → IsRoster P s → IsSymbol P x → ((r : Rule) → BlocksCite P x r → MeetsRule P r s) → BlocksHold P x → ⊥
blocks_leave_none P x s roster is met holds =
    let fits = block_counts_fit P x s roster is met in
    holds (block_count s x.number) fits.0 fits.1
