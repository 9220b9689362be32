-- A line that fits the problem holds, or has a cause: it can't be without both.
use Rattle.std.proofs.Common.{◌≡◌, ◌⊎◌, ◌==◌, ◌&&◌, ℕ, zero, suc, ◌+◌, ◌*◌, ◌%◌, ◌<◌, ◌≤◌, List, [], ◌∷◌, length, refl, ap, sym, subst, arith, inl, inr, Option, Some, None, pos, negsuc, ℤ, Bool}
use Rattle.std.specs.Prelude.{Contains, ◌≤ℤ◌, ◌<ℤ◌, ◌+ℤ◌, ◌*ℤ◌}
use Rattle.std.specs.List.{AllByRecursion, range_with_len}
use Rattle.std.proofs.Math.Nat.{mul-le-mul}
use Rattle.std.proofs.lemmas.List.FromFn.{length-range_with_len}
use Rattle.std.proofs.lemmas.List.Sums.{count_by-le-length}
use Rattle.std.proofs.lemmas.Bool.{cases_lt, cases_Bool, eqb-true, eqb-false}
use Rattle.std.proofs.lemmas.Int.{ints}
use Rattle.rwsp_terms.specs.declared.data.Symbol.{Symbol}
use Rattle.rwsp_terms.specs.declared.data.Weight.{Weight}
use Rattle.rwsp_terms.specs.declared.data.Rule.{Rule}
use Rattle.rwsp_terms.specs.declared.data.Rule.TheVariants as TheRules
use Rattle.rwsp_terms.specs.Instance.{Instance, cells, bounds, symbol_numbered}
use Rattle.rwsp_terms.specs.Roster.{IsRule}
use Rattle.rwsp_terms.specs.Rules.{rule_of, Names, IsShort, NamesShortOnly}
use Rattle.rwsp_terms.specs.Weights.{IsWeight, weight_at}
use Rattle.rwsp_terms.proofs.Ascending.{Contains-cons, Contains-first, Contains-later, weight_past, weight_first}
use Rattle.rwsp_terms.proofs.Elements.{all_to}
use Rattle.rwsp_model.specs.RuleNumbers.{place_of}
use Rattle.rwsp_model.proofs.Numbering.{number_at_place, one_number}
use Rattle.refutation_terms.specs.declared.lines.Line.{Line}
use Rattle.refutation_terms.specs.declared.lines.Line.TheVariants.{Split, Unfinished, Closing}
use Rattle.refutation_terms.specs.declared.lines.Leaf.TheVariants.{Words}
use Rattle.refutation_terms.specs.declared.lines.WordClaim.TheVariants.{Dead, Light}
use Rattle.refutation_terms.specs.declared.lines.LogRefusal.{LogRefusal}
use Rattle.refutation_terms.specs.declared.lines.LogRefusal.TheVariants as Refusals
use Rattle.refutation_terms.specs.Word.{Domains, weight}
use Rattle.refutation_terms.specs.FreeWeekends.{free_weekends, is_free_weekend}
use Rattle.refutation_terms.specs.WordsLeaf.{worth, owed, IsTooLight}
use Rattle.refutation_terms.specs.Tree.{is_idle}
use Rattle.refutation_terms.specs.Log.{LineFits, Cites, CitesOnlyNamed, Holds, ListsShortOnly}
use Rattle.refutation_terms.specs.Escape.{ComesFirst, IsCleanOver, IsHeaviestBy, IsLeastHeaviestBy}
use Rattle.refutation_terms.specs.Verdict.{IsLeast, IsUnnamed, ListsLong}
use Rattle.refutation_terms.specs.Leaves.{IsLongIn}
use Rattle.refutation_terms.proofs.LeafLaws.{leaf_cites_rules}
use Rattle.refutation_checker.specs.LineVerdicts.{IsSoundLine, LineCause}

-- where no number is the least with a property, none has it
pub least_number : (A : ℕ → Type 0) → ((k : ℕ) → IsLeast A k → ⊥) → (k : ℕ) → A k → ⊥
least_number A none k a = below A none (k + 1) k (omega arith) a
  where
    below : (A : ℕ → Type 0) → ((k : ℕ) → IsLeast A k → ⊥) → (n k : ℕ) → k < n → A k → ⊥
    below A none zero k lt a = omega (arith, lt)
    below A none (suc n) k lt a =
        none k (a, λ i b. elim (cases_lt i k) [ inl less ↦ absurd (below A none n i (omega (arith, lt, less)) b) | inr more ↦ more ])

-- rules that are cited and named

named_or_not : (named : List ℕ) (k : ℕ) → Contains named k ⊎ (Contains named k → ⊥)
named_or_not [] k = inr (λ h. let lt = h.1 in omega (arith, lt))
named_or_not (i ∷ named) k =
    elim (cases_Bool (k == i)) [
      | inl same ↦ inl (Contains-first i named k (eqb-true k i same))
      | inr other ↦ elim (named_or_not named k) [
        | inl later ↦ inl (Contains-later i named k later)
        | inr none ↦ inr (λ h. elim (Contains-cons i named k h) [ inl later ↦ none later | inr same ↦ eqb-false k i other same ])
      ]
    ]

cited_is_rule : (P : Instance) (goal : Option ℕ) (counts : Bool) (line : Line) (r : Rule) → LineFits P goal counts line → Cites P line r → IsRule P r
cited_is_rule P goal counts (Closing leaf) r fits c = leaf_cites_rules P goal counts leaf r fits c
cited_is_rule P goal counts line r fits c = absurd c

pub cited_is_named : (P : Instance) (named : List ℕ) (Cited : Rule → Type 0) (r : Rule) → IsRule P r → ((k : ℕ) → IsUnnamed P named Cited k → ⊥) → Cited r → Names P named r
cited_is_named P named Cited r is none cites =
    let k = place_of P r + 1 in
    let at : rule_of P (place_of P r + 1) ≡ Some r = number_at_place P r k is refl in
    elim (named_or_not named k) [
      | inl in_it ↦ (k, in_it, at)
      | inr not_in ↦ absurd (none k (r, at, cites, λ n. not_in (subst (Contains named) (one_number P n.0 k r n.2 at) n.1)))
    ]

-- short rules

le_or_not : (a b : ℕ) → (a ≤ b) ⊎ (a ≤ b → ⊥)
le_or_not a b = elim (cases_lt b a) [ inl less ↦ inr (λ h. omega (arith, less, h)) | inr le ↦ inl le ]

short_or_not : (P : Instance) (r : Rule) → IsShort P r ⊎ (IsShort P r → ⊥)
short_or_not P (TheRules.Most c) = le_or_not (bounds P c).greatest 30
short_or_not P (TheRules.Least c) = le_or_not (bounds P c).least 30
short_or_not P (TheRules.Never k) = inl tt
short_or_not P (TheRules.Day j) = inr (λ h. h)

names_short : (P : Instance) (R : List ℕ) → ((k : ℕ) → IsLongIn P R k → ⊥) → NamesShortOnly P R
names_short P R none r n = elim (short_or_not P r) [ inl short ↦ short | inr long ↦ absurd (none n.0 (r, n.2, n.1, long)) ]

-- where no word is the least with a property, none has it

empty_first : (u v : List Symbol) → length u ≡ 0 → ComesFirst u v
empty_first [] v e = tt
empty_first (x ∷ u) v e = absurd (omega (arith, e))

first_by_head : (Q : List Symbol → Type 0) (n len : ℕ) (w v : List Symbol) → ((u : List Symbol) → Q u → length u ≡ suc len)
    → IsLeast (λ k. (u : List Symbol) × Q (symbol_numbered k ∷ u)) n → ((u : List Symbol) → Q (symbol_numbered n ∷ u) → ComesFirst w u) → Q v → ComesFirst (symbol_numbered n ∷ w) v
first_by_head Q n len w [] long least first h = let e = long [] h in absurd (omega (arith, e))
first_by_head Q n len w (z ∷ v) long least first h =
    let le : n ≤ z.number = least.1 z.number (v, h) in
    elim (cases_lt n z.number) [
      | inl less ↦ inl less
      | inr more ↦ (let same : n ≡ z.number = omega arith in inr (ap symbol_numbered same, first v (subst (λ k. Q (symbol_numbered k ∷ v)) (sym same) h)))
    ]

least_word : (len : ℕ) (Q : List Symbol → Type 0) → ((u : List Symbol) → Q u → length u ≡ len)
    → ((u : List Symbol) → Q u → ((v : List Symbol) → Q v → ComesFirst u v) → ⊥) → (u : List Symbol) → Q u → ⊥
least_word zero Q long none u h = none u h (λ v k. empty_first u v (long u h))
least_word (suc len) Q long none [] h = let e = long [] h in omega (arith, e)
least_word (suc len) Q long none (x ∷ u) h =
    least_number (λ k. (w : List Symbol) × Q (symbol_numbered k ∷ w))
    (λ n least.
    least_word len (λ w. Q (symbol_numbered n ∷ w)) (λ w k. (let e = long (symbol_numbered n ∷ w) k in omega (arith, e)))
    (λ w k first. none (symbol_numbered n ∷ w) k (λ v g. first_by_head Q n len w v long least first g))
    least.0.0 least.0.1)
    x.number (u, h)

-- what words weigh at most

abbrev most : ℕ → ℕ
most zero = 0
most (suc n) = 1000 + most n

value_few : (y : List Weight) (j x : ℕ) → AllByRecursion IsWeight y → weight_at y j x ≤ℤ pos 1000
value_few [] j x h = omega (arith, ints)
value_few (e ∷ y) j x h =
    elim (cases_Bool ((e.day == j) && (e.symbol.number == x))) [
      | inl here ↦ subst (λ z. z ≤ℤ pos 1000) (sym (weight_first e y j x here)) h.0.1
      | inr past ↦ subst (λ z. z ≤ℤ pos 1000) (sym (weight_past e y j x past)) (value_few y j x h.1)
    ]

sum_few : (a b : ℤ) (n : ℕ) → a ≤ℤ pos 1000 → b ≤ℤ pos n → (a +ℤ b) ≤ℤ pos (1000 + n)
sum_few a b n h k = omega (arith, ints)

weight_few : (P : Instance) (y : List Weight) (p : ℕ) (u : List Symbol) → AllByRecursion IsWeight y → weight P y p u ≤ℤ pos (most (length u))
weight_few P y p [] h = omega (arith, ints)
weight_few P y p (x ∷ u) h = sum_few (weight_at y (p % P.days + 1) x.number) (weight P y (p + 1) u) (most (length u)) (value_few y (p % P.days + 1) x.number h) (weight_few P y (p + 1) u h)

le_or_lt : (a b : ℤ) → (a ≤ℤ b) ⊎ (b <ℤ a)
le_or_lt (pos a) (pos b) = elim (cases_lt b a) [ inl less ↦ inr (omega (arith, ints)) | inr le ↦ inl (omega (arith, ints)) ]
le_or_lt (pos a) (negsuc b) = inr (omega (arith, ints))
le_or_lt (negsuc a) (pos b) = inl (omega (arith, ints))
le_or_lt (negsuc a) (negsuc b) = elim (cases_lt a b) [ inl less ↦ inr (omega (arith, ints)) | inr le ↦ inl (omega (arith, ints)) ]

enough : (w : ℤ) (b : ℕ) → (n : ℕ) × (pos b ≤ℤ (w +ℤ pos n))
enough (pos a) b = (b, omega (arith, ints))
enough (negsuc a) b = (a + b + 1, omega (arith, ints))

at_most : (v u m : ℤ) → v ≤ℤ m → m ≤ℤ (u +ℤ pos 0) → v ≤ℤ u
at_most v u m a b = omega (arith, ints)

nearer : (v u m : ℤ) (n : ℕ) → m ≤ℤ (u +ℤ pos (suc n)) → u <ℤ v → m ≤ℤ (v +ℤ pos n)
nearer v u m n a b = omega (arith, ints)

through : (t u v : ℤ) → t ≤ℤ u → u ≤ℤ v → t ≤ℤ v
through t u v a b = omega (arith, ints)

before : (t u v : ℤ) → t ≤ℤ u → u <ℤ v → t ≤ℤ v
before t u v a b = omega (arith, ints)

-- words are weighed somehow, and none of these weighs t or more where no least of the heaviest does
abbrev NoneWeighs : Instance → Domains → ℕ → ℕ → List ℕ → (List Symbol → ℤ) → ℤ → Type 0
NoneWeighs P D p len R weighs t = (w : List Symbol) → IsLeastHeaviestBy P D p len R weighs w → t ≤ℤ weighs w → ⊥

abbrev WeighAtMost : Instance → Domains → ℕ → ℕ → List ℕ → (List Symbol → ℤ) → ℕ → Type 0
WeighAtMost P D p len R weighs b = (u : List Symbol) → IsCleanOver P D p len R u → weighs u ≤ℤ pos b

no_heaviest : (P : Instance) (D : Domains) (p len : ℕ) (R : List ℕ) (weighs : List Symbol → ℤ) (t : ℤ) → NoneWeighs P D p len R weighs t → (u : List Symbol) → IsHeaviestBy P D p len R weighs u → t ≤ℤ weighs u → ⊥
no_heaviest P D p len R weighs t none u h le =
    least_word len (IsHeaviestBy P D p len R weighs) (λ w k. k.clean.long)
    (λ w k first. none w (record { heavy = k; least = first }) (through t (weighs u) (weighs w) le (k.heaviest u h.clean))) u h

none_weighs : (P : Instance) (D : Domains) (p len : ℕ) (R : List ℕ) (weighs : List Symbol → ℤ) (t : ℤ) (b : ℕ) → WeighAtMost P D p len R weighs b → NoneWeighs P D p len R weighs t → (n : ℕ) (u : List Symbol) → IsCleanOver P D p len R u → t ≤ℤ weighs u → pos b ≤ℤ (weighs u +ℤ pos n) → ⊥
none_weighs P D p len R weighs t b few none zero u clean le near =
    no_heaviest P D p len R weighs t none u (record { clean = clean; heaviest = λ v k. at_most (weighs v) (weighs u) (pos b) (few v k) near }) le
none_weighs P D p len R weighs t b few none (suc n) u clean le near =
    no_heaviest P D p len R weighs t none u
    (record {
      clean = clean;
      heaviest = λ v k.
          elim (le_or_lt (weighs v) (weighs u)) [
            | inl less ↦ less
            | inr more ↦ absurd (none_weighs P D p len R weighs t b few none n v k (before t (weighs u) (weighs v) le more) (nearer (weighs v) (weighs u) (pos b) n near more))
          ];
    }) le

all_light : (P : Instance) (D : Domains) (p len : ℕ) (R : List ℕ) (weighs : List Symbol → ℤ) (t : ℤ) (b : ℕ) → WeighAtMost P D p len R weighs b → NoneWeighs P D p len R weighs t → (u : List Symbol) → IsCleanOver P D p len R u → weighs u <ℤ t
all_light P D p len R weighs t b few none u clean =
    elim (le_or_lt t (weighs u)) [
      | inr light ↦ light
      | inl heavy ↦ (let far = enough (weighs u) b in absurd (none_weighs P D p len R weighs t b few none far.0 u clean heavy far.1))
    ]

-- a word has no more free weekends than days, and is rewarded for each where the log has a goal

reward_few : (w : ℤ) (m r b : ℕ) → w ≤ℤ pos m → r ≤ b → (w +ℤ pos r) ≤ℤ pos (m + b)
reward_few w m r b h k = omega (arith, ints)

without_reward : (w : ℤ) (m b : ℕ) → w ≤ℤ pos m → w ≤ℤ pos (m + b)
without_reward w m b h = omega (arith, ints)

worth_few : (P : Instance) (goal : Option ℕ) (y : List Weight) (reward p : ℕ) (u : List Symbol) → AllByRecursion IsWeight y → worth P goal y reward p u ≤ℤ pos (most (length u) + reward * length u)
worth_few P None y reward p u small = without_reward (weight P y p u) (most (length u)) (reward * length u) (weight_few P y p u small)
worth_few P (Some goal) y reward p u small =
    let days : free_weekends u ≤ length u = omega (arith, count_by-le-length (is_free_weekend u) (range_with_len 0 (length u)), length-range_with_len 0 (length u)) in
    let same : reward ≤ reward = omega arith in
    reward_few (weight P y p u) (most (length u)) (reward * free_weekends u) (reward * length u) (weight_few P y p u small) (mul-le-mul same days)

too_light : (P : Instance) (goal : Option ℕ) (D : Domains) (p turns reward : ℕ) (R : List ℕ) (y : List Weight) → AllByRecursion IsWeight y → NoneWeighs P D p (turns * cells P) R (worth P goal y reward p) (pos turns *ℤ owed P goal y reward) → IsTooLight P goal D p turns reward R y
too_light P goal D p turns reward R y small none u long over clean =
    let len : ℕ = turns * cells P in
    all_light P D p len R (worth P goal y reward p) (pos turns *ℤ owed P goal y reward) (most len + reward * len)
    (λ v k. subst (λ n. worth P goal y reward p v ≤ℤ pos (most n + reward * n)) k.long (worth_few P goal y reward p v small)) none u (record { long = long; over = over; clean = clean })

-- a line without a cause holds

abbrev HasNoCause : Instance → Option ℕ → List ℕ → Domains → ℕ → Line → Type 0
HasNoCause P goal named D n line = (why : LogRefusal) → LineCause P goal named D n line why → ⊥

lists_short : (P : Instance) (goal : Option ℕ) (named : List ℕ) (D : Domains) (n : ℕ) (line : Line) → HasNoCause P goal named D n line → CitesOnlyNamed P named line → ListsShortOnly P line
lists_short P goal named D n (Closing (Words p R claim)) none all = names_short P R (least_number (ListsLong P (Closing (Words p R claim))) (λ k least. none (Refusals.Long n k) (refl, all, least)))
lists_short P goal named D n line none all = tt

line_holds : (P : Instance) (goal : Option ℕ) (counts : Bool) (named : List ℕ) (D : Domains) (n : ℕ) (line : Line) → LineFits P goal counts line → HasNoCause P goal named D n line → CitesOnlyNamed P named line → ListsShortOnly P line → (Holds P goal D line → ⊥) → ⊥
line_holds P goal counts named D n (Split p x) fits none all short goes =
    elim (cases_Bool (is_idle P D p x.number)) [ inl idle ↦ none (Refusals.Idle n) (refl, idle) | inr useful ↦ goes useful ]
line_holds P goal counts named D n (Closing (Words p R (Dead len))) fits none all short goes =
    goes (λ u long over clean.
    least_word len (IsCleanOver P D p len R) (λ w h. h.long)
    (λ w h first. none (Refusals.Escape n w) (refl, all, short, record { clean = h; least = first }))
    u (record { long = long; over = over; clean = clean }))
line_holds P goal counts named D n (Closing (Words p R (Light turns reward y))) fits none all short goes =
    goes (too_light P goal D p turns reward R y (all_to IsWeight y fits.3.0.small) (λ w heavy le. none (Refusals.Escape n w) (refl, all, short, (heavy, le))))
line_holds P goal counts named D n (Closing leaf) fits none all short goes = none (Refusals.Fails n) (refl, all, tt, goes)
line_holds P goal counts named D n Unfinished fits none all short goes = none (Refusals.Unfinished n) (refl, refl)

pub line_stands : (P : Instance) (goal : Option ℕ) (counts : Bool) (named : List ℕ) (D : Domains) (n : ℕ) (line : Line) → LineFits P goal counts line → HasNoCause P goal named D n line → (IsSoundLine P goal named D line → ⊥) → ⊥
line_stands P goal counts named D n line fits none goes =
    let all : CitesOnlyNamed P named line = λ r c.
    cited_is_named P named (Cites P line) r (cited_is_rule P goal counts line r fits c) (least_number (IsUnnamed P named (Cites P line)) (λ k least. none (Refusals.Unnamed n k) (refl, least))) c in
    let short : ListsShortOnly P line = lists_short P goal named D n line none all in
    line_holds P goal counts named D n line fits none all short (λ h. goes (record { named_all = all; short = short; holds = h }))
