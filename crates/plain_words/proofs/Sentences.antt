-- Which statements are made about a problem.
use Rattle.std.proofs.Common.{◌≡◌, ℕ, zero, suc, ◌+◌, ◌<◌, ◌≤◌, List, [], ◌∷◌, ◌++◌, length, map, Option, Some, None, Bool, true, false, cond, refl, ap, subst, ◌∙◌, arith, inl, inr}
use Rattle.std.specs.Prelude.{Contains, filter, ◌||◌}
use Rattle.std.specs.List.{flat_map, list_any, range_with_len}
use Rattle.std.proofs.lemmas.Bool.{false≢true, both_ways}
use Rattle.std.proofs.lemmas.List.{append-nil}
use Rattle.std.proofs.lemmas.List.Folds.{list_any_at}
use Rattle.std.proofs.lemmas.List.Elements.{filter-append, Contains-append_left, Contains-append_right, Contains-append_cases}
use Rattle.rwsp_terms.specs.declared.data.Class.{Class}
use Rattle.rwsp_terms.specs.declared.data.Class.TheVariants.{Shift, Off, Work}
use Rattle.rwsp_terms.specs.declared.data.Symbol.{Symbol}
use Rattle.rwsp_terms.specs.Instance.{Instance, shift_count, symbol_numbered}
use Rattle.rwsp_terms.specs.Rules.{rules}
use Rattle.refutation_terms.specs.BlocksLeaf.{BlocksHold}
use Rattle.rwsp_file.specs.declared.long_numbers.LongNumber.{LongNumber}
use Rattle.plain_words.specs.declared.part.Part.{Part}
use Rattle.plain_words.specs.declared.problem.Telling.TheVariants.{WithCounts}
use Rattle.plain_words.specs.Statements.{Statement, Says, Named, Counted, said_if}
use Rattle.plain_words.specs.Sentences.{size_statement, hours_statement, crossed_blocks, long_blocks, shift_slips, twice_at, earlier, sequence_slips, crossed_slips, large_slips, demand_slips, full_slips, day_slips, slips, numeric_name, counted_at, counted, slip_statements, rule_statements}
use Rattle.plain_words.specs.Counting.{is_misfit}
use Rattle.plain_words.specs.Laws.{says_rule, RulesAreSaidOnce, CountedAreLeaves}
use Rattle.plain_words.proofs.Misfits.{misfits_are_leaves}

-- no element passes a test, where none of either list does
both_none : (q : Statement → Bool) (xs ys : List Statement) → filter q xs ≡ [] → filter q ys ≡ [] → filter q (xs ++ ys) ≡ []
both_none q xs ys none other = filter-append q xs ys ∙ ap (λ l. l ++ filter q ys) none ∙ other

one_none : (q : Statement → Bool) (s : Statement) (xs : List Statement) → q s ≡ false → filter q (s ∷ xs) ≡ filter q xs
one_none q s xs is = ap (λ t. cond t (s ∷ filter q xs) (filter q xs)) is

named_none : {X : Type 0} (q : Statement → Bool) (v : X → Statement) → ((x : X) → q (v x) ≡ false) → (xs : List X) → filter q (map v xs) ≡ []
named_none q v fails [] = refl
named_none q v fails (x ∷ xs) = one_none q (v x) (map v xs) (fails x) ∙ named_none q v fails xs

said_none : (q : Statement → Bool) (b : Bool) (s : Statement) → q s ≡ false → filter q (said_if b s) ≡ []
said_none q true s is = one_none q s [] is
said_none q false s is = refl

pieces_none : (q : Statement → Bool) (g : ℕ → List Statement) (a n : ℕ) → ((k : ℕ) → filter q (g k) ≡ []) → filter q (flat_map g (range_with_len a n)) ≡ []
pieces_none q g a zero none = refl
pieces_none q g a (suc n) none = both_none q (g a) (flat_map g (range_with_len (a + 1) n)) (none a) (pieces_none q g (a + 1) n none)

-- no sentence passes the test
abbrev Misses : (Statement → Bool) → Type 0
Misses q = (text : List ℕ) (parts : List Part) → q (Says text parts) ≡ false

twice_none : (q : Statement → Bool) → Misses q → (P : Instance) (k : ℕ) (earlier : Option ℕ) → filter q (twice_at P k earlier) ≡ []
twice_none q misses P k None = refl
twice_none q misses P k (Some i) = one_none q _ [] (misses _ _)

blocks_none : (q : Statement → Bool) → Misses q → (P : Instance) (c : Class) → filter q (crossed_blocks P c) ≡ []
blocks_none q misses P c = said_none q _ _ (misses _ _)

demand_none : (q : Statement → Bool) → Misses q → (P : Instance) (is_sized : Bool) (j x : ℕ) → filter q (demand_slips P is_sized j x) ≡ []
demand_none q misses P is_sized j x = both_none q (crossed_slips P j x) (large_slips P is_sized j x) (said_none q _ _ (misses _ _)) (said_none q _ _ (misses _ _))

day_none : (q : Statement → Bool) → Misses q → (P : Instance) (is_sized : Bool) (j : ℕ) → filter q (day_slips P is_sized j) ≡ []
day_none q misses P is_sized j =
    both_none q (flat_map (demand_slips P is_sized j) (range_with_len 1 (shift_count P))) (full_slips P is_sized j) (pieces_none q (demand_slips P is_sized j) 1 (shift_count P) (demand_none q misses P is_sized j)) (said_none q _ _ (misses _ _))

shift_none : (q : Statement → Bool) → Misses q → (P : Instance) (x : ℕ) → filter q (shift_slips P x) ≡ []
shift_none q misses P x = both_none q (crossed_blocks P (Shift (symbol_numbered x))) (long_blocks P x) (blocks_none q misses P (Shift (symbol_numbered x))) (said_none q _ _ (misses _ _))

slips_none : (q : Statement → Bool) → Misses q → (P : Instance) (is_sized : Bool) → filter q (slips P is_sized) ≡ []
slips_none q misses P is_sized =
    let shifts = pieces_none q (shift_slips P) 1 (shift_count P) (shift_none q misses P) in
    let twice = pieces_none q (sequence_slips P) 0 (length P.sequences) (λ k. twice_none q misses P k (earlier P k)) in
    let days = pieces_none q (day_slips P is_sized) 1 P.days (day_none q misses P is_sized) in
    let blocks = both_none q _ _ (both_none q _ _ shifts (blocks_none q misses P Off)) (blocks_none q misses P Work) in
    both_none q _ _ (both_none q _ _ blocks twice) days

-- nor a slip or a long name
abbrev before_counts : Instance → List LongNumber → List Statement
before_counts P names = slips P true ++ map numeric_name names

names_none : (q : Statement → Bool) → Misses q → (P : Instance) (names : List LongNumber) → filter q (before_counts P names) ≡ []
names_none q misses P names = both_none q (slips P true) (map numeric_name names) (slips_none q misses P true) (named_none q numeric_name (λ n. misses _ _) names)

-- Rules.

rules_kept : (a n : ℕ) → filter says_rule (map Named (range_with_len a n)) ≡ map Named (range_with_len a n)
rules_kept a zero = refl
rules_kept a (suc n) = ap (λ l. Named a ∷ l) (rules_kept (a + 1) n)

counted_no_rule : (P : Instance) → filter says_rule (counted P) ≡ []
counted_no_rule P =
    both_none says_rule (flat_map (counted_at P) (range_with_len 1 (shift_count P))) (counted_at P 0)
    (pieces_none says_rule (counted_at P) 1 (shift_count P) (λ k. said_none says_rule _ _ refl)) (said_none says_rule _ _ refl)

pub rules_are_said_once : RulesAreSaidOnce
rules_are_said_once P names =
    let front = size_statement P ∷ hours_statement P ∷ [] in
    let behind = both_none says_rule (before_counts P names) (counted P) (names_none says_rule (λ text parts. refl) P names) (counted_no_rule P) in
    filter-append says_rule (front ++ rule_statements P) (slip_statements WithCounts P names)
    ∙ ap (λ l. filter says_rule (front ++ rule_statements P) ++ l) behind ∙ append-nil (filter says_rule (front ++ rule_statements P))
    ∙ filter-append says_rule front (rule_statements P) ∙ rules_kept 1 (length (rules P))

-- Counting.

-- a piece that has something
pub record InPiece (f : ℕ → List Statement) (a n : ℕ) (s : Statement) : Type 0 where
  pub place : ℕ
  pub within : place < n
  pub there : Contains (f (a + place)) s

pub in_piece : (f : ℕ → List Statement) (a n : ℕ) (s : Statement) → Contains (flat_map f (range_with_len a n)) s → InPiece f a n s
in_piece f a zero s h = absurd (omega (arith, h.1))
in_piece f a (suc n) s h =
    let e : a ≡ a + 0 = omega arith in
    elim (Contains-append_cases (f a) (flat_map f (range_with_len (a + 1) n)) s h) [
      | inl here ↦ record { place = 0; within = omega arith; there = subst (λ k. Contains (f k) s) e here }
      | inr more ↦
          let found = in_piece f (a + 1) n s more in
          let next : a + 1 + found.place ≡ a + suc found.place = omega arith in
          let less = found.within in
          record { place = suc found.place; within = omega (arith, less); there = subst (λ k. Contains (f k) s) next found.there }
    ]

in_whole : (f : ℕ → List Statement) (a n i : ℕ) (s : Statement) → i < n → Contains (f (a + i)) s → Contains (flat_map f (range_with_len a n)) s
in_whole f a zero i s less h = absurd (omega (arith, less))
in_whole f a (suc n) zero s less h =
    let e : a + zero ≡ a = omega arith in
    Contains-append_left (f a) (flat_map f (range_with_len (a + 1) n)) s (subst (λ k. Contains (f k) s) e h)
in_whole f a (suc n) (suc i) s less h =
    let e : a + suc i ≡ a + 1 + i = omega arith in
    Contains-append_right (f a) (flat_map f (range_with_len (a + 1) n)) s (in_whole f (a + 1) n i s (omega (arith, less)) (subst (λ k. Contains (f k) s) e h))

pub said_there : (b : Bool) (s t : Statement) → Contains (said_if b s) t → (b ≡ true) × (s ≡ t)
said_there true s t (zero, less, is) = (refl, is)
said_there true s t (suc k, less, is) = absurd (omega (arith, less))
said_there false s t h = absurd (omega (arith, h.1))

there_said : (b : Bool) (s : Statement) → b ≡ true → Contains (said_if b s) s
there_said true s is = (0, omega arith, refl)
there_said false s is = absurd (false≢true is)

same_symbol : (x y : Symbol) → Counted [] y ≡ Counted [] x → y ≡ x
same_symbol x y e = cc

holds_there : (P : Instance) (x : Symbol) (n : ℕ) → Contains (counted_at P n) (Counted [] x) → BlocksHold P x
holds_there P x n h =
    let y = symbol_numbered n in
    let said = said_there (is_misfit P y) (Counted [] y) (Counted [] x) h in
    (misfits_are_leaves P x).0 (subst (λ z. is_misfit P z ≡ true) (same_symbol x y said.1) said.0)

counted_hold : (P : Instance) (x : Symbol) → Contains (counted P) (Counted [] x) → BlocksHold P x
counted_hold P x h =
    elim (Contains-append_cases (flat_map (counted_at P) (range_with_len 1 (shift_count P))) (counted_at P 0) (Counted [] x) h) [
      | inl shift ↦
          let found = in_piece (counted_at P) 1 (shift_count P) (Counted [] x) shift in
          holds_there P x (1 + found.place) found.there
      | inr off ↦ holds_there P x 0 off
    ]

counted_there : (P : Instance) (n : ℕ) → BlocksHold P (symbol_numbered n) → Contains (counted_at P n) (Counted [] (symbol_numbered n))
counted_there P n hold = there_said (is_misfit P (symbol_numbered n)) (Counted [] (symbol_numbered n)) ((misfits_are_leaves P (symbol_numbered n)).1 hold)

hold_counted : (P : Instance) (n : ℕ) → n ≤ shift_count P → BlocksHold P (symbol_numbered n) → Contains (counted P) (Counted [] (symbol_numbered n))
hold_counted P zero known hold =
    Contains-append_right (flat_map (counted_at P) (range_with_len 1 (shift_count P))) (counted_at P 0) (Counted [] (symbol_numbered 0)) (counted_there P 0 hold)
hold_counted P (suc k) known hold =
    let x = symbol_numbered (suc k) in
    let e : suc k ≡ 1 + k = omega arith in
    Contains-append_left (flat_map (counted_at P) (range_with_len 1 (shift_count P))) (counted_at P 0) (Counted [] x)
    (in_whole (counted_at P) 1 (shift_count P) k (Counted [] x) (omega (arith, known)) (subst (λ n. Contains (counted_at P n) (Counted [] x)) e (counted_there P (suc k) hold)))

abbrev says_misfit : Statement → Bool
says_misfit (Counted head x) = true
says_misfit s = false

none_any : (q : Statement → Bool) (xs : List Statement) → filter q xs ≡ [] → list_any q xs ≡ false
none_any q [] none = refl
none_any q (x ∷ xs) none = elim (q x) as (λ b. cond b (x ∷ filter q xs) (filter q xs) ≡ [] → (b || list_any q xs) ≡ false) [
  | true ↦ λ e. absurd (cc)
  | false ↦ none_any q xs
] none

not_in : (xs : List Statement) (x : Symbol) → filter says_misfit xs ≡ [] → Contains xs (Counted [] x) → ⊥
not_in xs x none h = both_ways (list_any says_misfit xs) (none_any says_misfit xs none) (list_any_at says_misfit xs h.0 (Counted [] x) h.1 (ap says_misfit h.2))

pub counted_are_leaves : CountedAreLeaves
counted_are_leaves P names x known =
    let front = (size_statement P ∷ hours_statement P ∷ []) ++ rule_statements P in
    let early : filter says_misfit front ≡ [] = both_none says_misfit (size_statement P ∷ hours_statement P ∷ []) (rule_statements P) refl (named_none says_misfit Named (λ n. refl) (range_with_len 1 (length (rules P)))) in
    let late = names_none says_misfit (λ text parts. refl) P names in (
      λ h. elim (Contains-append_cases front (slip_statements WithCounts P names) (Counted [] x) h) [
        | inl here ↦ absurd (not_in front x early here)
        | inr behind ↦ elim (Contains-append_cases (before_counts P names) (counted P) (Counted [] x) behind) [
          | inl here ↦ absurd (not_in (before_counts P names) x late here)
          | inr last ↦ counted_hold P x last
        ]
      ],
      λ hold. Contains-append_right front (slip_statements WithCounts P names) (Counted [] x) (Contains-append_right (before_counts P names) (counted P) (Counted [] x) (hold_counted P x.number known hold)),
    )
