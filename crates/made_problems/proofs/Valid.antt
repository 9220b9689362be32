-- Generated problems keep all limits.
use Rattle.std.proofs.Common.{◌≡◌, ℕ, ◌+◌, ◌-◌, ◌*◌, ◌≤◌, List, [], ◌∷◌, map, get_or, Bool, true, not, Option, refl, ap, subst, ◌∙◌, arith}
use Rattle.std.specs.Prelude.{nat_le, nat_eq, position}
use Rattle.std.specs.List.{range_with_len, list_all}
use Rattle.std.proofs.lemmas.Bool.{le-leb, and_from}
use Rattle.std.proofs.lemmas.List.Sums.{count_by-le-length}
use Rattle.std.proofs.lemmas.List.FromFn.{length-range_with_len}
use Rattle.rwsp_terms.specs.declared.limits.TheConstants.{MOST_WEEKS, MOST_CELLS}
use Rattle.rwsp_terms.specs.Instance.{off_symbol}
use Rattle.rwsp_terms.specs.declared.data.Bounds.{Bounds}
use Rattle.rwsp_terms.specs.declared.data.Symbol.{Symbol}
use Rattle.rwsp_model.specs.Validity.{IsValid, is_small_range, is_between, limit_refusal}
use Rattle.rwsp_model.specs.declared.refusal.PartsRefusal.{PartsRefusal}
use Rattle.made_problems.specs.Generated.{range, count_on, demand_of, problem_of}

count_on-le : (weeks : ℕ) (s : List Symbol) (x j : ℕ) → count_on weeks s x j ≤ weeks
count_on-le weeks s x j =
    let few = count_by-le-length (λ i. nat_eq (get_or s (i * 7 + (j - 1)) off_symbol).number x) (range_with_len 0 weeks) in
    let long = length-range_with_len 0 weeks in
    subst (λ n. count_on weeks s x j ≤ n) long few

exact_is_small : (n : ℕ) → n ≤ MOST_WEEKS → is_small_range (range n n) ≡ true
exact_is_small n le = and_from (nat_le n MOST_WEEKS) (nat_le n MOST_WEEKS) (le-leb n MOST_WEEKS le) (le-leb n MOST_WEEKS le)

row_is_small : (f : ℕ → ℕ) (ks : List ℕ) → ((j : ℕ) → f j ≤ MOST_WEEKS) → list_all is_small_range (map (λ j. range (f j) (f j)) ks) ≡ true
row_is_small f [] small = refl
row_is_small f (k ∷ ks) small = and_from (is_small_range (range (f k) (f k))) (list_all is_small_range (map (λ j. range (f j) (f j)) ks)) (exact_is_small (f k) (small k)) (row_is_small f ks small)

demand_is_small : (f : ℕ → ℕ → ℕ) (js ks : List ℕ) → ((x j : ℕ) → f x j ≤ MOST_WEEKS) → list_all (λ row. list_all is_small_range row) (map (λ x. map (λ j. range (f x j) (f x j)) js) ks) ≡ true
demand_is_small f js [] small = refl
demand_is_small f js (k ∷ ks) small =
    and_from (list_all is_small_range (map (λ j. range (f k j) (f k j)) js)) (list_all (λ row. list_all is_small_range row) (map (λ x. map (λ j. range (f x j) (f x j)) js) ks))
    (row_is_small (f k) js (small k)) (demand_is_small f js ks small)

pub valid : (weeks : ℕ) (s : List Symbol) → 1 ≤ weeks → weeks ≤ MOST_WEEKS → IsValid (problem_of weeks s)
valid weeks s some few =
    let P = problem_of weeks s in
    let refused : Bool → Bool → Bool → Option PartsRefusal = λ a b d. limit_refusal P (position not (true ∷ a ∷ b ∷ true ∷ d ∷ true ∷ true ∷ true ∷ true ∷ [])) in
    let between : is_between 1 MOST_WEEKS weeks ≡ true = and_from (nat_le 1 weeks) (nat_le weeks MOST_WEEKS) (le-leb 1 weeks some) (le-leb weeks MOST_WEEKS few) in
    let small : nat_le (weeks * 7) MOST_CELLS ≡ true = le-leb (weeks * 7) MOST_CELLS (omega arith) in
    let ranges : list_all (λ (row : List Bounds). list_all is_small_range row) (demand_of weeks s) ≡ true =
    demand_is_small (count_on weeks s) (range_with_len 1 7) (range_with_len 1 3) (λ x j. let le = count_on-le weeks s x j in omega arith) in
    ap (λ a. refused a (nat_le (weeks * 7) MOST_CELLS) (list_all (λ (row : List Bounds). list_all is_small_range row) (demand_of weeks s))) between
    ∙ ap (λ b. refused true b (list_all (λ (row : List Bounds). list_all is_small_range row) (demand_of weeks s))) small
    ∙ ap (λ d. refused true true d) ranges
