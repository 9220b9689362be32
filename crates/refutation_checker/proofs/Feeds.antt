-- Counting the LF of a text.
use Rattle.std.proofs.Common.{◌≡◌, ◌≢◌, ℕ, ◌+◌, ◌-◌, ◌*◌, ◌/◌, ◌%◌, ◌<◌, ◌≤◌, min, List, [], ◌++◌, length, take, drop, get_or, ap, sym, ◌∙◌, arith, Bool, true, false, cond, ◌==◌, refl, length-append, inl, inr}
use Rattle.std.specs.List.{between}
use Rattle.std.proofs.lemmas.Bool.{eq-eqb, eqb-true, cases_lt}
use Rattle.std.proofs.lemmas.Grind.{div_ceil_times}
use Rattle.std.proofs.Math.Nat.{mul-le-mul_right}
use Rattle.std.proofs.Math.Seq.{take-add}
use Rattle.std.proofs.lemmas.List.Edits.{length-between, get_or-between}
use Rattle.std.proofs.lemmas.List.{take_all, take-take, get_or-append-add}
use Rattle.std.proofs.lemmas.List.Sums.{count_by_more_yes, count_by_more_no, sum_by-append}
use Rattle.refutation_checker.specs.Chunks.{EndsLines, feeds, line_count, IsFew}
use Rattle.refutation_log.proofs.LogLines.{some_bytes}

pub fed : (bytes : List ℕ) (i : ℕ) → i < length bytes → get_or bytes i 0 ≡ 10 → feeds (take (i + 1) bytes) ≡ feeds (take i bytes) + 1
fed bytes i less e = count_by_more_yes (λ b. b == 10) bytes i 0 less (eq-eqb (get_or bytes i 0) 10 e)

other : (n : ℕ) (t : Bool) → (n == 10) ≡ t → (n ≡ 10 → ⊥) → t ≡ false
other n true e h = absurd (h (eqb-true n 10 e))
other n false e h = refl

pub not_fed : (bytes : List ℕ) (i : ℕ) → i < length bytes → (get_or bytes i 0 ≡ 10 → ⊥) → feeds (take (i + 1) bytes) ≡ feeds (take i bytes)
not_fed bytes i less h = count_by_more_no (λ b. b == 10) bytes i 0 less (other (get_or bytes i 0) (get_or bytes i 0 == 10) refl h)

pub fed_in_all : (bytes : List ℕ) (i : ℕ) → length bytes ≤ i → feeds (take i bytes) ≡ feeds bytes
fed_in_all bytes i le = ap feeds (take_all i bytes le)

pub fed_at_end : (bytes : List ℕ) → 0 < length bytes → get_or bytes (length bytes - 1) 0 ≡ 10 → 1 ≤ feeds bytes
fed_at_end bytes some e =
    let last : length bytes - 1 < length bytes = omega (arith, some) in
    let one = fed bytes (length bytes - 1) last e in
    let all = fed_in_all bytes (length bytes - 1 + 1) (omega (arith, some)) in
    omega (arith, one, all)

pub feeds_joined : (a b : List ℕ) → feeds (a ++ b) ≡ feeds a + feeds b
feeds_joined a b = sum_by-append (λ c. cond (c == 10) 1 0) a b

last_of : (a b : List ℕ) → b ≢ [] → get_or (a ++ b) (length (a ++ b) - 1) 0 ≡ get_or b (length b - 1) 0
last_of a b some =
    let long : length (a ++ b) ≡ length a + length b = length-append a b in
    let one = some_bytes b some in
    let there : length (a ++ b) - 1 ≡ length a + (length b - 1) = omega (arith, long, one) in
    ap (λ n. get_or (a ++ b) n 0) there ∙ get_or-append-add a b (length b - 1) 0

-- the lines of bytes in two parts, of which the first ends with LF
pub lines_of_both : (a b : List ℕ) → b ≢ [] → line_count (a ++ b) ≡ feeds a + line_count b
lines_of_both a b some =
    let parts = feeds_joined a b in
    let last : ◌≡◌ {A = ℕ} (cond (get_or (a ++ b) (length (a ++ b) - 1) 0 == 10) 0 1) (cond (get_or b (length b - 1) 0 == 10) 0 1) = ap (λ n. cond (n == 10) 0 1) (last_of a b some) in
    omega (arith, parts, last)

pub some_line : (bytes : List ℕ) → bytes ≢ [] → 1 ≤ line_count bytes
some_line bytes some = by_last (get_or bytes (length bytes - 1) 0 == 10) refl
  where
    by_last : (t : Bool) → (get_or bytes (length bytes - 1) 0 == 10) ≡ t → 1 ≤ line_count bytes
    by_last true e = let fed = fed_at_end bytes (some_bytes bytes some) (eqb-true (get_or bytes (length bytes - 1) 0) 10 e) in omega (arith, fed)
    by_last false e = let one : ◌≡◌ {A = ℕ} (cond (get_or bytes (length bytes - 1) 0 == 10) 0 1) 1 = ap (λ b. cond b 0 1) e in omega (arith, one)

-- so few chunks (`IsFew`) are at most one for each worker
pub one_for_each : (k size workers : ℕ) (bytes : List ℕ) → IsFew k size bytes → size ≡ line_count bytes / workers + min 1 (line_count bytes % workers) → 0 < workers → k ≤ workers
one_for_each k size workers bytes few is some =
    elim (cases_lt workers k) [
      | inl more ↦
          let enough = (div_ceil_times (line_count bytes) workers some).0 in
          let e : (line_count bytes / workers + min 1 (line_count bytes % workers)) * workers ≡ size * workers = ap (λ n. n * workers) (sym is) in
          let le : (workers + 1) * size ≤ k * size = mul-le-mul_right {m = workers + 1} {n = k} size (omega (arith, more)) in
          absurd (omega (arith, few, enough, e, le))
      | inr le ↦ le
    ]

-- by the test of a byte
pub fed_or_not : (bytes : List ℕ) (i : ℕ) → i < length bytes → feeds (take (i + 1) bytes) ≡ feeds (take i bytes) + cond (get_or bytes i 0 == 10) 1 0
fed_or_not bytes i less = by_test (get_or bytes i 0 == 10) refl
  where
    by_test : (t : Bool) → (get_or bytes i 0 == 10) ≡ t → feeds (take (i + 1) bytes) ≡ feeds (take i bytes) + cond t 1 0
    by_test true e = fed bytes i less (eqb-true (get_or bytes i 0) 10 e)
    by_test false e = let same = not_fed bytes i less (λ h. absurd (let yes_it_is = eq-eqb (get_or bytes i 0) 10 h in cc)) in omega (arith, same)

-- the bytes of a block behind the first ones

fed_behind : (bytes : List ℕ) (at n : ℕ) → feeds (take (at + n) bytes) ≡ feeds (take at bytes) + feeds (take n (drop at bytes))
fed_behind bytes at n = ap feeds (take-add at n bytes) ∙ feeds_joined (take at bytes) (take n (drop at bytes))

pub fed_by_block : (bytes : List ℕ) (at end : ℕ) → at ≤ end → feeds (take end bytes) ≡ feeds (take at bytes) + feeds (between at end bytes)
fed_by_block bytes at end le =
    let there : at + (end - at) ≡ end = omega (arith, le) in
    ap (λ n. feeds (take n bytes)) (sym there) ∙ fed_behind bytes at (end - at)

pub ends_in_block : (bytes : List ℕ) (at end count size n : ℕ) → at ≤ end → end ≤ length bytes → count ≡ feeds (take at bytes) → count < size → (0 < n) × (n ≤ length (between at end bytes)) → feeds (take n (between at end bytes)) ≡ size - count → get_or (between at end bytes) (n - 1) 0 ≡ 10 → EndsLines bytes size (at + n)
ends_in_block bytes at end count size n le within is less inside fed last =
    let long : length (between at end bytes) ≡ end - at = length-between bytes at end within in
    let short : n ≤ end - at = omega (arith, inside.1, long) in
    let same : take n (between at end bytes) ≡ take n (drop at bytes) = take-take n (end - at) (drop at bytes) short in
    let there : at + n - 1 ≡ at + (n - 1) = omega (arith, inside.0) in
    let here : at + (n - 1) < end = omega (arith, inside.0, short, le) in
    let all : feeds (take (at + n) bytes) ≡ size = omega (arith, fed_behind bytes at n, ap feeds same, fed, is, less) in
    inl (all, ap (λ k. get_or bytes k 0) there ∙ sym (get_or-between bytes at end (n - 1) 0 here) ∙ last)
