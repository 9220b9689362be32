-- Bad windows some rounds later, and the window leaves that they are.
use Rattle.std.proofs.Common.{◌≡◌, ℕ, ◌+◌, ◌-◌, ◌*◌, ◌/◌, ◌%◌, ◌<◌, ◌≤◌, List, [], ◌∷◌, length, ap, sym, ◌∙◌, subst, arith, IsTrue, Some}
use Rattle.std.proofs.Math.Nat.{mul-add-mod_self_right}
use Rattle.std.proofs.lemmas.Nat.{div-add-mod'}
use Rattle.rwsp_terms.specs.declared.data.Symbol.{Symbol}
use Rattle.rwsp_terms.specs.declared.data.Rule.{Rule}
use Rattle.rwsp_terms.specs.declared.limits.TheConstants.{LONGEST_WORD}
use Rattle.rwsp_terms.specs.Instance.{Instance, cells}
use Rattle.refutation_terms.proofs.Windows.{bad-same_day, day_round}
use Rattle.rwsp_terms.specs.Rules.{rules, rule_of}
use Rattle.domain_store.specs.Store.{Store, has_domain}
use Rattle.domain_store.specs.declared.bad_windows.BadWindow.{BadWindow}
use Rattle.domain_store.specs.Views.{left_in, MayStand, AreAllBad}
use Rattle.domain_store.specs.BadWindows.{HasNoneOver, IsBadNear}
use Rattle.domain_store.proofs.Blocked.{all_bad_blocked, blocked_all_bad}
use Rattle.propagators.specs.Windows.{IsWindow, NoWindowOver}

-- the same position in another round

front_mod : (n a i : ℕ) → (a + i) % n ≡ (a % n + i) % n
front_mod n a i =
    let e : a + i ≡ a / n * n + (a % n + i) = omega (arith, div-add-mod' a n) in
    ap (λ k. k % n) e ∙ mul-add-mod_self_right (a / n) n (a % n + i)

later_mod : (n a b i : ℕ) → a % n ≡ b % n → (a + i) % n ≡ (b + i) % n
later_mod n a b i same = front_mod n a i ∙ ap (λ k. (k + i) % n) same ∙ sym (front_mod n b i)

stands_round : (S : Store) (a b : ℕ) (u : List Symbol) → a % length S.sets ≡ b % length S.sets → MayStand (left_in S) a u → MayStand (left_in S) b u
stands_round S a b [] same stands = tt
stands_round S a b (x ∷ u) same stands = (
  subst (λ q. IsTrue (has_domain S q x.number)) same stands.0,
  stands_round S (a + 1) (b + 1) u (later_mod (length S.sets) a b 1 same) stands.1,
)

all_bad_round : (P : Instance) (S : Store) (r : Rule) (a b len : ℕ) → length S.sets ≡ cells P → a % length S.sets ≡ b % length S.sets → AreAllBad P r (left_in S) a len → AreAllBad P r (left_in S) b len
all_bad_round P S r a b len cycle same each u long stands =
    let round : a % cells P ≡ b % cells P = ap (λ n. a % n) (sym cycle) ∙ same ∙ ap (λ n. b % n) cycle in
    let days : a % P.days ≡ b % P.days = sym (day_round a P.weeks P.days) ∙ ap (λ q. q % P.days) round ∙ day_round b P.weeks P.days in
    bad-same_day P r a b u days (each u long (stands_round S b a u (sym same) stands))

mod_mod : (n a : ℕ) → a % n ≡ a % n % n
mod_mod n a =
    let e : a % n + 0 ≡ a % n = omega arith in
    let d : a + 0 ≡ a = omega arith in
    ap (λ k. k % n) (sym d) ∙ front_mod n a 0 ∙ ap (λ k. k % n) e

-- a bad window is a window leaf that holds
pub leaf_of_window : (P : Instance) (S : Store) (r : Rule) (number later n : ℕ) (w : BadWindow) → rule_of P number ≡ Some r → 1 ≤ number → number ≤ length (rules P)
    → length S.sets ≡ cells P → 0 < cells P → n ≡ cells P → IsBadNear P r (left_in S) later w → IsWindow P S number (w.start % n) w.length
leaf_of_window P S r number later n w is some many long some_cells cells_is found =
    let some_n : 0 < n = omega (arith, some_cells, cells_is) in
    let less : w.start % n < n = omega (arith, some_n) in
    let round : n ≡ length S.sets = cells_is ∙ sym long in
    let same : w.start % length S.sets ≡ w.start % n % length S.sets = ap (λ m. w.start % m) (sym round) ∙ mod_mod n w.start ∙ ap (λ m. w.start % n % m) round in
    record {
      fits = (some, many, omega (arith, less, cells_is), (found.some, omega (arith, found.few)));
      holds = all_bad_blocked P S number r (w.start % n) w.length long is (all_bad_round P S r w.start (w.start % n) w.length long same found.bad);
    }

-- the later position at which a window begins that has the position in it
record IsStart (n later p i start : ℕ) : Type 0 where
  early : start ≤ later
  place : later ≡ start + i
  same : p % n ≡ start % n

start_before : (n q p i : ℕ) → 0 < n → q < n → p < n → (p + i) % n ≡ q → i < LONGEST_WORD → IsStart n (q + LONGEST_WORD * n) p i (q + LONGEST_WORD * n - i)
start_before n q p i some lt less over few =
    let parts : (p + i) / n * n + (p + i) % n ≡ p + i = div-add-mod' (p + i) n in
    let back : i ≤ q + LONGEST_WORD * n = omega arith in
    let whole : (p + i) / n * n + (q + LONGEST_WORD * n - i) ≡ LONGEST_WORD * n + p = omega arith in
    record {
      early = omega arith;
      place = omega arith;
      same = sym (mul-add-mod_self_right LONGEST_WORD n p) ∙ ap (λ m. m % n) (sym whole) ∙ mul-add-mod_self_right ((p + i) / n) n (q + LONGEST_WORD * n - i);
    }

pub no_window_over : (P : Instance) (S : Store) (r : Rule) (number q later : ℕ) → rule_of P number ≡ Some r → length S.sets ≡ cells P → q < cells P
    → later ≡ q + LONGEST_WORD * cells P → HasNoneOver P r (left_in S) later → NoWindowOver P S number q
no_window_over P S r number q later is long lt later_is none p len window (i, less, over) =
    let few : i < LONGEST_WORD = omega (arith, less, window.fits.3.1) in
    let some : 0 < cells P = omega (arith, lt) in
    let at = start_before (cells P) q p i some lt window.fits.2 over few in
    let start = q + LONGEST_WORD * cells P - i in
    let same : p % length S.sets ≡ start % length S.sets = ap (λ m. p % m) long ∙ at.same ∙ ap (λ m. start % m) (sym long) in
    none start len (omega (arith, at.early, later_is)) (omega (arith, at.place, less, later_is))
    (all_bad_round P S r p start len long same (blocked_all_bad P S number r p len long is window.holds))
