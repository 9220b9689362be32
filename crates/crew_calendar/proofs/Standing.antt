-- The position of an employee in the cycle.
use Rattle.std.proofs.Common.{◌≡◌, ℕ, zero, suc, ◌+◌, ◌-◌, ◌*◌, ◌/◌, ◌%◌, ◌<◌, ◌≤◌, inl, inr, List, [], ◌∷◌, length, get_or, refl, ap, sym, subst, ◌∙◌, arith, mul-le-mul_right}
use Rattle.std.specs.Prelude.{All, slice_index_or}
use Rattle.std.proofs.lemmas.Nat.{mod_below}
use Rattle.std.proofs.lemmas.Bool.{cases_order}
use Rattle.std.proofs.Math.Nat.{add-mod-mod, add-mul-mod_self_right, mod-eq_of_lt}
use Rattle.rwsp_terms.specs.declared.data.Symbol.{Symbol}
use Rattle.rwsp_terms.specs.Instance.{Instance, cells, off_symbol, IsSymbol}
use Rattle.rwsp_terms.specs.Window.{Bad, cell, window}
use Rattle.rwsp_terms.specs.Roster.{IsRoster, MeetsAll}
use Rattle.refutation_terms.proofs.Windows.{bad-same_day, no_bad_met}
use Rattle.crew_calendar.specs.Crew.{position_on, symbol_on}
use Rattle.crew_calendar.specs.Facts.{stretch, FollowsCycle, IsClean, GoesRound}

-- an employee has the symbols of the endless cycle, from his week on
pub symbol-cell : (P : Instance) (s : List Symbol) (e t : ℕ) → length s ≡ cells P → symbol_on P s e t ≡ cell s ((e - 1) * P.days + t)
symbol-cell P s e t long = ap (λ m. get_or s (((e - 1) * P.days + t) % m) off_symbol) (sym long)

stretch-window : (P : Instance) (s : List Symbol) (e t days : ℕ) → length s ≡ cells P → stretch P s e t days ≡ window s ((e - 1) * P.days + t) days
stretch-window P s e t zero long = refl
stretch-window P s e t (suc days) long =
    let here = symbol-cell P s e t long in
    let p : (e - 1) * P.days + (t + 1) ≡ (e - 1) * P.days + t + 1 = omega arith in
    let more : stretch P s e (t + 1) days ≡ window s ((e - 1) * P.days + t + 1) days = stretch-window P s e (t + 1) days long ∙ ap (λ q. window s q days) p in
    cc

pub follows_cycle : (P : Instance) (s : List Symbol) → IsRoster P s → FollowsCycle P s
follows_cycle P s roster e t days = stretch-window P s e t days roster.long

pub is_clean : (P : Instance) (s : List Symbol) → 0 < cells P → MeetsAll P s → IsClean P s
is_clean P s some meets e t days r is bad =
    let positive : 0 < length s = omega (arith, some, meets.is_roster.long) in
    let there = (e - 1) * P.days + t in
    let same_day : t % P.days ≡ there % P.days = sym (add-mul-mod_self_right t (e - 1) P.days) ∙ ap (λ n. n % P.days) (let flip : t + (e - 1) * P.days ≡ there = omega arith in flip) in
    no_bad_met P r s positive meets.is_roster.long (meets.rules r is) there days
    (bad-same_day P r t there (window s there days) same_day (subst (Bad P r t) (stretch-window P s e t days meets.is_roster.long) bad))

-- two days of one round with the same position are one
same_day : (n a k m p : ℕ) → 0 < n → k < n → m < n → (a + k) % n ≡ p → (a + m) % n ≡ p → m ≡ k
same_day n a k m p some less other here there =
    elim (cases_order ((a + k) / n) ((a + m) / n)) [
      | inl same ↦ let e : n * ((a + k) / n) ≡ n * ((a + m) / n) = ap (λ q. n * q) same in omega (arith, e)
      | inr (inl below) ↦ absurd (let le : (a + k) / n + 1 ≤ (a + m) / n = omega (arith, below) in omega (arith, mul-le-mul_right n le))
      | inr (inr above) ↦ absurd (let le : (a + m) / n + 1 ≤ (a + k) / n = omega (arith, above) in omega (arith, mul-le-mul_right n le))
    ]

-- a day of the round on which the place is reached
reached : (n a p : ℕ) → 0 < n → p < n → (k : ℕ) × (k < n) × ((a + k) % n ≡ p)
reached n a p some less =
    let rest = p + (n - a % n) in
    let small : a % n < n = mod_below a n some in
    let whole : a + rest ≡ p + (a / n + 1) * n = omega (arith, small) in (
      rest % n,
      mod_below rest n some,
      add-mod-mod a rest n ∙ ap (λ q. q % n) whole ∙ add-mul-mod_self_right p (a / n + 1) n ∙ mod-eq_of_lt less,
    )

pub goes_round : (P : Instance) → 0 < cells P → GoesRound P
goes_round P some e t p less =
    let n = cells P in
    let a = (e - 1) * P.days + t in
    let found = reached n a p some less in
    let at : (k : ℕ) → position_on P e (t + k) ≡ (a + k) % n = λ k. let e : (e - 1) * P.days + (t + k) ≡ a + k = omega arith in ap (λ q. q % n) e in (
      found.0,
      record {
        within = found.1;
        here = at found.0 ∙ found.2;
        only = λ other within there. same_day n a found.0 other p some found.1 within found.2 (sym (at other) ∙ there);
      },
    )

-- a symbol of a roster is the problem's
pub symbol_known : (P : Instance) (s : List Symbol) (p : ℕ) → All (IsSymbol P) s → IsSymbol P (slice_index_or s p off_symbol)
symbol_known P [] p all = omega arith
symbol_known P (x ∷ s) zero all = all 0 x (omega arith)
symbol_known P (x ∷ s) (suc p) all = symbol_known P s p (λ k d less. all (suc k) d (omega (arith, less)))

pub on_symbol : (P : Instance) (s : List Symbol) (e t : ℕ) (x : Symbol) → IsRoster P s → x ≡ symbol_on P s e t → IsSymbol P x
on_symbol P s e t x roster is = subst (IsSymbol P) (sym is) (symbol_known P s (position_on P e t) roster.symbols)
