-- The endless word of a hidden roster walks.
use Rattle.std.proofs.Common.{◌≡◌, ℕ, zero, suc, ◌+◌, ◌-◌, ◌*◌, ◌<◌, ◌≤◌, List, [], ◌∷◌, ◌++◌, length, get_or, Bool, true, false, ◌&&◌, eqb, refl, ap, sym, subst, ◌∙◌, arith}
use Rattle.std.proofs.Common.{◌≢◌}
use Rattle.std.specs.List.{AllByRecursion, list_all, range_with_len}
use Rattle.std.proofs.lemmas.Bool.{and_parts}
use Rattle.std.proofs.lemmas.Bool.Decides.{Decides-eqb}
use Rattle.std.proofs.lemmas.List.{ext_get_or}
use Rattle.std.proofs.Math.Nat.{add-mod_right, mod-eq_of_lt, suc-mul, mul-le-mul_left, mul-one}
use Rattle.rwsp_terms.specs.Instance.{off_symbol}
use Rattle.rwsp_terms.specs.Window.{window, cell}
use Rattle.rwsp_terms.specs.declared.data.Symbol.{Symbol}
use Rattle.rwsp_terms.proofs.Windows.{length-window, get_or-window, window-add}
use Rattle.made_problems.specs.Stints.{IsUsual}
use Rattle.made_problems.specs.Blocks.{block, work_blocks, blocks_of, cells_of, roster_of}
use Rattle.made_problems.specs.declared.stint.Stint.{Stint}
use Rattle.made_problems.specs.declared.stint.Pattern.{Pattern}
use Rattle.made_problems.specs.declared.stint.Pattern.TheVariants.{Day, Afternoon, Night}
use Rattle.made_problems.proofs.Walking.{Stand, walks, stand_after, stand_after-append, walks_both, walks_front, walks_back}

-- after some days off
abbrev pub resting : ℕ → Stand
resting off = record { symbol = 0; same = off; stretch = off }

abbrev is_resting : ℕ → Stand → Bool
is_resting off e = eqb e.symbol 0 && (eqb e.same off && eqb e.stretch off)

abbrev stand_of : ℕ → ℕ → ℕ → Stand
stand_of x a b = record { symbol = x; same = a; stretch = b }

resting_from : (off : ℕ) (e : Stand) → is_resting off e ≡ true → e ≡ resting off
resting_from off e h =
    let p = and_parts (eqb e.symbol 0) (eqb e.same off && eqb e.stretch off) h in
    let q = and_parts (eqb e.same off) (eqb e.stretch off) p.1 in
    ap (λ x. stand_of x e.same e.stretch) ((Decides-eqb e.symbol 0).0 p.0)
    ∙ ap (λ a. stand_of 0 a e.stretch) ((Decides-eqb e.same off).0 q.0)
    ∙ ap (λ b. stand_of 0 off b) ((Decides-eqb e.stretch off).0 q.1)

abbrev stint_cells : Pattern → ℕ → ℕ → List Symbol
stint_cells p work off = cells_of (work_blocks p work ++ block 0 off ∷ [])

-- the stint walks behind some days off, and then stands after its own
abbrev stint_walks : Pattern → ℕ → ℕ → ℕ → Bool
stint_walks p work off before = walks (resting before) (stint_cells p work off) && is_resting off (stand_after (resting before) (stint_cells p work off))

-- each usual stint does behind each number of days off, tried one by one
each_stint_walks : (p : Pattern) → list_all (λ work. list_all (λ off. list_all (λ before. stint_walks p work off before) (range_with_len 2 3)) (range_with_len 2 3)) (range_with_len 4 4) ≡ true
each_stint_walks Day = refl
each_stint_walks Afternoon = refl
each_stint_walks Night = refl

not_both : (b : Bool) → b ≡ true → b ≡ false → ⊥
not_both b p q = cc

in_range : (test : ℕ → Bool) (a n i : ℕ) → list_all test (range_with_len a n) ≡ true → a ≤ i → i < a + n → test i ≡ true
in_range test a zero i all from below = absurd (omega (arith, from, below))
in_range test a (suc n) i all from below =
    let p = and_parts (test a) (list_all test (range_with_len (a + 1) n)) all in
    elim (eqb i a) as (λ (b : Bool). eqb i a ≡ b → test i ≡ true) [
      | true ↦ λ t. ap test ((Decides-eqb i a).0 t) ∙ p.0
      | false ↦ λ f. in_range test (a + 1) n i p.1 (let other : i ≢ a = λ e. not_both (eqb i a) ((Decides-eqb i a).1 e) f in omega arith) (omega (arith, below))
    ] refl

usual_walks : (t : Stint) (before : ℕ) → IsUsual t → 2 ≤ before → before ≤ 4 → (walks (resting before) (cells_of (blocks_of t)) ≡ true) × (stand_after (resting before) (cells_of (blocks_of t)) ≡ resting t.off)
usual_walks t before usual some few =
    let works = in_range (λ work. list_all (λ off. list_all (λ o. stint_walks t.pattern work off o) (range_with_len 2 3)) (range_with_len 2 3)) 4 4 t.work (each_stint_walks t.pattern) usual.0 (let l = usual.1 in omega arith) in
    let offs = in_range (λ off. list_all (λ o. stint_walks t.pattern t.work off o) (range_with_len 2 3)) 2 3 t.off works usual.2 (let l = usual.3 in omega arith) in
    let here = in_range (λ o. stint_walks t.pattern t.work t.off o) 2 3 before offs some (omega arith) in
    let p = and_parts (walks (resting before) (stint_cells t.pattern t.work t.off)) (is_resting t.off (stand_after (resting before) (stint_cells t.pattern t.work t.off))) here in
    (p.0, resting_from t.off (stand_after (resting before) (stint_cells t.pattern t.work t.off)) p.1)

-- the days off at the end
abbrev last_off : ℕ → List Stint → ℕ
last_off off [] = off
last_off off (t ∷ ts) = last_off t.off ts

last_off_is_usual : (off : ℕ) (ts : List Stint) → 2 ≤ off → off ≤ 4 → AllByRecursion IsUsual ts → (2 ≤ last_off off ts) × (last_off off ts ≤ 4)
last_off_is_usual off [] some few h = (some, few)
last_off_is_usual off (t ∷ ts) some few h = last_off_is_usual t.off ts h.0.2 h.0.3 h.1

roster_walks : (off : ℕ) (ts : List Stint) → 2 ≤ off → off ≤ 4 → AllByRecursion IsUsual ts → (walks (resting off) (roster_of ts) ≡ true) × (stand_after (resting off) (roster_of ts) ≡ resting (last_off off ts))
roster_walks off [] some few h = (refl, refl)
roster_walks off (t ∷ ts) some few h =
    let first = usual_walks t off h.0 some few in
    let rest = roster_walks t.off ts h.0.2 h.0.3 h.1 in
    let front = cells_of (blocks_of t) in (
      walks_both (resting off) front (roster_of ts) first.0 (subst (λ e. walks e (roster_of ts) ≡ true) (sym first.1) rest.0),
      stand_after-append (resting off) front (roster_of ts) ∙ ap (λ e. stand_after e (roster_of ts)) first.1 ∙ rest.1,
    )

-- the endless word is the cells again and again
window-whole : (s : List Symbol) → window s 0 (length s) ≡ s
window-whole s =
    ext_get_or off_symbol (window s 0 (length s)) s (length-window s 0 (length s))
    (λ i less.
    let within : i < length s = subst (λ n. i < n) (length-window s 0 (length s)) less in
    let e : 0 + i ≡ i = omega arith in
    get_or-window s 0 (length s) i off_symbol within ∙ ap (cell s) e ∙ ap (λ q. get_or s q off_symbol) (mod-eq_of_lt within))

window-round : (s : List Symbol) (p len : ℕ) → window s (p + length s) len ≡ window s p len
window-round s p zero = refl
window-round s p (suc len) =
    let here : cell s (p + length s) ≡ cell s p = ap (λ q. get_or s q off_symbol) (add-mod_right p (length s)) in
    let e : p + length s + 1 ≡ p + 1 + length s = omega arith in
    ap (λ x. x ∷ window s (p + length s + 1) len) here
    ∙ ap (λ w. cell s p ∷ w) (ap (λ q. window s q len) e ∙ window-round s (p + 1) len)

window-again : (s : List Symbol) (n : ℕ) → window s 0 (length s + n) ≡ s ++ window s 0 n
window-again s n =
    window-add s 0 (length s) n
    ∙ ap (λ w. w ++ window s (0 + length s) n) (window-whole s)
    ∙ ap (λ w. s ++ w) (window-round s 0 n)

walks_on : (s : List Symbol) (e : Stand) (k : ℕ) → walks e s ≡ true → stand_after e s ≡ e → walks e (window s 0 (k * length s)) ≡ true
walks_on s e zero w back = let none : 0 * length s ≡ 0 = omega arith in subst (λ n. walks e (window s 0 n) ≡ true) (sym none) refl
walks_on s e (suc k) w back =
    let more : suc k * length s ≡ length s + k * length s = omega (arith, suc-mul k (length s)) in
    let rest = walks_on s e k w back in
    subst (λ u. walks e u ≡ true) (sym (ap (window s 0) more ∙ window-again s (k * length s)))
    (walks_both e s (window s 0 (k * length s)) w (subst (λ f. walks f (window s 0 (k * length s)) ≡ true) (sym back) rest))

window_walks : (s : List Symbol) (e : Stand) (p len : ℕ) → 0 < length s → walks e s ≡ true → stand_after e s ≡ e → (f : Stand) × (walks f (window s p len) ≡ true)
window_walks s e p len some w back =
    let room : (p + len) * 1 ≤ (p + len) * length s = mul-le-mul_left (p + len) some in
    let one = mul-one (p + len) in
    let m = (p + len) * length s - (p + len) in
    let split : (p + len) * length s ≡ p + (len + m) = omega arith in
    let all = walks_on s e (p + len) w back in
    let parts : window s 0 ((p + len) * length s) ≡ window s 0 p ++ window s (0 + p) (len + m) = ap (window s 0) split ∙ window-add s 0 p (len + m) in
    let behind = walks_back e (window s 0 p) (window s (0 + p) (len + m)) (subst (λ u. walks e u ≡ true) parts all) in
    let zeroth : 0 + p ≡ p = omega arith in
    let f = stand_after e (window s 0 p) in
    let here : walks f (window s p (len + m)) ≡ true = subst (λ q. walks f (window s q (len + m)) ≡ true) zeroth behind in
    (f, walks_front f (window s p len) (window s (p + len) m) (subst (λ u. walks f u ≡ true) (window-add s p len m) here))

-- each part of the endless word of usual stints walks
pub part_walks : (ts : List Stint) (p len : ℕ) → 0 < length (roster_of ts) → AllByRecursion IsUsual ts → (f : Stand) × (walks f (window (roster_of ts) p len) ≡ true)
part_walks [] p len some h = absurd (omega (arith, some))
part_walks (t ∷ ts) p len some h =
    let off = last_off t.off ts in
    let usual = last_off_is_usual t.off ts h.0.2 h.0.3 h.1 in
    let whole = roster_walks off (t ∷ ts) usual.0 usual.1 h in
    window_walks (roster_of (t ∷ ts)) (resting off) p len some whole.0 whole.1

-- the cells themselves walk
pub cells_walk : (ts : List Stint) → AllByRecursion IsUsual ts → (e : Stand) × (walks e (roster_of ts) ≡ true)
cells_walk ts h = (resting 2, (roster_walks 2 ts (omega arith) (omega arith) h).0)
