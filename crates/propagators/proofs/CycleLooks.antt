-- What is seen by the words of two turns: the dead leaf, and the one that holds once a symbol is alone.
use Rattle.std.proofs.Common.{◌≡◌, ℕ, zero, suc, ◌+◌, ◌*◌, ◌%◌, ◌<◌, ◌≤◌, List, [], ◌∷◌, length, get_or, refl, ap, sym, ◌∙◌, subst, arith, Bool, true, false, not, IsTrue, Some, None}
use Rattle.std.specs.Prelude.{◌&&◌, ◌||◌, ◌==◌, slice_get}
use Rattle.std.proofs.lemmas.Bool.{eqb-true, eq-eqb}
use Rattle.std.proofs.lemmas.Nat.{mod-mul-add}
use Rattle.rwsp_terms.specs.declared.limits.TheConstants.{MOST_CELLS}
use Rattle.rwsp_terms.specs.declared.data.Symbol.{Symbol}
use Rattle.rwsp_terms.specs.Instance.{Instance, cells, symbol_numbered}
use Rattle.refutation_terms.specs.declared.lines.Line.{Line}
use Rattle.refutation_terms.specs.declared.lines.Line.TheVariants.{Split, Closing}
use Rattle.refutation_terms.specs.declared.lines.Leaf.TheVariants.{Words}
use Rattle.refutation_terms.specs.declared.lines.WordClaim.TheVariants.{Dead}
use Rattle.refutation_terms.specs.Word.{Domains, Over}
use Rattle.refutation_terms.specs.WordsLeaf.{IsDead}
use Rattle.refutation_terms.specs.Tree.{First, narrowed}
use Rattle.refutation_terms.specs.Sharp.{NoWordHas}
use Rattle.refutation_terms.proofs.Named.{clean_for_some, dead_for_all, all_are_short}
use Rattle.domain_store.specs.Sets.{has_symbol}
use Rattle.domain_store.specs.Store.{Store, has_domain}
use Rattle.domain_store.specs.Leaves.{IsHoldingLeaf}
use Rattle.domain_store.specs.Looks.{Closes, IsClosing, IsCut}
use Rattle.domain_store.specs.Cycles.{AreShortRules, IsCycleLeaf, IsCycleSpent}
use Rattle.propagators.specs.Known.{KnownCycle, knows_symbol}
use Rattle.propagators.specs.CycleCuts.{IsUnsupported}
use Rattle.propagators.specs.ShortCycles.{IsShortCycle}

pub unlike : (b : Bool) → b ≡ false → IsTrue b → ⊥
unlike b h g = cc

-- the known domains are the store's

pub dead_in_store : (C : KnownCycle) (S : Store) (len : ℕ) → C.sets ≡ S.sets → IsDead C.problem (knows_symbol C) 0 len C.rules → IsDead C.problem (has_domain S) 0 len C.rules
dead_in_store C S len e h =
    let F : List (List ℕ) → Type 0 = λ sets. IsDead C.problem (λ q y. has_symbol (get_or sets q []) y) 0 len C.rules in
    subst F e h

pub dead_known : (C : KnownCycle) (S : Store) (len : ℕ) → C.sets ≡ S.sets → IsDead C.problem (has_domain S) 0 len C.rules → IsDead C.problem (knows_symbol C) 0 len C.rules
dead_known C S len e h =
    let F : List (List ℕ) → Type 0 = λ sets. IsDead C.problem (λ q y. has_symbol (get_or sets q []) y) 0 len C.rules in
    subst F (sym e) h

-- words over domains of which one was cut to a symbol

left_part : (a b : Bool) → IsTrue (a && b) → IsTrue a
left_part true b h = refl
left_part false b h = absurd (cc)

wider : (P : Instance) (D : Domains) (line : Line) (q : ℕ) (u : List Symbol) → Over P (narrowed D line First) q u → Over P D q u
wider P D line q [] over = tt
wider P D line q (z ∷ u) over = (left_part (D (q % cells P) z.number) _ over.0, wider P D line (q + 1) u over.1)

alone_part : (a b c : Bool) → b ≡ true → IsTrue (a && (not b || c)) → c ≡ true
alone_part true true c e h = h
alone_part true false c e h = absurd (cc)
alone_part false b c e h = absurd (cc)

alone_there : (D : Domains) (p : ℕ) (x z : Symbol) → IsTrue (narrowed D (Split p x) First p z.number) → z ≡ x
alone_there D p x z h = ap symbol_numbered (eqb-true z.number x.number (alone_part (D p z.number) (p == p) (z.number == x.number) (eq-eqb p p refl) h))

has_it : (P : Instance) (D : Domains) (p q : ℕ) (x : Symbol) (u : List Symbol) (i : ℕ) → (q + i) % cells P ≡ p → i < length u → Over P (narrowed D (Split p x) First) q u → slice_get u i ≡ Some x
has_it P D p q x [] i at less over = absurd (omega (arith, less))
has_it P D p q x (z ∷ u) zero at less over =
    let e : q ≡ q + 0 = omega arith in
    let here : q % cells P ≡ p = ap (λ n. n % cells P) e ∙ at in
    ap (λ (y : Symbol). Some y) (alone_there D p x z (subst (λ n. IsTrue (narrowed D (Split p x) First n z.number)) here over.0))
has_it P D p q x (z ∷ u) (suc i) at less over =
    let e : q + 1 + i ≡ q + suc i = omega arith in
    has_it P D p (q + 1) x u i (ap (λ n. n % cells P) e ∙ at) (omega (arith, less)) over.1

small_mod : (i n : ℕ) → i < n → i % n ≡ i
small_mod i n less =
    let e : 0 * n + i ≡ i = omega arith in
    ap (λ k. k % n) (sym e) ∙ mod-mul-add 0 n i less

-- the symbol that no word has makes two turns dead once it is alone
pub dead_once_alone : (P : Instance) (D : Domains) (R : List ℕ) (p : ℕ) (x : Symbol) → p < cells P → NoWordHas P D R p x → IsDead P (narrowed D (Split p x) First) 0 (2 * cells P) R
dead_once_alone P D R p x within none u long over clean =
    let e : 0 + p ≡ p = omega arith in
    let at : (0 + p) % cells P ≡ p = ap (λ n. n % cells P) e ∙ small_mod p (cells P) within in
    none u long (wider P D (Split p x) 0 u over) clean (has_it P D p 0 x u p at (omega (arith, long, within)) over)

-- what the looks say

cycle_leaf : (C : KnownCycle) (D : Domains) → 0 < cells C.problem → cells C.problem ≤ MOST_CELLS → AreShortRules C.problem C.rules → IsDead C.problem D 0 (2 * cells C.problem) C.rules
    → IsHoldingLeaf C.problem None D (Closing (Words 0 C.rules (Dead (2 * cells C.problem))))
cycle_leaf C D some few short dead = record {
  leaf = tt;
  fits = (some, (omega (arith, some), omega (arith, few)), short.are_rules);
  short = all_are_short C.problem C.rules short.all_short;
  holds = dead;
}

pub closed_cycle : (C : KnownCycle) (S : Store) (line : Line) → line ≡ Closing (Words 0 C.rules (Dead (2 * cells C.problem))) → IsShortCycle C S → 0 < cells C.problem → cells C.problem ≤ MOST_CELLS → IsDead C.problem (knows_symbol C) 0 (2 * cells C.problem) C.rules
    → IsClosing C.problem (IsCycleLeaf C.problem) S line
closed_cycle C S line is h some few dead = subst (λ (l : Line). IsClosing C.problem (IsCycleLeaf C.problem) S l) (sym is) (
  (refl, refl, h.short),
  cycle_leaf C (has_domain S) some few h.short (dead_in_store C S (2 * cells C.problem) h.stands.sets dead),
)

same_dead : (C : KnownCycle) (S : Store) (p len : ℕ) (R : List ℕ) → IsShortCycle C S → p ≡ 0 → len ≡ 2 * cells C.problem → AreShortRules C.problem R → IsDead C.problem (has_domain S) p len R → IsDead C.problem (knows_symbol C) 0 (2 * cells C.problem) C.rules
same_dead C S p len R h start turns short dead =
    let P : ℕ → Type 0 = λ q. IsDead C.problem (has_domain S) q len R in
    let Q : ℕ → Type 0 = λ n. IsDead C.problem (has_domain S) 0 n R in
    dead_known C S (2 * cells C.problem) h.stands.sets
    (dead_for_all C.problem (has_domain S) 0 (2 * cells C.problem) C.rules R h.short.all_short (all_are_short C.problem R short.all_short) (subst Q turns (subst P start dead)))

pub none_closes : (C : KnownCycle) (S : Store) → IsShortCycle C S → (IsDead C.problem (knows_symbol C) 0 (2 * cells C.problem) C.rules → ⊥) → Closes C.problem (IsCycleLeaf C.problem) S → ⊥
none_closes C S h alive (Closing (Words p R (Dead len)), among, holds) = alive (same_dead C S p len R h among.0 among.1 among.2 holds)
none_closes C S h alive (line, among, holds) = absurd among

pub cut_cycle : (C : KnownCycle) (S : Store) (p : ℕ) (x : Symbol) (line : Line) → line ≡ Closing (Words 0 C.rules (Dead (2 * cells C.problem))) → IsShortCycle C S → 0 < cells C.problem → cells C.problem ≤ MOST_CELLS → IsUnsupported C S p x
    → IsCut C.problem (IsCycleSpent C.problem (has_domain S)) S p x line
cut_cycle C S p x line is h some few u = subst (λ (l : Line). IsCut C.problem (IsCycleSpent C.problem (has_domain S)) S p x l) (sym is) (record {
  is_spent = record { position = u.position; useful = u.useful; short = C.rules; all_short = h.short.all_short; nowhere = u.nowhere };
  position = u.position;
  useful = u.useful;
  unweighed = tt;
  leaf = cycle_leaf C (narrowed (has_domain S) (Split p x) First) some few h.short (dead_once_alone C.problem (has_domain S) C.rules p x u.position u.nowhere);
})

pub none_spent : (C : KnownCycle) (S : Store) → IsShortCycle C S → ((p : ℕ) (x : Symbol) → IsUnsupported C S p x → ⊥) → (p : ℕ) (x : Symbol) → IsCycleSpent C.problem (has_domain S) p x → ⊥
none_spent C S h none p x s = none p x (record {
  position = s.position;
  useful = s.useful;
  nowhere = λ u long over clean has.
      s.nowhere u long over (clean_for_some C.problem C.rules s.short 0 u h.short.all_short (all_are_short C.problem s.short s.all_short) clean) has;
})
