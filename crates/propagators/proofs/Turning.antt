-- What the marks of a cycle say of words, and what they become where a domain changes.
use Rattle.std.proofs.Common.{◌≡◌, ◌≢◌, ◌⊎◌, inl, inr, ℕ, ◌+◌, ◌-◌, ◌*◌, ◌%◌, ◌<◌, ◌≤◌, List, [], ◌∷◌, length, get_or, set, refl, ap, sym, ◌∙◌, subst, arith, Bool, true, false, not, IsTrue, get_or-set_same, get_or-set_other}
use Rattle.std.specs.Prelude.{◌↔◌}
use Rattle.std.proofs.lemmas.Bool.{cases_eq, cases_lt}
use Rattle.std.proofs.lemmas.List.{length-set, ext_get_or}
use Rattle.std.proofs.lemmas.Nat.{mod-mul-add}
use Rattle.rwsp_terms.specs.declared.data.Symbol.{Symbol}
use Rattle.rwsp_terms.specs.Instance.{Instance, cells, shift_count}
use Rattle.refutation_terms.specs.Word.{Over}
use Rattle.refutation_terms.specs.WordsLeaf.{IsDead}
use Rattle.refutation_terms.specs.Sharp.{NoWordHas}
use Rattle.domain_store.specs.Sets.{has_symbol}
use Rattle.domain_store.specs.Store.{Store, BelongsTo, IsStore, domain_at}
use Rattle.clean_words.specs.declared.step.Step.{Step}
use Rattle.clean_words.proofs.FromFirstDay.{clean_first, reads_first}
use Rattle.clean_words.specs.Automata.{RuleAutomaton, HasSymbolsOf}
use Rattle.propagators.specs.declared.marks.Way.{Way}
use Rattle.propagators.specs.declared.marks.Way.TheVariants.{On, Back}
use Rattle.propagators.specs.Known.{KnownCycle, known, knows_symbol, KnowsDomains, KnowsAllBut}
use Rattle.propagators.specs.Marks.{is_marked, row_at, has_on, IsPass, MendsFront, MendsBack, IsWide}
use Rattle.propagators.specs.KeptCycle.{IsCycle, HasJoiningStep}
use Rattle.propagators.proofs.TwoTurns.{Held, GoesOn, goes_on, word_has, has_support}

-- words over the known domains, by the days
held_of_over : (A : RuleAutomaton) (sets : List (List ℕ)) (p : ℕ) (u : List Symbol) → length sets ≡ cells A.problem → Over A.problem (knows_symbol (known A sets)) p u → Held (has_on sets) p u
held_of_over A sets p [] long over = tt
held_of_over A sets p (x ∷ u) long over =
    let P : ℕ → Type 0 = λ n. IsTrue (has_symbol (get_or sets (p % n) []) x.number) in
    (subst P (sym long) over.0, held_of_over A sets (p + 1) u long over.1)

over_of_held : (A : RuleAutomaton) (sets : List (List ℕ)) (p : ℕ) (u : List Symbol) → length sets ≡ cells A.problem → Held (has_on sets) p u → Over A.problem (knows_symbol (known A sets)) p u
over_of_held A sets p [] long held = tt
over_of_held A sets p (x ∷ u) long held =
    let P : ℕ → Type 0 = λ n. IsTrue (has_symbol (get_or sets (p % n) []) x.number) in
    (subst P long held.0, over_of_held A sets (p + 1) u long held.1)

symbols_of_held : (P : Instance) (sets : List (List ℕ)) (p : ℕ) (u : List Symbol) → ((q x : ℕ) → IsTrue (has_symbol (get_or sets q []) x) → x ≤ shift_count P) → Held (has_on sets) p u → HasSymbolsOf P u
symbols_of_held P sets p [] small held = tt
symbols_of_held P sets p (x ∷ u) small held = (small (p % length sets) x.number held.0, symbols_of_held P sets (p + 1) u small held.1)

-- two turns are dead where the first state leads nowhere
pub dead_by : {A : RuleAutomaton} {sets front back : List (List ℕ)} (c : IsCycle A sets front back) (mark : Bool) → mark ≡ is_marked (row_at back 0) 0
    → IsTrue (not mark) ↔ IsDead A.problem (knows_symbol (known A sets)) 0 (2 * cells A.problem) A.rules
dead_by {A} {sets} {front} {back} c mark is = (
  λ dead u long over clean.
      let held = held_of_over A sets 0 u c.long over in
      let leads = clean_first A c.automaton u (symbols_of_held A.problem sets 0 u c.small held) clean in
      let all : 0 + length u ≡ 2 * cells A.problem = omega (arith, long) in
      both mark dead (is ∙ goes.1 (record { word = u; long = all; end = leads.0; leads = leads.1; held = held })),
  λ dead. neither mark (λ marked.
      let g = goes.0 (sym is ∙ marked) in
      let long : length g.word ≡ 2 * cells A.problem = omega (arith, g.long) in
      dead g.word long (over_of_held A sets 0 g.word c.long g.held) (reads_first A c.automaton g.word g.end g.leads)),
)
  where
    goes : IsTrue (is_marked (row_at back 0) 0) ↔ GoesOn A (has_on sets) 0 0
    goes = goes_on c (2 * cells A.problem) 0 (omega arith) 0 c.automaton.some

    both : (b : Bool) → IsTrue (not b) → IsTrue b → ⊥
    both true n h = cc
    both false n h = cc

    neither : (b : Bool) → (IsTrue b → ⊥) → IsTrue (not b)
    neither true n = absurd (n refl)
    neither false n = refl

small_mod : (i n : ℕ) → i < n → i % n ≡ i
small_mod i n less =
    let e : 0 * n + i ≡ i = omega arith in
    ap (λ k. k % n) (sym e) ∙ mod-mul-add 0 n i less

on_place : (sets : List (List ℕ)) (p x : ℕ) → p < length sets → has_on sets p x ≡ has_symbol (get_or sets p []) x
on_place sets p x less = ap (λ q. has_symbol (get_or sets q []) x) (small_mod p (length sets) less)

-- a word has the symbol where a step joins by it
pub supported_by : {A : RuleAutomaton} {sets front back : List (List ℕ)} (c : IsCycle A sets front back) (p : ℕ) (x : Symbol) → p < cells A.problem
    → IsTrue (has_symbol (get_or sets p []) x.number) → HasJoiningStep A.steps x (row_at front p) (row_at back (p + 1)) → NoWordHas A.problem (knows_symbol (known A sets)) A.rules p x → ⊥
supported_by {A} {sets} {front} {back} c p x within held joins none =
    let w = word_has c p x (omega (arith, within)) (on_place sets p x.number (omega (arith, within, c.long)) ∙ held) joins in
    none w.word w.long (over_of_held A sets 0 w.word c.long w.held) (reads_first A c.automaton w.word w.end w.leads) w.has

-- no word has it where none joins, or where it isn't left
pub nowhere_by : {A : RuleAutomaton} {sets front back : List (List ℕ)} (c : IsCycle A sets front back) (p : ℕ) (x : Symbol) → p < cells A.problem
    → (IsTrue (has_symbol (get_or sets p []) x.number) → HasJoiningStep A.steps x (row_at front p) (row_at back (p + 1)) → ⊥) → NoWordHas A.problem (knows_symbol (known A sets)) A.rules p x
nowhere_by {A} {sets} {front} {back} c p x within none u long over clean has =
    let held = held_of_over A sets 0 u c.long over in
    let leads = clean_first A c.automaton u (symbols_of_held A.problem sets 0 u c.small held) clean in
    let s = has_support c p x (omega (arith, within)) (record { word = u; long = long; end = leads.0; leads = leads.1; held = held; has = has }) in
    none (sym (on_place sets p x.number (omega (arith, within, c.long))) ∙ s.0) s.1

-- one domain has changed
apart : (i p n : ℕ) → p < n → i < 2 * n → i ≢ p → i ≢ p + n → i % n ≢ p
apart i p n within less here there e =
    elim (below_or i n) [
      | inl low ↦ here (sym (small_mod i n low) ∙ e)
      | inr high ↦
          let r : i - n < n = omega arith in
          let m : 1 * n + (i - n) ≡ i = omega arith in
          let f : i - n ≡ p = sym (mod-mul-add 1 n (i - n) r) ∙ ap (λ k. k % n) m ∙ e in
          there (omega arith)
    ]
  where
    below_or : (a b : ℕ) → (a < b) ⊎ (b ≤ a)
    below_or a b = cases_lt a b

other_day : (sets : List (List ℕ)) (p : ℕ) (s : List ℕ) (i : ℕ) → p < length sets → i < 2 * length sets → i ≢ p → i ≢ p + length sets → get_or (set sets p s) (i % length (set sets p s)) [] ≡ get_or sets (i % length sets) []
other_day sets p s i within less here there =
    ap (λ n. get_or (set sets p s) (i % n) []) (length-set sets p s)
    ∙ get_or-set_other sets p (i % length sets) s [] (apart i p (length sets) within less here there)

step_kept : (way : Way) (steps : List Step) (sets : List (List ℕ)) (p : ℕ) (s : List ℕ) (i : ℕ) (row next : List ℕ) → p < length sets → i < 2 * length sets → i ≢ p → i ≢ p + length sets → IsPass way steps (has_on sets i) row next → IsPass way steps (has_on (set sets p s) i) row next
step_kept way steps sets p s i row next within less here there step =
    let P : List ℕ → Type 0 = λ d. IsPass way steps (has_symbol d) row next in
    subst P (sym (other_day sets p s i within less here there)) step

-- the two days of a position are mended in the front
pub record FrontPut (steps : List Step) (sets : List (List ℕ)) (p n : ℕ) (front front1 front2 : List (List ℕ)) : Type 0 where
  pub one : MendsFront steps sets p front front1
  pub two : MendsFront steps sets (p + n) front1 front2
  pub first : row_at front2 0 ≡ row_at front 0
  pub long1 : length front1 ≡ length front
  pub long2 : length front2 ≡ length front1
  pub wide : (w : ℕ) → IsWide front w → IsWide front2 w

-- and in the back
pub record BackPut (steps : List Step) (sets : List (List ℕ)) (p n : ℕ) (back back1 back2 : List (List ℕ)) : Type 0 where
  pub two : MendsBack steps sets (p + n) back back1
  pub one : MendsBack steps sets p back1 back2
  pub last : (i : ℕ) → p + n < i → row_at back2 i ≡ row_at back i
  pub long1 : length back1 ≡ length back
  pub long2 : length back2 ≡ length back1
  pub wide : (w : ℕ) → IsWide back w → IsWide back2 w

pub mended : {A : RuleAutomaton} {sets front back : List (List ℕ)} (c : IsCycle A sets front back) (p : ℕ) (s : List ℕ) (front1 front2 back1 back2 : List (List ℕ))
    → p < length sets → ((x : ℕ) → IsTrue (has_symbol s x) → x ≤ shift_count A.problem)
    → FrontPut A.steps (set sets p s) p (length sets) front front1 front2 → BackPut A.steps (set sets p s) p (length sets) back back1 back2
    → IsCycle A (set sets p s) front2 back2
mended {A} {sets} {front} {back} c p s front1 front2 back1 back2 within small f b = record {
  automaton = c.automaton;
  some = c.some;
  few = c.few;
  long = length-set sets p s ∙ c.long;
  small = λ q x has. elim (cases_eq q p) [
    | inl same ↦
        let read : get_or (set sets p s) q [] ≡ s = ap (λ k. get_or (set sets p s) k []) same ∙ get_or-set_same sets p s [] within in
        let P : List ℕ → Type 0 = λ d. IsTrue (has_symbol d x) in
        small x (subst P read has)
    | inr other ↦
        let P : List ℕ → Type 0 = λ d. IsTrue (has_symbol d x) in
        c.small q x (subst P (get_or-set_other sets p q s [] other) has)
  ];
  width = c.width;
  fits = c.fits;
  front_long = f.long2 ∙ f.long1 ∙ c.front_long;
  front_wide = f.wide c.width c.front_wide;
  first = (let P : List ℕ → Type 0 = λ r. (t : ℕ) → IsTrue (is_marked r t) ↔ (0 ≡ t) in subst P (sym f.first) c.first);
  fronts = λ i less.
      f.two i (omega (arith, less, f.long1, f.long2, c.front_long)) (λ there. f.one i (omega (arith, less, f.long1, c.front_long)) (λ here. step_kept On A.steps sets p s i (row_at front i) (row_at front (i + 1)) within (omega (arith, less, c.long)) here there (c.fronts i less)));
  back_long = b.long2 ∙ b.long1 ∙ c.back_long;
  back_wide = b.wide c.width c.back_wide;
  last = (let P : List ℕ → Type 0 = λ r. (k : ℕ) → k < length A.moves → IsTrue (is_marked r k) in
      subst P (sym (b.last (2 * cells A.problem) (omega (arith, within, c.long)))) c.last);
  backs = λ i less.
      b.one i (omega (arith, less, b.long1, b.long2, c.back_long)) (λ here. b.two i (omega (arith, less, b.long1, c.back_long)) (λ there. step_kept Back A.steps sets p s i (row_at back (i + 1)) (row_at back i) within (omega (arith, less, c.long)) here there (c.backs i less)));
}

-- all positions taken over
pub all_known : (C : KnownCycle) (S : Store) → BelongsTo C.problem S → length C.sets ≡ length S.sets → ((q : ℕ) → q < length S.sets → get_or C.sets q [] ≡ get_or S.sets q []) → KnowsDomains C S
all_known C S belongs long done = record { belongs = belongs; sets = ext_get_or [] C.sets S.sets long (λ q less. done q (omega (arith, less, long))) }

-- one position taken over, where no other differs
pub one_known : (C D : KnownCycle) (S : Store) (p : ℕ) → D.problem ≡ C.problem → D.sets ≡ set C.sets p (domain_at S p) → KnowsAllBut C S p → p < length S.sets → length C.sets ≡ length S.sets → KnowsDomains D S
one_known C D S p same now differs within long =
    let P : Instance → Type 0 = λ z. BelongsTo z S in
    all_known D S (subst P (sym same) differs.belongs) (ap length now ∙ length-set C.sets p (domain_at S p) ∙ long) (λ q less. ap (λ z. get_or z q []) now ∙ read q)
  where
    read : (q : ℕ) → get_or (set C.sets p (domain_at S p)) q [] ≡ get_or S.sets q []
    read q = elim (cases_eq q p) [
      | inl here ↦
          ap (λ k. get_or (set C.sets p (domain_at S p)) k []) here
          ∙ get_or-set_same C.sets p (domain_at S p) [] (omega (arith, within, long))
          ∙ ap (λ k. get_or S.sets k []) (sym here)
      | inr other ↦ get_or-set_other C.sets p q (domain_at S p) [] other ∙ differs.others q other
    ]

-- a cycle and the store of its problem have the same positions
pub same_positions : (C : KnownCycle) (S : Store) → BelongsTo C.problem S → IsStore S → length C.sets ≡ cells C.problem → length C.sets ≡ length S.sets
same_positions C S belongs is long = long ∙ ap (λ w. w * C.problem.days) (sym belongs.weeks) ∙ ap (λ d. S.weeks * d) (sym belongs.days) ∙ sym is.long

-- what is said of steps, domains and a day as they are read
pub as_read : (P : List Step → List (List ℕ) → ℕ → Type 0) (steps now : List Step) (sets read : List (List ℕ)) (day there : ℕ) → now ≡ steps → read ≡ sets → day ≡ there → P now read day → P steps sets there
as_read P steps now sets read day there is are same h =
    let Q : List Step → Type 0 = λ l. P l sets there in
    let R : List (List ℕ) → Type 0 = λ s. P now s there in
    let S : ℕ → Type 0 = λ d. P now read d in
    subst Q is (subst R are (subst S same h))
