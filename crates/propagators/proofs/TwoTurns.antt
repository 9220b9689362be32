-- Marks, and the words that lead from state to state by held symbols.
use Rattle.std.proofs.Common.{◌≡◌, ℕ, zero, suc, ◌+◌, ◌-◌, ◌*◌, ◌<◌, ◌≤◌, List, [], ◌∷◌, ◌++◌, length, refl, ap, sym, ◌∙◌, subst, arith, Bool, IsTrue, Option, Some, None}
use Rattle.std.specs.Prelude.{◌↔◌, Contains, slice_get}
use Rattle.std.proofs.lemmas.List.{length-append}
use Rattle.rwsp_terms.specs.declared.data.Symbol.{Symbol}
use Rattle.rwsp_terms.specs.Instance.{cells}
use Rattle.clean_words.specs.declared.step.Step.{Step}
use Rattle.clean_words.specs.Moves.{Moves, move_at, after, lead}
use Rattle.clean_words.specs.Automata.{RuleAutomaton, IsAutomaton}
use Rattle.clean_words.proofs.Leading.{lead_nowhere}
use Rattle.propagators.specs.declared.marks.Way.TheVariants.{On, Back}
use Rattle.propagators.specs.Marks.{is_marked, row_at, has_on, IsJoined}
use Rattle.propagators.specs.KeptCycle.{IsCycle, HasJoiningStep}

-- the word's symbols are held on its days, the first of which is this one
abbrev pub Held : (ℕ → ℕ → Bool) → ℕ → List Symbol → Type 0
Held H i [] = Unit {0}
Held H i (x ∷ u) = IsTrue (H i x.number) × Held H (i + 1) u

held_at : (H : ℕ → ℕ → Bool) (i j : ℕ) (x : ℕ) → i ≡ j → IsTrue (H i x) → IsTrue (H j x)
held_at H i j x e h = let P : ℕ → Type 0 = λ k. IsTrue (H k x) in subst P e h

held_from : (H : ℕ → ℕ → Bool) (i j : ℕ) (u : List Symbol) → i ≡ j → Held H i u → Held H j u
held_from H i j u e h = let P : ℕ → Type 0 = λ k. Held H k u in subst P e h

held_both : (H : ℕ → ℕ → Bool) (i : ℕ) (u v : List Symbol) → Held H i u → Held H (i + length u) v → Held H i (u ++ v)
held_both H i [] v h g = let e : i + 0 ≡ i = omega arith in held_from H (i + 0) i v e g
held_both H i (x ∷ u) v h g = let e : i + length (x ∷ u) ≡ i + 1 + length u = omega arith in (h.0, held_both H (i + 1) u v h.1 (held_from H (i + length (x ∷ u)) (i + 1 + length u) v e g))

held_front : (H : ℕ → ℕ → Bool) (i : ℕ) (u v : List Symbol) → Held H i (u ++ v) → Held H i u
held_front H i [] v h = tt
held_front H i (x ∷ u) v h = (h.0, held_front H (i + 1) u v h.1)

held_back : (H : ℕ → ℕ → Bool) (i : ℕ) (u v : List Symbol) → Held H i (u ++ v) → Held H (i + length u) v
held_back H i [] v h = let e : i ≡ i + 0 = omega arith in held_from H i (i + 0) v e h
held_back H i (x ∷ u) v h = let e : i + 1 + length u ≡ i + length (x ∷ u) = omega arith in held_from H (i + 1 + length u) (i + length (x ∷ u)) v e (held_back H (i + 1) u v h.1)

-- where words lead

lead_both : (m : Moves) (s : Option ℕ) (u v : List Symbol) → lead m s (u ++ v) ≡ lead m (lead m s u) v
lead_both m s [] v = refl
lead_both m s (x ∷ u) v = lead_both m (after m s x) u v

-- a word that leads somewhere begins somewhere
begins : (m : Moves) (s : Option ℕ) (u : List Symbol) (end : ℕ) → lead m s u ≡ Some end → (t : ℕ) × (s ≡ Some t)
begins m None u end h =
    let nowhere : Option ℕ = None in
    let e : nowhere ≡ Some end = sym (lead_nowhere m u) ∙ h in
    absurd (cc)
begins m (Some t) u end h = (t, refl)

ends_there : (m : Moves) (s t : ℕ) (u : List Symbol) → length u ≡ 0 → lead m (Some s) u ≡ Some t → s ≡ t
ends_there m s t [] none h = cc
ends_there m s t (x ∷ u) none h = absurd (omega (arith, none))

-- the symbol at a place of a word, and the states that it leads between
record Passing (m : Moves) (start : ℕ) (w : List Symbol) (end i : ℕ) : Type 0 where
  pub before : List Symbol
  pub symbol : Symbol
  pub behind : List Symbol
  pub from : ℕ
  pub to : ℕ
  pub whole : w ≡ before ++ symbol ∷ behind
  pub long : length before ≡ i
  pub has : slice_get w i ≡ Some symbol
  pub there : lead m (Some start) before ≡ Some from
  pub moves : move_at m from symbol.number ≡ Some to
  pub on : lead m (Some to) behind ≡ Some end

passing : (m : Moves) (start : ℕ) (w : List Symbol) (end i : ℕ) → i < length w → lead m (Some start) w ≡ Some end → Passing m start w end i
passing m start [] end i less h = absurd (omega (arith, less))
passing m start (x ∷ v) end zero less h =
    let t = begins m (move_at m start x.number) v end h in
    let P : Option ℕ → Type 0 = λ s. lead m s v ≡ Some end in
    record { before = []; symbol = x; behind = v; from = start; to = t.0; whole = refl; long = refl; has = refl; there = refl; moves = t.1; on = subst P t.1 h }
passing m start (x ∷ v) end (suc i) less h =
    let t = begins m (move_at m start x.number) v end h in
    let P : Option ℕ → Type 0 = λ s. lead m s v ≡ Some end in
    let r = passing m t.0 v end i (omega (arith, less)) (subst P t.1 h) in
    let one_more : length (x ∷ r.before) ≡ suc i = (let e = r.long in omega arith) in
    record {
      before = x ∷ r.before;
      symbol = r.symbol;
      behind = r.behind;
      from = r.from;
      to = r.to;
      whole = ap (λ u. x ∷ u) r.whole;
      long = one_more;
      has = r.has;
      there = ap (λ s. lead m s r.before) t.1 ∙ r.there;
      moves = r.moves;
      on = r.on;
    }

-- some word leads here by held symbols
record CameTo (A : RuleAutomaton) (H : ℕ → ℕ → Bool) (i t : ℕ) : Type 0 where
  pub word : List Symbol
  pub long : length word ≡ i
  pub leads : lead A.moves (Some 0) word ≡ Some t
  pub held : Held H 0 word

-- some word leads on to the end by held symbols
pub record GoesOn (A : RuleAutomaton) (H : ℕ → ℕ → Bool) (i k : ℕ) : Type 0 where
  pub word : List Symbol
  pub long : i + length word ≡ 2 * cells A.problem
  pub end : ℕ
  pub leads : lead A.moves (Some k) word ≡ Some end
  pub held : Held H i word

abbrev step_by : ℕ → Symbol → ℕ → Step
step_by k x t = record { from = k; symbol = x; to = t }

-- a move is a step, and a step a move
moves_by : {A : RuleAutomaton} (a : IsAutomaton A) (s : Step) → Contains A.steps s → move_at A.moves s.from s.symbol.number ≡ Some s.to
moves_by a s c = (a.stepped s.from s.symbol s.to).0 c

joined_front : {A : RuleAutomaton} (a : IsAutomaton A) (has : ℕ → Bool) (row : List ℕ) (k : ℕ) (x : Symbol) (t : ℕ) → IsTrue (is_marked row k) → IsTrue (has x.number) → move_at A.moves k x.number ≡ Some t → IsJoined On A.steps has row t (length A.steps)
joined_front a has row k x t marked held moves =
    let c = (a.stepped k x t).1 moves in
    record { step = record { from = k; symbol = x; to = t }; place = c.0; below = c.1; stands = (c.1, c.2); marked = marked; held = held; joins = refl }

joined_back : {A : RuleAutomaton} (a : IsAutomaton A) (has : ℕ → Bool) (row : List ℕ) (k : ℕ) (x : Symbol) (t : ℕ) → IsTrue (is_marked row t) → IsTrue (has x.number) → move_at A.moves k x.number ≡ Some t → IsJoined Back A.steps has row k (length A.steps)
joined_back a has row k x t marked held moves =
    let c = (a.stepped k x t).1 moves in
    record { step = record { from = k; symbol = x; to = t }; place = c.0; below = c.1; stands = (c.1, c.2); marked = marked; held = held; joins = refl }

-- the front marks the states to which words came
came : {A : RuleAutomaton} {sets front back : List (List ℕ)} (c : IsCycle A sets front back) (i t : ℕ) → i ≤ 2 * cells A.problem → IsTrue (is_marked (row_at front i) t) ↔ CameTo A (has_on sets) i t
came {A} {sets} {front} {back} c zero t le = (
  λ h. record { word = []; long = refl; leads = ap Some ((c.first t).0 h); held = tt },
  λ w. (c.first t).1 (ends_there A.moves 0 t w.word w.long w.leads),
)
came {A} {sets} {front} {back} c (suc i) t le =
    let before : (k : ℕ) → IsTrue (is_marked (row_at front i) k) ↔ CameTo A (has_on sets) i k = λ k. came c i k (omega (arith, le)) in (
      λ h. there before ((pass t).0 h),
      λ w. (pass t).1 (again before w (passing A.moves 0 w.word t i (omega (arith, w.long)) w.leads)),
    )
  where
    H : ℕ → ℕ → Bool
    H = has_on sets

    pass : (s : ℕ) → IsTrue (is_marked (row_at front (suc i)) s) ↔ IsJoined On A.steps (has_on sets i) (row_at front i) s (length A.steps)
    pass s =
        let next : i + 1 ≡ suc i = omega arith in
        let P : ℕ → Type 0 = λ n. IsTrue (is_marked (row_at front n) s) ↔ IsJoined On A.steps (has_on sets i) (row_at front i) s (length A.steps) in
        subst P next (c.fronts i (omega (arith, le)) s)

    there : ((k : ℕ) → IsTrue (is_marked (row_at front i) k) ↔ CameTo A (has_on sets) i k) → IsJoined On A.steps (has_on sets i) (row_at front i) t (length A.steps) → CameTo A (has_on sets) (suc i) t
    there before j =
        let w = (before j.step.from).0 j.marked in
        let x : Symbol = j.step.symbol in
        let at : 0 + length w.word ≡ i = (let e = w.long in omega arith) in
        let moves = moves_by c.automaton j.step (j.place, j.stands.0, j.stands.1) in
        record {
          word = w.word ++ x ∷ [];
          long = length-append w.word (x ∷ []) ∙ (let e = w.long in omega arith);
          leads = lead_both A.moves (Some 0) w.word (x ∷ []) ∙ ap (λ s. after A.moves s x) w.leads ∙ moves ∙ ap Some j.joins;
          held = held_both H 0 w.word (x ∷ []) w.held (held_at H i (0 + length w.word) x.number (sym at) j.held, tt);
        }

    again : ((k : ℕ) → IsTrue (is_marked (row_at front i) k) ↔ CameTo A (has_on sets) i k) → (w : CameTo A (has_on sets) (suc i) t) → Passing A.moves 0 w.word t i → IsJoined On A.steps (has_on sets i) (row_at front i) t (length A.steps)
    again before w r =
        let Q : List Symbol → Type 0 = λ u. Held H 0 u in
        let held : Held H 0 (r.before ++ r.symbol ∷ r.behind) = subst Q r.whole w.held in
        let at : 0 + length r.before ≡ i = (let e = r.long in omega arith) in
        let here = held_at H (0 + length r.before) i r.symbol.number at (held_back H 0 r.before (r.symbol ∷ r.behind) held).0 in
        let none : length r.behind ≡ 0 = omega (arith, w.long, r.long, ap length r.whole, length-append r.before (r.symbol ∷ r.behind)) in
        let last : r.to ≡ t = ends_there A.moves r.to t r.behind none r.on in
        let marked = (before r.from).1 (record { word = r.before; long = r.long; leads = r.there; held = held_front H 0 r.before (r.symbol ∷ r.behind) held }) in
        let P : ℕ → Type 0 = λ n. IsJoined On A.steps (has_on sets i) (row_at front i) n (length A.steps) in
        subst P last (joined_front c.automaton (has_on sets i) (row_at front i) r.from r.symbol r.to marked here r.moves)

-- the back marks the states from which words go on
pub goes_on : {A : RuleAutomaton} {sets front back : List (List ℕ)} (c : IsCycle A sets front back) (m i : ℕ) → i + m ≡ 2 * cells A.problem → (k : ℕ) → k < length A.moves → IsTrue (is_marked (row_at back i) k) ↔ GoesOn A (has_on sets) i k
goes_on {A} {sets} {front} {back} c zero i all k lt =
    let here : i ≡ 2 * cells A.problem = omega arith in
    let P : ℕ → Type 0 = λ n. IsTrue (is_marked (row_at back n) k) in
    let none : i + 0 ≡ 2 * cells A.problem = omega arith in (
      λ h. record { word = []; long = none; end = k; leads = refl; held = tt },
      λ g. subst P (sym here) (c.last k lt),
    )
goes_on {A} {sets} {front} {back} c (suc m) i all k lt =
    let behind : (t : ℕ) → t < length A.moves → IsTrue (is_marked (row_at back (i + 1)) t) ↔ GoesOn A (has_on sets) (i + 1) t = goes_on c m (i + 1) (omega (arith, all)) in (
      λ h. there behind ((c.backs i less k).0 h),
      λ g. (c.backs i less k).1 (again behind g.word g.end g.long g.leads g.held),
    )
  where
    H : ℕ → ℕ → Bool
    H = has_on sets

    less : i < 2 * cells A.problem
    less = omega (arith, all)

    there : ((t : ℕ) → t < length A.moves → IsTrue (is_marked (row_at back (i + 1)) t) ↔ GoesOn A (has_on sets) (i + 1) t) → IsJoined Back A.steps (has_on sets i) (row_at back (i + 1)) k (length A.steps) → GoesOn A (has_on sets) i k
    there behind j =
        let moves = moves_by c.automaton j.step (j.place, j.stands.0, j.stands.1) in
        let g = (behind j.step.to (c.automaton.inside j.step.from j.step.symbol.number j.step.to moves).1).0 j.marked in
        let long : i + length (j.step.symbol ∷ g.word) ≡ 2 * cells A.problem = (let e = g.long in omega arith) in
        let P : ℕ → Type 0 = λ n. lead A.moves (Some n) (j.step.symbol ∷ g.word) ≡ Some g.end in
        record { word = j.step.symbol ∷ g.word; long = long; end = g.end; leads = subst P j.joins (ap (λ s. lead A.moves s g.word) moves ∙ g.leads); held = (j.held, g.held) }

    again : ((t : ℕ) → t < length A.moves → IsTrue (is_marked (row_at back (i + 1)) t) ↔ GoesOn A (has_on sets) (i + 1) t) → (w : List Symbol) (end : ℕ) → i + length w ≡ 2 * cells A.problem → lead A.moves (Some k) w ≡ Some end → Held (has_on sets) i w → IsJoined Back A.steps (has_on sets i) (row_at back (i + 1)) k (length A.steps)
    again behind [] end long leads held = absurd (omega (arith, long, all))
    again behind (x ∷ v) end long leads held =
        let t = begins A.moves (move_at A.moves k x.number) v end leads in
        let P : Option ℕ → Type 0 = λ s. lead A.moves s v ≡ Some end in
        let rest : i + 1 + length v ≡ 2 * cells A.problem = omega (arith, long) in
        let marked = (behind t.0 (c.automaton.inside k x.number t.0 t.1).1).1 (record { word = v; long = rest; end = end; leads = subst P t.1 leads; held = held.1 }) in
        joined_back c.automaton (has_on sets i) (row_at back (i + 1)) k x t.0 marked held.0 t.1

-- a word of two turns that has the symbol at the place
pub record WordHas (A : RuleAutomaton) (H : ℕ → ℕ → Bool) (i : ℕ) (x : Symbol) : Type 0 where
  pub word : List Symbol
  pub long : length word ≡ 2 * cells A.problem
  pub end : ℕ
  pub leads : lead A.moves (Some 0) word ≡ Some end
  pub held : Held H 0 word
  pub has : slice_get word i ≡ Some x

got_behind : (u v : List Symbol) (x : Symbol) → slice_get (u ++ x ∷ v) (length u) ≡ Some x
got_behind [] v x = refl
got_behind (y ∷ u) v x = got_behind u v x

-- a step that joins is one of a word
pub word_has : {A : RuleAutomaton} {sets front back : List (List ℕ)} (c : IsCycle A sets front back) (i : ℕ) (x : Symbol) → i < 2 * cells A.problem → IsTrue (has_on sets i x.number) → HasJoiningStep A.steps x (row_at front i) (row_at back (i + 1)) → WordHas A (has_on sets) i x
word_has {A} {sets} {front} {back} c i x less held (s, is_step, same, marked, marked_behind) =
    let H : ℕ → ℕ → Bool = has_on sets in
    let moves = moves_by c.automaton s is_step in
    let u = (came c i s.from (omega (arith, less))).0 marked in
    let within = (c.automaton.inside s.from s.symbol.number s.to moves).1 in
    let v = (goes_on c (2 * cells A.problem - (i + 1)) (i + 1) (omega (arith, less)) s.to within).0 marked_behind in
    let at : i ≡ 0 + length u.word = (let e = u.long in omega arith) in
    let next : i + 1 ≡ 0 + length u.word + 1 = (let e = u.long in omega arith) in
    let by_x : move_at A.moves s.from x.number ≡ Some s.to = ap (λ (y : Symbol). move_at A.moves s.from y.number) (sym same) ∙ moves in
    record {
      word = u.word ++ x ∷ v.word;
      long = length-append u.word (x ∷ v.word) ∙ (let e = u.long in let f = v.long in omega arith);
      end = v.end;
      leads = lead_both A.moves (Some 0) u.word (x ∷ v.word) ∙ ap (λ o. lead A.moves o (x ∷ v.word)) u.leads ∙ ap (λ o. lead A.moves o v.word) by_x ∙ v.leads;
      held = held_both H 0 u.word (x ∷ v.word) u.held (held_at H i (0 + length u.word) x.number at held, held_from H (i + 1) (0 + length u.word + 1) v.word next v.held);
      has = ap (slice_get (u.word ++ x ∷ v.word)) (sym u.long) ∙ got_behind u.word v.word x;
    }

-- the step of a word joins
pub has_support : {A : RuleAutomaton} {sets front back : List (List ℕ)} (c : IsCycle A sets front back) (i : ℕ) (x : Symbol) → i < 2 * cells A.problem → WordHas A (has_on sets) i x → IsTrue (has_on sets i x.number) × HasJoiningStep A.steps x (row_at front i) (row_at back (i + 1))
has_support {A} {sets} {front} {back} c i x less w =
    let H : ℕ → ℕ → Bool = has_on sets in
    let r = passing A.moves 0 w.word w.end i (omega (arith, less, w.long)) w.leads in
    let same : r.symbol ≡ x = same_got r.symbol x (sym r.has ∙ w.has) in
    let Q : List Symbol → Type 0 = λ u. Held H 0 u in
    let held : Held H 0 (r.before ++ r.symbol ∷ r.behind) = subst Q r.whole w.held in
    let at : 0 + length r.before ≡ i = (let e = r.long in omega arith) in
    let next : 0 + length r.before + 1 ≡ i + 1 = (let e = r.long in omega arith) in
    let later = held_back H 0 r.before (r.symbol ∷ r.behind) held in
    let here = held_at H (0 + length r.before) i r.symbol.number at later.0 in
    let within = (c.automaton.inside r.from r.symbol.number r.to r.moves).1 in
    let rest : i + 1 + length r.behind ≡ 2 * cells A.problem = omega (arith, w.long, r.long, ap length r.whole, length-append r.before (r.symbol ∷ r.behind)) in
    let before = (came c i r.from (omega (arith, less))).1 (record { word = r.before; long = r.long; leads = r.there; held = held_front H 0 r.before (r.symbol ∷ r.behind) held }) in
    let behind = (goes_on c (2 * cells A.problem - (i + 1)) (i + 1) (omega (arith, less)) r.to within).1 (record { word = r.behind; long = rest; end = w.end; leads = r.on; held = held_from H (0 + length r.before + 1) (i + 1) r.behind next later.1 }) in
    let P : Symbol → Type 0 = λ z. IsTrue (has_on sets i z.number) in
    (subst P same here, (step_by r.from r.symbol r.to, (c.automaton.stepped r.from r.symbol r.to).1 r.moves, same, before, behind))
  where
    same_got : (y z : Symbol) → Some y ≡ Some z → y ≡ z
    same_got y z e = cc
