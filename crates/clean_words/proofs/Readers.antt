-- Tables that read the words that are clean for lists, and the automaton of one.
use Rattle.std.proofs.Common.{◌≡◌, ℕ, zero, suc, ◌+◌, ◌<◌, ◌≤◌, List, [], ◌∷◌, length, get_or, map, drop, Option, Some, None, Bool, false, refl, ap, sym, ◌∙◌, subst, inl, inr, arith}
use Rattle.std.specs.Prelude.{◌↔◌, ◌==◌, AllPairs, Contains, IfOk, Result, Ok, Err, slice_get, slice_index}
use Rattle.std.specs.Option.{option_map}
use Rattle.std.proofs.lemmas.Bool.{cases_Bool, cond-true, cond-false}
use Rattle.std.proofs.lemmas.Bool.Decides.{nat_tests}
use Rattle.std.proofs.lemmas.List.{get_or-map, length-map, drop_more, drop_all}
use Rattle.std.proofs.lemmas.Option.{same_Some, slice_get_within, get_or_from_slice_get}
use Rattle.rwsp_terms.specs.declared.data.Symbol.{Symbol}
use Rattle.rwsp_terms.specs.Instance.{Instance, shift_count}
use Rattle.rwsp_terms.specs.Rules.{rule_of}
use Rattle.refutation_terms.specs.Word.{Clean}
use Rattle.clean_words.specs.declared.last.Told.{Told}
use Rattle.clean_words.specs.declared.last.Told.TheVariants.{DayOff, LastSymbol}
use Rattle.clean_words.specs.declared.monitor.Monitor.{Monitor}
use Rattle.clean_words.specs.declared.monitor.Monitor.TheVariants.{Last}
use Rattle.clean_words.specs.declared.step.Step.{Step}
use Rattle.clean_words.specs.declared.table.Table.{Table}
use Rattle.clean_words.specs.Moves.{Moves, move_at, lead, start_at, off_behind}
use Rattle.clean_words.specs.Automata.{HasSymbolsOf, StepBefore, IsAutomaton}
use Rattle.clean_words.specs.Tables.{IsTable, GoesWithBoth, IsReader, told_after}
use Rattle.clean_words.specs.Monitors.{label, run, state_behind, told_of, Watches, Spares, IsTableOf}
use Rattle.clean_words.proofs.Leading.{lead_nowhere, lead_inside}
use Rattle.clean_words.proofs.Images.{mapped_from}

-- a word that leads somewhere is one of the problem's symbols
known_by : (P : Instance) (moves : Moves) (x : Symbol) (u : List Symbol) (t : ℕ) (m : Option ℕ) → ((n : ℕ) → m ≡ Some n → x.number ≤ shift_count P) → ((n : ℕ) → lead moves (Some n) u ≡ Some t → HasSymbolsOf P u) → lead moves m u ≡ Some t → HasSymbolsOf P (x ∷ u)
known_by P moves x u t None known rest h = let none = lead_nowhere moves u in absurd (cc)
known_by P moves x u t (Some n) known rest h = (known n refl, rest n h)

symbols_known : (P : Instance) (moves : Moves) → ((s x t : ℕ) → move_at moves s x ≡ Some t → x ≤ shift_count P) → (u : List Symbol) (s t : ℕ) → lead moves (Some s) u ≡ Some t → HasSymbolsOf P u
symbols_known P moves known [] s t h = tt
symbols_known P moves known (x ∷ u) s t h =
    known_by P moves x u t (move_at moves s x.number) (λ n e. known s x.number n e) (λ n e. symbols_known P moves known u n t e) h

pub told_known : (P : Instance) (t : Table) (p : ℕ) (w : List Symbol) (n : ℕ) → IsTable P t → told_after t p w ≡ Some n → HasSymbolsOf P w
told_known P t p w n is h =
    let from = mapped_from (slice_index t.told.items) (lead t.moves.items (Some (start_at t.starts.items p)) w) n h in
    symbols_known P t.moves.items (λ s x to e. (is.inside s x to e).0) w (start_at t.starts.items p) from.0 from.1

-- the table without rules

label_off : (told : Told) (x : Symbol) → (label told x == 1) ≡ (x.number == 0)
label_off DayOff x = elim (cases_Bool (x.number == 0)) [
  | inl holds ↦ ap (λ n. n == 1) (cond-true (x.number == 0) 1 0 holds) ∙ sym holds
  | inr fails ↦ ap (λ n. n == 1) (cond-false (x.number == 0) 1 0 fails) ∙ sym fails
]
label_off LastSymbol x = grind (arith, nat_tests)

run_last : (told : Told) (w : List Symbol) (p s : ℕ) → (n : ℕ) × (run (Last told) p s w ≡ Some n) × ((n == 1) ≡ off_behind (s == 1) w)
run_last told [] p s = (s, refl, refl)
run_last told (x ∷ w) p s =
    let more = run_last told w (p + 1) (label told x) in
    (more.0, more.1, more.2 ∙ ap (λ b. off_behind b w) (label_off told x))

pub reader_first : (P : Instance) (told : Told) (t : Table) → IsTableOf P (Last told) t → IsReader P [] t
reader_first P told t is = record {
  table = is.table;
  first = is.begins 0;
  clean = λ p w known clean. let r = run_last told w p 0 in (r.0, is.tells p w known ∙ ap (option_map (told_of (Last told))) r.1);
  reads = λ p w n h r named. absurd (omega (arith, named.1.1));
  off = λ p w n h.
      let r = run_last told w p 0 in
      let here : told_after t p w ≡ Some r.0 = is.tells p w (told_known P t p w n is.table h) ∙ ap (option_map (told_of (Last told))) r.1 in
      let same : n ≡ r.0 = same_Some n r.0 (sym h ∙ here) in
      ap (λ k. k == 1) same ∙ r.2;
}

-- one rule more

clean_rest : (P : Instance) (k : ℕ) (R : List ℕ) (p : ℕ) (w : List Symbol) → Clean P (k ∷ R) p w → Clean P R p w
clean_rest P k R p w clean r named = clean r (named.0, (suc named.1.0, omega (arith, named.1.1), named.1.2), named.2)

clean_head : (P : Instance) (k : ℕ) (R : List ℕ) (p : ℕ) (w : List Symbol) → Clean P (k ∷ R) p w → Spares P k p w
clean_head P k R p w clean r is = clean r (k, (0, omega arith, refl), is)

clean_both : (P : Instance) (k : ℕ) (R : List ℕ) (p : ℕ) (w : List Symbol) → Spares P k p w → Clean P R p w → Clean P (k ∷ R) p w
clean_both P k R p w head rest r (number, (zero, lt, here), is) = head r (ap (rule_of P) here ∙ is)
clean_both P k R p w head rest r (number, (suc i, lt, here), is) = rest r (number, (i, omega (arith, lt), here), is)

-- whose monitor goes along with the table
pub reader_more : (P : Instance) (k : ℕ) (R : List ℕ) (m : Monitor) (t own both : Table) → IsReader P R t → IsTableOf P m own → Watches (Spares P k) m → IsTable P both → start_at both.starts.items 0 ≡ 0 → GoesWithBoth t own both → IsReader P (k ∷ R) both
reader_more P k R m t own both reader is watches table first goes = record {
  table = table;
  first = first;
  clean = λ p w known clean.
      let before = reader.clean p w known (clean_rest P k R p w clean) in
      let state = (watches p w).0 (clean_head P k R p w clean) in
      (before.0, goes.both p w before.0 (told_of m state.0) before.1 (is.tells p w known ∙ ap (option_map (told_of m)) state.1));
  reads = λ p w n h.
      let other = goes.second p w n h in
      let known = told_known P own p w other.0 is.table other.1 in
      let state = mapped_from (told_of m) (state_behind m p w) other.0 (sym (is.tells p w known) ∙ other.1) in
      clean_both P k R p w ((watches p w).1 (state.0, state.1)) (reader.reads p w n (goes.first p w n h));
  off = λ p w n h. reader.off p w n (goes.first p w n h);
}

-- or which no word can break
pub reader_same : (P : Instance) (k : ℕ) (R : List ℕ) (t : Table) → IsReader P R t → ((p : ℕ) (w : List Symbol) → Spares P k p w) → IsReader P (k ∷ R) t
reader_same P k R t reader spares = record {
  table = reader.table;
  first = reader.first;
  clean = λ p w known clean. reader.clean p w known (clean_rest P k R p w clean);
  reads = λ p w n h. clean_both P k R p w (spares p w) (reader.reads p w n h);
  off = reader.off;
}

-- the rules from a place on are that of the place and those behind it
pub reader_at : (P : Instance) (R : List ℕ) (i k : ℕ) (t : Table) → slice_get R i ≡ Some k → IsReader P (k ∷ drop (i + 1) R) t → IsReader P (drop i R) t
reader_at P R i k t is reader =
    let lt = slice_get_within R i k is in
    let same : drop i R ≡ k ∷ drop (i + 1) R = drop_more R i k lt ∙ ap (λ n. n ∷ drop (i + 1) R) (get_or_from_slice_get R i k k is) in
    subst (λ (S : List ℕ). IsReader P S t) (sym same) reader

-- what is joined, if memory isn't refused
pub reader_joined : {E : Type 0} (P : Instance) (R : List ℕ) (i k : ℕ) (m : Monitor) (t own : Table) (r : Result Table E) → slice_get R i ≡ Some k → IsReader P (drop (i + 1) R) t → IsTableOf P m own → Watches (Spares P k) m → IfOk r (IsTable P) → IfOk r (λ both. start_at both.starts.items 0 ≡ 0) → IfOk r (GoesWithBoth t own) → IfOk r (IsReader P (drop i R))
reader_joined P R i k m t own (Ok both) is reader own_is watches table first goes = reader_at P R i k both is (reader_more P k (drop (i + 1) R) m t own both reader own_is watches table first goes)
reader_joined P R i k m t own (Err e) is reader own_is watches table first goes = tt

pub reader_none : (P : Instance) (R : List ℕ) (n : ℕ) (t : Table) → n ≡ length R → IsReader P [] t → IsReader P (drop n R) t
reader_none P R n t all reader = subst (λ (S : List ℕ). IsReader P S t) (sym (drop_all n R (omega (arith, all)))) reader

-- a table and its steps make an automaton
pub automaton_by : (P P' : Instance) (R R' : List ℕ) (t : Table) (told : List ℕ) (moves : Moves) (offs : List Bool) (steps : List Step) → P' ≡ P → R' ≡ R → IsReader P R t → told ≡ t.told.items → offs ≡ map (λ n. n == 1) told → moves ≡ t.moves.items → AllPairs StepBefore steps
    → ((s : ℕ) (x : Symbol) (k : ℕ) → Contains steps (record { from = s; symbol = x; to = k }) ↔ (move_at moves s x.number ≡ Some k)) → IsAutomaton (record { problem = P'; rules = R'; starts = t.starts.items; moves = t.moves.items; offs = offs; steps = steps })
automaton_by P P' R R' t told moves offs steps problem rules reader told_is offs_are moves_are ordered stepped =
    subst (λ (Q : Instance). IsAutomaton (record { problem = Q; rules = R'; starts = t.starts.items; moves = t.moves.items; offs = offs; steps = steps })) (sym problem)
    (subst (λ (S : List ℕ). IsAutomaton (record { problem = P; rules = S; starts = t.starts.items; moves = t.moves.items; offs = offs; steps = steps })) (sym rules) whole)
  where
    begin : ℕ → ℕ
    begin p = start_at t.starts.items p

    told_there : (p : ℕ) (w : List Symbol) (s : ℕ) → lead t.moves.items (Some (begin p)) w ≡ Some s → told_after t p w ≡ Some (slice_index t.told.items s)
    told_there p w s h = ap (option_map (slice_index t.told.items)) h

    off_there : (p : ℕ) (w : List Symbol) (s : ℕ) → s < length t.moves.items → lead t.moves.items (Some (begin p)) w ≡ Some s → get_or offs s false ≡ off_behind false w
    off_there p w s inside h =
        let long = reader.table.long in
        ap (λ bs. get_or bs s false) (offs_are ∙ ap (map (λ n. n == 1)) told_is) ∙ get_or-map (λ n. n == 1) t.told.items s 0 false (omega (arith, inside, long)) ∙ reader.off p w (slice_index t.told.items s) (told_there p w s h)

    whole : IsAutomaton (record { problem = P; rules = R; starts = t.starts.items; moves = t.moves.items; offs = offs; steps = steps })
    whole = record {
      days = reader.table.days;
      some = (let begins = reader.table.begins 0 in omega (arith, begins));
      offs = ap length (offs_are ∙ ap (map (λ n. n == 1)) told_is) ∙ length-map t.told.items (λ n. n == 1) ∙ reader.table.long;
      begins = reader.table.begins;
      first = reader.first;
      inside = reader.table.inside;
      clean = λ p w known clean.
          let told_of_it = reader.clean p w known clean in
          let from = mapped_from (slice_index t.told.items) (lead t.moves.items (Some (begin p)) w) told_of_it.0 told_of_it.1 in
          (from.0, from.1);
      reads = λ p w s h. reader.reads p w (slice_index t.told.items s) (told_there p w s h);
      off = λ p w s h. off_there p w s (inside_by p w s h) h;
      ordered = ordered;
      stepped = λ s x k. subst (λ (ms : Moves). Contains steps (record { from = s; symbol = x; to = k }) ↔ (move_at ms s x.number ≡ Some k)) moves_are (stepped s x k);
    }
      where
        inside_by : (p : ℕ) (w : List Symbol) (s : ℕ) → lead t.moves.items (Some (begin p)) w ≡ Some s → s < length t.moves.items
        inside_by p w s h = lead_inside t.moves.items (λ a x b e. (reader.table.inside a x b e).1) w (begin p) s (reader.table.begins p) h
