-- The states of two tables together go along the words along which both go.
use Rattle.std.proofs.Common.{◌≡◌, ℕ, ◌+◌, ◌%◌, ◌<◌, ◌≤◌, List, [], ◌∷◌, length, get_or, map, Option, Some, None, refl, ap, sym, ◌∙◌, subst, inl, inr, arith}
use Rattle.std.specs.Prelude.{slice_index}
use Rattle.std.specs.Option.{option_map}
use Rattle.std.proofs.Math.Nat.{mod-eq_of_lt}
use Rattle.std.proofs.lemmas.Nat.{mod_below}
use Rattle.std.proofs.lemmas.List.{get_or-map, length-map}
use Rattle.std.proofs.lemmas.Option.{same_Some}
use Rattle.rwsp_terms.specs.declared.data.Symbol.{Symbol}
use Rattle.rwsp_terms.specs.Instance.{Instance, shift_count}
use Rattle.clean_words.specs.declared.joint.Both.{Both}
use Rattle.clean_words.specs.declared.table.Table.{Table}
use Rattle.clean_words.specs.Moves.{Moves, move_at, lead, start_at}
use Rattle.clean_words.specs.Joint.{StandsAt, Judges, IsRow, AreStates, AreStarts, no_pair}
use Rattle.clean_words.specs.Tables.{IsTable, GoesWithBoth, told_after}
use Rattle.clean_words.proofs.Leading.{lead_nowhere, moves_from}
use Rattle.clean_words.proofs.Images.{mapped_from}
use Rattle.clean_words.proofs.Growing.{stands_here}

-- all states have their moves
pub record AreAll (a b : Table) (symbols : ℕ) (pairs : List Both) (moves : Moves) : Type 0 where
  pub states : AreStates a b symbols pairs moves
  pub long : length moves ≡ length pairs

row_at : (a b : Table) (symbols : ℕ) (pairs : List Both) (moves : Moves) (s : ℕ) (pair : Both) → AreAll a b symbols pairs moves → StandsAt pairs s pair → IsRow a b pairs pair symbols (get_or moves s [])
row_at a b symbols pairs moves s pair all at = let long = all.long in all.states.rows s pair (omega (arith, long, at.0)) at

-- where a word leads from a state, it leads from both of its states
record LeadsBoth (a b : Table) (pairs : List Both) (pair : Both) (u : List Symbol) (t : ℕ) : Type 0 where
  to : Both
  at : StandsAt pairs t to
  first : lead a.moves.items (Some pair.first) u ≡ Some to.first
  second : lead b.moves.items (Some pair.second) u ≡ Some to.second

leads_by : (a b : Table) (symbols : ℕ) (pairs : List Both) (moves : Moves) (pair : Both) (x : Symbol) (u : List Symbol) (t : ℕ) (m : Option ℕ) → ((next : Both) (n : ℕ) → StandsAt pairs n next → lead moves (Some n) u ≡ Some t → LeadsBoth a b pairs next u t) → Judges a b pairs pair x.number m → lead moves m u ≡ Some t → LeadsBoth a b pairs pair (x ∷ u) t
leads_by a b symbols pairs moves pair x u t None rest j h = let none = lead_nowhere moves u in absurd (cc)
leads_by a b symbols pairs moves pair x u t (Some n) rest j h =
    let more = rest j.0 n j.1 h in
    record {
      to = more.to;
      at = more.at;
      first = ap (λ o. lead a.moves.items o u) j.2 ∙ more.first;
      second = ap (λ o. lead b.moves.items o u) j.3 ∙ more.second;
    }

leads_both : (a b : Table) (symbols : ℕ) (pairs : List Both) (moves : Moves) → AreAll a b symbols pairs moves → (u : List Symbol) (pair : Both) (s t : ℕ) → StandsAt pairs s pair → lead moves (Some s) u ≡ Some t → LeadsBoth a b pairs pair u t
leads_both a b symbols pairs moves all [] pair s t at h =
    let same : s ≡ t = same_Some s t h in
    record { to = pair; at = subst (λ n. StandsAt pairs n pair) same at; first = refl; second = refl }
leads_both a b symbols pairs moves all (x ∷ u) pair s t at h =
    leads_by a b symbols pairs moves pair x u t (move_at moves s x.number) (λ next n there goes. leads_both a b symbols pairs moves all u next n t there goes) (judged (move_at moves s x.number) refl) h
  where
    row : IsRow a b pairs pair symbols (get_or moves s [])
    row = row_at a b symbols pairs moves s pair all at

    judged : (m : Option ℕ) → move_at moves s x.number ≡ m → Judges a b pairs pair x.number (move_at moves s x.number)
    judged (Some n) e = row.judges x.number (row.known x.number n e)
    judged None e = absurd_none e
      where
        absurd_none : move_at moves s x.number ≡ None → Judges a b pairs pair x.number (move_at moves s x.number)
        absurd_none none = let no : lead moves (move_at moves s x.number) u ≡ None = ap (λ o. lead moves o u) none ∙ lead_nowhere moves u in absurd (cc)

-- where it leads from both states, it leads from the state of both
led_by : (a b : Table) (symbols : ℕ) (pairs : List Both) (moves : Moves) (pair : Both) (x : Symbol) (u : List Symbol) (s i j : ℕ) (m n o : Option ℕ) → ((next : Both) (k : ℕ) → StandsAt pairs k next → lead a.moves.items (Some next.first) u ≡ Some i → lead b.moves.items (Some next.second) u ≡ Some j → (t : ℕ) × (lead moves (Some k) u ≡ Some t))
    → move_at a.moves.items pair.first x.number ≡ m → move_at b.moves.items pair.second x.number ≡ n → Judges a b pairs pair x.number o → lead a.moves.items m u ≡ Some i → lead b.moves.items n u ≡ Some j → (t : ℕ) × (lead moves o u ≡ Some t)
led_by a b symbols pairs moves pair x u s i j None n o rest p q judges e f = let none = lead_nowhere a.moves.items u in absurd (cc)
led_by a b symbols pairs moves pair x u s i j (Some c) None o rest p q judges e f = let none = lead_nowhere b.moves.items u in absurd (cc)
led_by a b symbols pairs moves pair x u s i j (Some c) (Some d) None rest p q (inl none) e f = absurd (cc)
led_by a b symbols pairs moves pair x u s i j (Some c) (Some d) None rest p q (inr none) e f = absurd (cc)
led_by a b symbols pairs moves pair x u s i j (Some c) (Some d) (Some k) rest p q judges e f =
    let first : c ≡ judges.0.first = same_Some c judges.0.first (sym p ∙ judges.2) in
    let second : d ≡ judges.0.second = same_Some d judges.0.second (sym q ∙ judges.3) in
    rest judges.0 k judges.1 (subst (λ z. lead a.moves.items (Some z) u ≡ Some i) first e) (subst (λ z. lead b.moves.items (Some z) u ≡ Some j) second f)

both_by : (a b : Table) (symbols : ℕ) (pairs : List Both) (moves : Moves) (pair : Both) (x : Symbol) (u : List Symbol) (s i j : ℕ) (m : Option ℕ) → AreAll a b symbols pairs moves → ((s x t : ℕ) → move_at a.moves.items s x ≡ Some t → x < symbols)
    → ((next : Both) (k : ℕ) → StandsAt pairs k next → lead a.moves.items (Some next.first) u ≡ Some i → lead b.moves.items (Some next.second) u ≡ Some j → (t : ℕ) × (lead moves (Some k) u ≡ Some t)) → StandsAt pairs s pair → move_at a.moves.items pair.first x.number ≡ m
    → lead a.moves.items (move_at a.moves.items pair.first x.number) u ≡ Some i → lead b.moves.items (move_at b.moves.items pair.second x.number) u ≡ Some j → (t : ℕ) × (lead moves (move_at moves s x.number) u ≡ Some t)
both_by a b symbols pairs moves pair x u s i j None all known rest at none e f =
    let nowhere : lead a.moves.items (move_at a.moves.items pair.first x.number) u ≡ None = ap (λ o. lead a.moves.items o u) none ∙ lead_nowhere a.moves.items u in
    absurd (cc)
both_by a b symbols pairs moves pair x u s i j (Some c) all known rest at is e f =
    let row = row_at a b symbols pairs moves s pair all at in
    led_by a b symbols pairs moves pair x u s i j (move_at a.moves.items pair.first x.number) (move_at b.moves.items pair.second x.number) (move_at moves s x.number) rest refl refl (row.judges x.number (known pair.first x.number c is)) e f

both_lead : (a b : Table) (symbols : ℕ) (pairs : List Both) (moves : Moves) → AreAll a b symbols pairs moves → ((s x t : ℕ) → move_at a.moves.items s x ≡ Some t → x < symbols) → (u : List Symbol) (pair : Both) (s i j : ℕ) → StandsAt pairs s pair → lead a.moves.items (Some pair.first) u ≡ Some i → lead b.moves.items (Some pair.second) u ≡ Some j → (t : ℕ) × (lead moves (Some s) u ≡ Some t)
both_lead a b symbols pairs moves all known [] pair s i j at e f = (s, refl)
both_lead a b symbols pairs moves all known (x ∷ u) pair s i j at e f =
    both_by a b symbols pairs moves pair x u s i j (move_at a.moves.items pair.first x.number) all known (λ next k there goes also. both_lead a b symbols pairs moves all known u next k i j there goes also) at refl e f

-- the table of the pairs

abbrev pub told_by_first : Table → List Both → List ℕ
told_by_first a pairs = map (λ (c : Both). slice_index a.told.items c.first) pairs

told_at : (a : Table) (pairs : List Both) (t : ℕ) (to : Both) → StandsAt pairs t to → slice_index (told_by_first a pairs) t ≡ slice_index a.told.items to.first
told_at a pairs t to at = get_or-map (λ (c : Both). slice_index a.told.items c.first) pairs t to 0 at.0 ∙ ap (λ (c : Both). slice_index a.told.items c.first) at.1

module _ (P : Instance) (a b t : Table) (symbols : ℕ) (pairs : List Both) (all : AreAll a b symbols pairs t.moves.items) (is_a : IsTable P a) (is_b : IsTable P b) (begins : AreStarts a b pairs t.starts.items) (told : t.told.items ≡ told_by_first a pairs) (count : symbols ≡ shift_count P + 1) (days : 0 < P.days) where
  -- the pair in which words from a position on begin
  start_pair : (p : ℕ) → StandsAt pairs (start_at t.starts.items p) (record { first = start_at a.starts.items p; second = start_at b.starts.items p })
  start_pair p =
      let long : length t.starts.items ≡ P.days = begins.long ∙ is_a.days in
      let d = p % length t.starts.items in
      let less : d < length t.starts.items = mod_below p (length t.starts.items) (omega (arith, long, days)) in
      let same_a : d ≡ p % length a.starts.items = ap (λ n. p % n) begins.long in
      let same_b : d ≡ p % length b.starts.items = ap (λ n. p % n) (long ∙ sym is_b.days) in
      let here = begins.each d less in
      subst (λ n. StandsAt pairs (slice_index t.starts.items d) (record { first = slice_index a.starts.items n; second = start_at b.starts.items p })) same_a
      (subst (λ n. StandsAt pairs (slice_index t.starts.items d) (record { first = slice_index a.starts.items d; second = slice_index b.starts.items n })) same_b here)

  led_from : (p : ℕ) (w : List Symbol) (n : ℕ) → told_after t p w ≡ Some n → (to : Both) × (n ≡ slice_index a.told.items to.first) × (lead a.moves.items (Some (start_at a.starts.items p)) w ≡ Some to.first) × (lead b.moves.items (Some (start_at b.starts.items p)) w ≡ Some to.second)
  led_from p w n h =
      let from = mapped_from (slice_index t.told.items) (lead t.moves.items (Some (start_at t.starts.items p)) w) n h in
      let both = leads_both a b symbols pairs t.moves.items all w (record { first = start_at a.starts.items p; second = start_at b.starts.items p }) (start_at t.starts.items p) from.0 (start_pair p) from.1 in
      (both.to, from.2 ∙ ap (λ ns. slice_index ns from.0) told ∙ told_at a pairs from.0 both.to both.at, both.first, both.second)

  goes_with_both : GoesWithBoth a b t
  goes_with_both = record {
    first = λ p w n h. let l = led_from p w n h in ap (option_map (slice_index a.told.items)) l.2 ∙ ap Some (sym l.1);
    second = λ p w n h. let l = led_from p w n h in (slice_index b.told.items l.0.second, ap (option_map (slice_index b.told.items)) l.3);
    both = λ p w n m h g.
        let first = mapped_from (slice_index a.told.items) (lead a.moves.items (Some (start_at a.starts.items p)) w) n h in
        let second = mapped_from (slice_index b.told.items) (lead b.moves.items (Some (start_at b.starts.items p)) w) m g in
        let known : (s x to : ℕ) → move_at a.moves.items s x ≡ Some to → x < symbols = λ s x to e. let i = is_a.inside s x to e in omega (arith, count, i.0) in
        let led = both_lead a b symbols pairs t.moves.items all known w (record { first = start_at a.starts.items p; second = start_at b.starts.items p }) (start_at t.starts.items p) first.0 second.0 (start_pair p) first.1 second.1 in
        let told_there : told_after t p w ≡ Some (slice_index t.told.items led.0) = ap (option_map (slice_index t.told.items)) led.1 in
        let back = led_from p w (slice_index t.told.items led.0) told_there in
        let same : first.0 ≡ back.0.first = same_Some first.0 back.0.first (sym first.1 ∙ back.2) in
        told_there ∙ ap Some (back.1 ∙ ap (slice_index a.told.items) (sym same) ∙ sym first.2);
  }

  joint_is_table : IsTable P t
  joint_is_table = record {
    days = begins.long ∙ is_a.days;
    long = ap length told ∙ length-map pairs (λ (c : Both). slice_index a.told.items c.first) ∙ sym all.long;
    begins = λ p. let at = start_pair p in let long = all.long in omega (arith, at.0, long);
    inside = inside;
  }
    where
      inside : (s x to : ℕ) → move_at t.moves.items s x ≡ Some to → (x ≤ shift_count P) × (to < length t.moves.items)
      inside s x to e =
          let from : s < length t.moves.items = moves_from t.moves.items s x to e in
          let long = all.long in
          let here : StandsAt pairs s (get_or pairs s no_pair) = stands_here pairs s no_pair (omega (arith, from, long)) in
          let row = row_at a b symbols pairs t.moves.items s (get_or pairs s no_pair) all here in
          let known : x < symbols = row.known x to e in
          let judged : Judges a b pairs (get_or pairs s no_pair) x (Some to) = subst (Judges a b pairs (get_or pairs s no_pair) x) e (row.judges x known) in
          (omega (arith, known, count), omega (arith, judged.1.0, long))

  pub joint_starts_first : start_at t.starts.items 0 ≡ 0
  joint_starts_first =
      let some : 0 < length t.starts.items = let long : length t.starts.items ≡ P.days = begins.long ∙ is_a.days in omega (arith, long, days) in
      ap (slice_index t.starts.items) (mod-eq_of_lt some) ∙ begins.first

  pub joined_table : IsTable P t × GoesWithBoth a b t
  joined_table = (joint_is_table, goes_with_both)
