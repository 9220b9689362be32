-- What is chosen at a state is the first symbol of the best word from there.
use Rattle.std.proofs.Common.{◌≡◌, ◌⊎◌, ℕ, zero, suc, ◌+◌, ◌-◌, ◌*◌, ◌<◌, ◌≤◌, List, [], ◌∷◌, length, refl, ap, sym, ◌∙◌, subst, arith, inl, inr, Bool, true, false, Option, Some, None, ℤ, pos, if◌then◌else◌, replicate}
use Rattle.std.specs.Prelude.{◌<ℤ◌, ◌≤ℤ◌, ◌+ℤ◌, IsTrue, slice_index_or}
use Rattle.std.proofs.Math.Nat.{eq-or-lt_of_le}
use Rattle.std.proofs.lemmas.Int.{ints}
use Rattle.std.proofs.lemmas.List.{get_or-replicate, length-replicate}
use Rattle.rwsp_terms.specs.declared.data.Symbol.{Symbol}
use Rattle.rwsp_terms.specs.declared.limits.TheConstants.{GREATEST_REWARD, GREATEST_WEIGHT}
use Rattle.rwsp_terms.specs.Instance.{shift_count, symbol_numbered}
use Rattle.refutation_terms.specs.Escape.{ComesFirst}
use Rattle.clean_words.specs.Moves.{move_at}
use Rattle.clean_words.specs.Automata.{IsAutomaton}
use Rattle.clean_words.specs.declared.choice.Choice.{Choice}
use Rattle.clean_words.specs.declared.day_gains.DayGains.{DayGains}
use Rattle.clean_words.specs.Rows.{Row, gain_at, IsWithin, AreWithin}
use Rattle.clean_words.specs.Trellis.{Trellis, place_of, IsInside, gain_from, Leads, IsGreatest, IsBest, IsRow}
use Rattle.clean_words.specs.Choices.{AreGains, AreDayGains, gains_behind, choice_to, choice_with, choice_by, IsChosen, weight_of}

-- the most that a symbol gains, above 0 or below
abbrev pub most_gain : ℕ
most_gain = GREATEST_WEIGHT + GREATEST_REWARD

-- the trellis reads words by an automaton of the domains' symbols
pub record IsReader (T : Trellis) : Type 0 where
  pub automaton : IsAutomaton T.automaton
  pub symbols : (q x : ℕ) → IsTrue (T.domains q x) → x ≤ shift_count T.automaton.problem

-- a state of a day, with the gains of the day behind it and the row of the next day
pub record IsPlace (T : Trellis) (day state : ℕ) (gains next : Row) : Type 0 where
  pub reader : IsReader T
  pub before : day < T.days
  pub gained : AreGains T day (slice_index_or T.automaton.offs state false) (shift_count T.automaton.problem + 1) gains
  pub row : IsRow T (day + 1) next

-- what the symbol of a number offers at a place
abbrev pub offers : Trellis → ℕ → Row → Row → ℕ → Option Choice
offers T state gains next = choice_by gains T.automaton.moves state next

-- a choice by a step
pub record IsStep (T : Trellis) (day state : ℕ) (next : Row) (x : ℕ) (c : Choice) : Type 0 where
  pub symbol : c.symbol ≡ symbol_numbered x
  pub inside : IsInside T day (symbol_numbered x)
  pub move : move_at T.automaton.moves state x ≡ Some c.to
  pub after : ℤ
  pub behind : gain_at next c.to ≡ Some after
  pub weight : c.weight ≡ gain_from T day state (symbol_numbered x) +ℤ after

gain_is : (b : Bool) (v g : ℤ) → (if b then Some v else None) ≡ Some g → IsTrue b × (v ≡ g)
gain_is true v g e = (refl, cc)
gain_is false v g e = absurd (cc)

gain_was : (b : Bool) (v : ℤ) → IsTrue b → (if b then Some v else None) ≡ Some v
gain_was true v e = refl
gain_was false v e = absurd (cc)

pub step_of : (T : Trellis) (day state : ℕ) (gains next : Row) → IsPlace T day state gains next → (x : ℕ) (c : Choice) → x < length gains → offers T state gains next x ≡ Some c → IsStep T day state next x c
step_of T day state gains next p x c lt is = by_gain (gain_at gains x) refl is
  where
    off : Bool
    off = slice_index_or T.automaton.offs state false

    by_after : (g : ℤ) (to : ℕ) (after : Option ℤ) → gain_at gains x ≡ Some g → move_at T.automaton.moves state x ≡ Some to → gain_at next to ≡ after → choice_to x g to after ≡ Some c → IsStep T day state next x c
    by_after g to None gain move here e = absurd (cc)
    by_after g to (Some after) gain move here e =
        let same : record { weight = g +ℤ after; symbol = symbol_numbered x; to = to } ≡ c = cc in
        let goes : to ≡ c.to = ap (λ (d : Choice). d.to) same in
        let there = gain_is (T.domains (place_of T day) x) (T.gain day off (symbol_numbered x)) g (sym (p.gained.each x lt) ∙ gain) in
        record {
          symbol = ap (λ (d : Choice). d.symbol) (sym same);
          inside = there.0;
          move = move ∙ ap (λ (t : ℕ). Some t) goes;
          after = after;
          behind = ap (gain_at next) (sym goes) ∙ here;
          weight = ap (λ (d : Choice). d.weight) (sym same) ∙ ap (λ (v : ℤ). v +ℤ after) (sym there.1);
        }

    by_move : (g : ℤ) (to : Option ℕ) → gain_at gains x ≡ Some g → move_at T.automaton.moves state x ≡ to → choice_with x (Some g) to next ≡ Some c → IsStep T day state next x c
    by_move g None gain move e = absurd (cc)
    by_move g (Some to) gain move e = by_after g to (gain_at next to) gain move refl e

    by_gain : (g : Option ℤ) → gain_at gains x ≡ g → choice_with x g (move_at T.automaton.moves state x) next ≡ Some c → IsStep T day state next x c
    by_gain None gain e = absurd (cc)
    by_gain (Some g) gain e = by_move g (move_at T.automaton.moves state x) gain refl e

-- what the first symbol of a word offers
pub record IsOffered (T : Trellis) (day state : ℕ) (gains next : Row) (x : Symbol) (u : List Symbol) (w : ℤ) : Type 0 where
  pub choice : Choice
  pub within : x.number < length gains
  pub is : offers T state gains next x.number ≡ Some choice
  pub after : ℤ
  pub behind : gain_at next choice.to ≡ Some after
  pub weight : choice.weight ≡ gain_from T day state x +ℤ after
  pub rest : ℤ
  pub leads : Leads T (day + 1) choice.to u rest
  pub whole : w ≡ gain_from T day state x +ℤ rest
  pub below : rest ≤ℤ after

pub offered : (T : Trellis) (day state : ℕ) (gains next : Row) → IsPlace T day state gains next → (x : Symbol) (u : List Symbol) (w : ℤ) → Leads T day state (x ∷ u) w → IsOffered T day state gains next x u w
offered T day state gains next p x u w (inside, (to, move, (rest, whole, leads))) = by_after (gain_at next to) refl (p.row.greatest to target)
  where
    target : to < length T.automaton.moves
    target = (p.reader.automaton.inside state x.number to move).1

    within : x.number < length gains
    within = omega (arith, p.reader.symbols (place_of T day) x.number inside, p.gained.long)

    by_after : (after : Option ℤ) → gain_at next to ≡ after → IsGreatest T (day + 1) to after → IsOffered T day state gains next x u w
    by_after None here none = absurd (none u rest leads)
    by_after (Some after) here greatest =
        let g : ℤ = gain_from T day state x in
        let gain : gain_at gains x.number ≡ Some g = p.gained.each x.number within ∙ gain_was (T.domains (place_of T day) x.number) g inside in
        record {
          choice = record { weight = g +ℤ after; symbol = x; to = to };
          within = within;
          is =
              ap (λ (o : Option ℤ). choice_with x.number o (move_at T.automaton.moves state x.number) next) gain
              ∙ ap (λ (t : Option ℕ). choice_with x.number (Some g) t next) move ∙ ap (choice_to x.number g to) here;
          after = after;
          behind = here;
          weight = refl;
          rest = rest;
          leads = leads;
          whole = whole;
          below = greatest.1 u rest leads;
        }

no_end : (T : Trellis) (day state : ℕ) (w : ℤ) → day < T.days → Leads T day state [] w → ⊥
no_end T day state w lt h = omega (arith, lt, h.0)

-- the row of the next day at the state where a step leads
next_at : (T : Trellis) (day state : ℕ) (gains next : Row) → IsPlace T day state gains next → (x : ℕ) (c : Choice) (s : IsStep T day state next x c) → IsGreatest T (day + 1) c.to (Some s.after)
next_at T day state gains next p x c s =
    let target : c.to < length T.automaton.moves = (p.reader.automaton.inside state x c.to s.move).1 in
    subst (IsGreatest T (day + 1) c.to) s.behind (p.row.greatest c.to target)

-- a word behind a step
leads_by : (T : Trellis) (day state : ℕ) (next : Row) (x : ℕ) (c : Choice) (s : IsStep T day state next x c) (u : List Symbol) → Leads T (day + 1) c.to u s.after → Leads T day state (c.symbol ∷ u) c.weight
leads_by T day state next x c s u leads =
    subst (λ (y : Symbol). Leads T day state (y ∷ u) c.weight) (sym s.symbol) (s.inside, (c.to, s.move, (s.after, s.weight, leads)))

-- what is chosen has the greatest gain
pub greatest_of : (T : Trellis) (day state : ℕ) (gains next : Row) → IsPlace T day state gains next → (c : Option Choice) → IsChosen (offers T state gains next) (length gains) c → IsGreatest T day state (weight_of c)
greatest_of T day state gains next p None h = none
  where
    none : (u : List Symbol) (w : ℤ) → Leads T day state u w → ⊥
    none [] w leads = no_end T day state w p.before leads
    none (x ∷ u) w leads =
        let o = offered T day state gains next p x u w leads in
        let nothing : offers T state gains next x.number ≡ None = h x.number o.within in
        let something = o.is in absurd (cc)
greatest_of T day state gains next p (Some c) h =
    let s = step_of T day state gains next p h.number c h.within h.is in
    let some = next_at T day state gains next p h.number c s in
    ((c.symbol ∷ some.0.0, leads_by T day state next h.number c s some.0.0 some.0.1), below)
  where
    below : (u : List Symbol) (w : ℤ) → Leads T day state u w → w ≤ℤ c.weight
    below [] w leads = absurd (no_end T day state w p.before leads)
    below (x ∷ u) w leads =
        let o = offered T day state gains next p x u w leads in
        elim (h.others x.number o.choice o.within o.is) [
          | inl lt ↦ omega (arith, ints, lt, o.whole, o.weight, o.below)
          | inr same ↦ omega (arith, ints, same.0, o.whole, o.weight, o.below)
        ]

-- a best word has the greatest gain
pub best_is_greatest : (T : Trellis) (day state : ℕ) (u : List Symbol) (w after : ℤ) → IsBest T day state u w → IsGreatest T day state (Some after) → w ≡ after
best_is_greatest T day state u w after best greatest = by_other (best.others greatest.0.0 after greatest.0.1)
  where
    by_other : (after <ℤ w) ⊎ ((after ≡ w) × ComesFirst u greatest.0.0) → w ≡ after
    by_other (inl lt) = absurd (omega (arith, ints, lt, greatest.1 u w best.leads))
    by_other (inr same) = sym same.0

-- a best word behind what is chosen is one with its symbol
pub best_of : (T : Trellis) (day state : ℕ) (gains next : Row) → IsPlace T day state gains next → (c : Choice) → IsChosen (offers T state gains next) (length gains) (Some c) → (u : List Symbol) (w : ℤ) → IsBest T (day + 1) c.to u w → IsBest T day state (c.symbol ∷ u) c.weight
best_of T day state gains next p c h u w best = record { leads = leads_by T day state next h.number c s u (subst (Leads T (day + 1) c.to u) same best.leads); others = others }
  where
    s : IsStep T day state next h.number c
    s = step_of T day state gains next p h.number c h.within h.is

    same : w ≡ s.after
    same = best_is_greatest T (day + 1) c.to u w s.after best (next_at T day state gains next p h.number c s)

    split : (y z : ℤ) → y ≤ℤ z → (y <ℤ z) ⊎ (y ≡ z)
    split y z le = grind (arith, ints)

    -- a word by the same symbol
    same_first : (x : Symbol) (v : List Symbol) (z : ℤ) → (o : IsOffered T day state gains next x v z) → x ≡ c.symbol → o.choice ≡ c → z ≡ c.weight → ComesFirst (c.symbol ∷ u) (x ∷ v)
    same_first x v z o here is equal =
        let to : o.choice.to ≡ c.to = ap (λ (d : Choice). d.to) is in
        let weight : o.choice.weight ≡ c.weight = ap (λ (d : Choice). d.weight) is in
        let leads : Leads T (day + 1) c.to v o.rest = subst (λ (t : ℕ). Leads T (day + 1) t v o.rest) to o.leads in
        let after : Some o.after ≡ Some s.after = sym o.behind ∙ ap (gain_at next) to ∙ s.behind in
        let rest : o.rest ≡ w = omega (arith, ints, o.whole, o.weight, weight, equal, same, some_same o.after s.after after) in
        elim (best.others v o.rest leads) [ inl lt ↦ absurd (omega (arith, ints, lt, rest)) | inr first ↦ inr (sym here, first.1) ]
      where
        some_same : (a b : ℤ) → Some a ≡ Some b → a ≡ b
        some_same a b e = cc

    by_place : (x : Symbol) (v : List Symbol) (z : ℤ) → (o : IsOffered T day state gains next x v z) → (h.number ≡ x.number) ⊎ (h.number < x.number) → z ≡ c.weight → ComesFirst (c.symbol ∷ u) (x ∷ v)
    by_place x v z o (inl at) equal =
        let here : x ≡ c.symbol = ap symbol_numbered (sym at) ∙ sym s.symbol in
        let same_offer : offers T state gains next x.number ≡ offers T state gains next h.number = ap (offers T state gains next) (sym at) in
        let chosen = h.is in
        let other = o.is in
        let is : o.choice ≡ c = cc in
        same_first x v z o here is equal
    by_place x v z o (inr lt) equal = inl (omega (arith, lt, ap (λ (y : Symbol). y.number) s.symbol))

    by_weight : (x : Symbol) (v : List Symbol) (z : ℤ) → (o : IsOffered T day state gains next x v z) → o.choice.weight ≡ c.weight → h.number ≤ x.number → (z <ℤ o.choice.weight) ⊎ (z ≡ o.choice.weight) → (z <ℤ c.weight) ⊎ ((z ≡ c.weight) × ComesFirst (c.symbol ∷ u) (x ∷ v))
    by_weight x v z o heavy le (inl lt) = inl (omega (arith, ints, lt, heavy))
    by_weight x v z o heavy le (inr eq) = inr (eq ∙ heavy, by_place x v z o (eq-or-lt_of_le {n = h.number} {m = x.number} le) (eq ∙ heavy))

    others : (v : List Symbol) (z : ℤ) → Leads T day state v z → (z <ℤ c.weight) ⊎ ((z ≡ c.weight) × ComesFirst (c.symbol ∷ u) v)
    others [] z leads = absurd (no_end T day state z p.before leads)
    others (x ∷ v) z leads =
        let o = offered T day state gains next p x v z leads in
        let le : z ≤ℤ o.choice.weight = omega (arith, ints, o.whole, o.weight, o.below) in
        elim (h.others x.number o.choice o.within o.is) [
          | inl lt ↦ inl (omega (arith, ints, lt, le))
          | inr same ↦ by_weight x v z o same.0 same.1 (split z o.choice.weight le)
        ]

-- some word leads on from what is chosen
pub some_behind : (T : Trellis) (day state : ℕ) (gains next : Row) → IsPlace T day state gains next → (c : Choice) → IsChosen (offers T state gains next) (length gains) (Some c) → (c.to < length T.automaton.moves) × ((u : List Symbol) × (w : ℤ) × Leads T (day + 1) c.to u w)
some_behind T day state gains next p c h =
    let s = step_of T day state gains next p h.number c h.within h.is in
    let some = next_at T day state gains next p h.number c s in
    ((p.reader.automaton.inside state h.number c.to s.move).1, (some.0.0, s.after, some.0.1))

-- how large what is chosen is
pub light_of : (T : Trellis) (day state : ℕ) (gains next : Row) → IsPlace T day state gains next → (n : ℕ) → AreWithin n next → (c : Option Choice) → IsChosen (offers T state gains next) (length gains) c → IsWithin (n + most_gain) (weight_of c)
light_of T day state gains next p n light None h = tt
light_of T day state gains next p n light (Some c) h = by_gain (gain_at gains h.number) refl (p.gained.light h.number)
  where
    s : IsStep T day state next h.number c
    s = step_of T day state gains next p h.number c h.within h.is

    after : IsWithin n (Some s.after)
    after = subst (IsWithin n) s.behind (light c.to)

    by_gain : (g : Option ℤ) → gain_at gains h.number ≡ g → IsWithin most_gain g → IsWithin (n + most_gain) (Some c.weight)
    by_gain None e within =
        let is = h.is in
        let nothing : offers T state gains next h.number ≡ None = ap (λ (o : Option ℤ). choice_with h.number o (move_at T.automaton.moves state h.number) next) e in
        absurd (cc)
    by_gain (Some g) e within =
        let there = gain_is (T.domains (place_of T day) h.number) (gain_from T day state (symbol_numbered h.number)) g (sym (p.gained.each h.number h.within) ∙ e) in
        (omega (arith, ints, s.weight, there.1, after.0, within.0), omega (arith, ints, s.weight, there.1, after.1, within.1))

-- a word from a day on reaches to the end
pub leads_to_end : (T : Trellis) (u : List Symbol) (day state : ℕ) (w : ℤ) → Leads T day state u w → day + length u ≡ T.days
leads_to_end T [] day state w h = omega (arith, h.0)
leads_to_end T (x ∷ u) day state w (inside, (to, move, (rest, whole, h))) = omega (arith, leads_to_end T u (day + 1) to rest h)

-- at the end there is the empty word alone
pub at_end : (T : Trellis) (day state : ℕ) → day ≡ T.days → IsBest T day state [] (pos 0)
at_end T day state end = record { leads = (end, refl); others = others }
  where
    others : (u : List Symbol) (w : ℤ) → Leads T day state u w → (w <ℤ pos 0) ⊎ ((w ≡ pos 0) × ComesFirst [] u)
    others [] w h = inr (h.1, tt)
    others (x ∷ u) w h = absurd (omega (arith, end, leads_to_end T (x ∷ u) day state w h))

light_end : (n count : ℕ) → AreWithin n (replicate count (Some (pos 0)))
light_end n zero k = tt
light_end n (suc count) zero = (omega (arith, ints), omega (arith, ints))
light_end n (suc count) (suc k) = light_end n count k

pub end_row : (T : Trellis) (day count : ℕ) (row : Row) → row ≡ replicate count (Some (pos 0)) → count ≡ length T.automaton.moves → day ≡ T.days → IsRow T day row
end_row T day count row is states end = subst (IsRow T day) (sym is) (record {
  long = length-replicate count (Some (pos 0)) ∙ states;
  greatest = λ state lt. subst (IsGreatest T day state) (sym (get_or-replicate count state (Some (pos 0)) None (omega (arith, lt, states)))) (greatest state);
  light = light_end (most_gain * (T.days - day)) count;
})
  where
    greatest : (state : ℕ) → IsGreatest T day state (Some (pos 0))
    greatest state = (([], (end, refl)), λ u w h. none_more u w ((at_end T day state end).others u w h))
      where
        none_more : (u : List Symbol) (w : ℤ) → (w <ℤ pos 0) ⊎ ((w ≡ pos 0) × ComesFirst [] u) → w ≤ℤ pos 0
        none_more u w (inl lt) = omega (arith, ints, lt)
        none_more u w (inr same) = omega (arith, ints, same.0)

pub placed : (T : Trellis) (day state : ℕ) (gains : DayGains) (behind next : Row) (off : Bool) → IsReader T → day < T.days → AreDayGains T day gains → off ≡ slice_index_or T.automaton.offs state false → behind ≡ gains_behind gains off → IsRow T (day + 1) next → IsPlace T day state behind next
placed T day state gains behind next off reader before are is here row =
    let count : ℕ = shift_count T.automaton.problem + 1 in
    let gained : AreGains T day off count behind = subst (AreGains T day off count) (sym here) (are off) in
    record { reader = reader; before = before; gained = subst (λ (b : Bool). AreGains T day b count behind) is gained; row = row }
