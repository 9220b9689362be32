-- The laws of leaves, kind by kind: a leaf leaves no roster; what it rests on are rules of the problem, and what it says
-- of domains rests on their positions alone; only a leaf of words lists rules or is escaped, by one word, and then it
-- doesn't hold.
use Rattle.std.proofs.Common.{◌≡◌, ℕ, ◌*◌, ◌<◌, List, [], ◌∷◌, length, refl, ap, sym, ◌∙◌, subst, arith, inl, inr, Bool, true, false, Some, None, Option, pos}
use Rattle.std.specs.Prelude.{◌≢◌, ◌≤◌, ◌==◌, ◌&&◌, zero, suc, ◌<ℤ◌, ◌≤ℤ◌, ◌*ℤ◌}
use Rattle.std.specs.List.{AllByRecursion}
use Rattle.std.proofs.lemmas.Bool.{cases_Bool}
use Rattle.rwsp_terms.specs.declared.data.Symbol.{Symbol}
use Rattle.rwsp_terms.specs.declared.data.Weight.{Weight}
use Rattle.rwsp_terms.specs.declared.data.Class.TheVariants.{Shift, Off, Work}
use Rattle.rwsp_terms.specs.declared.data.Rule.{Rule}
use Rattle.rwsp_terms.specs.declared.data.Rule.TheVariants as TheRules
use Rattle.rwsp_terms.specs.Instance.{Instance, cells, shift_count, IsDay, IsSymbol, least, greatest, symbol_numbered}
use Rattle.rwsp_terms.specs.Window.{Bad, window}
use Rattle.rwsp_terms.specs.Roster.{IsRule, IsRoster, MeetsDay}
use Rattle.rwsp_terms.specs.Rules.{Names, Meets}
use Rattle.rwsp_terms.specs.Weights.{weight_at}
use Rattle.rwsp_terms.proofs.Windows.{length-window}
use Rattle.rwsp_terms.proofs.Elements.{all_from, all_to}
use Rattle.rwsp_terms.proofs.Ascending.{here_from_test, weight_past}
use Rattle.refutation_terms.specs.declared.lines.Leaf.{Leaf}
use Rattle.refutation_terms.specs.declared.lines.Leaf.TheVariants.{Window, Day, Few, Words, Blocks}
use Rattle.refutation_terms.specs.declared.lines.WordClaim.{WordClaim}
use Rattle.refutation_terms.specs.declared.lines.WordClaim.TheVariants.{Dead, Light}
use Rattle.refutation_terms.specs.declared.lines.Opening.{Opening}
use Rattle.refutation_terms.specs.declared.lines.Opening.TheVariants.{Full}
use Rattle.refutation_terms.specs.Word.{Domains, Within, AreSame}
use Rattle.refutation_terms.specs.Ranges.{HasWeight}
use Rattle.refutation_terms.specs.Escape.{ComesFirst}
use Rattle.refutation_terms.specs.WordsLeaf.{RewardFits, WordsFit, WordsCite, WordsHold, WordsEscape, worth, owed}
use Rattle.refutation_terms.specs.BlocksLeaf.{block_rules_of, IsBlockRule}
use Rattle.refutation_terms.specs.Leaves.{LeafFits, LeafCites, LeafHolds, LeafListsShort, LeafListsLong, LeafEscapes, IsWordless}
use Rattle.refutation_terms.specs.Log.{GoalFits}
use Rattle.refutation_terms.specs.Laws.{HasGoal}
use Rattle.refutation_terms.proofs.Named.{named-IsRule, block_rules_are}
use Rattle.refutation_terms.proofs.Windows.{over-window, clean-window, no_bad_met}
use Rattle.refutation_terms.proofs.SameCells.{turned_round, same_fixed, same_possible, same_over, same_clean, same_least, same_few}
use Rattle.refutation_terms.proofs.Counts.{met_not_too_many, met_not_too_few}
use Rattle.refutation_terms.proofs.Weighing.{too_light, window_weighs_enough}
use Rattle.refutation_terms.proofs.FreeCounts.{few_leaves_none, window_is_free_enough}
use Rattle.refutation_terms.proofs.Blocks.{blocks_leave_none}

cells_some : (P : Instance) (p : ℕ) → p < cells P → 0 < cells P
cells_some P p lt = omega (arith, lt)

-- a word of a whole number of turns of a roster that meets the demand and the goal weighs what is owed
weighs_enough : (P : Instance) (o : Opening) (goal : Option ℕ) (y : List Weight) (s : List Symbol) (p turns reward : ℕ) → GoalFits P o goal → HasGoal goal s → RewardFits goal p reward → IsRoster P s → ((j : ℕ) → IsDay P j → HasWeight y j → MeetsDay P j s) → (pos turns *ℤ owed P goal y reward) ≤ℤ worth P goal y reward p (window s p (turns * cells P))
weighs_enough P o None y s p turns reward fits has is roster days = window_weighs_enough P y s p turns roster days
weighs_enough P o (Some goal) y s p turns reward fits has is roster days =
    let A : ℕ → Type 0 = λ q. (pos turns *ℤ owed P (Some goal) y reward) ≤ℤ worth P (Some goal) y reward q (window s q (turns * cells P)) in
    subst A (sym is.0) (window_is_free_enough P y s turns reward goal fits.1 roster days has)

-- a true claim of words leaves no roster
words_leave_none : (P : Instance) (o : Opening) (goal : Option ℕ) (named : List ℕ) (D : Domains) (s : List Symbol) (p : ℕ) (R : List ℕ) (claim : WordClaim) → GoalFits P o goal → HasGoal goal s → Meets P named s → Within P D s → WordsFit P goal p R claim → ((r : Rule) → WordsCite P R claim r → Names P named r) → WordsHold P goal D p R claim → ⊥
words_leave_none P o goal named D s p R (Dead len) goal_fits has met w fits cited holds =
    let some : 0 < cells P = cells_some P p fits.0 in
    let meets_R : Meets P R s = record { is_roster = met.is_roster; rules = λ r n. met.rules r (cited r n) } in
    holds (window s p len) (length-window s p len) (over-window P D s p len some w) (clean-window P R s p len some meets_R)
words_leave_none P o goal named D s p R (Light turns reward y) goal_fits has met w fits cited holds =
    let some : 0 < cells P = cells_some P p fits.0 in
    let len = turns * cells P in
    let meets_R : Meets P R s = record { is_roster = met.is_roster; rules = λ r n. met.rules r (cited r (inl n)) } in
    let days : (j : ℕ) → IsDay P j → HasWeight y j → MeetsDay P j s = λ j day weighs. met.rules (TheRules.Day j) (cited (TheRules.Day j) (inr (j, weighs, refl))) in
    too_light (worth P goal y reward p (window s p len)) (pos turns *ℤ owed P goal y reward)
    (holds (window s p len) (length-window s p len) (over-window P D s p len some w) (clean-window P R s p len some meets_R))
    (weighs_enough P o goal y s p turns reward goal_fits has fits.4 w.is_roster days)

-- a leaf that holds, fits the problem and cites named rules leaves no roster, or with a goal none that has as many free
-- weekends
pub leaf_leaves_none : (P : Instance) (o : Opening) (goal : Option ℕ) (counts : Bool) (named : List ℕ) (D : Domains) (s : List Symbol) (leaf : Leaf) → GoalFits P o goal → HasGoal goal s → Meets P named s → Within P D s → LeafFits P goal counts leaf → ((r : Rule) → LeafCites P leaf r → Names P named r) → LeafHolds P goal D leaf → ⊥
leaf_leaves_none P o goal counts named D s (Window number p len) goal_fits has met w fits cited blocked =
    let some : 0 < cells P = cells_some P p fits.2 in
    let r = blocked.0 in
    let is_named : Names P named r = cited r (number, (0, omega arith, refl), blocked.1) in
    let bad : Bad P r p (window s p len) = blocked.2 (window s p len) (length-window s p len) (over-window P D s p len some w) in
    let positive : 0 < length s = omega (arith, some, w.is_roster.long) in
    no_bad_met P r s positive w.is_roster.long (met.rules r is_named) p len bad
leaf_leaves_none P o goal counts named D s (Day j x true) goal_fits has met w fits cited holds =
    met_not_too_many P D s j x.number fits.0 fits.1 w (met.rules (TheRules.Day j) (cited (TheRules.Day j) refl)) holds
leaf_leaves_none P o goal counts named D s (Day j x false) goal_fits has met w fits cited holds =
    met_not_too_few P D s j x.number fits.0 fits.1 w (met.rules (TheRules.Day j) (cited (TheRules.Day j) refl)) holds
leaf_leaves_none P o goal counts named D s (Words p R claim) goal_fits has met w fits cited holds = words_leave_none P o goal named D s p R claim goal_fits has met w fits cited holds
leaf_leaves_none P o None counts named D s Few goal_fits has met w fits cited holds = holds
leaf_leaves_none P o (Some goal) counts named D s Few goal_fits has met w fits cited holds = few_leaves_none P goal D s goal_fits.1 has w holds
leaf_leaves_none P o goal counts named D s (Blocks x) goal_fits has met w fits cited holds = blocks_leave_none P x s met.is_roster fits.1 (λ r cites. met.rules r (cited r cites)) holds

-- a day that weighs something is one of the problem's
weighed_is_day : (P : Instance) (y : List Weight) (j x : ℕ) → AllByRecursion (λ e. IsDay P e.day × IsSymbol P e.symbol) y → weight_at y j x ≢ pos 0 → IsDay P j
weighed_is_day P [] j x h ne = absurd (ne refl)
weighed_is_day P (e ∷ y) j x h ne =
    elim (cases_Bool ((e.day == j) && (e.symbol.number == x))) [
      | inl here ↦ subst (IsDay P) (here_from_test e j x here).0 h.0.0
      | inr past ↦ weighed_is_day P y j x h.1 (λ z. ne (weight_past e y j x past ∙ z))
    ]

words_cite_rules : (P : Instance) (goal : Option ℕ) (p : ℕ) (R : List ℕ) (claim : WordClaim) (r : Rule) → WordsFit P goal p R claim → WordsCite P R claim r → IsRule P r
words_cite_rules P goal p R (Dead len) r fits c = named-IsRule P R r c
words_cite_rules P goal p R (Light turns reward y) r fits (inl c) = named-IsRule P R r c
words_cite_rules P goal p R (Light turns reward y) r fits (inr c) =
    subst (IsRule P) (sym c.2) (weighed_is_day P y c.0 c.1.0 (all_to (λ e. IsDay P e.day × IsSymbol P e.symbol) y fits.3.1) c.1.1)

block_rule_is : (P : Instance) (n : ℕ) (r : Rule) → n ≤ shift_count P → IsBlockRule n r → IsRule P r
block_rule_is P zero r small c =
    subst (IsRule P) c.2 (all_from (IsRule P) (block_rules_of 0) (block_rules_are P (Off ∷ Work ∷ []) (tt, (tt, tt))) c.0 r c.1)
block_rule_is P (suc n) r small c =
    subst (IsRule P) c.2 (all_from (IsRule P) (block_rules_of (suc n)) (block_rules_are P (Shift (symbol_numbered (suc n)) ∷ []) ((omega arith, small), tt)) c.0 r c.1)

-- what a leaf that fits rests on are rules of the problem
pub leaf_cites_rules : (P : Instance) (goal : Option ℕ) (counts : Bool) (leaf : Leaf) (r : Rule) → LeafFits P goal counts leaf → LeafCites P leaf r → IsRule P r
leaf_cites_rules P goal counts (Window number p len) r fits c = named-IsRule P (number ∷ []) r c
leaf_cites_rules P goal counts (Day j x over) r fits c = subst (IsRule P) (sym c) fits.0
leaf_cites_rules P goal counts (Words p R claim) r fits c = words_cite_rules P goal p R claim r fits c
leaf_cites_rules P goal counts (Blocks x) r fits (inl c) = block_rule_is P x.number r fits.1 c
leaf_cites_rules P goal counts (Blocks x) r fits (inr c) = subst (IsRule P) (sym c.2) c.1
leaf_cites_rules P goal counts leaf r fits c = absurd c

-- the claim of a leaf of words is true under the other too
same_claim : (P : Instance) (goal : Option ℕ) (D E : Domains) (p : ℕ) (R : List ℕ) (claim : WordClaim) → 0 < cells P → AreSame P D E → WordsHold P goal D p R claim → WordsHold P goal E p R claim
same_claim P goal D E p R (Dead len) some same h = λ u long over. h u long (same_over P E D p u some (turned_round P D E same) over)
same_claim P goal D E p R (Light turns reward y) some same h = λ u long over. h u long (same_over P E D p u some (turned_round P D E same) over)

-- a leaf that holds under the one holds under the other
pub leaf_holds_same : (P : Instance) (goal : Option ℕ) (counts : Bool) (D E : Domains) (leaf : Leaf) → 0 < cells P → GoalFits P Full goal → LeafFits P goal counts leaf → AreSame P D E → LeafHolds P goal D leaf → LeafHolds P goal E leaf
leaf_holds_same P goal counts D E (Window rule p len) some weeks fits same h = (h.0, h.1, λ u long over. h.2 u long (same_over P E D p u some (turned_round P D E same) over))
leaf_holds_same P goal counts D E (Day j x true) some weeks fits same h = subst (λ n. greatest P x.number j <ℤ pos n) (same_fixed P D E j x.number fits.0 same) h
leaf_holds_same P goal counts D E (Day j x false) some weeks fits same h = subst (λ n. pos n <ℤ least P x.number j) (same_possible P D E j x.number fits.0 same) h
leaf_holds_same P goal counts D E (Words p R claim) some weeks fits same h = same_claim P goal D E p R claim some same h
leaf_holds_same P None counts D E Few some weeks fits same h = h
leaf_holds_same P (Some goal) counts D E Few some weeks fits same h = same_few P goal D E weeks.1 same h
leaf_holds_same P goal counts D E (Blocks x) some weeks fits same h = h

-- and a word that escapes it under the one escapes it under the other
pub leaf_escapes_too : (P : Instance) (goal : Option ℕ) (D E : Domains) (leaf : Leaf) (w : List Symbol) → 0 < cells P → AreSame P D E → LeafEscapes P goal D leaf w → LeafEscapes P goal E leaf w
leaf_escapes_too P goal D E (Words p R (Dead len)) w some same h = record {
  clean = same_clean P D E p len R w some same h.clean;
  least = λ v c. h.least v (same_clean P E D p len R v some (turned_round P D E same) c);
}
leaf_escapes_too P goal D E (Words p R (Light turns reward y)) w some same h = (same_least P D E p (turns * cells P) R (worth P goal y reward p) w some same h.0, h.1)
leaf_escapes_too P goal D E leaf w some same h = absurd h

-- the words that show an escape are one
pub first_same : (u v : List Symbol) → ComesFirst u v → ComesFirst v u → u ≡ v
first_same [] [] a b = refl
first_same [] (y ∷ v) a b = absurd b
first_same (x ∷ u) [] a b = absurd a
first_same (x ∷ u) (y ∷ v) (inl a) (inl b) = absurd (omega (arith, a, b))
first_same (x ∷ u) (y ∷ v) (inl a) (inr b) = let e : y.number ≡ x.number = ap (λ (z : Symbol). z.number) b.0 in absurd (omega (arith, a, e))
first_same (x ∷ u) (y ∷ v) (inr a) (inl b) = let e : x.number ≡ y.number = ap (λ (z : Symbol). z.number) a.0 in absurd (omega (arith, b, e))
first_same (x ∷ u) (y ∷ v) (inr a) (inr b) =
    let head : x ≡ y = a.0 in
    let rest : u ≡ v = first_same u v a.1 b.1 in
    let whole : x ∷ u ≡ y ∷ v = cc in whole

-- one word escapes a leaf at most
pub leaf_escapes_same : (P : Instance) (goal : Option ℕ) (D : Domains) (leaf : Leaf) (u v : List Symbol) → LeafEscapes P goal D leaf u → LeafEscapes P goal D leaf v → u ≡ v
leaf_escapes_same P goal D (Words p R (Dead len)) u v a b = first_same u v (a.least v b.clean) (b.least u a.clean)
leaf_escapes_same P goal D (Words p R (Light turns reward y)) u v a b = first_same u v (a.0.least v b.0.heavy) (b.0.least u a.0.heavy)
leaf_escapes_same P goal D leaf u v a b = absurd a

-- a claim of words that a word escapes isn't true
claim_escaped : (P : Instance) (goal : Option ℕ) (D : Domains) (p : ℕ) (R : List ℕ) (claim : WordClaim) (u : List Symbol) → WordsEscape P goal D p R claim u → WordsHold P goal D p R claim → ⊥
claim_escaped P goal D p R (Dead len) u e h = h u e.clean.long e.clean.over e.clean.clean
claim_escaped P goal D p R (Light turns reward y) u e h =
    too_light (worth P goal y reward p u) (pos turns *ℤ owed P goal y reward) (h u e.0.heavy.clean.long e.0.heavy.clean.over e.0.heavy.clean.clean) e.1

-- and then it doesn't hold
pub escaped_leaf_not_holding : (P : Instance) (goal : Option ℕ) (D : Domains) (leaf : Leaf) (u : List Symbol) → LeafEscapes P goal D leaf u → LeafHolds P goal D leaf → ⊥
escaped_leaf_not_holding P goal D (Words p R claim) u e h = claim_escaped P goal D p R claim u e h
escaped_leaf_not_holding P goal D leaf u e h = e

-- a leaf that isn't one of words lists no rules, and no word escapes it
pub wordless_lists_none : (P : Instance) (leaf : Leaf) (k : ℕ) → IsWordless leaf → LeafListsLong P leaf k → ⊥
wordless_lists_none P (Words p R claim) k i l = i
wordless_lists_none P leaf k i l = l

pub wordless_not_escaped : (P : Instance) (goal : Option ℕ) (D : Domains) (leaf : Leaf) (u : List Symbol) → IsWordless leaf → LeafEscapes P goal D leaf u → ⊥
wordless_not_escaped P goal D (Words p R claim) u i l = i
wordless_not_escaped P goal D leaf u i l = l

-- a leaf that lists short rules only lists none that isn't
pub leaf_long_not_short : (P : Instance) (leaf : Leaf) (k : ℕ) → LeafListsShort P leaf → LeafListsLong P leaf k → ⊥
leaf_long_not_short P (Words p R claim) k i l = l.3 (i l.0 (k, l.2, l.1))
leaf_long_not_short P leaf k i l = l
