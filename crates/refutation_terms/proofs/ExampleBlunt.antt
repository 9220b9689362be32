-- Logs of the examples that aren't sharp.
use Rattle.std.proofs.Common.{◌≡◌, ◌⊎◌, ℕ, zero, suc, ◌+◌, ◌%◌, ◌<◌, ◌≤◌, List, [], ◌∷◌, ◌++◌, None, refl, ap, sym, subst, arith, inl, inr, Bool, true, false, IsTrue, pos, lit<, lit≤}
use Rattle.std.specs.Prelude.{◌<ℤ◌, ◌*ℤ◌}
use Rattle.std.specs.Int.Signed.{lt_z_yes, le_z_yes}
use Rattle.std.proofs.lemmas.Int.{ints}
use Rattle.std.proofs.lemmas.Bool.{leb-true, eqb-true}
use Rattle.rwsp_terms.specs.declared.data.Bounds.{Bounds}
use Rattle.rwsp_terms.specs.declared.data.Symbol.{Symbol}
use Rattle.rwsp_terms.specs.declared.data.Class.TheVariants.{Shift, Off}
use Rattle.rwsp_terms.specs.declared.data.Rule.TheVariants as TheRules
use Rattle.rwsp_terms.specs.Instance.{IsDay, symbol_numbered}
use Rattle.rwsp_terms.specs.Window.{InClass}
use Rattle.rwsp_terms.specs.Rules.{NamesShortRules}
use Rattle.rwsp_terms.proofs.Elements.{all_from}
use Rattle.refutation_terms.specs.declared.lines.Line.TheVariants.{Split, Closing}
use Rattle.refutation_terms.specs.declared.lines.Leaf.TheVariants.{Day}
use Rattle.refutation_terms.specs.Word.{full, Over, Clean, weight, total}
use Rattle.refutation_terms.specs.WordsLeaf.{IsDead}
use Rattle.refutation_terms.specs.Tree.{First, narrowed, opening, opening_leaves, domains_at}
use Rattle.refutation_terms.specs.Log.{Holds}
use Rattle.refutation_terms.specs.Sharp.{IsSpentAt, HoldsAtTop, IsSharp}
use Rattle.refutation_terms.specs.Examples.{from_to, singles, odd_cycle, late_dead_log, two_on_day_one, late_day_log, two_in_a_row, late_bound_log, none_wanted, free_split_log, three_of_six, open_log, turn_to_D, on_both_days, off, shift_D}
use Rattle.refutation_terms.proofs.Tests.{left_of, right_of}
use Rattle.refutation_terms.proofs.ExampleSplit.{D_off, off_D, alternating_is_clean}

-- behind a turn to D each symbol is one of two, and the first is D
one_of_two : (z : ℕ) → z ≤ 1 → (z ≡ 0) ⊎ (z ≡ 1)
one_of_two zero small = inl refl
one_of_two (suc zero) small = inr refl
one_of_two (suc (suc z)) small = absurd (omega (arith, small))

either : (days weeks : ℕ) (demand : List Bounds) (q z : ℕ) → IsTrue (opening (singles days weeks demand) turn_to_D q z) → (z ≡ 0) ⊎ (z ≡ 1)
either days weeks demand q z h = one_of_two z (leb-true z 1 (left_of (full (singles days weeks demand) q z) (opening_leaves turn_to_D q z) h))

first_is_D : (days weeks : ℕ) (demand : List Bounds) (z : ℕ) → IsTrue (opening (singles days weeks demand) turn_to_D 0 z) → z ≡ 1
first_is_D days weeks demand z h = eqb-true z 1 (right_of (full (singles days weeks demand) 0 z) (opening_leaves turn_to_D 0 z) h)

-- no clean word has one of them twice in a row
two_parts : (before : List Symbol) (a b : Symbol) (after : List Symbol) → before ++ a ∷ b ∷ after ≡ before ++ (a ∷ b ∷ []) ++ after
two_parts [] a b after = refl
two_parts (x ∷ before) a b after = ap (λ w. x ∷ w) (two_parts before a b after)

never_both_D : (days weeks : ℕ) (demand : List Bounds) (short : List ℕ) → NamesShortRules (singles days weeks demand) short → (p : ℕ) (before after : List Symbol) (a b : Symbol) → a.number ≡ 1 → b.number ≡ 1 → Clean (singles days weeks demand) short p (before ++ a ∷ b ∷ after) → ⊥
never_both_D days weeks demand short all p before after a b e f clean =
    clean (TheRules.Most (Shift shift_D)) ((all (TheRules.Most (Shift shift_D))).1 ((lit< tt, lit≤ tt), lit≤ tt)) before (a ∷ b ∷ []) after (two_parts before a b after)
    (record { long = refl; within = all_from (InClass (Shift shift_D)) (a ∷ b ∷ []) (ap symbol_numbered e, (ap symbol_numbered f, tt)) })

never_both_off : (days weeks : ℕ) (demand : List Bounds) (short : List ℕ) → NamesShortRules (singles days weeks demand) short → (p : ℕ) (before after : List Symbol) (a b : Symbol) → a.number ≡ 0 → b.number ≡ 0 → Clean (singles days weeks demand) short p (before ++ a ∷ b ∷ after) → ⊥
never_both_off days weeks demand short all p before after a b e f clean =
    clean (TheRules.Most Off) ((all (TheRules.Most Off)).1 (tt, lit≤ tt)) before (a ∷ b ∷ []) after (two_parts before a b after)
    (record { long = refl; within = all_from (InClass Off) (a ∷ b ∷ []) (e, (f, tt)) })

-- so two turns are dead: D, then two symbols, then D
abbrev some_wanted : List Bounds
some_wanted = from_to 1 3 ∷ []

D_twice_is_dead : (short : List ℕ) → NamesShortRules (odd_cycle (from_to 1 3)) short → IsDead (odd_cycle (from_to 1 3)) (opening (odd_cycle (from_to 1 3)) turn_to_D) 0 6 short
D_twice_is_dead short all [] long over clean = absurd (omega (arith, long))
D_twice_is_dead short all (a ∷ []) long over clean = absurd (omega (arith, long))
D_twice_is_dead short all (a ∷ b ∷ []) long over clean = absurd (omega (arith, long))
D_twice_is_dead short all (a ∷ b ∷ c ∷ []) long over clean = absurd (omega (arith, long))
D_twice_is_dead short all (a ∷ b ∷ c ∷ d ∷ u) long over clean =
    elim (either 1 3 some_wanted 1 b.number over.1.0) [
      | inr b_D ↦ never_both_D 1 3 some_wanted short all 0 [] (c ∷ d ∷ u) a b (first_is_D 1 3 some_wanted a.number over.0) b_D clean
      | inl b_off ↦ (
          elim (either 1 3 some_wanted 2 c.number over.1.1.0) [
            | inr c_D ↦ never_both_D 1 3 some_wanted short all 0 (a ∷ b ∷ []) u c d c_D (first_is_D 1 3 some_wanted d.number over.1.1.1.0) clean
            | inl c_off ↦ never_both_off 1 3 some_wanted short all 0 (a ∷ []) (d ∷ u) b c b_off c_off clean
          ])
    ]

pub late_dead_is_blunt : IsSharp (odd_cycle (from_to 1 3)) late_dead_log → ⊥
late_dead_is_blunt sharp =
    (sharp.splits 0 1 shift_D refl).not_dead
    (λ u long over clean. D_twice_is_dead sharp.short sharp.all_short u long (over_opening u 0 over) clean)
  where
    over_opening : (u : List Symbol) (p : ℕ) → Over (odd_cycle (from_to 1 3)) (domains_at (odd_cycle (from_to 1 3)) turn_to_D late_dead_log.lines 0) p u → Over (odd_cycle (from_to 1 3)) (opening (odd_cycle (from_to 1 3)) turn_to_D) p u
    over_opening [] p h = tt
    over_opening (x ∷ u) p h = (left_of (opening (odd_cycle (from_to 1 3)) turn_to_D (p % 3) x.number) true h.0, over_opening u (p + 1) h.1)

-- a day leaf holds
pub late_day_is_blunt : IsSharp two_on_day_one late_day_log → ⊥
late_day_is_blunt sharp = (sharp.splits 0 1 shift_D refl).no_day (1, shift_D, false, ((lit< tt, lit≤ tt), lit≤ tt), lt_z_yes tt)

-- a plain bound holds at the top, since D is followed by a day off
abbrev each_day : List Bounds
each_day = from_to 1 1 ∷ from_to 1 1 ∷ []

one_is_light : (a b : Symbol) → a.number ≡ 1 → b.number ≡ 0 → weight two_in_a_row (on_both_days (pos 1)) 0 (a ∷ b ∷ []) <ℤ (pos 1 *ℤ total two_in_a_row (on_both_days (pos 1)))
one_is_light a b e f =
    let y = on_both_days (pos 1) in
    subst (λ x. weight two_in_a_row y 0 (x ∷ b ∷ []) <ℤ (pos 1 *ℤ total two_in_a_row y)) (sym (ap symbol_numbered e))
    (subst (λ x. weight two_in_a_row y 0 (shift_D ∷ x ∷ []) <ℤ (pos 1 *ℤ total two_in_a_row y)) (sym (ap symbol_numbered f)) (lt_z_yes tt))

too_light_at_top : (short : List ℕ) → NamesShortRules two_in_a_row short → HoldsAtTop two_in_a_row (opening two_in_a_row turn_to_D) short (on_both_days (pos 1))
too_light_at_top short all [] long over clean = absurd (omega (arith, long))
too_light_at_top short all (a ∷ []) long over clean = absurd (omega (arith, long))
too_light_at_top short all (a ∷ b ∷ []) long over clean =
    let a_D = first_is_D 2 1 each_day a.number over.0 in
    elim (either 2 1 each_day 1 b.number over.1.0) [
      | inl b_off ↦ one_is_light a b a_D b_off
      | inr b_D ↦ absurd (never_both_D 2 1 each_day short all 0 [] [] a b a_D b_D clean)
    ]
too_light_at_top short all (a ∷ b ∷ c ∷ u) long over clean = absurd (omega (arith, long))

pub late_bound_is_blunt : IsSharp two_in_a_row late_bound_log → ⊥
late_bound_is_blunt sharp =
    (sharp.top (Split 1 shift_D) refl tt).plain 0 (on_both_days (pos 1)) refl (too_light_at_top sharp.short sharp.all_short)

-- D is spent in the first cell, since the day may hold none
D_is_spent : (short : List ℕ) → IsSpentAt none_wanted (domains_at none_wanted free_split_log.opening free_split_log.lines 0) short 0 shift_D
D_is_spent short = record {
  position = lit< tt;
  left = refl;
  spent = inl (1, shift_D, true, ((lit< tt, lit≤ tt), lit≤ tt), lt_z_yes tt);
}

-- and the day off isn't: no day leaf holds where it is alone there, and some clean word begins with it
no_day_leaf : (j n : ℕ) (over : Bool) → IsDay none_wanted j → n ≤ 1 → Holds none_wanted None (narrowed (domains_at none_wanted free_split_log.opening free_split_log.lines 0) (Split 0 off) First) (Closing (Day j (symbol_numbered n) over)) → ⊥
no_day_leaf zero n over day small h = let a : 0 < 0 = day.0 in omega (arith, a)
no_day_leaf (suc (suc j)) n over day small h = let a : suc (suc j) ≤ 1 = day.1 in omega (arith, a)
no_day_leaf (suc zero) zero true day small h = omega (arith, ints)
no_day_leaf (suc zero) zero false day small h = omega (arith, ints)
no_day_leaf (suc zero) (suc zero) true day small h = omega (arith, ints)
no_day_leaf (suc zero) (suc zero) false day small h = omega (arith, ints)
no_day_leaf (suc zero) (suc (suc n)) over day small h = omega (arith, small)

abbrev off_first : List Symbol
off_first = off ∷ shift_D ∷ off ∷ shift_D ∷ []

pub free_split_is_blunt : IsSharp none_wanted free_split_log → ⊥
free_split_is_blunt sharp =
    let spent = (sharp.splits 0 0 off refl).forced 0 shift_D (D_is_spent sharp.short) in
    elim spent.spent [
      | inl day ↦ no_day_leaf day.0 day.1.number day.2 day.3.0 day.3.1 day.4
      | inr none ↦ none off_first refl (refl, (refl, (refl, (refl, tt)))) (alternating_is_clean 1 2 (from_to 0 0 ∷ []) sharp.short 0 off_first (off_D, (D_off, (off_D, tt)))) refl
    ]

-- D is demanded on day 1, and no turn is made
pub no_turn_is_blunt : IsSharp three_of_six open_log → ⊥
no_turn_is_blunt sharp = sharp.turn 1 shift_D ((lit< tt, lit≤ tt), (lit< tt, lit≤ tt), le_z_yes tt)
