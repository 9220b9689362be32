-- A spent log, and a sharp one with a turn.
use Rattle.std.proofs.Common.{◌≡◌, ℕ, zero, suc, ◌<◌, ◌≤◌, List, [], ◌∷◌, length, get_or, refl, ap, ◌∙◌, subst, arith, inr, Option, Some, None, lit<, lit≤, false}
use Rattle.std.specs.Prelude.{slice_get}
use Rattle.std.specs.List.{AllByRecursion}
use Rattle.std.specs.Int.Signed.{le_z_yes}
use Rattle.rwsp_terms.specs.declared.limits.TheConstants.{GREATEST_SHORT_BOUND}
use Rattle.rwsp_terms.specs.declared.data.Bounds.{Bounds}
use Rattle.rwsp_terms.specs.declared.data.Symbol.{Symbol}
use Rattle.rwsp_terms.specs.declared.data.Class.TheVariants.{Shift, Off, Work}
use Rattle.rwsp_terms.specs.declared.data.Rule.{Rule}
use Rattle.rwsp_terms.specs.declared.data.Rule.TheVariants as TheRules
use Rattle.rwsp_terms.specs.Instance.{Instance, symbol_numbered}
use Rattle.rwsp_terms.specs.Roster.{IsRule}
use Rattle.rwsp_terms.specs.Rules.{rule_of, Names, IsShort, NamesShortOnly, NamesShortRules}
use Rattle.refutation_terms.specs.declared.lines.Line.{Line}
use Rattle.refutation_terms.specs.declared.lines.Line.TheVariants.{Split, Unfinished}
use Rattle.refutation_terms.specs.Tree.{Leaf, Node}
use Rattle.refutation_terms.specs.Log.{IsSpent, HoldsAt, LineFits, Cites, ListsShortOnly}
use Rattle.refutation_terms.specs.Sharp.{IsDemanded, IsNoScarcer, IsScarcestTurn, IsUnclosed, IsSharp}
use Rattle.refutation_terms.specs.Examples.{one_shift, short_rules, three_of_six, turn_log, open_log, shift_D, blocks_dead, from_to}
use Rattle.refutation_terms.proofs.Named.{named-IsRule}

-- the only shift
pub one_shift_is : (x : Symbol) → (0 < x.number) × (x.number ≤ 1) → symbol_numbered 1 ≡ x
one_shift_is x h = let a : 0 < x.number = h.0 in let b : x.number ≤ 1 = h.1 in let e : 1 ≡ x.number = omega arith in ap symbol_numbered e

-- each rule of a list is short
abbrev IsShortIf : Instance → Option Rule → Type 0
IsShortIf P None = Unit {0}
IsShortIf P (Some r) = IsShort P r

short_at : (P : Instance) (R : List ℕ) → AllByRecursion (λ k. IsShortIf P (rule_of P k)) R → (i k : ℕ) → i < length R → get_or R i k ≡ k → (r : Rule) → rule_of P k ≡ Some r → IsShort P r
short_at P [] h i k lt e r is = absurd (omega (arith, lt))
short_at P (m ∷ R) h zero k lt e r is = subst (IsShortIf P) (ap (rule_of P) e ∙ is) h.0
short_at P (m ∷ R) h (suc i) k lt e r is = short_at P R h.1 i k (omega (arith, lt)) e r is

short_only : (P : Instance) (R : List ℕ) → AllByRecursion (λ k. IsShortIf P (rule_of P k)) R → NamesShortOnly P R
short_only P R h r n = short_at P R h n.1.0 n.0 n.1.1 n.1.2 r n.2

-- bounds whose rules are short
abbrev pub AreNear : Bounds → Type 0
AreNear b = (b.greatest ≤ GREATEST_SHORT_BOUND) × (b.least ≤ GREATEST_SHORT_BOUND)

-- the six rules on blocks
six_are_short : (days weeks : ℕ) (demand : List Bounds) (block : Bounds) (r : Rule) → IsRule (one_shift days weeks demand block) r → IsShort (one_shift days weeks demand block) r → Names (one_shift days weeks demand block) short_rules r
six_are_short days weeks demand block (TheRules.Most (Shift x)) is short = (1, (0, lit< tt, refl), ap (λ y. Some (TheRules.Most (Shift y))) (one_shift_is x is))
six_are_short days weeks demand block (TheRules.Least (Shift x)) is short = (2, (1, lit< tt, refl), ap (λ y. Some (TheRules.Least (Shift y))) (one_shift_is x is))
six_are_short days weeks demand block (TheRules.Most Off) is short = (3, (2, lit< tt, refl), refl)
six_are_short days weeks demand block (TheRules.Least Off) is short = (4, (3, lit< tt, refl), refl)
six_are_short days weeks demand block (TheRules.Most Work) is short = (5, (4, lit< tt, refl), refl)
six_are_short days weeks demand block (TheRules.Least Work) is short = (6, (5, lit< tt, refl), refl)
six_are_short days weeks demand block (TheRules.Never k) is short = let none : k < 0 = is in absurd (omega (arith, none))
six_are_short days weeks demand block (TheRules.Day j) is short = absurd short

pub block_rules_are_short : (days weeks : ℕ) (demand : List Bounds) (block : Bounds) → AreNear block → NamesShortRules (one_shift days weeks demand block) short_rules
block_rules_are_short days weeks demand block a r =
    let P = one_shift days weeks demand block in (
      λ n. (named-IsRule P short_rules r n, short_only P short_rules (a.0, (a.1, (a.0, (a.1, (a.0, (a.1, tt)))))) r n),
      λ h. six_are_short days weeks demand block r h.0 h.1,
    )

-- a turn to D on day 1 and one leaf is sharp
no_split : (k p : ℕ) (x : Symbol) → slice_get (blocks_dead ∷ []) k ≡ Some (Split p x) → ⊥
no_split zero p x e = cc
no_split (suc k) p x e = cc

decided : (line : Line) → slice_get (blocks_dead ∷ []) 0 ≡ Some line → IsUnclosed line → ⊥
decided line e h = let same : line ≡ blocks_dead = cc in subst IsUnclosed same h

scarcest : IsScarcestTurn three_of_six turn_log.opening
scarcest = (((lit< tt, lit≤ tt), (lit< tt, lit≤ tt), le_z_yes tt), no_scarcer)
  where
    no_scarcer : (j : ℕ) (x : Symbol) → IsDemanded three_of_six j x → IsNoScarcer three_of_six (record { day = 1; x = shift_D }) j x
    no_scarcer zero x h = let a : 0 < 0 = h.0.0 in absurd (omega (arith, a))
    no_scarcer (suc zero) x h = let same = one_shift_is x h.1 in subst (λ z. IsNoScarcer three_of_six (record { day = 1; x = shift_D }) 1 z) same (inr (refl, inr (refl, lit≤ tt)))
    no_scarcer (suc (suc j)) x h = let a : suc (suc j) ≤ 1 = h.0.1 in absurd (omega (arith, a))

pub turn_log_is_sharp : IsSharp three_of_six turn_log
turn_log_is_sharp = record {
  short = short_rules;
  all_short = block_rules_are_short 1 6 (from_to 3 3 ∷ []) (from_to 2 2) (lit≤ tt, lit≤ tt);
  splits = λ k p x e. absurd (no_split k p x e);
  top = λ line e h. absurd (decided line e h);
  turn = scarcest;
}

-- a log that is spent after its one split
abbrev EachFrom : (ℕ → Line → Type 0) → List Line → Type 0
EachFrom Q [] = Unit {0}
EachFrom Q (line ∷ lines) = Q 0 line × EachFrom (λ k. Q (suc k)) lines

each_at : (Q : ℕ → Line → Type 0) (lines : List Line) → EachFrom Q lines → (k : ℕ) (line : Line) → slice_get lines k ≡ Some line → Q k line
each_at Q [] h k line e = absurd (cc)
each_at Q (l ∷ lines) h zero line e = let same : l ≡ line = cc in subst (Q 0) same h.0
each_at Q (l ∷ lines) h (suc k) line e = each_at (λ k. Q (suc k)) lines h.1 k line e

pub open_log_is_spent : IsSpent three_of_six open_log 1
open_log_is_spent = record {
  grounded = record {
    fits = record {
      named = (λ k lt. absurd (omega (arith, lt)), λ k d lt. absurd (omega (arith, lt)));
      opening = tt;
      goal = tt;
      counts = tt;
      lines = each_at (λ k line. LineFits three_of_six None false line) open_log.lines ((lit< tt, lit≤ tt), (tt, (tt, tt)));
    };
    allowed = tt;
    turn_named = λ r c. absurd c;
    named = λ k line r e c. absurd (each_at (λ k line. Cites three_of_six line r → ⊥) open_log.lines ((λ h. h), ((λ h. h), ((λ h. h), tt))) k line e c);
    short = each_at (λ k line. ListsShortOnly three_of_six line) open_log.lines (tt, (tt, (tt, tt)));
  };
  tree = (Node 0 shift_D (Leaf Unfinished tt) (Leaf Unfinished tt), refl);
  holds = λ k line lt e. each_at (λ k line. k < 1 → HoldsAt three_of_six open_log k line) open_log.lines
      ((λ h. refl), ((λ h. absurd (omega (arith, h))), ((λ h. absurd (omega (arith, h))), tt))) k line e lt;
  rest = λ k line le e. each_at (λ k line. 1 ≤ k → line ≡ Unfinished) open_log.lines
      ((λ h. absurd (omega (arith, h))), ((λ h. refl), ((λ h. refl), tt))) k line e le;
  unfinished = lit< tt;
}
