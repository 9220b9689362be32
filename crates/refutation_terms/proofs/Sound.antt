-- A log that passes leaves no roster, or with a goal none that has as many free weekends.
use Rattle.std.proofs.Common.{◌≡◌, ℕ, ◌-◌, ◌<◌, ◌≤◌, List, get_or, refl, ap, sym, ◌∙◌, subst, arith, inl, inr, Bool, IsTrue, ◌==◌, ◌||◌, not, Some, None, Option}
use Rattle.std.specs.Prelude.{nat_le, slice_get}
use Rattle.std.proofs.lemmas.Bool.{eqb-true, eq-eqb, le-leb}
use Rattle.std.proofs.lemmas.List.Sums.{list_all-from_AllPass}
use Rattle.std.proofs.lemmas.Option.{get_or_from_slice_get}
use Rattle.rwsp_terms.specs.declared.data.Symbol.{Symbol}
use Rattle.rwsp_terms.specs.declared.data.Rule.{Rule}
use Rattle.rwsp_terms.specs.declared.data.Rule.TheVariants as TheRules
use Rattle.rwsp_terms.specs.Instance.{Instance, cells, shift_count, off_symbol}
use Rattle.rwsp_terms.specs.Roster.{IsRoster, MeetsDay}
use Rattle.rwsp_terms.specs.Rules.{Names, Meets}
use Rattle.refutation_terms.specs.declared.lines.Line.{Line}
use Rattle.refutation_terms.specs.declared.lines.Line.TheVariants.{Split, Unfinished, Closing}
use Rattle.refutation_terms.specs.declared.cells.GivenCell.{GivenCell}
use Rattle.refutation_terms.specs.declared.lines.Opening.{Opening}
use Rattle.refutation_terms.specs.declared.lines.Opening.TheVariants.{Full, Turned, Given}
use Rattle.refutation_terms.specs.Word.{Domains, Within, turned}
use Rattle.refutation_terms.specs.Tree.{IsLeaf, Tree, Leaf, Node, First, Second, narrowed, cells_leave, opening, opening_leaves}
use Rattle.refutation_terms.specs.Log.{Log, Holds, LineFits, OpeningFits, GoalFits, Cites, OpeningCites, HoldsOpening, IsAllowed, Passes}
use Rattle.refutation_terms.specs.GivenCells.{HoldsCells}
use Rattle.refutation_terms.specs.Laws.{HasGoal, PassingLeavesNoRoster}
use Rattle.refutation_terms.proofs.Tests.{both, where_passed}
use Rattle.refutation_terms.proofs.Sides.{in_either_side}
use Rattle.refutation_terms.proofs.TreeDomains.{EachLine, EachInOrder, in_tree}
use Rattle.refutation_terms.proofs.Turning.{turned-IsRoster, turned-meets, turned_to, demanded_somewhere}
use Rattle.refutation_terms.proofs.Named.{named-IsRule}
use Rattle.refutation_terms.proofs.LeafLaws.{leaf_leaves_none}

-- a line that holds for the goal or none, fits the problem and cites named rules
pub record IsProved (P : Instance) (goal : Option ℕ) (counts : Bool) (named : List ℕ) (D : Domains) (line : Line) : Type 0 where
  pub holds : Holds P goal D line
  pub fits : LineFits P goal counts line
  pub cited : (r : Rule) → Cites P line r → Names P named r

-- a leaf leaves no roster, or with a goal none that has as many free weekends
line_leaves_none : (P : Instance) (o : Opening) (goal : Option ℕ) (counts : Bool) (named : List ℕ) (D : Domains) (s : List Symbol) (line : Line) → GoalFits P o goal → HasGoal goal s → Meets P named s → Within P D s → IsLeaf line → IsProved P goal counts named D line → ⊥
line_leaves_none P o goal counts named D s (Split p x) fits has met w leaf h = leaf
line_leaves_none P o goal counts named D s (Closing leaf) fits has met w is h = leaf_leaves_none P o goal counts named D s leaf fits has met w h.fits h.cited h.holds
line_leaves_none P o goal counts named D s Unfinished fits has met w leaf h = h.holds

-- a tree leaves no roster within its domains
tree_leaves_none : (P : Instance) (o : Opening) (goal : Option ℕ) (counts : Bool) (named : List ℕ) (s : List Symbol) → GoalFits P o goal → HasGoal goal s → Meets P named s → (t : Tree) (D : Domains) → EachLine (IsProved P goal counts named) D t → Within P D s → ⊥
tree_leaves_none P o goal counts named s fits has met (Leaf line leaf) D h w = line_leaves_none P o goal counts named D s line fits has met w leaf h
tree_leaves_none P o goal counts named s fits has met (Node p x a b) D h w =
    elim (in_either_side P D p x s w) [
      | inl first ↦ tree_leaves_none P o goal counts named s fits has met a (narrowed D (Split p x) First) h.1 first
      | inr second ↦ tree_leaves_none P o goal counts named s fits has met b (narrowed D (Split p x) Second) h.2 second
    ]

lines_are_proved : (P : Instance) (g : Log) → Passes P g → EachInOrder (IsProved P g.goal g.counts g.named) (opening P g.opening) g.lines
lines_are_proved P g passes k line e = record {
  holds = passes.holds k line e;
  fits = passes.grounded.fits.lines k line e;
  cited = λ r cites. passes.grounded.named k line r e cites;
}

-- a log that passes leaves no roster within its opening domains
opening_leaves_none : (P : Instance) (g : Log) (s : List Symbol) → Passes P g → HasGoal g.goal s → Meets P g.named s → Within P (opening P g.opening) s → ⊥
opening_leaves_none P g s passes has met w =
    let t = passes.tree.0 in
    tree_leaves_none P g.opening g.goal g.counts g.named s passes.grounded.fits.goal has met t (opening P g.opening)
    (in_tree (IsProved P g.goal g.counts g.named) (opening P g.opening) t (subst (EachInOrder (IsProved P g.goal g.counts g.named) (opening P g.opening)) (sym passes.tree.1) (lines_are_proved P g passes))) w

-- a turned roster meets the named rules too
turned-Meets : (P : Instance) (R : List ℕ) (k : ℕ) (s : List Symbol) → 0 < cells P → Meets P R s → Meets P R (turned P k s)
turned-Meets P R k s some met = record {
  is_roster = turned-IsRoster P k s some met.is_roster;
  rules = λ r n. turned-meets P k r s some met.is_roster (named-IsRule P R r n) (met.rules r n);
}

-- a roster is within the full domains, and where a turn has x alone it holds x there
within_opening : (P : Instance) (o : Opening) (s : List Symbol) → IsRoster P s → ((p : ℕ) → IsTrue (opening_leaves o p (get_or s p off_symbol).number)) → Within P (opening P o) s
within_opening P o s roster h = record {
  is_roster = roster;
  each = λ p lt.
      let small : (get_or s p off_symbol).number ≤ shift_count P = roster.symbols p off_symbol (omega (arith, lt, roster.long)) in
      both (nat_le (get_or s p off_symbol).number (shift_count P)) (opening_leaves o p (get_or s p off_symbol).number) (le-leb (get_or s p off_symbol).number (shift_count P) small) (h p);
}

-- a roster that holds given cells is within what they leave
cell_held : (s : List Symbol) (p q : ℕ) (x : Symbol) → slice_get s q ≡ Some x → p ≡ q → (get_or s p off_symbol).number ≡ x.number
cell_held s p q x held same = ap (λ k. (get_or s k off_symbol).number) same ∙ ap (λ (z : Symbol). z.number) (get_or_from_slice_get s q x off_symbol held)

cells_held : (given : List GivenCell) (s : List Symbol) (p : ℕ) → HoldsCells given s → IsTrue (cells_leave given p (get_or s p off_symbol).number)
cells_held given s p held =
    list_all-from_AllPass (λ c. not (c.p == p) || ((get_or s p off_symbol).number == c.x.number)) given
    (λ i d lt.
    let c : GivenCell = get_or given i d in
    where_passed (c.p == p) ((get_or s p off_symbol).number == c.x.number)
    (λ e. eq-eqb (get_or s p off_symbol).number c.x.number (cell_held s p c.p c.x (held i d lt) (sym (eqb-true c.p p e)))))

-- some roster within the opening domains meets the named rules too: the roster itself, or turned to the symbol of the turn
opens_for_some : (P : Instance) (named : List ℕ) (o : Opening) (s : List Symbol) → Meets P named s → HoldsOpening o s → OpeningFits P o → IsAllowed P o → ((r : Rule) → OpeningCites o r → Names P named r) → (t : List Symbol) × Meets P named t × Within P (opening P o) t
opens_for_some P named Full s met held fits allowed cited = (s, met, within_opening P Full s met.is_roster (λ p. refl))
opens_for_some P named (Given given) s met held fits allowed cited = (s, met, within_opening P (Given given) s met.is_roster (λ p. cells_held given s p held))
opens_for_some P named (Turned t) s met held fits allowed cited =
    let day : MeetsDay P t.day s = met.rules (TheRules.Day t.day) (cited (TheRules.Day t.day) refl) in
    let some : 0 < cells P = demanded_somewhere P s t.day t.x fits.0 fits.1 day allowed in
    let there = turned_to P s t.day t.x some met.is_roster fits.0 fits.1 day allowed in
    let k = there.0 in (
      turned P k s,
      turned-Meets P named k s some met,
      within_opening P (Turned t) (turned P k s) (turned-IsRoster P k s some met.is_roster)
          (λ p. where_passed ((t.day - 1) == p) ((get_or (turned P k s) p off_symbol).number == t.x.number)
          (λ e. eq-eqb (get_or (turned P k s) p off_symbol).number t.x.number
          (ap (λ q. (get_or (turned P k s) q off_symbol).number) (sym (eqb-true (t.day - 1) p e)) ∙ ap (λ (z : Symbol). z.number) there.1))),
    )

-- a log whose goal is known leaves no roster
leaves_none_by : (P : Instance) (g : Log) (s : List Symbol) (goal : Option ℕ) → g.goal ≡ goal → Passes P g → Meets P g.named s → HasGoal g.goal s → HoldsOpening g.opening s → ⊥
leaves_none_by P g s None is passes met has held =
    let t = opens_for_some P g.named g.opening s met held passes.grounded.fits.opening passes.grounded.allowed passes.grounded.turn_named in
    opening_leaves_none P g t.0 passes (subst (λ o. HasGoal o t.0) (sym is) tt) t.1 t.2
leaves_none_by P g s (Some goal) is passes met has held =
    let fits : GoalFits P g.opening (Some goal) = subst (GoalFits P g.opening) is passes.grounded.fits.goal in
    opening_leaves_none P g s passes has met
    (subst (λ o. Within P (opening P o) s) (sym fits.0) (within_opening P Full s met.is_roster (λ p. refl)))

-- the law: a log that passes and a roster that meets its named rules, has its goal and holds its given cells exclude
-- each other
pub passing_leaves_none : PassingLeavesNoRoster
passing_leaves_none P g s passes met has held = leaves_none_by P g s g.goal refl passes met has held
