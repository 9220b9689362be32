-- A log that passes without some window rules passes without the first of them alone.
use Rattle.std.proofs.Common.{◌≡◌, ◌≢◌, ℕ, ◌<◌, ◌≤◌, List, [], ◌∷◌, length, refl, sym, subst, inl, inr, Some, Option, Bool}
use Rattle.std.specs.Prelude.{All, Contains, slice_get}
use Rattle.std.proofs.lemmas.List.Elements.{All-contains, All-head, All-tail, All-weaker}
use Rattle.rwsp_terms.specs.declared.data.Weight.{Weight}
use Rattle.rwsp_terms.specs.declared.data.Rule.{Rule}
use Rattle.rwsp_terms.specs.declared.data.Rule.TheVariants as TheRules
use Rattle.rwsp_terms.specs.Instance.{Instance}
use Rattle.rwsp_terms.specs.Rules.{rule_of, rules, Names, NamesShortOnly}
use Rattle.rwsp_model.proofs.Numbering.{one_number}
use Rattle.refutation_terms.specs.declared.lines.Line.{Line}
use Rattle.refutation_terms.specs.declared.lines.Line.TheVariants.{Closing}
use Rattle.refutation_terms.specs.declared.lines.Leaf.TheVariants.{Words}
use Rattle.refutation_terms.specs.declared.lines.WordClaim.TheVariants.{Dead, Light}
use Rattle.refutation_terms.specs.Word.{Domains}
use Rattle.refutation_terms.specs.WordsLeaf.{IsTooLight}
use Rattle.refutation_terms.specs.Tree.{IsTree, domains_at}
use Rattle.refutation_terms.specs.Log.{Log, LineFits, Fits, Holds, Cites, ListsShortOnly, Passes}
use Rattle.refutation_terms.specs.Ranges.{AreRules, HasWeight}
use Rattle.refutation_terms.specs.Strip.{without_rule, without_day, strip_line, strip, NeedsEachRule}
use Rattle.refutation_terms.proofs.Windows.{clean-fewer}
use Rattle.refutation_log.proofs.CitedRules.{rule_there}
use Rattle.refutation_log.specs.Needs.{NeedsTogether, NamesWindowRule, strip_all}
use Rattle.rule_reducer.proofs.Kept.{was_listed, still_listed}
use Rattle.rule_reducer.proofs.Strips.{tree_stays, domains_stay, line_after, line_before, fits_still}

abbrev pub IsWindowRule : Instance → ℕ → Type 0
IsWindowRule P n = (j : ℕ) → rule_of P n ≢ Some (TheRules.Day j)

-- the list holds named and short rules alone
abbrev pub ListIsNamed : Instance → List ℕ → List ℕ → Type 0
ListIsNamed P named R = ((k : ℕ) → Contains R k → Contains named k) × NamesShortOnly P R

abbrev pub ListsAreNamed : Instance → List ℕ → Line → Type 0
ListsAreNamed P named (Closing (Words p R claim)) = ListIsNamed P named R
ListsAreNamed P named line = Unit {0}

-- a log with all that passing asks for, except what strips may change
pub record IsLaidOut (P : Instance) (g : Log) : Type 0 where
  pub fits : Fits P g
  pub tree : IsTree g.lines
  pub listed : (k : ℕ) (line : Line) → slice_get g.lines k ≡ Some line → ListsAreNamed P g.named line

more_named : (P : Instance) (n : ℕ) (R : List ℕ) (r : Rule) → Names P (without_rule n R) r → Names P R r
more_named P n R r named = (named.0, (was_listed n R named.0 named.1).0, named.2)

list_stays : (P : Instance) (n : ℕ) (named R : List ℕ) → ListIsNamed P named R → ListIsNamed P (without_rule n named) (without_rule n R)
list_stays P n named R h = (
  λ k c. let q = was_listed n R k c in still_listed n named k (h.0 k q.0) q.1,
  λ r c. h.1 r (more_named P n R r c),
)

lists_stay : (P : Instance) (n : ℕ) (named : List ℕ) (line : Line) → ListsAreNamed P named line → ListsAreNamed P (without_rule n named) (strip_line P n line)
lists_stay P n named (Closing (Words p R claim)) h = list_stays P n named R h
lists_stay P n named line h = h

laid_out_still : (P : Instance) (n : ℕ) (g : Log) → IsLaidOut P g → IsLaidOut P (strip P n g)
laid_out_still P n g laid = record {
  fits = fits_still P n g laid.fits;
  tree = tree_stays P n g.lines laid.tree;
  listed = λ k line got.
      let old = line_before P n g.lines k line got in
      subst (ListsAreNamed P (without_rule n g.named)) old.2 (lists_stay P n g.named old.0 (laid.listed k old.0 old.1));
}

-- a list whose rules are all named holds named numbers alone
list_named : (P : Instance) (named R : List ℕ) → AreRules P R → ((r : Rule) → Names P R r → Names P named r) → (k : ℕ) → Contains R k → Contains named k
list_named P named R are h k c =
    let within = All-contains (λ m. (0 < m) × (m ≤ length (rules P))) R k are.1 c in
    let r = rule_there P k within.0 within.1 in
    let m = h r.0 (k, c, r.1) in
    subst (Contains named) (one_number P m.0 k r.0 m.2 r.1) m.1

lists_named : (P : Instance) (named : List ℕ) (goal : Option ℕ) (counts : Bool) (line : Line) → LineFits P goal counts line → ((r : Rule) → Cites P line r → Names P named r) → ListsShortOnly P line → ListsAreNamed P named line
lists_named P named goal counts (Closing (Words p R (Dead len))) fits h short = (list_named P named R fits.2 h, short)
lists_named P named goal counts (Closing (Words p R (Light turns reward y))) fits h short = (list_named P named R fits.2 (λ r c. h r (inl c)), short)
lists_named P named goal counts line fits h short = tt

passing_laid_out : (P : Instance) (g : Log) → Passes P g → IsLaidOut P g
passing_laid_out P g passes = record {
  fits = passes.grounded.fits;
  tree = passes.tree;
  listed = λ k line got.
      lists_named P g.named g.goal g.counts line (passes.grounded.fits.lines k line got) (λ r c. passes.grounded.named k line r got c) (passes.grounded.short k line got);
}

-- a window rule takes no weights along
no_day : (r : Option Rule) (y : List Weight) → ((j : ℕ) → r ≢ Some (TheRules.Day j)) → without_day r y ≡ y
no_day (Some (TheRules.Day j)) y h = absurd (h j refl)
no_day other y h = refl

-- the rules that a line cites are named where those are that it cites without one rule
line_named : (P : Instance) (n : ℕ) (named : List ℕ) (line : Line) → IsWindowRule P n → ListsAreNamed P named line → ((r : Rule) → Cites P (strip_line P n line) r → Names P (without_rule n named) r) → (r : Rule) → Cites P line r → Names P named r
line_named P n named (Closing (Words p R (Dead len))) window lists h r c = (c.0, lists.0 c.0 c.1, c.2)
line_named P n named (Closing (Words p R (Light turns reward y))) window lists h r (inl c) = (c.0, lists.0 c.0 c.1, c.2)
line_named P n named (Closing (Words p R (Light turns reward y))) window lists h r (inr c) =
    more_named P n named r (h r (inr (c.0, subst (λ z. HasWeight z c.0) (sym (no_day (rule_of P n) y window)) c.1, c.2)))
line_named P n named line window lists h r c = more_named P n named r (h r c)

lists_short : (P : Instance) (named : List ℕ) (line : Line) → ListsAreNamed P named line → ListsShortOnly P line
lists_short P named (Closing (Words p R claim)) h = h.1
lists_short P named line h = h

-- a line that holds without a window rule holds with it
holds_with : (P : Instance) (n : ℕ) (goal : Option ℕ) (D : Domains) (line : Line) → IsWindowRule P n → Holds P goal D (strip_line P n line) → Holds P goal D line
holds_with P n goal D (Closing (Words p R (Dead len))) window h = λ u long over clean. h u long over (clean-fewer P R (without_rule n R) p u (λ k c. (was_listed n R k c).0) clean)
holds_with P n goal D (Closing (Words p R (Light turns reward y))) window h = λ u long over clean.
    let light : IsTooLight P goal D p turns reward (without_rule n R) y = subst (λ z. IsTooLight P goal D p turns reward (without_rule n R) z) (no_day (rule_of P n) y window) h in
    light u long over (clean-fewer P R (without_rule n R) p u (λ k c. (was_listed n R k c).0) clean)
holds_with P n goal D line window h = h

passes_with : (P : Instance) (n : ℕ) (g : Log) → IsLaidOut P g → IsWindowRule P n → Passes P (strip P n g) → Passes P g
passes_with P n g laid window passes = record {
  grounded = record {
    fits = laid.fits;
    allowed = passes.grounded.allowed;
    turn_named = λ r c. more_named P n g.named r (passes.grounded.turn_named r c);
    named = λ k line r got c.
        line_named P n g.named line window (laid.listed k line got)
        (λ z cited. passes.grounded.named k (strip_line P n line) z (line_after P n g.lines k line got) cited) r c;
    short = λ k line got. lists_short P g.named line (laid.listed k line got);
  };
  tree = laid.tree;
  holds = λ k line got.
      holds_with P n g.goal (domains_at P g.opening g.lines k) line window
      (subst (λ (D : Domains). Holds P g.goal D (strip_line P n line)) (domains_stay P n g.opening g.lines k) (passes.holds k (strip_line P n line) (line_after P n g.lines k line got)));
}

passes_with_all : (P : Instance) (numbers : List ℕ) (g : Log) → IsLaidOut P g → All (IsWindowRule P) numbers → Passes P (strip_all P numbers g) → Passes P g
passes_with_all P [] g laid windows passes = passes
passes_with_all P (n ∷ rest) g laid windows passes =
    passes_with P n g laid (All-head (IsWindowRule P) n rest windows)
    (passes_with_all P rest (strip P n g) (laid_out_still P n g laid) (All-tail (IsWindowRule P) n rest windows) passes)

pub needs_together : (P : Instance) (g : Log) → NeedsEachRule P g → Passes P g → NeedsTogether P g
needs_together P g needs passes [] some named stripped = some refl
needs_together P g needs passes (n ∷ rest) some named stripped =
    let windows : All (IsWindowRule P) (n ∷ rest) = All-weaker (NamesWindowRule P g) (IsWindowRule P) (λ k h. h.1) (n ∷ rest) named in
    needs n (All-head (NamesWindowRule P g) n rest named).0
    (passes_with_all P rest (strip P n g) (laid_out_still P n g (passing_laid_out P g passes)) (All-tail (IsWindowRule P) n rest windows) stripped)
