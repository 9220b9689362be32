-- A log that passes is not spent.
use Rattle.std.proofs.Common.{◌≡◌, ℕ, ◌≤◌, get_or, Option, Some, arith, subst}
use Rattle.std.specs.Prelude.{slice_get}
use Rattle.std.proofs.lemmas.Option.{slice_get-get_or}
use Rattle.refutation_terms.specs.declared.lines.Line.TheVariants.{Unfinished}
use Rattle.rwsp_terms.specs.Instance.{Instance}
use Rattle.refutation_terms.specs.Word.{Domains}
use Rattle.refutation_terms.specs.Tree.{domains_at}
use Rattle.refutation_terms.specs.Log.{Holds, HoldsAt}
use Rattle.refutation_terms.specs.Laws.{PassingIsNotSpent}

pub open_holds_not : (P : Instance) (goal : Option ℕ) (D : Domains) → Holds P goal D Unfinished → ⊥
open_holds_not P goal D h = h

pub passing_not_spent : PassingIsNotSpent
passing_not_spent P g budget passes spent =
    let line = get_or g.lines budget Unfinished in
    let is_line : slice_get g.lines budget ≡ Some line = slice_get-get_or g.lines budget Unfinished spent.unfinished in
    let from : budget ≤ budget = omega arith in
    let is_open : line ≡ Unfinished = spent.rest budget line from is_line in
    open_holds_not P g.goal (domains_at P g.opening g.lines budget) (subst (HoldsAt P g budget) is_open (passes.holds budget line is_line))
