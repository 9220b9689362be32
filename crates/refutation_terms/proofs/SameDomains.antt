-- What lines say under domains rests on the positions of the domains alone.
use Rattle.std.proofs.Common.{ℕ, ◌<◌, List, sym, ◌∙◌, Bool, Option}
use Rattle.rwsp_terms.specs.declared.data.Symbol.{Symbol}
use Rattle.rwsp_terms.specs.Instance.{Instance, cells}
use Rattle.refutation_terms.specs.declared.lines.Line.{Line}
use Rattle.refutation_terms.specs.declared.lines.Line.TheVariants.{Split, Unfinished, Closing}
use Rattle.refutation_terms.specs.declared.lines.Opening.TheVariants.{Full}
use Rattle.refutation_terms.specs.Word.{Domains, AreSame}
use Rattle.refutation_terms.specs.Log.{Holds, LineFits, GoalFits}
use Rattle.refutation_terms.specs.Verdict.{Escapes}
pub use Rattle.refutation_terms.proofs.SameCells.{turned_round, same_idle, same_over, same_least}
use Rattle.refutation_terms.proofs.LeafLaws.{leaf_holds_same, leaf_escapes_too}

-- a line that holds under the one holds under the other
pub same_holds : (P : Instance) (goal : Option ℕ) (counts : Bool) (D E : Domains) (line : Line) → 0 < cells P → GoalFits P Full goal → LineFits P goal counts line → AreSame P D E → Holds P goal D line → Holds P goal E line
same_holds P goal counts D E (Split p x) some weeks fits same h = sym (same_idle P D E p x.number fits.0 same) ∙ h
same_holds P goal counts D E (Closing leaf) some weeks fits same h = leaf_holds_same P goal counts D E leaf some weeks fits same h
same_holds P goal counts D E Unfinished some weeks fits same h = h

-- and a word that escapes it under the one escapes it under the other
pub same_escapes : (P : Instance) (goal : Option ℕ) (D E : Domains) (line : Line) (w : List Symbol) → 0 < cells P → AreSame P D E → Escapes P goal D line w → Escapes P goal E line w
same_escapes P goal D E (Closing leaf) w some same h = leaf_escapes_too P goal D E leaf w some same h
same_escapes P goal D E line w some same h = absurd h
