-- The text of given cells: a roster's text in which `?` stands for a cell that is left open.
use Rattle.std.specs.Prelude.{◌≡◌, ℕ, suc, List, [], ◌∷◌, Option, Some, None, true}
use Rattle.rwsp_terms.specs.declared.data.Symbol.{Symbol}
use Rattle.rwsp_terms.specs.Instance.{Instance}
use Rattle.roster_print.specs.Said.{said_of}
use Rattle.roster_print.specs.RosterText.{SpellsWeeks}
use Rattle.roster_print.specs.Refusal.{refusal_of_weeks}
use Rattle.roster_print.specs.declared.refusal.RosterRefusal.{RosterRefusal}
use Rattle.refutation_terms.specs.declared.cells.GivenCell.{GivenCell}

-- the cells that have a symbol, from this position on
abbrev pub given_from : ℕ → List (Option Symbol) → List GivenCell
given_from p [] = []
given_from p (None ∷ said) = given_from (suc p) said
given_from p (Some x ∷ said) = record { p = p; x = x } ∷ given_from (suc p) said

-- the weeks of the text say of each cell its symbol or that it is open, and these are the cells that have a symbol
abbrev pub SpellsGiven : Instance → List ℕ → List GivenCell → Type 0
SpellsGiven P bytes given =
    (said : List (Option Symbol)) × SpellsWeeks P (said_of P true) bytes said × (given ≡ given_from 0 said)

-- why a text gives no cells: there a word is `?` or a symbol's name
abbrev pub refusal_of_cells : Instance → List ℕ → Option RosterRefusal
refusal_of_cells P = refusal_of_weeks P (said_of P true)
