-- Words from the first day on: they lead from state 0.
use Rattle.std.proofs.Common.{◌≡◌, ℕ, List, Some, ap, sym, ◌∙◌}
use Rattle.rwsp_terms.specs.declared.data.Symbol.{Symbol}
use Rattle.refutation_terms.specs.Word.{Clean}
use Rattle.clean_words.specs.Moves.{lead}
use Rattle.clean_words.specs.Automata.{RuleAutomaton, IsAutomaton, HasSymbolsOf}

pub clean_first : (a : RuleAutomaton) → IsAutomaton a → (w : List Symbol) → HasSymbolsOf a.problem w → Clean a.problem a.rules 0 w → (s : ℕ) × (lead a.moves (Some 0) w ≡ Some s)
clean_first a is w known clean =
    let led = is.clean 0 w known clean in
    (led.0, ap (λ k. lead a.moves (Some k) w) (sym is.first) ∙ led.1)

pub reads_first : (a : RuleAutomaton) → IsAutomaton a → (w : List Symbol) (s : ℕ) → lead a.moves (Some 0) w ≡ Some s → Clean a.problem a.rules 0 w
reads_first a is w s h = is.reads 0 w s (ap (λ k. lead a.moves (Some k) w) is.first ∙ h)
