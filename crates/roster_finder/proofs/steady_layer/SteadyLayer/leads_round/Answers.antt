use Rattle.std.proofs.Common.{◌≡◌, ℕ, Some, ap, sym, ◌∙◌, rules}
use Rattle.clean_words.specs.Automata.{begin_at}
use Rattle.roster_finder.specs.Led.{lead_from}
use Rattle.roster_finder.proofs.ClosedWalks.{round_is_clean}
use Rattle.roster_finder.proofs.steady_layer.SteadyLayer.leads_round.Goals as goal

pub returns-clause-clean : goal.returns-clause-clean
returns-clause-clean c = λ yes.
    let a = c.args.self.now.automaton in
    let word = c.args.word.now in
    let state = c.in-Some.state in
    let first : lead_from a (begin_at a 0) word ≡ Some state =
    ap (λ (s : ℕ). lead_from a s word) (sym c.start.ensures.value) ∙ sym c.state_behind.ensures.value ∙ c.in-Some.is in
    let second : lead_from a state word ≡ Some state = search (rules, yes) in
    round_is_clean a c.prove_facts.ensures word (state, first, second)
