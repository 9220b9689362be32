use Rattle.std.proofs.Common.{◌≡◌, ℕ, length, subst, rules}
use Rattle.clean_words.specs.Trellis.{Trellis, trellis}
use Rattle.clean_words.specs.Choices.{AreDayGains}
use Rattle.clean_words.proofs.Steps.{placed}
use Rattle.clean_words.proofs.Walks.{on_more, on_none}
use Rattle.clean_words.proofs.walk.go_on.Goals as goal

pub unreachable-requires : goal.unreachable-requires
unreachable-requires g c =
    let T : Trellis = trellis c.args.words.now (g.G.Gain.gain_of c.args.gain.now) in
    let walk = c.args.walk.now in
    let facts = c.prove_facts.ensures in
    let day : c.len.result ≡ length walk.symbols.items = search rules in
    let gains = subst (λ (d : ℕ). AreDayGains T d c.in_ok-gains.gains) day c.in_ok-gains.ensures in
    let place = placed T (length walk.symbols.items) walk.state c.in_ok-gains.gains c.behind-behind.result.now c.args.next.now c.is_off.result (record { automaton = facts.automaton; symbols = facts.symbols }) c.requires.day gains c.is_off.ensures c.behind-behind.ensures c.requires.next in
    on_none T walk.symbols.items walk.state _ _ place (rw c.in_default.is at c.choose.ensures) c.requires.walk

pub returns-clause-walk : goal.returns-clause-walk
returns-clause-walk g c =
    let T : Trellis = trellis c.args.words.now (g.G.Gain.gain_of c.args.gain.now) in
    let walk = c.args.walk.now in
    let facts = c.prove_facts.ensures in
    let day : c.len.result ≡ length walk.symbols.items = search rules in
    let gains = subst (λ (d : ℕ). AreDayGains T d c.in_ok-gains.gains) day c.in_ok-gains.ensures in
    let place = placed T (length walk.symbols.items) walk.state c.in_ok-gains.gains c.behind-behind.result.now c.args.next.now c.is_off.result (record { automaton = facts.automaton; symbols = facts.symbols }) c.requires.day gains c.is_off.ensures c.behind-behind.ensures c.requires.next in
    rw c.in_ok-push.ensures.items (on_more T walk.symbols.items walk.state _ _ c.in-Some.choice place (rw c.in-Some.is at c.choose.ensures) c.requires.walk)
