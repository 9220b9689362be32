use Rattle.std.proofs.Common.{◌≡◌, ℕ, length, get_or, rules, sym, subst}
use Rattle.clean_words.specs.Joint.{StandsAt}
use Rattle.clean_words.proofs.Growing.{states_more}
use Rattle.clean_words.proofs.joint.Joint.put_moves.Goals as goal

pub returns-clause-states : goal.returns-clause-states
returns-clause-states c =
    let pairs = c.args.self.now.pairs.items in
    let moves = c.args.self.now.moves.items in
    let len : c.len.result ≡ length moves = search rules in
    let here : StandsAt pairs (length moves) c.index-pair.result.now = (c.requires.next, subst (λ (i : ℕ). get_or c.args.self.now.pairs.items i c.index-pair.result.now ≡ c.index-pair.result.now) len (sym c.index-pair.ensures)) in
    let e = c.in_ok-row.ensures in
    rw (c.in_ok-push.ensures.items, e.moves) (states_more c.args.first.now c.args.second.now c.args.symbols pairs c.row_of.new.self.pairs.items moves c.index-pair.result.now c.in_ok-row.row c.requires.states here e.grows e.row)
