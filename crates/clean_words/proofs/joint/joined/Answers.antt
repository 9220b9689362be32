-- The pairs are the states of a table.
use Rattle.std.proofs.Common.{◌∙◌, ◌+◌, List, ap, arith}
use Rattle.clean_words.specs.declared.joint.Both.{Both}
use Rattle.clean_words.specs.Joint.{AreStarts}
use Rattle.clean_words.proofs.Growing.{starts_on}
use Rattle.clean_words.proofs.Joining.{told_by_first, joined_table}
use Rattle.clean_words.proofs.joint.joined.Goals as goal

pub returns-clause-table : goal.returns-clause-table
returns-clause-table c =
    let a = c.args.first.now in
    let b = c.args.second.now in
    let pairs = c.put_all_moves.new.self.pairs.items in
    let grown = c.in_ok-put_all_moves.ensures in
    let begins : AreStarts a b pairs c.in_ok-starts.starts.items = starts_on a b c.starts.new.self.pairs.items pairs c.in_ok-starts.starts.items grown.grows c.in_ok-starts.ensures.starts in
    (joined_table c.args.problem.now a b _ (c.shifts.result + 1) pairs (record { states = grown.states; long = grown.all }) c.requires.first c.requires.second begins
    (c.in_ok-told.ensures ∙ ap (λ (ps : List Both). told_by_first a ps) c.deref.ensures.value) (ap (λ n. n + 1) c.shifts.ensures.value) (omega (arith, c.prove_limits.ensures.some_days))).0

pub returns-clause-both : goal.returns-clause-both
returns-clause-both c =
    let a = c.args.first.now in
    let b = c.args.second.now in
    let pairs = c.put_all_moves.new.self.pairs.items in
    let grown = c.in_ok-put_all_moves.ensures in
    let begins : AreStarts a b pairs c.in_ok-starts.starts.items = starts_on a b c.starts.new.self.pairs.items pairs c.in_ok-starts.starts.items grown.grows c.in_ok-starts.ensures.starts in
    (joined_table c.args.problem.now a b _ (c.shifts.result + 1) pairs (record { states = grown.states; long = grown.all }) c.requires.first c.requires.second begins
    (c.in_ok-told.ensures ∙ ap (λ (ps : List Both). told_by_first a ps) c.deref.ensures.value) (ap (λ n. n + 1) c.shifts.ensures.value) (omega (arith, c.prove_limits.ensures.some_days))).1
