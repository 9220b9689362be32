use Rattle.std.proofs.Common.{[], ◌∷◌, ◌++◌}
use Rattle.refutation_checker.proofs.Unread.{split_opened, leaf_passed}
use Rattle.refutation_checker.proofs.unread_splits.pass_line.Goals as goal

pub returns-then-not-begins_as_split : goal.returns-then-not-begins_as_split
returns-then-not-begins_as_split c P g m limits earlier l h text =
    c.pass_leaf.ensures P g m (earlier ++ l ∷ [])
    (leaf_passed P g m limits c.args.line.now c.begins_as_split.result c.args.splits.now.items earlier l c.begins_as_split.ensures c.if-not-begins_as_split.true h text)

pub returns : goal.returns
returns c P g m limits earlier l h text =
    split_opened P g m limits c.args.line.now c.begins_as_split.result c.args.splits.now.items c.push.new.self.items earlier l c.begins_as_split.ensures c.if-not-begins_as_split.false c.in_ok-push.ensures.items h text
