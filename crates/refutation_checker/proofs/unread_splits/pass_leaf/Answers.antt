use Rattle.std.proofs.Common.{◌≡◌, [], ◌∷◌, ◌++◌, ap, sym, ◌∙◌, true, false}
use Rattle.refutation_checker.specs.UnreadSplits.{UnreadSplit}
use Rattle.refutation_checker.proofs.Unread.{side_closed, side_crossed}
use Rattle.refutation_checker.proofs.unread_splits.pass_leaf.Goals as goal

pub returns-then-not-split : goal.returns-then-not-split
returns-then-not-split c P g m lines h =
    let first : c.split.inside.in_second ≡ false = c.if-not-split.true in
    side_crossed P g m c.loop-split.splits.items c.pop.new.self.items c.put_back.new.splits.items c.in-Some.split lines c.in-Some.ensures.items
    (ap (λ (v : UnreadSplit). v.in_second) (sym c.split.view_is) ∙ first)
    (c.put_back.ensures ∙ ap (λ (v : UnreadSplit). c.pop.new.self.items ++ (record { line = v.line; in_second = true }) ∷ []) c.split.view_is)
    (c.loop-split.invariant P g m lines h)

pub loop-split-preserved : goal.loop-split-preserved
loop-split-preserved c P g m lines h =
    let second : c.split.inside.in_second ≡ true = c.if-not-split.false in
    side_closed P g m c.loop-split.splits.items c.pop.new.self.items c.in-Some.split lines c.in-Some.ensures.items
    (ap (λ (v : UnreadSplit). v.in_second) (sym c.split.view_is) ∙ second)
    (c.loop-split.invariant P g m lines h)
