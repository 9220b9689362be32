use Rattle.rule_reducer.specs.Citing.{CitesForGood}
use Rattle.rule_reducer.proofs.Citing.{held_is_named, named_is_held, false_not_true}
use Rattle.rule_reducer.proofs.Stripped.{cited_for_good, uncited, passes_without, droppable}
use Rattle.rule_reducer.proofs.descent.can_drop.Goals as goal

pub returns-then-holds : goal.returns-then-holds
returns-then-holds c =
    let P = c.args.problem.now in
    let n = c.args.dropped.number in
    let r = c.args.dropped.rule in
    let cited = c.args.cited.now in
    cited_for_good P n r c.args.log.now c.requires.rule ((c.requires.cited.lasting r).0 (held_is_named P n r cited.for_good c.requires.rule (c.holds.ensures.0 c.if-holds.true)))

pub returns-then-holds-2 : goal.returns-then-holds-2
returns-then-holds-2 c =
    let P = c.args.problem.now in
    let n = c.args.dropped.number in
    let r = c.args.dropped.rule in
    let g = c.args.log.now in
    let cited = c.args.cited.now in
    droppable P n r g c.in_ok-held.held c.requires.rule c.requires.passes
    (λ h. false_not_true c.holds.result c.if-holds.false (c.holds.ensures.1 (named_is_held P n r cited.for_good c.requires.rule ((c.requires.cited.lasting r).1 h))))
    c.in_ok-held.ensures

pub returns : goal.returns
returns c =
    let P = c.args.problem.now in
    let n = c.args.dropped.number in
    let r = c.args.dropped.rule in
    let g = c.args.log.now in
    let cited = c.args.cited.now in
    let free : CitesForGood P g r → ⊥ =
    λ h. false_not_true c.holds.result c.if-holds.false (c.holds.ensures.1 (named_is_held P n r cited.for_good c.requires.rule ((c.requires.cited.lasting r).1 h))) in
    passes_without P n r g c.requires.rule c.requires.passes free
    (uncited P n r g c.requires.rule c.requires.passes free
    (λ h. false_not_true c.holds-2.result c.if-holds-2.false (c.holds-2.ensures.1 (named_is_held P n r cited.in_lists c.requires.rule (c.requires.cited.listed r h)))))
