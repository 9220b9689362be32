use Rattle.std.proofs.Common.{◌≡◌, ◌≢◌, length, ap, sym, ◌∙◌}
use Rattle.rule_reducer.proofs.Descents.{reducing_goes_on, reducing_ends, reducing_shortens}
use Rattle.rule_reducer.proofs.reducing.descend_all.Goals as goal

pub returns-then-len-named-clause-reduced : goal.returns-then-len-named-clause-reduced
returns-then-len-named-clause-reduced c =
    let before = c.loop-log.log in
    let after = c.descend.new.log in
    let same : length after.named ≡ length before.named =
    sym (ap length c.named-in-loop-log.ensures) ∙ sym c.len.ensures ∙ c.if-len-named.true ∙ c.len-named.ensures ∙ ap length c.named.ensures in
    reducing_ends c.args.problem.now c.args.log.now before after c.loop-log.invariant.so_far c.in_ok-descend.ensures.descends same

pub loop-log-smaller : goal.loop-log-smaller
loop-log-smaller c =
    let before = c.loop-log.log in
    let after = c.descend.new.log in
    let other : length after.named ≢ length before.named =
    λ e. c.if-len-named.false (c.len.ensures ∙ ap length c.named-in-loop-log.ensures ∙ e ∙ sym (ap length c.named.ensures) ∙ sym c.len-named.ensures) in
    reducing_shortens c.args.problem.now before after c.in_ok-descend.ensures.descends other

pub loop-log-preserved : goal.loop-log-preserved
loop-log-preserved c =
    let before = c.loop-log.log in
    let after = c.descend.new.log in
    let other : length after.named ≢ length before.named =
    λ e. c.if-len-named.false (c.len.ensures ∙ ap length c.named-in-loop-log.ensures ∙ e ∙ sym (ap length c.named.ensures) ∙ sym c.len-named.ensures) in
    record {
      so_far = reducing_goes_on c.args.problem.now c.args.log.now before after c.loop-log.invariant.so_far c.in_ok-descend.ensures.descends c.in_ok-descend.ensures.passes other;
      cited = c.in_ok-descend.ensures.cited;
    }
