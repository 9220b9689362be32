use Rattle.std.proofs.Common.{[], ◌∷◌, ◌++◌, take, ap, sym, ◌∙◌}
use Rattle.std.proofs.lemmas.List.{take_all, take_more}
use Rattle.refutation_log.proofs.log.copy_lines.Goals as goal

pub loop-line-preserved : goal.loop-line-preserved
loop-line-preserved c =
    let lines = c.args.lines.now in
    let i = c.loop-line.line-index in
    c.in_ok-push.ensures.items ∙ ap (λ same. same ++ c.in_ok-copied.copied ∷ []) c.loop-line.invariant ∙ ap (λ line. take i lines ++ line ∷ []) (c.in_ok-copied.ensures ∙ c.line-item.is) ∙ sym (take_more lines i c.line-item.result c.loop-line-test.true)

pub returns : goal.returns
returns c = c.loop-line.invariant ∙ take_all _ _ c.loop-line-test.false
