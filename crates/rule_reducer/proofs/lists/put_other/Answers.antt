use Rattle.std.proofs.Common.{ap, sym, ◌∙◌, ◌++◌, []}
use Rattle.refutation_log.proofs.Adding.{on_ok}
use Rattle.refutation_log.proofs.Behind.{number_behind}
use Rattle.rule_reducer.proofs.Kept.{kept_first}
use Rattle.rule_reducer.proofs.lists.put_other.Goals as goal

pub returns : goal.returns
returns c =
    let old = c.args.kept.now in
    let n = c.args.listed in
    on_ok c.put.result _ _
    (λ h. number_behind old c.put.new.self n c.requires.ascends c.requires.last c.put.ensures.ascends h ∙ ap (λ l. old ++ l) (sym (kept_first c.args.left_out n [] c.if-listed-left_out.false)))
    c.put.ensures.holds
