use Rattle.std.proofs.Common.{◌≡◌, ap, ◌∙◌}
use Rattle.rwsp_terms.specs.Rules.{rule_of}
use Rattle.rwsp_model.proofs.Numbering.{one_number}
use Rattle.refutation_log.proofs.Adding.{on_ok, adds_same}
use Rattle.refutation_log.proofs.leaf.put_day_rule.Goals as goal

pub returns-clause-ok : goal.returns-clause-ok
returns-clause-ok c =
    let P = c.args.problem.now in
    on_ok c.put.result _ _
    (λ h. adds_same _ _ (λ k. k ≡ c.number_of.result) _ h
    (λ k. (λ e. ap (rule_of P) e ∙ c.number_of.ensures.value, λ e. one_number P k c.number_of.result _ e c.number_of.ensures.value)))
    c.put.ensures.holds
