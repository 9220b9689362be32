use Rattle.std.proofs.Common.{◌+◌, length, arith, sym, subst}
use Rattle.std.specs.Prelude.{Contains}
use Rattle.std.proofs.lemmas.Option.{slice_get-get_or}
use Rattle.refutation_log.specs.Cited.{IsCited}
use Rattle.refutation_log.proofs.Adding.{StandsFor, listed_steps}
use Rattle.refutation_checker.specs.Outside.{IsLeastOutside}
use Rattle.refutation_checker.proofs.Lists.{Below, more_below, all_below, rule_asks}
use Rattle.refutation_checker.proofs.outside.rules_outside.Goals as goal

pub loop-rule-preserved : goal.loop-rule-preserved
loop-rule-preserved c =
    let P = c.args.problem.now in
    let rules = c.args.rules.now in
    let i = c.loop-rule.rule-index in
    let list = c.args.named.now in
    subst (IsLeastOutside (Below (StandsFor P rules) (i + 1)) list) (sym c.lesser-least.ensures)
    (more_below (StandsFor P rules) i list c.loop-rule.least c.outside.result c.loop-rule.invariant
    (rule_asks P rules i c.number_of.result _ list c.outside.result (slice_get-get_or rules i _ (omega arith)) c.number_of.ensures.value c.outside.ensures))

pub returns : goal.returns
returns c =
    let P = c.args.problem.now in
    let rules = c.args.rules.now in
    all_below (StandsFor P rules) (IsCited P (Contains rules)) c.loop-rule.rule-index (length rules) c.args.named.now c.loop-rule.least (omega arith) (listed_steps P rules) c.loop-rule.invariant
