use Rattle.std.proofs.Common.{refl, below_more, sym, subst}
use Rattle.std.proofs.lemmas.List.Elements.{All-get_or}
use Rattle.std.specs.Prelude.{◌<◌, ◌≤◌, length}
use Rattle.rwsp_terms.specs.Rules.{rules}
use Rattle.refutation_terms.specs.Ranges.{AreRules}
use Rattle.refutation_checker.proofs.Lists.{all_short, least_long_of, not_so, is_so}
use Rattle.refutation_checker.proofs.long_rules.least_long.Goals as goal

pub is_short_number-requires : goal.is_short_number-requires
is_short_number-requires c =
    let P = c.args.problem.now in
    let are : AreRules P c.numbers-number-items.result.now = subst (AreRules P) (sym c.numbers-number-items.ensures.value) c.requires in
    All-get_or (λ k. (0 < k) × (k ≤ length (rules P))) c.numbers-number-items.result.now c.loop-number.number-index 0 c.loop-number-test.true are.1

pub returns-then-not-is_short_number : goal.returns-then-not-is_short_number
returns-then-not-is_short_number c =
    least_long_of c.args.problem.now c.args.list.now c.numbers-number-items.result.now c.loop-number.number-index _ c.numbers-number-items.ensures.value c.requires
    c.loop-number-test.true refl c.loop-number.invariant (not_so c.is_short_number.result _ c.is_short_number.ensures c.if-not-is_short_number.true)

pub loop-number-preserved : goal.loop-number-preserved
loop-number-preserved c = below_more _ _ c.loop-number.invariant (is_so c.is_short_number.result _ c.is_short_number.ensures c.if-not-is_short_number.false)

pub returns : goal.returns
returns c =
    all_short c.args.problem.now c.args.list.now c.numbers-number-items.result.now c.loop-number.number-index c.numbers-number-items.ensures.value c.loop-number-test.false c.loop-number.invariant
