use Rattle.std.proofs.Common.{◌+◌, arith}
use Rattle.rwsp_terms.specs.Instance.{shift_count}
use Rattle.plain_words.specs.RuleWords.{is_crossed}
use Rattle.plain_words.proofs.Joined.{first_found}
use Rattle.plain_words.proofs.rule_words.first_crossed.Goals as goal

pub returns-then-is_crossed-clause-value : goal.returns-then-is_crossed-clause-value
returns-then-is_crossed-clause-value c =
    first_found (is_crossed c.args.problem.now c.args.day) 1 (shift_count c.args.problem.now) c.loop-place.place (c.loop-place.place + 1) c.is_crossed.result (omega arith)
    (omega (arith, c.loop-place-test.true, c.shifts-place-end.ensures.value)) c.loop-place.invariant c.is_crossed.ensures c.if-is_crossed.true
