-- The roster of decided domains.
use Rattle.std.proofs.Common.{arith}
use Rattle.rwsp_terms.specs.Instance.{off_symbol}
use Rattle.roster_search.proofs.OneWord.{meets_all, has_goal}
use Rattle.roster_search.proofs.decided.met_roster.Goals as goal

pub returns : goal.returns
returns c = (
  (
    c.in_ok-roster.ensures.days,
    meets_all c.args.problem.now c.args.domains.now _ c.prove_limits.ensures c.requires.belongs c.prove_facts.ensures.now c.prove_facts.ensures.tests c.requires.decided
        c.in_ok-roster.ensures.roster c.in_ok-roster.ensures.has c.requires.windows c.requires.days,
    has_goal c.args.problem.now c.args.domains.now _ c.requires.goal.0 c.args.goal c.prove_limits.ensures c.requires.belongs c.prove_facts.ensures.now c.prove_facts.ensures.tests c.requires.decided
        c.in_ok-roster.ensures.roster c.in_ok-roster.ensures.has c.requires.goal.1 c.requires.few,
  ),
  record { is_roster = c.in_ok-roster.ensures.roster; each = λ p lt. c.in_ok-roster.ensures.has p off_symbol (omega (arith, lt, c.in_ok-roster.ensures.roster.long)) },
)
