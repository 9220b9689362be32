use Rattle.std.proofs.Common.{arith, subst, sym, ap, ◌∙◌}
use Rattle.rwsp_terms.specs.Rules.{rule_of}
use Rattle.roster_checker.specs.FirstBroken.{MeetsBelow}
use Rattle.roster_checker.proofs.FirstBroken.{place_breaks, place_is_small}
use Rattle.roster_checker.proofs.broken.breach.Goals as goal

pub broken_at-requires : goal.broken_at-requires
broken_at-requires c =
    place_is_small c.args.problem.now c.rule_at.result c.args.roster.now.cells c.in-Some.place.position c.in-Some.place.length
    (omega (arith, c.requires.roster.long, c.prove_limits.ensures.few_cells)) (omega (arith, c.prove_limits.ensures.few_days)) c.rule_at.ensures.rule c.in-Some.ensures

pub returns-in-Some : goal.returns-in-Some
returns-in-Some c =
    let P = c.args.problem.now in
    let s = c.args.roster.now.cells in
    let same = c.broken_at.ensures.rule in
    record {
      rule = c.rule_at.result;
      number = ap (rule_of P) same ∙ c.rule_at.ensures.value;
      lower = subst (MeetsBelow P s) (sym same) c.requires.lower;
      breaks = place_breaks P c.rule_at.result s c.broken_at.result c.in-Some.place.position c.in-Some.place.length
          c.requires.roster.long c.rule_at.ensures.rule c.broken_at.ensures.place c.in-Some.ensures;
    }
