-- No line was read.
use Rattle.std.proofs.Common.{[]}
use Rattle.domain_store.proofs.Moves.{at_start}
use Rattle.domain_store.proofs.walk.Walk.new.Goals as goal

pub invariant_of-result : goal.invariant_of-result
invariant_of-result c =
    (c.args.problem.now, c.args.start.now, [], at_start c.args.problem.now c.args.start.now c.in_ok-domains.domains c.new.result.items c.prove_facts.ensures.now c.in_ok-domains.ensures.belongs c.new.ensures.items c.in_ok-domains.ensures.has)

pub returns-clause-starts : goal.returns-clause-starts
returns-clause-starts c = at_start c.args.problem.now c.args.start.now c.in_ok-domains.domains c.new.result.items c.prove_facts.ensures.now c.in_ok-domains.ensures.belongs c.new.ensures.items c.in_ok-domains.ensures.has
