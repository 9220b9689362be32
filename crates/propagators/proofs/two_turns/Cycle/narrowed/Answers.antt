-- The position has the store's domain now, and all others had theirs.
use Rattle.propagators.proofs.Turning.{one_known, same_positions}
use Rattle.propagators.proofs.two_turns.Cycle.narrowed.Goals as goal

pub returns-clause-stands : goal.returns-clause-stands
returns-clause-stands c = one_known c.args.self.now c.take_over.new.self c.args.doms.now c.args.p c.take_over.ensures.problem c.take_over.ensures.sets c.requires.differs c.requires.position (same_positions c.args.self.now c.args.doms.now c.requires.differs.belongs c.prove_facts-2.ensures.now c.prove_facts.ensures.long)
