use Rattle.std.proofs.Common.{[], ◌∷◌, ◌++◌, append_assoc, subst}
use Rattle.refutation_terms.specs.declared.lines.Line.TheVariants.{Split}
use Rattle.domain_store.specs.Splits.{IsFirstSide}
use Rattle.domain_store.specs.States.{IsStateOf}
use Rattle.refutation_checker.proofs.chunk_starts.enter_split.Goals as goal

pub returns-then-in_second-clause-entered : goal.returns-then-in_second-clause-entered
returns-then-in_second-clause-entered c P o lines first st side =
    subst (λ ls. IsStateOf P o ls c.read_leaf.new.self) (append_assoc lines (Split c.args.p c.args.x ∷ []) first)
    (c.read_leaf.ensures.trees first (subst (λ b. IsFirstSide b first) c.if-in_second.true side) P o (lines ++ Split c.args.p c.args.x ∷ [])
    (c.in_ok-read_split.ensures.splits P o lines st))
