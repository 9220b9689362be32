-- The first state of the first day leads nowhere.
use Rattle.std.proofs.Common.{◌∙◌, ◌*◌, ap, subst, IsTrue, not}
use Rattle.std.specs.Prelude.{◌↔◌}
use Rattle.rwsp_terms.specs.Instance.{cells}
use Rattle.refutation_terms.specs.WordsLeaf.{IsDead}
use Rattle.propagators.specs.Known.{KnownCycle, knows_symbol}
use Rattle.propagators.specs.Marks.{is_marked}
use Rattle.propagators.proofs.Turning.{dead_by}
use Rattle.propagators.proofs.two_turns.Cycle.is_dead.Goals as goal

pub returns : goal.returns
returns c =
    let P : KnownCycle → Type 0 = λ C. IsTrue (not c.has.result) ↔ IsDead C.problem (knows_symbol C) 0 (2 * cells C.problem) C.rules in
    subst P c.self.view_is (dead_by c.self.invariant.0 c.has.result (c.has.ensures ∙ ap (λ r. is_marked r 0) c.row.ensures))
