use Rattle.std.proofs.Common.{◌⊎◌, ℕ, sym, subst}
use Rattle.std.specs.Prelude.{Contains}
use Rattle.refutation_log.specs.Cited.{IsWeighedDayRule}
use Rattle.refutation_checker.specs.Outside.{IsLeastOutside}
use Rattle.refutation_checker.proofs.Lists.{lesser_outside}
use Rattle.refutation_checker.proofs.leaf.least_of_words.Goals as goal

pub returns : goal.returns
returns c =
    let P = c.args.problem.now in
    let R = c.args.named.now in
    let A = λ (k : ℕ). Contains c.args.rules.now k ⊎ IsWeighedDayRule P c.args.weights.now k in
    subst (IsLeastOutside A R) (sym c.lesser.ensures)
    (lesser_outside (Contains c.args.rules.now) (IsWeighedDayRule P c.args.weights.now) R _ _ c.least_outside.ensures c.least_day_outside.ensures)
