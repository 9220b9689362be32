-- The bound at the index is copied.
use Rattle.std.proofs.Common.{◌≡◌, List, length, get_or, Some, refl, subst, sym}
use Rattle.std.specs.Prelude.{slice_get}
use Rattle.std.proofs.lemmas.Option.{slice_get_read}
use Rattle.rwsp_terms.specs.declared.data.Weight.{Weight}
use Rattle.refutation_terms.specs.Sharp.{plain_bounds}
use Rattle.propagators.proofs.root_bounds.plain_bound.Goals as goal

pub returns-clause-bound : goal.returns-clause-bound
returns-clause-bound c =
    let bounds = plain_bounds c.args.problem.now in
    let i = c.args.index in
    let here : c.index.result.now ≡ get_or bounds i c.index.result.now = subst (λ (bs : List (List Weight)). c.index.result.now ≡ get_or bs i c.index.result.now) c.in_ok-bounds.ensures c.index.ensures in
    subst (λ (y : List Weight). slice_get bounds i ≡ Some y) (sym c.in_ok-weights.ensures) (slice_get_read bounds (length bounds) i c.index.result.now refl c.requires here)
