-- Stores with a domain for each cell of a problem.
use Rattle.std.proofs.Common.{◌≡◌, ◌*◌, length, ap, ◌∙◌}
use Rattle.rwsp_terms.specs.Instance.{Instance, cells}
use Rattle.domain_store.specs.Store.{Store, BelongsTo, IsStore}

pub positions : (P : Instance) (S : Store) → BelongsTo P S → IsStore S → length S.sets ≡ cells P
positions P S b s = s.long ∙ ap (λ w. w * S.days) b.weeks ∙ ap (λ d. P.weeks * d) b.days
