use Rattle.refutation_terms.proofs.AsSaid.{sides_as_said, domains_as_said}
use Rattle.refutation_terms.proofs.laws.domains_are_as_said.Goals as goal

pub returns : goal.returns
returns c = record { sides = sides_as_said; domains = domains_as_said }
