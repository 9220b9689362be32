-- The walk has the domains at the next line.
use Rattle.std.proofs.Common.{length, subst}
use Rattle.refutation_terms.specs.Word.{AreSame}
use Rattle.refutation_terms.specs.Tree.{domains_at}
use Rattle.domain_store.specs.Store.{Store, has_domain}
use Rattle.roster_search.proofs.progress.Progress.prove_domains.Goals as goal

pub returns-clause-same : goal.returns-clause-same
returns-clause-same c P w =
    let s = c.args.self.now in
    subst (λ (S : Store). AreSame P (has_domain S) (domains_at P s.aim.opening s.lines.items (length s.lines.items))) c.domains.ensures.value (c.domains.ensures.has P s.aim.opening s.lines.items w.state)
