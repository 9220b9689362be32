-- Sets are the same where they have the same symbols.
use Rattle.std.proofs.Common.{ℕ, List, ap, sym, ◌∙◌}
use Rattle.domain_store.specs.Sets.{has_symbol}
use Rattle.propagators.proofs.Starts.{same_domain}
use Rattle.propagators.proofs.root_bounds.is_same_at.Goals as goal

pub returns : goal.returns
returns c =
    let start = c.args.start.now in
    let doms = c.args.doms.now in (
      λ is x. ap (λ (set : List ℕ). has_symbol set x) (sym c.set-2.ensures ∙ sym (c.is_same.ensures.0 is) ∙ c.set.ensures),
      λ same. c.is_same.ensures.1 (c.set.ensures ∙ sym (same_domain doms start c.args.p c.prove_facts.ensures.now c.prove_facts-2.ensures.now c.requires.doms c.requires.start same) ∙ sym c.set-2.ensures),
    )
