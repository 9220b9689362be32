-- The one bad length is the leaf's, or not.
use Rattle.std.proofs.Common.{subst, sym, eqb-true, eq-eqb}
use Rattle.refutation_terms.specs.WindowLeaf.{IsBlocked}
use Rattle.domain_store.specs.Store.{has_domain}
use Rattle.domain_store.proofs.Positions.{positions}
use Rattle.domain_store.proofs.Blocked.{all_bad_blocked, blocked_all_bad}
use Rattle.domain_store.proofs.window.window_holds.Goals as goal

pub returns-in-Some : goal.returns-in-Some
returns-in-Some c =
    let P = c.args.problem.now in
    let S = c.args.doms.now in
    let n = c.in-Some.bad in
    let long = positions P S c.requires.domains c.prove_facts.ensures.now in (
      λ yes. subst (λ len. IsBlocked P (has_domain S) c.args.rule c.args.p len) (eqb-true n c.args.len yes)
          (all_bad_blocked P S c.args.rule c.rule_at.result c.args.p n long c.rule_at.ensures.value c.in-Some.ensures.0),
      λ blocked. eq-eqb n c.args.len (sym (c.in-Some.ensures.1 c.args.len
          (blocked_all_bad P S c.args.rule c.rule_at.result c.args.p c.args.len long c.rule_at.ensures.value blocked))),
    )

pub returns-in-None : goal.returns-in-None
returns-in-None c =
    let P = c.args.problem.now in
    let S = c.args.doms.now in
    let long = positions P S c.requires.domains c.prove_facts.ensures.now in (
      λ yes. cc,
      λ blocked. absurd (c.in-None.ensures c.args.len (blocked_all_bad P S c.args.rule c.rule_at.result c.args.p c.args.len long c.rule_at.ensures.value blocked)),
    )
