use Rattle.std.proofs.Common.{◌≤◌, IsTrue, length, sym, subst, arith}
use Rattle.refutation_terms.proofs.InWords.{there}
use Rattle.domain_store.specs.Store.{has_domain, domain_at}
use Rattle.refutation_checker.proofs.Lines.{may_split, split_of_many}
use Rattle.refutation_checker.proofs.plain_causes.can_split.Goals as goal

pub returns : goal.returns
returns c =
    let P = c.args.problem.now in
    let S = c.args.doms.now in
    let many : 2 ≤ length (domain_at S c.args.p) = omega (arith, c.size.ensures.value, c.if-size-lt2.false) in (
      λ t. may_split P S c.args.p c.args.x.number c.requires.domains c.prove_facts.ensures.tests (subst IsTrue c.has.ensures t) many,
      λ idle. subst IsTrue (sym c.has.ensures) (there P (has_domain S) c.args.p c.args.x.number idle),
    )

pub returns-then-size-lt2 : goal.returns-then-size-lt2
returns-then-size-lt2 c = (
  λ t. absurd (cc),
  λ idle. (let many : 2 ≤ c.size.result = split_of_many c.args.problem.now c.args.doms.now c.args.p c.args.x.number c.size.result c.prove_facts.ensures.tests c.size.ensures.value c.size.ensures.some idle in absurd (omega arith)),
)
