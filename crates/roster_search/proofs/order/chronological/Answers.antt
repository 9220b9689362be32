-- A domain isn't empty.
use Rattle.std.proofs.Common.{◌≡◌, false}
use Rattle.domain_store.specs.Store.{has_domain}
use Rattle.roster_search.proofs.order.chronological.Goals as goal

pub returns-in_err-x : goal.returns-in_err-x
returns-in_err-x c =
    let S = c.args.domains.now in
    let some = c.prove_facts.ensures.tests.some c.in_ok-p.p c.in_ok-p.ensures.0 in
    let known = c.prove_facts.ensures.tests.known c.in_ok-p.p some.0 some.1 in
    let none : has_domain S c.in_ok-p.p some.0 ≡ false = c.in_err-x.ensures some.0 known.1 in
    absurd (cc (none, some.1))
