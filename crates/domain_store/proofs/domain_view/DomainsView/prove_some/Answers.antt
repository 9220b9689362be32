-- Each domain has a symbol.
use Rattle.std.proofs.Common.{◌%◌, ◌<◌, length, arith}
use Rattle.rwsp_terms.specs.Instance.{symbol_numbered}
use Rattle.domain_store.proofs.domain_view.DomainsView.prove_some.Goals as goal

pub returns : goal.returns
returns c p =
    let n = length c.args.self.now.sets in
    let inside : p % n < n = omega arith in
    let some = c.prove_facts.ensures.tests.some (p % n) inside in
    (symbol_numbered some.0, some.1)
