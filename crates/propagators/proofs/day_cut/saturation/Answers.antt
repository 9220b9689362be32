-- Where as many weeks certainly hold the symbol as can hold it, it is beside no other.
use Rattle.std.proofs.Common.{◌≡◌, rules, arith}
use Rattle.refutation_terms.specs.DayLeaf.{fixed, possible}
use Rattle.domain_store.specs.Store.{has_domain}
use Rattle.propagators.proofs.CutCounts.{fewer_fixed}
use Rattle.propagators.proofs.day_cut.saturation.Goals as goal

pub returns-then-possible-fixed : goal.returns-then-possible-fixed
returns-then-possible-fixed c i over lt useful saturates =
    let P = c.args.problem.now in
    let S = c.args.doms.now in
    let of = c.requires.counts in
    absurd (omega (arith, fewer_fixed P (has_domain S) i c.args.day c.args.x.number lt useful, c.fixed-fixed.ensures.value P S of.belongs of.stands, c.possible-possible.ensures.value P S of.belongs of.stands))

pub returns : goal.returns
returns c =
    let P = c.args.problem.now in
    let S = c.args.doms.now in
    let of = c.requires.counts in
    let fixed_is : c.fixed-fixed.result ≡ fixed P (has_domain S) c.args.day c.args.x.number = c.fixed-fixed.ensures.value P S of.belongs of.stands in
    let possible_is : c.possible-possible.result ≡ possible P (has_domain S) c.args.day c.args.x.number = c.possible-possible.ensures.value P S of.belongs of.stands in
    search rules
