use Rattle.std.proofs.Common.{◌-◌, subst, List, Option, arith}
use Rattle.rwsp_terms.specs.declared.data.Weight.{Weight}
use Rattle.rwsp_terms.specs.declared.limits.TheConstants.{GREATEST_WEIGHT}
use Rattle.domain_store.specs.Store.{has_domain}
use Rattle.clean_words.specs.Searched.{IsFollowing}
use Rattle.clean_words.proofs.Searching.{reached_start, reached_more, values_within}
use Rattle.clean_words.proofs.search.search_weights.Goals as goal

pub loop-round-preserved : goal.loop-round-preserved
loop-round-preserved c =
    let F : Option (List Weight) → Type 0 = IsFollowing c.args.automaton.now.problem (has_domain c.args.doms.now) c.args.automaton.now.rules c.loop-round.weights in
    reached_more _ _ _ _ _ _ c.loop-round.invariant (subst F c.in-Some.is c.in_ok-next.ensures)

pub loop-round-init : goal.loop-round-init
loop-round-init c =
    reached_start c.args.automaton.now.problem (has_domain c.args.doms.now) c.args.automaton.now.rules c.new-weights.result c.new-weights.ensures

pub returns-in-None : goal.returns-in-None
returns-in-None c =
    let F : Option (List Weight) → Type 0 = IsFollowing c.args.automaton.now.problem (has_domain c.args.doms.now) c.args.automaton.now.rules c.loop-round.weights in
    let so_far = c.loop-round.invariant in
    (c.loop-round.round, c.loop-round-test.true, so_far.searched, subst F c.in-None.is c.in_ok-next.ensures, so_far.none)

pub returns : goal.returns
returns c k y less = c.loop-round.invariant.none k y (omega (arith, less))

pub following-requires : goal.following-requires
following-requires c = record { within = values_within c.loop-round.round (GREATEST_WEIGHT - 1) c.loop-round.weights (omega (arith, c.loop-round-test.true, c.requires.few)) c.loop-round.invariant.within }
