-- Decided domains under which nothing was seen.
use Rattle.std.proofs.Common.{subst, None}
use Rattle.refutation_terms.specs.declared.lines.Line.TheVariants.{Closing}
use Rattle.refutation_terms.specs.declared.lines.Leaf.TheVariants.{Window, Day}
use Rattle.refutation_terms.specs.Log.{Holds}
use Rattle.domain_store.specs.Store.{Store, has_domain}
use Rattle.roster_search.proofs.search_step.write_choice.Goals as goal

pub met_roster-requires-clause-windows : goal.met_roster-requires-clause-windows
met_roster-requires-clause-windows g c number p len fits holds =
    let S = c.args.progress.now.walk.store in
    c.requires.is_open.0
    (Closing (Window number p len), c.requires.searching.plain.windows S number p len fits, subst (λ (T : Store). Holds c.args.problem.now None (has_domain T) (Closing (Window number p len))) c.domains-in-None.ensures.value holds)

pub met_roster-requires-clause-days : goal.met_roster-requires-clause-days
met_roster-requires-clause-days g c j x over fits holds =
    let S = c.args.progress.now.walk.store in
    c.requires.is_open.0
    (Closing (Day j x over), c.requires.searching.plain.days S j x over fits, subst (λ (T : Store). Holds c.args.problem.now None (has_domain T) (Closing (Day j x over))) c.domains-in-None.ensures.value holds)
