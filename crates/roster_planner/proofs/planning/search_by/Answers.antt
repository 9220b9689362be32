-- What is lent of the domains is for the same rosters.
use Rattle.std.proofs.Common.{◌≡◌, Bor, Option, Some, None, sym, subst}
use Rattle.std.specs.Prelude.{option_copied}
use Rattle.std.specs.Option.{IfSome}
use Rattle.rwsp_terms.specs.Instance.{Instance}
use Rattle.domain_store.specs.Store.{Store, BelongsTo}
use Rattle.roster_planner.proofs.planning.search_by.Goals as goal

lent_belong : (P : Instance) (doms : Option Store) (lent : Option (Bor Store)) → option_copied lent ≡ doms → IfSome doms (BelongsTo P) → IfSome lent (λ d. BelongsTo P d.now)
lent_belong P doms None same belong = tt
lent_belong P doms (Some d) same belong = subst (λ (o : Option Store). IfSome o (BelongsTo P)) (sym same) belong

pub over-finder-requires-clause-domains : goal.over-finder-requires-clause-domains
over-finder-requires-clause-domains g c =
    rw (sym c.problem-problem.ensures) at (lent_belong c.args.automaton.now.problem c.in_ok-doms.doms c.as_ref.result c.as_ref.ensures.value c.in_ok-doms.ensures)
