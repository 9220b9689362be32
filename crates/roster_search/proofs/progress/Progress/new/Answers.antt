-- Before the first line.
use Rattle.std.proofs.Common.{◌≡◌, List, [], sym, subst, Some, arith, inl, ap, ◌∙◌}
use Rattle.std.specs.Prelude.{slice_get}
use Rattle.refutation_terms.specs.declared.lines.Line.{Line}
use Rattle.domain_store.specs.States.{IsStateOf}
use Rattle.roster_search.specs.Written.{IsCitedIn}
use Rattle.roster_search.proofs.Cited.{cited_none}
use Rattle.roster_search.proofs.progress.Progress.new.Goals as goal

pub returns-clause-written : goal.returns-clause-written
returns-clause-written c =
    let P = c.args.problem.now in
    let none : c.new-2.result.items ≡ [] = c.new-2.ensures.items in
    record {
      state = subst (λ (ls : List Line). IsStateOf P c.args.aim.opening ls c.in_ok-walk.walk) (sym none) c.in_ok-walk.ensures.starts;
      opening_fits = c.requires.opening;
      goal_fits = c.requires.goal;
      stand = λ k line e. (let got : slice_get [] k ≡ Some line = ap (λ (ls : List Line). slice_get ls k) (sym none) ∙ e in absurd (cc));
      cited = λ r. (
        λ n. inl ((c.in_ok-named.ensures.cited r).0 n),
        λ h. (c.in_ok-named.ensures.cited r).1 (cited_none P c.args.aim.opening r (subst (λ (ls : List Line). IsCitedIn P c.args.aim.opening ls r) none h)),
      );
      numbers = c.in_ok-named.ensures.numbers;
      few_open = omega (arith, c.in_ok-walk.ensures.one);
    }
