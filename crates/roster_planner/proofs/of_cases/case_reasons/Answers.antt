-- The three as one, for the automaton's problem.
use Rattle.std.proofs.Common.{◌≡◌, sym, subst, inl, inr, false, None}
use Rattle.rwsp_terms.specs.Instance.{Instance}
use Rattle.refutation_terms.specs.declared.lines.Line.TheVariants.{Closing}
use Rattle.refutation_terms.specs.declared.lines.Leaf.TheVariants.{Window, Day}
use Rattle.refutation_terms.specs.Log.{LineFits}
use Rattle.domain_store.specs.Store.{has_domain}
use Rattle.propagators.specs.Days.{IsDaySpent}
use Rattle.roster_planner.proofs.Unweighed.{plain_unweighed, cycle_unweighed}
use Rattle.roster_planner.proofs.of_cases.case_reasons.Goals as goal

pub returns-clause-serves : goal.returns-clause-serves
returns-clause-serves c =
    let plain = rw c.problem.ensures at c.in_ok-plain.ensures.serves in
    (c.new-2.ensures.serves c.args.automaton.now.problem).1 (plain, c.in_ok-cycle.ensures.serves)

pub returns-clause-reasons : goal.returns-clause-reasons
returns-clause-reasons c =
    let same : c.problem.result.now ≡ c.args.automaton.now.problem = c.problem.ensures in
    let plain = c.in_ok-plain.ensures.leaves in
    record {
      rules = c.args.automaton.now.rules;
      short = c.requires.short;
      plain = record {
        windows = λ S number p len fits. (c.new-2.ensures.leaves S (Closing (Window number p len))).1 (inl (plain.windows S number p len (subst (λ (P : Instance). LineFits P None false (Closing (Window number p len))) (sym same) fits)));
        days = λ S j x over fits. (c.new-2.ensures.leaves S (Closing (Day j x over))).1 (inl (plain.days S j x over (subst (λ (P : Instance). LineFits P None false (Closing (Day j x over))) (sym same) fits)));
      };
      cycle = λ S line is. (c.new-2.ensures.leaves S line).1 (inr ((c.in_ok-cycle.ensures.leaves S line).1 is));
      taken = λ S p x. (
        λ h. elim ((c.new-2.ensures.spent S p x).0 h) [
          | inl day ↦ inl (subst (λ (P : Instance). IsDaySpent P (has_domain S) p x) same ((c.in_ok-plain.ensures.spent S p x).0 day))
          | inr cycle ↦ inr ((c.in_ok-cycle.ensures.spent S p x).0 cycle)
        ],
        λ k. elim k [
          | inl day ↦ (c.new-2.ensures.spent S p x).1 (inl ((c.in_ok-plain.ensures.spent S p x).1 (subst (λ (P : Instance). IsDaySpent P (has_domain S) p x) (sym same) day)))
          | inr cycle ↦ (c.new-2.ensures.spent S p x).1 (inr ((c.in_ok-cycle.ensures.spent S p x).1 cycle))
        ],
      );
    }

pub returns-clause-unweighed : goal.returns-clause-unweighed
returns-clause-unweighed c =
    λ S line h. elim ((c.new-2.ensures.leaves S line).0 h) [
      | inl plain ↦ plain_unweighed line (c.in_ok-plain.ensures.only S line plain)
      | inr cycle ↦ cycle_unweighed c.args.automaton.now.problem line ((c.in_ok-cycle.ensures.leaves S line).0 cycle)
    ]
