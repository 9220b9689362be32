-- The four as one, made with the opening domains.
use Rattle.std.proofs.Common.{◌∙◌, sym, [], inl, inr}
use Rattle.rwsp_model.proofs.Limits.{some_cells}
use Rattle.refutation_terms.specs.declared.lines.Line.TheVariants.{Closing}
use Rattle.refutation_terms.specs.declared.lines.Leaf.TheVariants.{Window, Day}
use Rattle.refutation_terms.specs.Word.{AreSame}
use Rattle.refutation_terms.specs.Tree.{opening}
use Rattle.refutation_terms.proofs.SameDomains.{turned_round}
use Rattle.domain_store.specs.Store.{has_domain}
use Rattle.propagators.proofs.Starts.{same_top}
use Rattle.roster_planner.proofs.Sharpness.{at_first}
use Rattle.roster_planner.proofs.reasons.reasons_of.Goals as goal

pub returns-clause-serves : goal.returns-clause-serves
returns-clause-serves g c =
    let cases = rw c.in_ok-cases.ensures.0 at c.case_reasons-cases.ensures.serves in
    let bounds = rw c.in_ok-cases.ensures.1 at c.new-bounds.ensures.serves in
    (c.new-2.ensures.serves c.args.automaton.now.problem).1 (cases, bounds)

pub returns-clause-reasons : goal.returns-clause-reasons
returns-clause-reasons g c =
    let P = c.args.automaton.now.problem in
    let is = c.problem-problem.ensures in
    let limits = rw is at c.prove_limits.ensures in
    let first = c.domains-doms.result.now in
    let start = c.args.opening.now in
    let opened : AreSame P (has_domain first) (opening P start) = at_first P start [] (has_domain first) (c.domains-doms.ensures.has P start [] (rw is at c.in_ok-walk.ensures.starts)) in
    let cases = rw c.in_ok-cases.ensures.0 at c.case_reasons-cases.ensures.reasons in
    let none_spent = rw c.in_ok-cases.ensures.1 at c.new-bounds.ensures.none_spent in
    let leaves = rw c.in_ok-cases.ensures.1 at c.new-bounds.ensures.leaves in
    record {
      cases = record {
        rules = cases.rules;
        short = cases.short;
        plain = record {
          windows = λ S number p len fits. (c.new-2.ensures.leaves S (Closing (Window number p len))).1 (inl (cases.plain.windows S number p len fits));
          days = λ S j x over fits. (c.new-2.ensures.leaves S (Closing (Day j x over))).1 (inl (cases.plain.days S j x over fits));
        };
        cycle = λ S line is. (c.new-2.ensures.leaves S line).1 (inl (cases.cycle S line is));
        taken = λ S p x. (
          λ h. elim ((c.new-2.ensures.spent S p x).0 h) [
            | inl spent ↦ (cases.taken S p x).0 spent
            | inr bound ↦ absurd (none_spent S p x bound)
          ],
          λ k. (c.new-2.ensures.spent S p x).1 (inl ((cases.taken S p x).1 k)),
        );
      };
      top = λ S line same bound. (c.new-2.ensures.leaves S line).1 (inr ((leaves S line).1 (record {
        same = λ p x inside. same p x inside ∙ sym (opened p x inside);
        bound = same_top P (opening P start) (has_domain first) line (some_cells P limits) (turned_round P (has_domain first) (opening P start) opened) bound;
      })));
    }
