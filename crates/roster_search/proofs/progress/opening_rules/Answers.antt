-- The rules that an opening rests on.
use Rattle.std.proofs.Common.{◌≡◌, ◌⊎◌, ℕ, List, [], subst, Some, arith, inl, inr}
use Rattle.std.specs.Prelude.{◌↔◌, Contains}
use Rattle.rwsp_terms.specs.declared.data.Rule.{Rule}
use Rattle.rwsp_terms.specs.Rules.{Names, rule_of}
use Rattle.refutation_log.specs.Cited.{Adds, IsCited}
use Rattle.refutation_terms.specs.Log.{OpeningCites}
use Rattle.roster_search.proofs.Cited.{opening_named}
use Rattle.roster_search.proofs.progress.opening_rules.Goals as goal

pub returns-clause-cited : goal.returns-clause-cited
returns-clause-cited c =
    let P = c.args.problem.now in
    let named : List ℕ = c.put_opening_cited.new.rules in
    opening_named P named c.args.opening.now
    (subst (λ (old : List ℕ). (r : Rule) → Names P named r ↔ (Names P old r ⊎ OpeningCites c.args.opening.now r)) c.new-named.ensures c.in_ok-put_opening_cited.ensures.names)

pub returns-clause-numbers : goal.returns-clause-numbers
returns-clause-numbers c k h =
    let P = c.args.problem.now in
    let Cited = IsCited P (OpeningCites c.args.opening.now) in
    let adds : Adds [] c.put_opening_cited.new.rules Cited = subst (λ (old : List ℕ). Adds old c.put_opening_cited.new.rules Cited) c.new-named.ensures c.in_ok-put_opening_cited.ensures.ok in
    elim ((adds k).0 h) as (λ (o : Contains [] k ⊎ Cited k). (x : Rule) × (rule_of P k ≡ Some x)) [
      | inl none ↦ absurd (omega (arith, none.1))
      | inr cited ↦ (cited.0, cited.1)
    ]
