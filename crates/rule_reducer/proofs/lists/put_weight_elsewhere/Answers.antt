use Rattle.std.proofs.Common.{◌≡◌, ap, sym, subst, ◌∙◌, ◌++◌, arith, w32, to_z, of_z}
use Rattle.std.proofs.lemmas.Int.{ints}
use Rattle.std.proofs.lemmas.List.Quantifiers.{all_pairs_push}
use Rattle.rwsp_terms.specs.Places.{SetsWeight}
use Rattle.rwsp_terms.specs.Weights.{ComesBefore}
use Rattle.refutation_log.proofs.Adding.{on_ok}
use Rattle.refutation_log.proofs.Behind.{weight_behind}
use Rattle.rule_reducer.proofs.Kept.{kept_weight}
use Rattle.rule_reducer.proofs.lists.put_weight_elsewhere.Goals as goal

pub returns : goal.returns
returns c =
    let old = c.args.kept.now in
    let e = c.args.entry in
    let value : to_z w32 (of_z w32 e.value) ≡ e.value = omega (arith, ints, c.requires.weight.0, c.requires.weight.1) in
    on_ok c.put.result _ _
    (λ h. weight_behind old c.put.new.self e.day e.symbol e.value c.requires.weights (all_pairs_push ComesBefore old e c.requires.weights.ascends (λ k d lt. c.requires.last k d lt)) c.requires.weight (subst (λ v. SetsWeight old c.put.new.self e.day e.symbol.number v) value h) ∙ ap (λ l. old ++ l) (sym (kept_weight e c.args.day c.if-entry-day.false)))
    c.put.ensures.sets
