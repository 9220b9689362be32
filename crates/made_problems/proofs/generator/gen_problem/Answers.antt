use Rattle.std.proofs.Common.{length, All, ap, sym, subst, ◌∙◌}
use Rattle.std.proofs.lemmas.Result.{IfOk-from_err}
use Rattle.rwsp_model.specs.Validity.{IsValid}
use Rattle.made_problems.specs.Stints.{IsUsual}
use Rattle.made_problems.specs.Blocks.{roster_of}
use Rattle.made_problems.specs.Generated.{problem_with, demand_of}
use Rattle.made_problems.proofs.Lengths.{roster_long}
use Rattle.made_problems.proofs.Valid.{valid}
use Rattle.made_problems.proofs.generator.gen_problem.Goals as goal

pub returns-in_err-stints : goal.returns-in_err-stints
returns-in_err-stints c = IfOk-from_err _ _ c.from_residual.ensures.0

pub returns-in_err-cells : goal.returns-in_err-cells
returns-in_err-cells c = IfOk-from_err _ _ c.from_residual-in_err-cells.ensures.0

pub returns-in_err-demand : goal.returns-in_err-demand
returns-in_err-demand c = IfOk-from_err _ _ c.from_residual-in_err-demand.ensures.0

pub returns-in_err-parts : goal.returns-in_err-parts
returns-in_err-parts c = IfOk-from_err _ _ c.from_residual-in_err-parts.ensures.0

pub roster_of-requires : goal.roster_of-requires
roster_of-requires c = subst (All IsUsual) (sym c.deref.ensures.value) c.in_ok-stints.ensures.usual

pub demand_of-requires-clause-cells : goal.demand_of-requires-clause-cells
demand_of-requires-clause-cells c =
    let long = roster_long c.in_ok-stints.stints.items c.in_ok-stints.ensures.usual in
    let cells = c.deref-2.ensures.value ∙ c.in_ok-cells.ensures ∙ ap roster_of c.deref.ensures.value in
    ap length cells ∙ long ∙ c.in_ok-stints.ensures.stints.whole

pub of_valid-requires : goal.of_valid-requires
of_valid-requires c =
    let weeks = c.args.weeks in
    let cells = c.deref-2.ensures.value ∙ c.in_ok-cells.ensures ∙ ap roster_of c.deref.ensures.value in
    let made = c.in_ok-parts.ensures ∙ ap (problem_with weeks) (c.in_ok-demand.ensures ∙ ap (demand_of weeks) cells) in
    subst IsValid (sym made) (valid weeks (roster_of c.in_ok-stints.stints.items) c.requires.0 c.requires.1)

pub returns : goal.returns
returns c =
    let weeks = c.args.weeks in
    let cells = c.deref-2.ensures.value ∙ c.in_ok-cells.ensures ∙ ap roster_of c.deref.ensures.value in
    let made = c.in_ok-parts.ensures ∙ ap (problem_with weeks) (c.in_ok-demand.ensures ∙ ap (demand_of weeks) cells) in
    (c.in_ok-stints.stints.items, c.in_ok-stints.ensures.stints, c.of_valid.ensures ∙ made)
