use Rattle.std.proofs.Common.{ℕ, ◌+◌, Option, ap, sym, subst, ◌∙◌}
use Rattle.rwsp_terms.specs.declared.data.Symbol.{Symbol}
use Rattle.roster_page.specs.LeastRest.{IsLeastBelow}
use Rattle.roster_page.proofs.Least.{least_same, least_more}
use Rattle.roster_page.proofs.least_rest.with_place.Goals as goal

pub returns-then-cell-eq0 : goal.returns-then-cell-eq0
returns-then-cell-eq0 c =
    least_same c.args.problem.now c.args.cells.now c.args.place c.args.least (ap (λ (x : Symbol). x.number) (sym c.cell.ensures) ∙ c.if-cell-eq0.true) c.requires.below

pub returns : goal.returns
returns c =
    subst (λ (o : Option ℕ). IsLeastBelow c.args.problem.now c.args.cells.now (c.args.place + 1) o) (sym c.lesser.ensures)
    (least_more c.args.problem.now c.args.cells.now c.args.place c.rest_after.result c.rest_after.ensures.0 c.args.least c.rest_after.ensures.1 c.rest_after.ensures.2 c.requires.below)
