use Rattle.std.proofs.Common.{rules, Vec, Global, ◌≡◌, Err, Option, true, ap, arith, length}
use Rattle.rwsp_terms.specs.Instance.{cells}
use Rattle.rwsp_terms.specs.declared.data.Symbol.{Symbol}
use Rattle.roster_print.specs.Said.{said_of}
use Rattle.roster_print.proofs.Reading.{refused_again}
use Rattle.roster_print.proofs.Spelling.{spelled_is_long}
use Rattle.refutation_log.proofs.CellsSpelled.{refused_gives_none, spelled_are_given}
use Rattle.refutation_log.proofs.cells_text.read_cells.Goals as goal

pub returns-in_err-said-clause-unspelled : goal.returns-in_err-said-clause-unspelled
returns-in_err-said-clause-unspelled c =
    let same : c.from_residual.result ≡ Err c.in_err-said.field-0.0 = search rules in
    refused_again (Vec (Option Symbol) Global) c.in_err-said.field-0.0 c.from_residual.result _ _ same
    (λ why h. refused_gives_none c.args.problem.now c.args.bytes.now why h)
    c.in_err-said.ensures.refused

pub cells_given-requires : goal.cells_given-requires
cells_given-requires c =
    let P = c.args.problem.now in
    let long : length c.in_ok-said.said.items ≡ cells P = spelled_is_long P (said_of P true) c.args.bytes.now c.in_ok-said.said.items c.in_ok-said.ensures.spelled in
    omega (arith, ap length c.deref.ensures.value, long, c.prove_limits.ensures.few_cells)

pub returns-clause-answer : goal.returns-clause-answer
returns-clause-answer c = (c.in_ok-said.said.items, c.in_ok-said.ensures.spelled, search rules)

pub returns-clause-given : goal.returns-clause-given
returns-clause-given c = spelled_are_given c.args.problem.now c.args.bytes.now c.in-Ok.given (returns-clause-answer c)
