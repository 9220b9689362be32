use Rattle.std.proofs.Common.{rules, Vec, Global, ◌≡◌, ◌∙◌, Option, Err, map, sym, ap, subst}
use Rattle.rwsp_terms.specs.Instance.{symbol_of}
use Rattle.rwsp_terms.specs.declared.data.Symbol.{Symbol}
use Rattle.roster_print.specs.Said.{or_off}
use Rattle.roster_print.specs.RosterText.{SpellsRoster}
use Rattle.roster_print.proofs.Closed.{closed_spells, closed_refusal}
use Rattle.roster_print.proofs.Spelling.{spelled_is_roster, refused_spells_none}
use Rattle.roster_print.proofs.Reading.{refused_again}
use Rattle.roster_print.proofs.read.read_roster.Goals as goal

spelled : (c : goal.In-Ok) → SpellsRoster c.args.problem.now c.args.bytes.now c.in-Ok.cells.items
spelled c = closed_spells c.args.problem.now c.args.bytes.now c.in_ok-said.said.items c.in-Ok.cells.items (c.in-Ok.ensures ∙ ap (map or_off) c.deref.ensures.value) c.in_ok-said.ensures.spelled

pub of-requires : goal.of-requires
of-requires c = spelled_is_roster c.args.problem.now c.args.bytes.now c.in-Ok.cells.items (spelled c)

pub returns-clause-spelled : goal.returns-clause-spelled
returns-clause-spelled c = subst (SpellsRoster c.args.problem.now c.args.bytes.now) (sym c.of.ensures.cells) (closed_spells c.args.problem.now c.args.bytes.now c.in_ok-said.said.items c.in-Ok.cells.items (c.in-Ok.ensures ∙ ap (map or_off) c.deref.ensures.value) c.in_ok-said.ensures.spelled)

pub returns-clause-roster : goal.returns-clause-roster
returns-clause-roster c = spelled_is_roster c.args.problem.now c.args.bytes.now c.of.result.cells (returns-clause-spelled c)

pub returns-in_err-said-clause-refused : goal.returns-in_err-said-clause-refused
returns-in_err-said-clause-refused c =
    let same : c.from_residual.result ≡ Err c.in_err-said.field-0.0 = search rules in
    refused_again (Vec (Option Symbol) Global) c.in_err-said.field-0.0 c.from_residual.result _ _ same
    (λ why h. sym (closed_refusal c.args.problem.now c.args.bytes.now) ∙ h)
    c.in_err-said.ensures.refused

pub returns-in_err-said-clause-unspelled : goal.returns-in_err-said-clause-unspelled
returns-in_err-said-clause-unspelled c =
    let same : c.from_residual.result ≡ Err c.in_err-said.field-0.0 = search rules in
    refused_again (Vec (Option Symbol) Global) c.in_err-said.field-0.0 c.from_residual.result _ _ same
    (λ why h. refused_spells_none c.args.problem.now (symbol_of c.args.problem.now) c.args.bytes.now why (sym (closed_refusal c.args.problem.now c.args.bytes.now) ∙ h))
    c.in_err-said.ensures.refused
