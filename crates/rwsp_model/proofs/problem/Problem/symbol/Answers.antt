-- The dash is the day off, and a shift's number is its place and one.
use Rattle.std.proofs.Common.{ap, sym, ◌∙◌}
use Rattle.std.specs.Str.{bytes_eq}
use Rattle.rwsp_terms.specs.Instance.{symbol_of}
use Rattle.rwsp_model.proofs.Numbers.{symbol_of_dash, symbol_of_place}
use Rattle.rwsp_model.proofs.problem.Problem.symbol.Goals as goal

pub returns-then-eq : goal.returns-then-eq
returns-then-eq c =
    let dash = sym (c.eq.ensures ∙ ap (bytes_eq c.args.name.now) c.as_slice.ensures) ∙ c.if-eq.true in
    symbol_of_dash c.args.self.now.shifts c.args.name.now dash

pub returns-in-Some : goal.returns-in-Some
returns-in-Some c =
    let other = sym (c.eq.ensures ∙ ap (bytes_eq c.args.name.now) c.as_slice.ensures) ∙ c.if-eq.false in
    let place = rw c.deref.ensures.value at c.in-Some.ensures.place in
    symbol_of_place c.self.inside.parts.shifts.items c.args.name.now _ other place ∙ ap (λ P. symbol_of P c.args.name.now) c.self.view_is

pub returns-in-None : goal.returns-in-None
returns-in-None c =
    let other = sym (c.eq.ensures ∙ ap (bytes_eq c.args.name.now) c.as_slice.ensures) ∙ c.if-eq.false in
    let place = rw c.deref.ensures.value at c.in-None.ensures.place in
    symbol_of_place c.self.inside.parts.shifts.items c.args.name.now _ other place ∙ ap (λ P. symbol_of P c.args.name.now) c.self.view_is
