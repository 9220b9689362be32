-- The refusal is by what was found first.
use Rattle.std.proofs.Common.{arith, sym, ◌∙◌}
use Rattle.rwsp_model.specs.Parts.{instance_of}
use Rattle.rwsp_model.proofs.Limits.{refused_shape, refused_limit, refused_name, limit_below, few_shifts_where_none}
use Rattle.rwsp_model.proofs.validity.refusal.Goals as goal

pub first_bad_name-requires : goal.first_bad_name-requires
first_bad_name-requires c = rw c.deref.ensures.value (few_shifts_where_none (instance_of c.args.parts.now) c.in_default.ensures)

pub overflow_cast-result : goal.overflow_cast-result
overflow_cast-result c = let few = limit_below (instance_of c.args.parts.now) _ c.in-Some.ensures in omega (arith, few)

pub overflow_add-result : goal.overflow_add-result
overflow_add-result c = let few = limit_below (instance_of c.args.parts.now) _ c.in-Some.ensures in omega (arith, few)

pub returns-then-not-shape_is_kept : goal.returns-then-not-shape_is_kept
returns-then-not-shape_is_kept c =
    refused_shape (instance_of c.args.parts.now) (sym c.shape_is_kept.ensures ∙ c.if-not-shape_is_kept.true)

pub returns-in-Some : goal.returns-in-Some
returns-in-Some c =
    refused_limit (instance_of c.args.parts.now) _ (sym c.shape_is_kept.ensures ∙ c.if-not-shape_is_kept.false) c.in-Some.ensures

pub returns-in-None : goal.returns-in-None
returns-in-None c =
    let name = rw c.deref.ensures.value at c.in-None.ensures in
    refused_name (instance_of c.args.parts.now) _ (sym c.shape_is_kept.ensures ∙ c.if-not-shape_is_kept.false) c.in_default.ensures name

pub returns-in-Some-first_bad_name : goal.returns-in-Some-first_bad_name
returns-in-Some-first_bad_name c =
    let name = rw c.deref.ensures.value at c.in-Some-first_bad_name.ensures in
    refused_name (instance_of c.args.parts.now) _ (sym c.shape_is_kept.ensures ∙ c.if-not-shape_is_kept.false) c.in_default.ensures name
