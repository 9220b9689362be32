use Rattle.std.proofs.Common.{◌≡◌, arith, subst, sym, ap, ◌∙◌}
use Rattle.std.specs.Prelude.{All}
use Rattle.std.specs.List.{flat_map}
use Rattle.std.proofs.lemmas.List.{take_all}
use Rattle.rwsp_terms.specs.Rules.{rules}
use Rattle.ways_out.specs.Changes.{changes_of}
use Rattle.ways_out.specs.Loosened.{IsChange}
use Rattle.ways_out.proofs.Pieces.{part_more}
use Rattle.ways_out.proofs.AllChanges.{rule_placed, changes_known}
use Rattle.ways_out.proofs.listed.changes_in.Goals as goal

pub loop-place-preserved : goal.loop-place-preserved
loop-place-preserved c =
    let P = c.args.problem.now in
    part_more (changes_of P) (rules P) c.loop-place.place c.rule_at.result c.loop-place.all.items _ (rule_placed P c.loop-place.place c.rule_at.result c.rule_at.ensures.value) c.loop-place.invariant c.in_ok-put_changes_of.ensures

pub returns-clause-known : goal.returns-clause-known
returns-clause-known c =
    let P = c.args.problem.now in
    let past = c.loop-place-test.false in
    let many = c.rule_count-place-end.ensures.value in
    let whole : c.loop-place.all.items ≡ flat_map (changes_of P) (rules P) = c.loop-place.invariant ∙ ap (flat_map (changes_of P)) (take_all c.loop-place.place (rules P) (omega (arith, past, many))) in
    subst (All (IsChange P)) (sym whole) (changes_known P)
