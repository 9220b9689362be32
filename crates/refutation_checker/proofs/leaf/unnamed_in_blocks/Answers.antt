use Rattle.std.proofs.Common.{None, true, refl, sym, subst}
use Rattle.refutation_terms.specs.declared.lines.Line.TheVariants.{Closing}
use Rattle.refutation_terms.specs.declared.lines.Leaf.TheVariants.{Blocks}
use Rattle.refutation_terms.specs.BlocksLeaf.{BlocksCite, IsBlockRule}
use Rattle.refutation_log.specs.Cited.{IsCited, IsSomeDay}
use Rattle.refutation_log.proofs.CitedRules.{either_cited, line_numbered}
use Rattle.refutation_checker.specs.Outside.{IsLeastUnnamed}
use Rattle.refutation_checker.proofs.Lists.{lesser_outside, found_unnamed}
use Rattle.refutation_checker.proofs.leaf.unnamed_in_blocks.Goals as goal

pub returns : goal.returns
returns c =
    let P = c.args.problem.now in
    let x = c.args.x in
    let named = c.args.named.now in
    subst (IsLeastUnnamed P named (BlocksCite P x)) (sym c.lesser.ensures)
    (found_unnamed P named (BlocksCite P x) _ _ (line_numbered P None true (Closing (Blocks x)) (refl, c.requires)) (either_cited P (IsBlockRule x.number) (IsSomeDay P))
    (lesser_outside (IsCited P (IsBlockRule x.number)) (IsCited P (IsSomeDay P)) named _ _ c.unnamed_length.ensures c.each_day_outside.ensures))
