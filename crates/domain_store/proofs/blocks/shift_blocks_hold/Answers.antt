-- As many blocks as there is room for decide.
use Rattle.std.proofs.Common.{◌≡◌, ◌<◌, ap, ◌∙◌, pos, min, ◌/◌, ◌*◌, sym, subst, arith, rules, w64, to_z, of_z, ◌≤ℤ◌}
use Rattle.std.specs.Prelude.{nat_abs}
use Rattle.std.proofs.lemmas.Int.{to_z-of_z}
use Rattle.rwsp_terms.specs.Instance.{cells, bounds}
use Rattle.rwsp_terms.specs.declared.data.Class.TheVariants.{Shift}
use Rattle.refutation_terms.specs.BlocksLeaf.{shortest, most_days}
use Rattle.domain_store.proofs.BlockCounts.{read_natural, shift_decided}
use Rattle.domain_store.proofs.blocks.shift_blocks_hold.Goals as goal

pub returns : goal.returns
returns c =
    let P = c.args.problem.now in
    let b = bounds P (Shift c.args.x) in
    let most : to_z w64 (of_z w64 c.most_days-room.result) ≡ most_days P c.args.x.number = to_z-of_z w64 c.most_days-room.result (search rules) ∙ c.most_days-room.ensures.value in
    let some : pos 0 ≤ℤ to_z w64 (of_z w64 c.most_days-room.result) = subst (λ z. pos 0 ≤ℤ z) (c.most_days-room.ensures.value ∙ sym most) (c.most_days-room.ensures.shift c.requires.0) in
    let short : c.shortest.result ≡ shortest b = c.shortest.ensures.value ∙ ap shortest c.bounds-bounds.ensures.value in
    let some_days : 0 < shortest b = omega (arith, c.shortest.ensures.some, short) in
    let blocks : c.min-blocks.result ≡ min (nat_abs (to_z w64 (of_z w64 c.most_days-room.result)) / shortest b) (cells P) = c.min-blocks.ensures ∙ ap (λ n. min (nat_abs (to_z w64 (of_z w64 c.most_days-room.result)) / n) c.cells.result) short ∙ ap (min (nat_abs (to_z w64 (of_z w64 c.most_days-room.result)) / shortest b)) c.cells.ensures.value in
    let days : c.days_of_blocks.result ≡ pos (min (nat_abs (to_z w64 (of_z w64 c.most_days-room.result)) / shortest b) (cells P) * b.greatest) = c.days_of_blocks.ensures.value ∙ ap (λ n. pos (n * c.bounds-bounds.result.greatest)) blocks ∙ ap (λ d. pos (min (nat_abs (to_z w64 (of_z w64 c.most_days-room.result)) / shortest b) (cells P) * d.greatest)) c.bounds-bounds.ensures.value in
    shift_decided P c.args.x (nat_abs (to_z w64 (of_z w64 c.most_days-room.result))) _ _ c.requires.0 some_days (sym most ∙ read_natural _ some) (to_z-of_z w64 c.days_of_blocks.result (search rules) ∙ days) (to_z-of_z w64 c.least_days.result (search rules) ∙ c.least_days.ensures.value)
