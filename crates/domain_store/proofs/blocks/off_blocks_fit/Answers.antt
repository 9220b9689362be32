-- The days lie between the greatest of the lower ends and the least of the upper ones.
use Rattle.std.proofs.Common.{◌≡◌, ◌*◌, ◌≤◌, ap, ◌∙◌, pos, arith, rules, w64, to_z, of_z}
use Rattle.std.specs.Int.{int_max, int_min}
use Rattle.std.proofs.lemmas.Int.{to_z-of_z}
use Rattle.rwsp_terms.specs.Instance.{cells}
use Rattle.refutation_terms.specs.BlocksLeaf.{shortest, least_days, most_days}
use Rattle.domain_store.proofs.BlockCounts.{read_days, read_less, off_decided}
use Rattle.domain_store.proofs.blocks.off_blocks_fit.Goals as goal

pub returns : goal.returns
returns c =
    let P = c.args.problem.now in
    let k = c.args.k in
    let least : to_z w64 (of_z w64 c.args.least) ≡ least_days P 0 = to_z-of_z w64 c.args.least (search rules) ∙ c.requires.least in
    let most : to_z w64 (of_z w64 c.args.most) ≡ most_days P 0 = to_z-of_z w64 c.args.most (search rules) ∙ c.requires.most in
    let shortest_off = c.shortest.ensures.value ∙ ap shortest c.bounds-off.ensures.value in
    let shortest_work = c.shortest-2.ensures.value ∙ ap shortest c.bounds-work.ensures.value in
    let off_least = read_days c.days_of_blocks.result (k * shortest P.off) (c.days_of_blocks.ensures.value ∙ ap (λ n. pos (k * n)) shortest_off) c.days_of_blocks.ensures.few in
    let work_most = read_days c.days_of_blocks-2.result (k * P.work.greatest) (c.days_of_blocks-2.ensures.value ∙ ap (λ b. pos (k * b.greatest)) c.bounds-work.ensures.value) c.days_of_blocks-2.ensures.few in
    let off_most = read_days c.days_of_blocks-3.result (k * P.off.greatest) (c.days_of_blocks-3.ensures.value ∙ ap (λ b. pos (k * b.greatest)) c.bounds-off.ensures.value) c.days_of_blocks-3.ensures.few in
    let work_least = read_days c.days_of_blocks-4.result (k * shortest P.work) (c.days_of_blocks-4.ensures.value ∙ ap (λ n. pos (k * n)) shortest_work) c.days_of_blocks-4.ensures.few in
    let all : to_z w64 (of_z w64 c.from-cells.result) ≡ pos (cells P) = to_z-of_z w64 c.from-cells.result (search rules) ∙ c.from-cells.ensures ∙ ap (λ n. pos n) c.cells.ensures.value in
    let few : cells P ≤ 42000000 = omega (arith, c.cells.ensures.value, c.cells.ensures.few) in
    off_decided P k _ _ _ _
    (to_z-of_z w64 c.max.result (search rules) ∙ c.max.ensures.value ∙ ap (λ z. int_max z (to_z w64 (of_z w64 c.days_of_blocks.result))) least ∙ ap (int_max (least_days P 0)) off_least.0)
    (to_z-of_z w64 c.max-low.result (search rules) ∙ c.max-low.ensures.value ∙ ap (int_max (to_z w64 (of_z w64 c.max.result))) (read_less _ _ (cells P) (k * P.work.greatest) all work_most.0 few work_most.1))
    (to_z-of_z w64 c.min.result (search rules) ∙ c.min.ensures.value ∙ ap (λ z. int_min z (to_z w64 (of_z w64 c.days_of_blocks-3.result))) most ∙ ap (int_min (most_days P 0)) off_most.0)
    (to_z-of_z w64 c.min-high.result (search rules) ∙ c.min-high.ensures.value ∙ ap (int_min (to_z w64 (of_z w64 c.min.result))) (read_less _ _ (cells P) (k * shortest P.work) all work_least.0 few work_least.1))
