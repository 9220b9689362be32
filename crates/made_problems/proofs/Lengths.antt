-- How long rows and rosters are.
use Rattle.std.proofs.Common.{◌≡◌, ℕ, ◌+◌, ◌-◌, ◌≤◌, List, [], ◌∷◌, ◌++◌, length, map, replicate, Bool, true, false, refl, ap, sym, ◌∙◌, arith}
use Rattle.std.specs.Prelude.{All, nat_le, if◌then◌else◌}
use Rattle.std.specs.List.{range_with_len, sum_by}
use Rattle.std.proofs.lemmas.List.{length-append, length-replicate, map-append}
use Rattle.std.proofs.lemmas.List.Sums.{sum_by-append, sum_by-cons}
use Rattle.std.proofs.lemmas.List.Elements.{All-head, All-tail}
use Rattle.rwsp_terms.proofs.Counting.{range_more}
use Rattle.rwsp_terms.specs.declared.data.Bounds.{Bounds}
use Rattle.made_problems.specs.Generated.{range}
use Rattle.made_problems.specs.Stints.{stint_days, total_days, IsUsual}
use Rattle.made_problems.specs.Blocks.{Block, block, work_blocks, blocks_of, cells_of, roster_of}
use Rattle.made_problems.specs.declared.stint.Stint.{Stint}
use Rattle.made_problems.specs.declared.stint.Pattern.{Pattern}
use Rattle.made_problems.specs.declared.stint.Pattern.TheVariants.{Day, Afternoon, Night}

-- a range more in a row
pub row_more : (f : ℕ → ℕ) (n : ℕ) (rs : List Bounds) (count : ℕ) → rs ≡ map (λ j. range (f j) (f j)) (range_with_len 1 n) → count ≡ f (n + 1) → rs ++ range count count ∷ [] ≡ map (λ j. range (f j) (f j)) (range_with_len 1 (n + 1))
row_more f n rs count e here =
    let g : ℕ → Bounds = λ j. range (f j) (f j) in
    let same : n + 1 ≡ 1 + n = omega arith in
    ap (λ (xs : List Bounds). xs ++ range count count ∷ []) e
    ∙ ap (λ k. map g (range_with_len 1 n) ++ range k k ∷ []) (here ∙ ap f same)
    ∙ sym (map-append g (range_with_len 1 n) ((1 + n) ∷ []))
    ∙ ap (map g) (sym (range_more 1 n))

-- the days of blocks
abbrev pub block_days : List Block → ℕ
block_days bs = sum_by (λ b. b.days) bs

pub length-cells_of : (bs : List Block) → length (cells_of bs) ≡ block_days bs
length-cells_of [] = refl
length-cells_of (b ∷ bs) =
    let e = length-cells_of bs in
    let d = length-replicate b.days b.symbol in
    length-append (replicate b.days b.symbol) (cells_of bs) ∙ ap (λ n. n + length (cells_of bs)) d ∙ ap (λ n. b.days + n) e ∙ sym (sum_by-cons (λ b. b.days) b bs)

work_long : (p : Pattern) (work : ℕ) → 4 ≤ work → block_days (work_blocks p work) ≡ work
work_long Day work few = omega arith
work_long Afternoon work few = omega arith
work_long Night work few =
    elim (nat_le 6 work) as (λ (b : Bool). nat_le 6 work ≡ b → block_days (if b then block 1 2 ∷ block 2 2 ∷ block 3 (work - 4) ∷ [] else block 2 2 ∷ block 3 (work - 2) ∷ []) ≡ work) [
      | true ↦ λ _. omega arith
      | false ↦ λ _. omega arith
    ] refl

pub stint_long : (t : Stint) → 4 ≤ t.work → length (cells_of (blocks_of t)) ≡ stint_days t
stint_long t few =
    let whole = length-cells_of (blocks_of t) in
    let parts = sum_by-append (λ (b : Block). b.days) (work_blocks t.pattern t.work) (block 0 t.off ∷ []) in
    let work = work_long t.pattern t.work few in
    omega arith

pub roster_long : (ts : List Stint) → All IsUsual ts → length (roster_of ts) ≡ total_days ts
roster_long [] h = refl
roster_long (t ∷ ts) h =
    let head = All-head IsUsual t ts h in
    length-append (cells_of (blocks_of t)) (roster_of ts)
    ∙ ap (λ n. n + length (roster_of ts)) (stint_long t head.0)
    ∙ ap (λ n. stint_days t + n) (roster_long ts (All-tail IsUsual t ts h))
    ∙ sym (sum_by-cons stint_days t ts)
