use Rattle.std.proofs.Common.{◌≡◌, ℕ, ◌+◌, ◌<◌, ◌≤◌, List, ◌++◌, length, take, get_or, ap, ◌∙◌, arith}
use Rattle.std.proofs.Math.Seq.{take-length}
use Rattle.std.proofs.lemmas.Grind.{common_steps}
use Rattle.made_problems.specs.Blocks.{roster_of, cells_of, blocks_of}
use Rattle.made_problems.specs.declared.stint.Stint.{Stint}
use Rattle.made_problems.specs.declared.stint.Pattern.TheVariants.{Day}
use Rattle.rwsp_terms.specs.declared.data.Symbol.{Symbol}
use Rattle.made_problems.proofs.hidden.roster_of.Goals as goal

one_more : (ts : List Stint) (i : ℕ) (t : Stint) (old new : List Symbol) → i < length ts → old ≡ roster_of (take i ts) → new ≡ old ++ cells_of (blocks_of (get_or ts i t)) → new ≡ roster_of (take (i + 1) ts)
one_more ts i t old new less was put = grind (arith, common_steps)

take_whole : (n : ℕ) (ts : List Stint) → n ≤ length ts → length ts ≤ n → take n ts ≡ ts
take_whole n ts few many = let all : n ≡ length ts = omega arith in rw all (take-length ts)

pub loop-stint-preserved : goal.loop-stint-preserved
loop-stint-preserved c =
    one_more c.args.stints.now c.loop-stint.stint-index (record { work = 0; off = 0; pattern = Day }) c.loop-stint.cells.items c.put_stint.new.cells.items
    c.loop-stint-test.true c.loop-stint.invariant c.in_ok-put_stint.ensures

pub returns : goal.returns
returns c = c.loop-stint.invariant ∙ ap roster_of (take_whole _ _ c.loop-stint.auto.stint-index-end c.loop-stint-test.false)
