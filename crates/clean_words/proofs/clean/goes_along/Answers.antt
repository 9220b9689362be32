use Rattle.std.proofs.Common.{◌≡◌, ◌+◌, drop, ap, sym, ◌∙◌, arith}
use Rattle.std.proofs.lemmas.List.{drop_more}
use Rattle.clean_words.specs.Monitors.{run}
use Rattle.clean_words.proofs.CleanByRules.{run_on}
use Rattle.clean_words.proofs.clean.goes_along.Goals as goal

pub loop-day-preserved : goal.loop-day-preserved
loop-day-preserved c =
    let m = c.args.monitor in
    let w = c.args.word.now in
    let q = c.args.p + c.loop-day.day in
    let rest = drop (c.loop-day.day + 1) w in
    let later : q + 1 ≡ c.args.p + (c.loop-day.day + 1) = omega arith in
    record {
      inside = c.in-Some.ensures.inside;
      runs = c.loop-day.invariant.runs ∙ ap (run m q c.loop-day.state) (drop_more w c.loop-day.day _ c.loop-day-test.true) ∙ run_on m q c.loop-day.state c.in-Some.to _ rest (sym c.next.ensures.value ∙ c.in-Some.is) ∙ ap (λ n. run m n c.in-Some.to rest) later;
    }
