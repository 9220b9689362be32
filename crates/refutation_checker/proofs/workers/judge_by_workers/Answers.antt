use Rattle.std.proofs.Common.{◌≡◌, [], length, get_or, false, ap, sym, subst, arith, Ok}
use Rattle.std.specs.Int.{div_ceil}
use Rattle.refutation_checker.specs.Starts.{Start, StandsBehind}
use Rattle.refutation_checker.specs.Chunks.{AreChunks, line_count}
use Rattle.refutation_checker.specs.LineTexts.{Judging}
use Rattle.refutation_checker.specs.ChunkVerdicts.{IsJudged, IsAnswerTo}
use Rattle.refutation_checker.proofs.Joining.{Answer, answers_to, joined}
use Rattle.refutation_checker.proofs.SoundLines.{nothing_below, some_left}
use Rattle.refutation_checker.proofs.workers.judge_by_workers.Goals as goal

pub returns-then-is_empty : goal.returns-then-is_empty
returns-then-is_empty g c o st =
    nothing_below c.args.judging.now o c.args.all.bytes c.all.inside.bytes.now c.if-is_empty.ensures (ap (λ (s : Start). s.bytes) c.all.view_is)

pub returns-in-Ok-answers : goal.returns-in-Ok-answers
returns-in-Ok-answers g c o st =
    let J = c.args.judging.now in
    let chunks = c.in-Ok.chunks.items in
    let answers = c.in-Ok-answers.answers.items in
    let count : length answers ≡ length chunks = omega (arith, c.in-Ok-answers.ensures.len, c.in-Ok-answers.answers.ok.0, c.in-Ok.chunks.ok.0) in
    let are = answers_to J chunks answers c.args.all (Ok false) count
    (λ i less. let given = (c.in-Ok-answers.ensures.each i (Ok false) less).1 in subst (λ (s : Start). IsAnswerTo J s (get_or answers i (Ok false))) (sym (given.job_is c.args.all)) given.call.met) in
    let size = div_ceil (line_count c.args.all.bytes) c.args.workers in
    let cut = subst (λ (K : Judging). StandsBehind K.problem K.goal K.counts o [] c.args.all → AreChunks K.problem K.goal K.counts o size [] c.args.all.bytes chunks) c.judging.view_is (c.in-Ok.ensures.chunks o) in
    let some = some_left c.args.all.bytes c.all.inside.bytes.now c.if-is_empty.ensures (ap (λ (s : Start). s.bytes) c.all.view_is) in
    subst (λ (a : Answer). IsJudged J o [] c.args.all.bytes a) (sym c.joined.ensures)
    (joined J o size chunks answers [] c.args.all.bytes false are (cut st) some)
