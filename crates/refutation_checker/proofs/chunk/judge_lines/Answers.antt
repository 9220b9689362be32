use Rattle.std.proofs.Common.{refl, sym, subst, ◌∙◌}
use Rattle.std.specs.Prelude.{Err}
use Rattle.rwsp_model.specs.Refusals.{MatchAnswer}
use Rattle.refutation_checker.specs.LineTexts.{Judging, ReadsNext, RefusesNext}
use Rattle.refutation_checker.proofs.ChunkJudging.{IsSomewhere, judged_none, judged_more, judged_failed, judged_all, read_somewhere}
use Rattle.refutation_checker.proofs.chunk.judge_lines.Goals as goal

pub loop-bytes-init : goal.loop-bytes-init
loop-bytes-init c = record {
  state = c.requires.state;
  judge = refl;
  judged = judged_none c.args.judge.now (record { walk = c.args.walk.now; bytes = c.args.bytes.now; first = c.args.first }) c.new-reader.result c.args.walk.now c.args.first c.new-reader.ensures refl refl;
}

pub read-requires : goal.read-requires
read-requires c = record { state = subst (λ (J : Judging). IsSomewhere J.problem c.loop-bytes.walk) (sym c.loop-bytes.invariant.judge) c.loop-bytes.invariant.state }

pub returns-in-Err : goal.returns-in-Err
returns-in-Err c =
    let walk = c.loop-bytes.walk in
    let bytes = c.in-Some.bytes.now in
    judged_failed c.args.judge.now (record { walk = c.args.walk.now; bytes = c.args.bytes.now; first = c.args.first }) c.loop-bytes.reader bytes c.next.new.self walk c.loop-bytes.number c.in-Err.fail _
    c.loop-bytes.invariant.judged c.in-Some.ensures.line.1 c.in-Some.ensures.end
    (subst (λ (J : Judging). MatchAnswer (Err c.in-Err.fail) (ReadsNext J walk bytes c.read.new.walk) (RefusesNext J walk bytes c.loop-bytes.number)) c.loop-bytes.invariant.judge c.in-Err.ensures.read)

pub loop-bytes-preserved : goal.loop-bytes-preserved
loop-bytes-preserved c =
    let J = c.args.judge.now in
    let walk = c.loop-bytes.walk in
    let bytes = c.in-Some.bytes.now in
    let reads : ReadsNext J walk bytes c.read.new.walk c.in-Ok.line = subst (λ (K : Judging). ReadsNext K walk bytes c.read.new.walk c.in-Ok.line) c.loop-bytes.invariant.judge c.in-Ok.ensures.read in
    record {
      judge = c.read.ensures.same ∙ c.loop-bytes.invariant.judge;
      state = read_somewhere J bytes walk c.read.new.walk c.in-Ok.line c.loop-bytes.invariant.state reads;
      judged = judged_more J (record { walk = c.args.walk.now; bytes = c.args.bytes.now; first = c.args.first }) c.loop-bytes.reader bytes c.next.new.self walk c.read.new.walk c.loop-bytes.number c.in-Ok.line
          c.loop-bytes.invariant.judged c.in-Some.ensures.line.0 c.in-Some.ensures.line.1 reads;
    }

pub returns : goal.returns
returns c =
    judged_all c.args.judge.now (record { walk = c.args.walk.now; bytes = c.args.bytes.now; first = c.args.first }) c.loop-bytes.reader c.loop-bytes.walk c.loop-bytes.number c.is_whole.result
    c.loop-bytes.invariant.judged c.in_default.ensures.line (c.is_whole.ensures.tree c.args.judge.now.problem)
