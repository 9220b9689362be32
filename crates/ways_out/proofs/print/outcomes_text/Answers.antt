use Rattle.std.proofs.Common.{◌≡◌, ◌<◌, ◌++◌, List, length, get_or, false, ap, sym, subst, ◌∙◌, arith}
use Rattle.std.specs.Prelude.{take}
use Rattle.std.proofs.lemmas.List.{take_all}
use Rattle.ways_out.specs.declared.change.Change.{Change}
use Rattle.ways_out.specs.declared.change.Outcome.TheVariants.{Helps}
use Rattle.ways_out.specs.Loosened.{IsChange}
use Rattle.ways_out.specs.Changes.{changes}
use Rattle.ways_out.specs.Answers.{HasSteps}
use Rattle.ways_out.specs.Texts.{outcome_text, outcomes_text, others_line}
use Rattle.ways_out.proofs.Zips.{zip_long, zip_at}
use Rattle.ways_out.proofs.AllOutcomes.{line_more}
use Rattle.ways_out.proofs.print.outcomes_text.Goals as goal

pub index-requires : goal.index-requires
index-requires c =
    let P = c.args.problem.now in
    let long = zip_long (HasSteps P) (changes P) c.args.outcomes.now c.requires in
    let within = c.loop-place-test.true in
    let value = ap length c.in_ok-changes.ensures.value in
    omega (arith, long, within, value)

pub put_outcome-requires-clause-change : goal.put_outcome-requires-clause-change
put_outcome-requires-clause-change c =
    let P = c.args.problem.now in
    let long = zip_long (HasSteps P) (changes P) c.args.outcomes.now c.requires in
    let within = c.loop-place-test.true in
    let value = ap length c.in_ok-changes.ensures.value in
    subst (IsChange P) (sym c.index.ensures) (c.in_ok-changes.ensures.known c.loop-place.place c.index.result.now (omega (arith, long, within, value)))

pub put_outcome-requires-clause-steps : goal.put_outcome-requires-clause-steps
put_outcome-requires-clause-steps c =
    let P = c.args.problem.now in
    let n = c.loop-place.place in
    let long = zip_long (HasSteps P) (changes P) c.args.outcomes.now c.requires in
    let within = c.loop-place-test.true in
    let less : n < length (changes P) = omega (arith, long, within) in
    let is : c.index.result.now ≡ get_or (changes P) n c.index.result.now = c.index.ensures ∙ ap (λ (cs : List Change). get_or cs n c.index.result.now) c.in_ok-changes.ensures.value in
    subst (λ (change : Change). HasSteps P change (get_or c.args.outcomes.now n (Helps 0 false))) (sym is)
    (zip_at (HasSteps P) (changes P) c.args.outcomes.now n c.index.result.now (Helps 0 false) c.requires less)

pub loop-place-preserved : goal.loop-place-preserved
loop-place-preserved c =
    let P = c.args.problem.now in
    let n = c.loop-place.place in
    let long = zip_long (HasSteps P) (changes P) c.args.outcomes.now c.requires in
    let within = c.loop-place-test.true in
    let less : n < length (changes P) = omega (arith, long, within) in
    let is : c.index.result.now ≡ get_or (changes P) n c.index.result.now = c.index.ensures ∙ ap (λ (cs : List Change). get_or cs n c.index.result.now) c.in_ok-changes.ensures.value in
    c.in_ok-put_outcome.ensures
    ∙ ap (λ t. t ++ outcome_text P c.index.result.now (get_or c.args.outcomes.now n (Helps 0 false))) c.loop-place.invariant
    ∙ ap (λ (change : Change). outcomes_text P (take n (changes P)) (take n c.args.outcomes.now) ++ outcome_text P change (get_or c.args.outcomes.now n (Helps 0 false))) is
    ∙ sym (line_more P (changes P) c.args.outcomes.now n c.index.result.now (Helps 0 false) less within)

pub returns : goal.returns
returns c =
    let P = c.args.problem.now in
    let n = c.loop-place.place in
    let os = c.args.outcomes.now in
    let long = zip_long (HasSteps P) (changes P) os c.requires in
    let past = c.loop-place-test.false in
    let all_changes : take n (changes P) ≡ changes P = take_all n (changes P) (omega (arith, long, past)) in
    let all_outcomes : take n os ≡ os = take_all n os (omega (arith, past)) in
    c.in_ok-put_others.ensures
    ∙ ap (λ t. t ++ others_line c.count_open.result) (c.loop-place.invariant ∙ ap (λ (cs : List Change). outcomes_text P cs (take n os)) all_changes ∙ ap (outcomes_text P (changes P)) all_outcomes)
    ∙ ap (λ k. outcomes_text P (changes P) os ++ others_line k) c.count_open.ensures
