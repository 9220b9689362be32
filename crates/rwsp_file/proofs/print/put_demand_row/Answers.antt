use Rattle.std.proofs.Common.{◌≡◌, ◌++◌, ◌∷◌, length, ap, ◌∙◌, arith}
use Rattle.rwsp_terms.specs.declared.data.Bounds.{Bounds}
use Rattle.rwsp_file.specs.Text.{demand_text, row_of_demand}
use Rattle.rwsp_file.proofs.TextSteps.{demand_first, demand_more, demand_line, row_length, range_there, on_ok}
use Rattle.rwsp_file.proofs.print.put_demand_row.Goals as goal

pub loop-day-init : goal.loop-day-init
loop-day-init c =
    let long : length (row_of_demand c.args.problem.now c.args.place) ≡ c.args.problem.now.days = row_length c.args.problem.now c.args.place (omega (arith, c.requires, c.prove_limits.ensures.rows)) c.prove_limits.ensures.long_rows in
    demand_first (row_of_demand c.args.problem.now c.args.place) c.args.out.now.items c.put_demand.new.out.items (omega (arith, long, c.prove_limits.ensures.some_days))
    (c.in_ok-put_demand.ensures ∙ ap (λ (b : Bounds). c.args.out.now.items ++ demand_text b) (c.demand.ensures.value ∙ range_there c.args.problem.now c.args.place 0 (omega (arith, c.requires, c.prove_limits.ensures.rows))))

pub loop-day-preserved : goal.loop-day-preserved
loop-day-preserved c =
    let long : length (row_of_demand c.args.problem.now c.args.place) ≡ c.args.problem.now.days = row_length c.args.problem.now c.args.place (omega (arith, c.requires, c.prove_limits.ensures.rows)) c.prove_limits.ensures.long_rows in
    demand_more (row_of_demand c.args.problem.now c.args.place) c.loop-day.day c.args.out.now.items c.loop-day.out.items c.put_next_demand.new.out.items
    (omega (arith, c.loop-day.auto.day)) (omega (arith, long, c.days-days.ensures.value, c.loop-day-test.true)) c.loop-day.invariant
    (c.in_ok-put_next_demand.ensures ∙ ap (λ (b : Bounds). c.loop-day.out.items ++ 32 ∷ demand_text b) (c.demand-in-loop-day.ensures.value ∙ range_there c.args.problem.now c.args.place c.loop-day.day (omega (arith, c.requires, c.prove_limits.ensures.rows))))

pub returns : goal.returns
returns c =
    let long : length (row_of_demand c.args.problem.now c.args.place) ≡ c.args.problem.now.days = row_length c.args.problem.now c.args.place (omega (arith, c.requires, c.prove_limits.ensures.rows)) c.prove_limits.ensures.long_rows in
    on_ok c.put_byte.result _ _ (demand_line (row_of_demand c.args.problem.now c.args.place) c.loop-day.day c.args.out.now.items c.loop-day.out.items c.put_byte.new.out.items
    (omega (arith, long, c.days-days.ensures.value, c.loop-day-test.false)) c.loop-day.invariant) c.put_byte.ensures
