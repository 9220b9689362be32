-- All states are marked, behind the last day.
use Rattle.std.proofs.Common.{ℕ, ◌∙◌, ◌-◌, ◌^◌, length, set, ap, arith}
use Rattle.std.proofs.lemmas.List.{length-replicate}
use Rattle.propagators.proofs.Starting.{row_fits, first_back_by}
use Rattle.propagators.proofs.two_turns.first_back.Goals as goal

pub returns : goal.returns
returns c =
    first_back_by c.args.days c.args.words c.in_ok-all.field-0 c.put_row.new.self c.in_ok-all.ensures
    (c.put_row.ensures ∙ ap (λ r. set r c.args.days c.in_ok-all.field-0) c.in_ok-back.ensures)

pub put_row-requires : goal.put_row-requires
put_row-requires c =
    let long = ap length c.in_ok-all.ensures ∙ length-replicate {A = ℕ} c.args.words (2 ^ 64 - 1) in
    let fits = row_fits c.args.words c.args.days c.args.days c.in_ok-back.back c.in_ok-all.field-0 (omega arith) c.in_ok-back.ensures long in
    record { day = fits.0; wide = fits.1 }
