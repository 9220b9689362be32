-- One state is marked, before the first day.
use Rattle.std.proofs.Common.{ℕ, ◌∙◌, length, set, ap, arith}
use Rattle.std.proofs.lemmas.List.{length-replicate}
use Rattle.propagators.proofs.Starting.{row_fits, first_front_by}
use Rattle.propagators.proofs.two_turns.first_front.Goals as goal

pub returns : goal.returns
returns c =
    first_front_by c.args.days c.args.words c.put.new.self c.in_ok-start.start c.put_row.new.self c.in_ok-start.ensures c.put.ensures.long c.put.ensures.marks
    (c.put_row.ensures ∙ ap (λ r. set r 0 c.put.new.self) c.in_ok-front.ensures)

pub put-requires : goal.put-requires
put-requires c = omega (arith, c.requires.words, ap length c.in_ok-start.ensures, length-replicate {A = ℕ} c.args.words 0)

pub put_row-requires : goal.put_row-requires
put_row-requires c =
    let long = c.put.ensures.long ∙ ap length c.in_ok-start.ensures ∙ length-replicate {A = ℕ} c.args.words 0 in
    let fits = row_fits c.args.words c.args.days 0 c.in_ok-front.front c.put.new.self (omega arith) c.in_ok-front.ensures long in
    record { day = fits.0; wide = fits.1 }
