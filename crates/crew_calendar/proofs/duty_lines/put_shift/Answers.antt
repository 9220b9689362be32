use Rattle.std.proofs.Common.{◌≡◌, ◌≤◌, ◌+◌, ◌*◌, ◌/◌, ◌++◌, ap, ◌∙◌, arith}
use Rattle.std.specs.Prelude.{codes}
use Rattle.rwsp_terms.specs.Instance.{name_of}
use Rattle.crew_calendar.specs.declared.dates.TheConstants.{MOST_DAYS_LATER}
use Rattle.crew_calendar.specs.Texts.{day_minutes, moment_text, start_of, length_of}
use Rattle.crew_calendar.proofs.Appended.{shift_joined}
use Rattle.crew_calendar.proofs.duty_lines.put_shift.Goals as goal

pub returns : goal.returns
returns c on calendar =
    let P = c.args.problem.now in
    let start = c.args.t * day_minutes + c.start_of.result in
    let end = start + c.length_of.result in
    let few_start : start / day_minutes + 1 ≤ c.args.t + 1 + MOST_DAYS_LATER = omega (arith, c.start_of.ensures.few) in
    let few_end : end / day_minutes + 1 ≤ c.args.t + 1 + MOST_DAYS_LATER = omega (arith, c.start_of.ensures.few, c.length_of.ensures.few) in
    let starts : start ≡ c.args.t * day_minutes + start_of P c.args.shift = ap (λ n. c.args.t * day_minutes + n) c.start_of.ensures.value in
    let ends : end ≡ c.args.t * day_minutes + start_of P c.args.shift + length_of P c.args.shift = ap (λ n. n + c.length_of.result) starts ∙ ap (λ n. c.args.t * day_minutes + start_of P c.args.shift + n) c.length_of.ensures.value in
    let from = c.in_ok-put_moment.ensures on (λ t less. calendar t (omega (arith, less, few_start))) in
    let to = c.in_ok-put_moment-2.ensures on (λ t less. calendar t (omega (arith, less, few_end))) in
    shift_joined c.args.out.now.items (moment_text on (c.args.t * day_minutes + start_of P c.args.shift)) (codes " to ") (moment_text on (c.args.t * day_minutes + start_of P c.args.shift + length_of P c.args.shift)) (name_of P c.args.shift)
    c.put_moment.new.out.items c.extend_from_slice.new.self.items c.put_moment-2.new.out.items c.put_name.new.out.items c.push.new.self.items
    (from ∙ ap (λ m. c.args.out.now.items ++ moment_text on m) starts) c.in_ok-extend_from_slice.ensures.items
    (to ∙ ap (λ m. c.extend_from_slice.new.self.items ++ moment_text on m) ends) c.in_ok-put_name.ensures c.in_ok-push.ensures.items
