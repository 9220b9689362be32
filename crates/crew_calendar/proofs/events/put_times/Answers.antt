use Rattle.std.proofs.Common.{◌+◌, ◌∷◌, [], ◌++◌, ap, sym, ◌∙◌, arith}
use Rattle.crew_calendar.specs.ContentLines.{content_text}
use Rattle.crew_calendar.specs.Events.{moment_at, start_line, end_line}
use Rattle.crew_calendar.proofs.EventLines.{lines_put, no_end, some_end}
use Rattle.crew_calendar.proofs.events.put_times.Goals as goal

pub returns-then-length-eq0 : goal.returns-then-length-eq0
returns-then-length-eq0 c on calendar =
    let start = c.in_ok-put_moment_line.ensures on (λ t less. calendar t (omega (arith, less))) in
    start
    ∙ ap (λ label. c.args.out.now.items ++ content_text ((label ++ moment_at on c.args.start) ∷ [])) c.as_slice.ensures
    ∙ ap (λ ls. c.args.out.now.items ++ content_text (start_line on c.args.start ∷ ls)) (sym (no_end on c.args.start c.args.length (omega arith)))

pub returns : goal.returns
returns c on calendar =
    let start = c.in_ok-put_moment_line.ensures on (λ t less. calendar t (omega (arith, less))) in
    let end = c.in_ok-put_moment_line-2.ensures on calendar in
    lines_put c.args.out.now.items c.put_moment_line.new.out.items c.put_moment_line-2.new.out.items (start_line on c.args.start ∷ []) (end_line on (c.args.start + c.args.length) ∷ [])
    (start ∙ ap (λ label. c.args.out.now.items ++ content_text ((label ++ moment_at on c.args.start) ∷ [])) c.as_slice.ensures)
    (end ∙ ap (λ label. c.put_moment_line.new.out.items ++ content_text ((label ++ moment_at on (c.args.start + c.args.length)) ∷ [])) c.as_slice-2.ensures)
    ∙ ap (λ ls. c.args.out.now.items ++ content_text (start_line on c.args.start ∷ ls)) (sym (some_end on c.args.start c.args.length (omega arith)))
