use Rattle.std.proofs.Common.{◌≡◌, ◌++◌, take, drop, ap, sym, subst, ◌∙◌, arith}
use Rattle.rwsp_terms.specs.declared.limits.TheConstants.{DAYS_OF_WEEK}
use Rattle.rwsp_text.specs.Lines.{IsNextLine}
use Rattle.crew_checker.proofs.LeastEnds.{found_as}
use Rattle.commands.specs.ReadBest.{lines_len}
use Rattle.commands.proofs.ReadBest.{best_split, best_joined}
use Rattle.commands.proofs.roster.of_best.best_roster.Goals as goal

pub returns-clause-best : goal.returns-clause-best
returns-clause-best c =
    let P = c.args.problem.now in
    let bytes = c.args.bytes.now in
    let first = c.in-Some.first.now in
    let rest = c.rest-rest.result.now in
    let part = c.split_at.result.0.now in
    let log = c.split_at.result.1.now in
    let whole : bytes ≡ first ++ rest = sym c.new-reader.ensures ∙ c.in-Some.ensures.line.1 ∙ ap (λ t. first ++ t) (sym c.rest-rest.ensures) in
    let next : IsNextLine first rest = subst (λ t. IsNextLine first t) (sym c.rest-rest.ensures) c.in-Some.ensures.end in
    let mid : c.lines_len.result ≡ lines_len P.weeks rest = c.lines_len.ensures.value ∙ ap (λ n. lines_len n rest) c.weeks.ensures.value in
    let front : part ≡ take (lines_len P.weeks rest) rest = c.split_at.ensures.front ∙ ap (λ n. take n rest) mid in
    let back : log ≡ drop (lines_len P.weeks rest) rest = c.split_at.ensures.back ∙ ap (λ n. drop n rest) mid in
    let weekly : P.days ≡ DAYS_OF_WEEK = omega (arith, c.days.ensures.value, c.if-days-ne-DAYS_OF_WEEK.false) in
    found_as c.of_parts.result _ _ _ _
    (λ none s h. none s (best_split P bytes first rest part log s c.prove_limits.ensures whole next front back h))
    (λ roster parts. best_joined P bytes first rest part log roster.cells weekly whole front back parts)
    c.of_parts.ensures.parts
