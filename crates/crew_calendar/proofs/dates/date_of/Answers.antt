use Rattle.std.proofs.Common.{◌≡◌, pos, true, arith, ap, ◌∙◌}
use Rattle.std.specs.Prelude.{◌<ℤ◌}
use Rattle.std.specs.Str.{bytes_eq}
use Rattle.std.proofs.lemmas.Int.{ints}
use Rattle.rwsp_text.proofs.Words.{bytes_same}
use Rattle.crew_calendar.specs.Calendar.{date_text}
use Rattle.crew_calendar.proofs.DateWords.{word_is_read, not_negative, text_is_word}
use Rattle.crew_calendar.proofs.dates.date_of.Goals as goal

pub returns-in_default : goal.returns-in_default
returns-in_default c date names = word_is_read c.args.word.now c.in_default.field-0 date c.in_default.ensures.value names

pub returns-then-year-lt-FIRST_YEAR : goal.returns-then-year-lt-FIRST_YEAR
returns-then-year-lt-FIRST_YEAR c date names =
    let below : c.in-Ok.date.year <ℤ pos 0 = omega (arith, ints, c.year.ensures, c.if-year-lt-FIRST_YEAR.true) in
    not_negative c.args.word.now c.in-Ok.date date c.in-Ok.ensures.value names below

pub returns-else-eq : goal.returns-else-eq
returns-else-eq c date names =
    let word : date_text c.in-Ok.date ≡ c.args.word.now = text_is_word c.args.word.now c.in-Ok.date date c.in-Ok.ensures.value names in
    let text : c.as_str.result.now ≡ c.args.word.now = c.as_str.ensures.value ∙ c.date_text-text.ensures ∙ ap date_text c.to_plain.ensures ∙ word in
    let same : bytes_eq c.as_str.result.now c.args.word.now ≡ true = ap (λ t. bytes_eq t c.args.word.now) text ∙ bytes_same c.args.word.now in
    cc
