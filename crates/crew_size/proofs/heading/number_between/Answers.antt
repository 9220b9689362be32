use Rattle.crew_size.proofs.Headings.{no_close, between}
use Rattle.crew_size.proofs.heading.number_between.Goals as goal

pub returns-in_default-ahead : goal.returns-in_default-ahead
returns-in_default-ahead c =
    no_close c.args.line.now c.args.word.now c.args.close.now c.in-Some.rest.now c.in-Some.ensures c.in_default-ahead.ensures

pub returns : goal.returns
returns c =
    between c.args.line.now c.args.word.now c.args.close.now c.in-Some.rest.now c.in-Some-ahead.digits.now c.plain_number.result c.in-Some.ensures c.in-Some-ahead.ensures c.plain_number.ensures
