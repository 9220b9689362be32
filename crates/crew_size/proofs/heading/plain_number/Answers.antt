use Rattle.crew_size.proofs.Headings.{zero_in_front, number_read}
use Rattle.crew_size.proofs.heading.plain_number.Goals as goal

pub returns-in-Some : goal.returns-in-Some
returns-in-Some c = zero_in_front c.args.digits.now c.in-Some.field-0.now c.in-Some.ensures

pub returns-in-None : goal.returns-in-None
returns-in-None c = number_read c.args.digits.now c.number.result c.in-None.ensures c.number.ensures
