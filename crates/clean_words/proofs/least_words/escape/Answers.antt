use Rattle.clean_words.proofs.LeastEscapes.{least_of_best, dead_of_below}
use Rattle.clean_words.proofs.least_words.escape.Goals as goal

pub returns-in-Some : goal.returns-in-Some
returns-in-Some c =
    let words = c.args.words.now in
    let best = rw c.in-Some.is at c.in_ok-word.ensures in
    least_of_best words.automaton.now words.domains.now words.position words.days c.in-Some.field-0.weight c.in-Some.field-0.word best.0

pub returns-in-None : goal.returns-in-None
returns-in-None c =
    let words = c.args.words.now in
    dead_of_below words.automaton.now words.domains.now words.position words.days (rw c.in-None.is at c.in_ok-word.ensures)
