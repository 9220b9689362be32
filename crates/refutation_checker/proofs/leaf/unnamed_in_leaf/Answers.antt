use Rattle.refutation_terms.specs.declared.lines.Line.TheVariants.{Closing}
use Rattle.refutation_terms.specs.declared.lines.Leaf.TheVariants.{Window, Day}
use Rattle.refutation_log.proofs.CitedRules.{window_cited, day_cited, line_numbered}
use Rattle.refutation_checker.proofs.Lists.{found_unnamed}
use Rattle.refutation_checker.proofs.leaf.unnamed_in_leaf.Goals as goal

pub returns-in-Window : goal.returns-in-Window
returns-in-Window c =
    let P = c.args.problem.now in
    let fits = rw c.in-Window.is at c.requires.2 in
    rw c.in-Window.is (found_unnamed P c.args.named.now _ _ c.outside.result (line_numbered P c.requires.0 c.requires.1 (Closing (Window c.in-Window.rule c.in-Window.p c.in-Window.len)) fits)
    (window_cited P c.in-Window.rule c.in-Window.p c.in-Window.len fits) c.outside.ensures)

pub returns-in-Day : goal.returns-in-Day
returns-in-Day c =
    let P = c.args.problem.now in
    let fits = rw c.in-Day.is at c.requires.2 in
    rw c.in-Day.is (found_unnamed P c.args.named.now _ _ c.day_outside.result (line_numbered P c.requires.0 c.requires.1 (Closing (Day c.in-Day.day c.in-Day.x c.in-Day.over)) fits)
    (day_cited P c.in-Day.day) c.day_outside.ensures)

pub unnamed_in_words-requires : goal.unnamed_in_words-requires
unnamed_in_words-requires c = (c.requires.0, c.in-Words.p, rw c.in-Words.is at c.requires.2)

pub returns-in-Words : goal.returns-in-Words
returns-in-Words c = rw c.in-Words.is c.unnamed_in_words.ensures

pub returns-in-Blocks : goal.returns-in-Blocks
returns-in-Blocks c = rw c.in-Blocks.is c.unnamed_in_blocks.ensures
