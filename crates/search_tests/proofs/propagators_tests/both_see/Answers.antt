-- The pair serves and tracks what both do.
use Rattle.search_tests.proofs.propagators_tests.both_see.Goals as goal

pub sees-requires-clause-serves : goal.sees-requires-clause-serves
sees-requires-clause-serves c = (c.new-two.ensures.serves c.args.problem.now).1 (c.in_ok-windows.ensures.serves, c.in_ok-days.ensures.serves)

pub sees-requires-clause-tracks : goal.sees-requires-clause-tracks
sees-requires-clause-tracks c = (c.new-two.ensures.tracks c.args.doms.now).1 (c.in_ok-windows.ensures.tracks, c.in_ok-days.ensures.tracks)
