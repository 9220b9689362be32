use Rattle.std.proofs.Common.{◌∙◌}
use Rattle.roster_page.specs.Escaped.{escaped}
use Rattle.roster_page.proofs.Written.{all_put}
use Rattle.roster_page.proofs.escaped.put_escaped.Goals as goal

pub loop-place-preserved : goal.loop-place-preserved
loop-place-preserved c = c.in_ok-within.ensures ∙ c.loop-place.invariant

pub returns : goal.returns
unfolding escaped
returns c = all_put c.args.name.now c.loop-place.place c.loop-place.within c.args.out.now.items c.loop-place.out.items c.loop-place-test.false c.loop-place.invariant
