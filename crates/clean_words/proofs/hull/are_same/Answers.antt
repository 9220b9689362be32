use Rattle.std.specs.Cmp.Rules.{signed_items}
use Rattle.clean_words.proofs.hull.are_same.Goals as goal

pub returns : goal.returns
returns c = rw c.eq.ensures (signed_items _ _)
