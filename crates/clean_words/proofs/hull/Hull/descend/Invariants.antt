use Rattle.std.proofs.Common.{◌≡◌, length}
use Rattle.clean_words.proofs.hull.Hull.descend.Given as goal

abbrev pub invariant-loop : goal.invariant-loop
invariant-loop l = (l.self.vectors ≡ l.initial.self.vectors) × (length l.self.parts ≡ length l.initial.self.parts)
