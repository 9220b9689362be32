use Rattle.clean_words.proofs.hull.Hull.contains.Goals as goal

pub returns : goal.returns
returns c = let found = rw c.deref.ensures.value at c.is_among.ensures in rw (← c.self.view_is) found
