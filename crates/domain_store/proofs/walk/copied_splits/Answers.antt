use Rattle.std.proofs.Common.{◌≡◌, ◌∙◌, List, [], ◌∷◌, ◌++◌, ap, sym, ℕ, ◌+◌, ◌<◌, length, get_or, take}
use Rattle.std.proofs.lemmas.List.{take_more, take_all}
use Rattle.domain_store.specs.declared.open_split.OpenSplit.{OpenSplit}
use Rattle.domain_store.proofs.walk.copied_splits.Goals as goal

one_more : (splits copies new : List OpenSplit) (i : ℕ) (d : OpenSplit) → i < length splits → copies ≡ take i splits → new ≡ copies ++ get_or splits i d ∷ [] → new ≡ take (i + 1) splits
one_more splits copies new i d h inv pushed = pushed ∙ ap (λ (before : List OpenSplit). before ++ get_or splits i d ∷ []) inv ∙ sym (take_more splits i d h)

pub loop-split-preserved : goal.loop-split-preserved
loop-split-preserved c = one_more c.args.splits.now c.loop-split.copies.items c.push.new.self.items c.loop-split.split-index _ c.loop-split-test.true c.loop-split.invariant c.in_ok-push.ensures.items

pub returns : goal.returns
returns c = c.loop-split.invariant ∙ take_all c.loop-split.split-index c.args.splits.now c.loop-split-test.false
