use Rattle.std.proofs.Common.{◌≡◌, ℕ, ◌+◌, List, [], ◌∷◌, ◌++◌, ap, ◌∙◌, append_assoc}
use Rattle.std.specs.Prelude.{replicate}
use Rattle.std.proofs.lemmas.List.{replicate_more}
use Rattle.refutation_terms.specs.declared.lines.Line.TheVariants.{Unfinished}
use Rattle.refutation_terms.specs.declared.lines.Line.{Line}
use Rattle.roster_search.proofs.ending.leave_open.Goals as goal

one_more : (old lines new : List Line) (n : ℕ) → lines ≡ old ++ replicate n Unfinished → new ≡ lines ++ Unfinished ∷ [] → new ≡ old ++ replicate (n + 1) Unfinished
one_more old lines new n inv pushed =
    pushed
    ∙ ap (λ (ls : List Line). ls ++ Unfinished ∷ []) inv
    ∙ append_assoc old (replicate n Unfinished) (Unfinished ∷ [])
    ∙ ap (λ (ls : List Line). old ++ ls) (replicate_more n Unfinished)

pub loop-preserved : goal.loop-preserved
loop-preserved c = one_more c.args.lines.now.items c.loop.lines.items c.push.new.self.items c.loop.counter c.loop.invariant c.in_ok-push.ensures.items
