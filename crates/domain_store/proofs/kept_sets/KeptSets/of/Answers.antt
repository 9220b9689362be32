-- One more domain is copied.
use Rattle.std.proofs.Common.{◌≡◌, ◌∙◌, ◌+◌, ◌<◌, ℕ, List, [], ◌∷◌, ◌++◌, length, take, get_or, ap, sym, arith}
use Rattle.std.proofs.lemmas.List.{take_more, take_all}
use Rattle.std.proofs.lemmas.Result.{IfOk-from_err}
use Rattle.domain_store.proofs.kept_sets.KeptSets.of.Goals as goal

one_more : (all sets more : List (List ℕ)) (set : List ℕ) (p : ℕ) → sets ≡ take p all → set ≡ get_or all p [] → more ≡ sets ++ set ∷ [] → p < length all → more ≡ take (p + 1) all
one_more all sets more set p so here is less =
    is ∙ ap (λ (s : List ℕ). sets ++ s ∷ []) here ∙ ap (λ (v : List (List ℕ)). v ++ get_or all p [] ∷ []) so ∙ sym (take_more all p [] less)

pub loop-p-preserved : goal.loop-p-preserved
loop-p-preserved c = one_more c.args.doms.now.sets c.loop-p.sets.items c.push.new.self.items c.set.result.now c.loop-p.p c.loop-p.invariant c.set.ensures c.in_ok-push.ensures.items (omega arith)

pub returns : goal.returns
returns c = c.loop-p.invariant ∙ take_all c.loop-p.p c.args.doms.now.sets (omega arith)

pub returns-in_err-sets : goal.returns-in_err-sets
returns-in_err-sets c = IfOk-from_err _ _ c.from_residual.ensures.0

pub returns-in_err-push : goal.returns-in_err-push
returns-in_err-push c = IfOk-from_err _ _ c.from_residual-in_err-push.ensures.0
