-- No position must yet be looked at.
use Rattle.std.proofs.Common.{◌≡◌, ◌∙◌, ap, subst, get_or, false}
use Rattle.rwsp_terms.specs.Instance.{Instance}
use Rattle.domain_store.specs.Looks.{Closes}
use Rattle.propagators.specs.Windows.{IsWindowLeaf, WindowWatch}
use Rattle.propagators.proofs.Watching.{none_awaited}
use Rattle.propagators.proofs.window.WindowPropPropagator.look.Goals as goal

pub returns-clause-look : goal.returns-clause-look
returns-clause-look c P serves =
    let S = c.args.doms.now in
    let kept = c.args.self.now.problem in
    let w = c.empty_span.new.self in
    let same : w ≡ c.look_within.new.self = c.empty_span.ensures in
    let problem : w.problem ≡ kept = ap (λ (v : WindowWatch). v.problem) same ∙ c.look_within.ensures.problem in
    let sets : w.sets ≡ S.sets = ap (λ (v : WindowWatch). v.sets) same ∙ c.look_within.ensures.sets ∙ c.requires.tracked in
    let none = none_awaited w S c.prove_facts.ensures sets (λ q less. ap (λ (v : WindowWatch). get_or v.pending q false) same ∙ c.in_default.ensures.seen q) in
    let IsQuiet : Instance → Type 0 = λ p. Closes p (IsWindowLeaf p) S → ⊥ in
    let IsQuietFor : Instance → Type 0 = λ p. Closes p (IsWindowLeaf kept) S → ⊥ in
    (subst IsQuietFor serves (subst IsQuiet problem none), λ q x spent. spent)
