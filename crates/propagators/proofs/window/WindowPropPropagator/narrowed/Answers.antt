-- One position was taken over, and the others were the same.
use Rattle.std.proofs.Common.{◌≡◌, ◌∙◌, ap, sym, [], length, get_or}
use Rattle.propagators.proofs.Watching.{same_once_taken}
use Rattle.propagators.proofs.window.WindowPropPropagator.narrowed.Goals as goal

pub returns-clause-tracks : goal.returns-clause-tracks
returns-clause-tracks c =
    let S = c.args.doms.now in
    let before = c.requires.tracked.0 in
    let tracked : c.args.self.now.sets ≡ before.sets = c.requires.tracked.1 in
    let narrowed = c.requires.tracked.2 in
    c.take_over.ensures.sets
    ∙ same_once_taken c.args.self.now.sets S c.args.p (ap length tracked ∙ sym narrowed.shape.positions) c.requires.position (λ q other. ap (λ sets. get_or sets q []) tracked ∙ sym (narrowed.others q other))
