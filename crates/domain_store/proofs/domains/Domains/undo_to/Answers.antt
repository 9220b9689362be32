-- Each undoing keeps the store at the mark, and at the mark it is the store itself.
use Rattle.std.proofs.Common.{◌≡◌, ◌<◌, ◌≤◌, length, arith, ◌∙◌, ap, sym, subst}
use Rattle.domain_store.specs.Store.{Store, store_at, HasSameShape}
use Rattle.domain_store.proofs.StoreLemmas.{store_at_end, store_at_earlier, same_shape_earlier, length_before_last, store_before_mark}
use Rattle.domain_store.proofs.domains.Domains.undo_to.Goals as goal

pub loop-mark-preserved : goal.loop-mark-preserved
loop-mark-preserved c =
    let h : c.args.mark.len < length c.loop-mark.self.trail = omega (arith, c.trail_len.ensures) in
    record {
      within = length_before_last c.loop-mark.self c.undo_last.new.self c.args.mark.len c.undo_last.ensures h;
      stands = store_before_mark c.loop-mark.self c.undo_last.new.self c.args.mark.len c.undo_last.ensures h ∙ c.loop-mark.invariant.stands;
    }

pub returns-clause-same : goal.returns-clause-same
returns-clause-same c =
    let past : length c.loop-mark.self.trail ≤ c.args.mark.len = omega (arith, c.trail_len.ensures) in
    let stands : c.loop-mark.self ≡ store_at c.args.self.now c.args.mark.len = sym (store_at_end c.loop-mark.self c.args.mark.len past) ∙ c.loop-mark.invariant.stands in
    let P : Store → Type 0 = HasSameShape c.args.self.now in
    subst P (sym stands) (same_shape_earlier c.args.self.now c.args.mark.len)

pub returns-clause-marks : goal.returns-clause-marks
returns-clause-marks c len h =
    let past : length c.loop-mark.self.trail ≤ c.args.mark.len = omega (arith, c.trail_len.ensures) in
    let stands : c.loop-mark.self ≡ store_at c.args.self.now c.args.mark.len = sym (store_at_end c.loop-mark.self c.args.mark.len past) ∙ c.loop-mark.invariant.stands in
    ap (λ s. store_at s len) stands ∙ store_at_earlier c.args.self.now c.args.mark.len len c.requires h
