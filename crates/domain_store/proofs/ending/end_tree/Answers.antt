-- Ending a tree, split by split.
use Rattle.std.proofs.Common.{◌<◌, ◌≤◌, length, sym, subst, ◌∙◌, IsTrue}
use Rattle.std.proofs.lemmas.Bool.{not-false, not-true}
use Rattle.domain_store.specs.Store.{has_domain, domain_at}
use Rattle.domain_store.proofs.Moves.{on_top, side_closed, side_crossed, to_come_past_second, to_come_past_first}
use Rattle.domain_store.proofs.ending.end_tree.Goals as goal

pub undo_to-requires : goal.undo_to-requires
undo_to-requires c =
    let top = on_top _ _ _ _ _ _ _ c.in-Some.ensures.items (c.loop-split.invariant.behind c.requires.0 c.requires.1 c.requires.2) in
    top.2.within

pub remove-requires-clause-position : goal.remove-requires-clause-position
remove-requires-clause-position c =
    let top = on_top _ _ _ _ _ _ _ c.in-Some.ensures.items (c.loop-split.invariant.behind c.requires.0 c.requires.1 c.requires.2) in
    subst (λ n. c.in-Some.split.p < n) (sym (c.undo_to.ensures.same.positions ∙ c.loop-split.invariant.same.positions)) top.2.position

pub remove-requires-clause-held : goal.remove-requires-clause-held
remove-requires-clause-held c =
    let top = on_top _ _ _ _ _ _ _ c.in-Some.ensures.items (c.loop-split.invariant.behind c.requires.0 c.requires.1 c.requires.2) in
    subst (λ T. IsTrue (has_domain T c.in-Some.split.p c.in-Some.split.x.number)) (sym c.undo_to.ensures.undone) top.2.held

pub remove-requires-clause-another : goal.remove-requires-clause-another
remove-requires-clause-another c =
    let top = on_top _ _ _ _ _ _ _ c.in-Some.ensures.items (c.loop-split.invariant.behind c.requires.0 c.requires.1 c.requires.2) in
    subst (λ T. 2 ≤ length (domain_at T c.in-Some.split.p)) (sym c.undo_to.ensures.undone) top.2.another

pub returns-then-not-split-clause-ended : goal.returns-then-not-split-clause-ended
returns-then-not-split-clause-ended c D lines h =
    side_crossed (length c.args.domains.now.sets) c.loop-split.domains c.undo_to.new.self c.remove.new.self D c.loop-split.splits.items c.pop.new.self.items c.put_back.new.splits.items lines c.in-Some.split _
    c.in-Some.ensures.items (not-true c.in-Some.split.in_second c.if-not-split.true) c.undo_to.ensures.undone c.undo_to.ensures.marks c.remove.ensures.changed c.remove.ensures.has c.remove.ensures.marks c.put_back.ensures
    (c.loop-split.invariant.behind D lines h)

pub returns-then-not-split-clause-counted : goal.returns-then-not-split-clause-counted
returns-then-not-split-clause-counted c =
    sym c.loop-split.invariant.counted
    ∙ to_come_past_first c.loop-split.splits.items c.pop.new.self.items c.put_back.new.splits.items c.in-Some.split c.in-Some.ensures.items (not-true c.in-Some.split.in_second c.if-not-split.true) c.put_back.ensures

pub loop-split-preserved : goal.loop-split-preserved
loop-split-preserved c = record {
  same = record {
    days = c.undo_to.ensures.same.days ∙ c.loop-split.invariant.same.days;
    weeks = c.undo_to.ensures.same.weeks ∙ c.loop-split.invariant.same.weeks;
    shifts = c.undo_to.ensures.same.shifts ∙ c.loop-split.invariant.same.shifts;
    positions = c.undo_to.ensures.same.positions ∙ c.loop-split.invariant.same.positions;
  };
  counted = sym (to_come_past_second c.loop-split.splits.items c.pop.new.self.items c.in-Some.split c.in-Some.ensures.items (not-false c.in-Some.split.in_second c.if-not-split.false)) ∙ c.loop-split.invariant.counted;
  behind = λ D lines h.
      side_closed (length c.args.domains.now.sets) c.loop-split.domains c.undo_to.new.self D c.loop-split.splits.items c.pop.new.self.items lines c.in-Some.split
      c.in-Some.ensures.items (not-false c.in-Some.split.in_second c.if-not-split.false) c.undo_to.ensures.undone c.undo_to.ensures.marks
      (c.loop-split.invariant.behind D lines h);
}
