-- The days of the position are mended, and no other has another domain.
use Rattle.std.proofs.Common.{◌≡◌, ◌+◌, ◌<◌, ◌≤◌, ℕ, List, length, set, arith, refl, ap, sym, subst, ◌∙◌, IsTrue}
use Rattle.std.proofs.lemmas.List.{length-set}
use Rattle.rwsp_terms.specs.Instance.{shift_count}
use Rattle.domain_store.specs.Sets.{has_symbol}
use Rattle.clean_words.specs.declared.step.Step.{Step}
use Rattle.propagators.specs.Known.{KnownCycle, known}
use Rattle.propagators.specs.KeptCycle.{IsCycle, AreAwaited}
use Rattle.propagators.specs.Marks.{FitsInto, MendsFront, MendsBack}
use Rattle.propagators.proofs.Turning.{FrontPut, BackPut, as_read, mended}
use Rattle.propagators.proofs.Awaiting.{RowsStay, IsRaised, still_awaited}
use Rattle.propagators.proofs.two_turns.Cycle.put.Goals as goal

pub mend_front-requires-clause-wide : goal.mend_front-requires-clause-wide
mend_front-requires-clause-wide c =
    let v = c.self.invariant.0 in
    (v.width, c.mend_front-end.ensures.wide v.width v.front_wide, subst (λ (l : List Step). FitsInto v.width l) (sym c.steps-steps.ensures) v.fits)

pub mend_back-start-requires-clause-wide : goal.mend_back-start-requires-clause-wide
mend_back-start-requires-clause-wide c =
    let v = c.self.invariant.0 in
    (v.width, c.mend_back-low.ensures.wide v.width v.back_wide, subst (λ (l : List Step). FitsInto v.width l) (sym c.steps-steps.ensures) v.fits)

pub invariant_of-self : goal.invariant_of-self
invariant_of-self c =
    let i = c.self.inside in
    let A = i.automaton.now in
    let v = c.self.invariant.0 in
    let p = c.args.p in
    let sets = set i.sets p c.args.set in
    let front1 = c.mend_front-end.new.self in
    let front2 = c.mend_front.new.self in
    let back1 = c.mend_back-low.new.self in
    let back2 = c.mend_back-start.new.self in
    let pending2 = c.raise-2.new.flags.items in
    let within = subst (λ (C : KnownCycle). c.args.p < length C.sets) (sym c.self.view_is) c.requires.position in
    let small = subst (λ (C : KnownCycle). (x : ℕ) → IsTrue (has_symbol c.args.set x) → x ≤ shift_count C.problem) (sym c.self.view_is) c.requires.small in
    let read : c.sets-sets.result.now ≡ set i.sets c.args.p c.args.set = c.sets-sets.ensures ∙ c.put.ensures in
    let far : length c.sets-sets.result.now ≡ length i.sets = ap length read ∙ length-set i.sets c.args.p c.args.set in
    let day = c.args.p + length c.sets-sets.result.now in
    let there = c.args.p + length i.sets in
    let same : c.args.p + length c.sets-sets.result.now ≡ c.args.p + length i.sets = ap (λ n. c.args.p + n) far in
    let steps = c.steps-steps.result.now in
    let read_sets = c.sets-sets.result.now in
    let f : FrontPut A.steps sets p (length i.sets) i.front front1 front2 = record {
      one = as_read (λ s d k. MendsFront s d k i.front front1) A.steps steps sets read_sets p p c.steps-steps.ensures read refl c.mend_front-end.ensures.steps;
      two = as_read (λ s d k. MendsFront s d k front1 front2) A.steps steps sets read_sets day there c.steps-steps.ensures read same c.mend_front.ensures.steps;
      first = c.mend_front.ensures.first ∙ c.mend_front-end.ensures.first;
      long1 = c.mend_front-end.ensures.long;
      long2 = c.mend_front.ensures.long;
      wide = λ w h. c.mend_front.ensures.wide w (c.mend_front-end.ensures.wide w h);
    } in
    let b : BackPut A.steps sets p (length i.sets) i.back back1 back2 = record {
      two = as_read (λ s d k. MendsBack s d k i.back back1) A.steps steps sets read_sets day there c.steps-steps.ensures read same c.mend_back-low.ensures.steps;
      one = as_read (λ s d k. MendsBack s d k back1 back2) A.steps steps sets read_sets p p c.steps-steps.ensures read refl c.mend_back-start.ensures.steps;
      last = λ k less. c.mend_back-start.ensures.last k (omega (arith, less)) ∙ c.mend_back-low.ensures.last k (omega (arith, less, same));
      long1 = c.mend_back-low.ensures.long;
      long2 = c.mend_back-start.ensures.long;
      wide = λ w h. c.mend_back-start.ensures.wide w (c.mend_back-low.ensures.wide w h);
    } in
    let cycle = mended v p c.args.set front1 front2 back1 back2 within small f b in
    let rows : RowsStay p (length i.sets) c.mend_front-end.result c.mend_back-low.result c.mend_back-start.result i.front front1 front2 i.back back1 back2 = record {
      reach = c.mend_front-end.ensures.reach.0;
      front_before = c.mend_front-end.ensures.before;
      front_behind = c.mend_front-end.ensures.behind;
      front_second = λ k less. c.mend_front.ensures.before k (omega (arith, less, same));
      back_second = c.mend_back-low.ensures.before;
      start_reach = c.mend_back-start.ensures.reach;
      back_before = c.mend_back-start.ensures.before;
      back_behind = c.mend_back-start.ensures.last;
    } in
    let one : IsRaised c.mend_back-start.result (c.mend_front-end.result + 1) i.pending.items c.raise.new.flags.items = record { long = c.raise.ensures.long; kept = c.raise.ensures.kept; raised = c.raise.ensures.raised } in
    let two : IsRaised c.mend_back-low.result (length i.sets) c.raise.new.flags.items pending2 = record {
      long = c.raise-2.ensures.long;
      kept = c.raise-2.ensures.kept;
      raised = λ q from less all. c.raise-2.ensures.raised q from (omega (arith, less, far)) all;
    } in
    let awaited = still_awaited v p c.args.set cycle front1 back1 c.mend_front-end.result c.mend_back-low.result c.mend_back-start.result i.pending.items c.raise.new.flags.items pending2 within rows one two c.self.invariant.1 in
    subst (λ (z : List (List ℕ)). IsCycle A z front2 back2 × AreAwaited (known A z) pending2) (sym c.put.ensures) (cycle, awaited)
