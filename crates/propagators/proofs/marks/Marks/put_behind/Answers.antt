use Rattle.std.proofs.Common.{◌≡◌, ◌⊎◌, inl, inr, false, ℕ, IsTrue, ap, get_or, sym, subst, ◌∙◌}
use Rattle.std.specs.Prelude.{◌↔◌}
use Rattle.domain_store.specs.Sets.{has_symbol}
use Rattle.clean_words.specs.declared.step.Step.{Step}
use Rattle.propagators.specs.Marks.{is_marked, here_of}
use Rattle.propagators.proofs.Marking.{stands_here, passes_put, passes_over}
use Rattle.propagators.proofs.marks.Marks.put_behind.Goals as goal
use Rattle.propagators.proofs.marks.Marks.put_behind.Goals.{then-not-has-via-then-not-has, then-not-has-via-else-not-has+then-not-has-2}

pub loop-step-preserved : goal.loop-step-preserved
loop-step-preserved c =
    let i = c.loop-step.step-index in
    let none : Step = record { from = 0; symbol = record { number = 0 }; to = 0 } in
    let s = get_or c.args.steps.now i none in
    let marked = ap (is_marked c.args.before.now) (sym c.here.ensures) ∙ sym c.has.ensures ∙ c.if-not-has.false in
    let Puts : ℕ → Type 0 = λ k. (t : ℕ) → IsTrue (is_marked c.put.new.self t) ↔ (IsTrue (is_marked c.loop-step.self t) ⊎ (k ≡ t)) in
    record {
      long = c.put.ensures.long ∙ c.loop-step.invariant.long;
      passes = passes_put c.args.way c.args.steps.now (has_symbol c.args.set.now) c.args.before.now c.loop-step.self c.put.new.self i s (stands_here c.args.steps.now i none c.loop-step-test.true)
          marked (sym c.has-else-not-has.ensures ∙ c.if-not-has-2.false) (subst Puts c.there.ensures c.put.ensures.marks) c.loop-step.invariant.passes;
    }

pub loop-step-preserved-then-not-has : goal.loop-step-preserved-then-not-has
loop-step-preserved-then-not-has c =
    let i = c.loop-step.step-index in
    let none : Step = record { from = 0; symbol = record { number = 0 }; to = 0 } in
    let s = get_or c.args.steps.now i none in
    let fails : (is_marked c.args.before.now (here_of c.args.way s) ≡ false) ⊎ (has_symbol c.args.set.now s.symbol.number ≡ false) =
    elim c.then-not-has.branch [
      | then-not-has-via-then-not-has w ↦ inl (ap (is_marked c.args.before.now) (sym c.here.ensures) ∙ sym c.has.ensures ∙ w.if-not-has.true)
      | then-not-has-via-else-not-has+then-not-has-2 w ↦ inr (sym w.has-else-not-has.ensures ∙ w.if-not-has-2.true)
    ] in
    record {
      long = c.loop-step.invariant.long;
      passes = passes_over c.args.way c.args.steps.now (has_symbol c.args.set.now) c.args.before.now c.loop-step.self i s (stands_here c.args.steps.now i none c.loop-step-test.true) fails c.loop-step.invariant.passes;
    }
