use Rattle.std.proofs.Common.{◌≡◌, ℕ, ◌<◌, ◌≤◌, List, ◌++◌, length, take, drop, slice_index, ap, sym, subst, ◌∙◌, arith, length-append, length-drop, ℤ}
use Rattle.std.proofs.lemmas.List.{length-take}
use Rattle.clean_words.specs.Hull.{Mix}
use Rattle.clean_words.proofs.hull.Hull.step.Goals as goal

-- a list stays as long where as many elements are written over it
as_long : (n : ℕ) (xs ys : List ℕ) → n ≡ length xs → length ys ≡ length xs → length (take n (ys ++ drop (length ys) xs)) ≡ length xs
as_long n xs ys all same = grind (arith, length-take, length-append, length-drop)

pub best_move-requires : goal.best_move-requires
best_move-requires c = ap length c.deref-3.ensures.value ∙ sym c.self.invariant ∙ sym (ap length c.deref-4.ensures.value)

pub move_part-requires : goal.move_part-requires
move_part-requires c =
    let same : length c.deref-3.result.now ≡ length c.deref_mut-2.result.now = ap length c.deref-3.ensures.value ∙ sym c.self.invariant ∙ sym (ap length c.deref_mut-2.ensures.value) in
    record {
      losing = subst (λ n. c.in-Some.best.losing < n) same c.in-Some.ensures.losing;
      gaining = subst (λ n. c.in-Some.best.gaining < n) same c.in-Some.ensures.gaining;
      amount = subst (λ (xs : List ℕ). c.in-Some.best.amount ≤ slice_index xs c.in-Some.best.losing) (c.deref-4.ensures.value ∙ sym c.deref_mut-2.ensures.value) c.in-Some.ensures.amount;
    }

pub move_mix-requires : goal.move_mix-requires
move_mix-requires c =
    let same = c.deref-3.ensures.value ∙ sym c.deref-6.ensures.value in
    record {
      losing = subst (λ (xs : List (List ℤ)). c.in-Some.best.losing < length xs) same c.in-Some.ensures.losing;
      gaining = subst (λ (xs : List (List ℤ)). c.in-Some.best.gaining < length xs) same c.in-Some.ensures.gaining;
    }

pub invariant_of-self : goal.invariant_of-self
invariant_of-self c = c.self.invariant

pub invariant_of-self-2 : goal.invariant_of-self-2
invariant_of-self-2 c =
    as_long c.self.inside.parts.len _ c.move_part.new.parts c.self.inside.parts.ok.0 (c.move_part.ensures ∙ ap length c.deref_mut-2.ensures.value)
    ∙ c.self.invariant

pub returns : goal.returns
returns c =
    let moved = as_long c.self.inside.parts.len _ c.move_part.new.parts c.self.inside.parts.ok.0 (c.move_part.ensures ∙ ap length c.deref_mut-2.ensures.value) in
    record {
      vectors = ap (λ (m : Mix). m.vectors) c.self.view_is;
      count = moved ∙ ap (λ (m : Mix). length m.parts) c.self.view_is;
    }
