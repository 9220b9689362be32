use Rattle.std.proofs.Common.{◌≡◌, ◌≤◌, ◌-◌, ◌⊎◌, ◌++◌, ◌∷◌, [], List, ℕ, subst, sym, arith}
use Rattle.std.specs.Prelude.{All}
use Rattle.std.proofs.lemmas.List.Elements.{All-push}
use Rattle.made_problems.specs.Stints.{stint_days, IsUsual}
use Rattle.made_problems.specs.declared.stint.Stint.{Stint}
use Rattle.made_problems.proofs.Following.{FollowsOn, on_with_next, on_at_end}
use Rattle.made_problems.proofs.hidden.stints_of.Goals as goal

pub loop-left-preserved : goal.loop-left-preserved
loop-left-preserved c =
    let t : Stint = c.draw_stint-stint.result in
    let y : ℕ = c.draw_stint-stint.new.draws in
    let drawn = c.draw_stint-stint.ensures in
    let left : ℕ = c.loop-left.left in
    let e : c.push.new.self.items ≡ c.loop-left.stints.items ++ t ∷ [] = c.in_ok-push.ensures.items in
    let d : c.days-left.result ≡ stint_days t = c.days-left.ensures in
    let next = on_with_next c.args.number c.args.days c.loop-left.draws y left c.loop-left.stints.items t c.loop-left.invariant.on drawn.value drawn.usual drawn.last drawn.more in
    record {
      on = subst (λ (ts : List Stint). FollowsOn c.args.number c.args.days y (left - c.days-left.result) ts) (sym e) (subst (λ (k : ℕ). FollowsOn c.args.number c.args.days y (left - k) (c.loop-left.stints.items ++ t ∷ [])) (sym d) next.0);
      usual = subst (λ (ts : List Stint). All IsUsual ts) (sym e) (All-push IsUsual c.loop-left.stints.items t c.loop-left.invariant.usual drawn.usual);
      fits = subst (λ (k : ℕ). (left - k ≡ 0) ⊎ (6 ≤ left - k)) (sym d) next.1;
    }

pub returns-clause-stints : goal.returns-clause-stints
returns-clause-stints c =
    let none : c.loop-left.left ≡ 0 = omega arith in
    on_at_end c.args.number c.args.days c.loop-left.draws c.loop-left.stints.items (subst (λ (k : ℕ). FollowsOn c.args.number c.args.days c.loop-left.draws k c.loop-left.stints.items) none c.loop-left.invariant.on)
