use Rattle.std.proofs.Common.{◌≡◌, ◌∙◌, ℕ, ◌+◌, ◌<◌, List, [], ◌∷◌, ◌++◌, length, false, Some, ap, subst, sym}
use Rattle.std.specs.Prelude.{Contains}
use Rattle.std.proofs.lemmas.List.Elements.{All-push, Contains-push}
use Rattle.std.proofs.lemmas.Option.{same_Some}
use Rattle.clean_words.specs.Moves.{move_at}
use Rattle.domain_store.specs.Store.{has_domain}
use Rattle.refutation_checker.specs.ShortWords.{AreStates, GoOn, HaveAll, by_move}
use Rattle.refutation_checker.proofs.ShortWords.{all_stay, not_by, by_one}
use Rattle.refutation_checker.proofs.short_words.put_later.Goals as goal
use Rattle.refutation_checker.proofs.short_words.put_later.Goals.{then-has+in-Some+in_ok-push, then-has+in_default, else-has}

pub loop-number-preserved : goal.loop-number-preserved
loop-number-preserved c =
    let A = c.args.automaton.now in
    let D = has_domain c.args.doms.now c.args.position in
    let n = c.loop-number.number in
    let old = c.loop-number.later.items in
    let new = c.if-has.later.items in
    let so_far = c.loop-number.invariant in
    elim c.if-has.branch [
      | then-has+in-Some+in_ok-push w ↦
          let next = w.in-Some.next in
          let items : new ≡ old ++ next ∷ [] = ap (λ v. v.items) w.later-is ∙ w.in_ok-push.ensures.items in
          let all : HaveAll old new = subst (HaveAll old) (sym items) (all_stay old next) in
          let put : (t : ℕ) → move_at A.moves c.args.state n ≡ Some t → Contains new t = λ t e.
          subst (Contains new) (same_Some next t (sym w.in-Some.is ∙ w.follow.ensures ∙ e)) (subst (λ (ss : List ℕ). Contains ss next) (sym items) (Contains-push old next)) in
          let inside : next < length A.moves = (c.prove_facts.ensures.inside c.args.state n next (sym w.follow.ensures ∙ w.in-Some.is)).1 in
          record {
            keeps = λ t k. all t (so_far.keeps t k);
            states = subst (AreStates A) (sym items) (All-push (λ s. s < length A.moves) old next so_far.states inside);
            goes_on = by_one D n (by_move A c.args.state) old new all put so_far.goes_on;
          }
      | then-has+in_default w ↦
          let items : new ≡ old = ap (λ v. v.items) w.later-is in
          let all : HaveAll old new = subst (HaveAll old) (sym items) (λ t k. k) in
          let put : (t : ℕ) → move_at A.moves c.args.state n ≡ Some t → Contains new t = λ t e. absurd (w.in_default.not-Some t (w.follow.ensures ∙ e)) in
          record {
            keeps = λ t k. all t (so_far.keeps t k);
            states = subst (AreStates A) (sym items) so_far.states;
            goes_on = by_one D n (by_move A c.args.state) old new all put so_far.goes_on;
          }
      | else-has w ↦
          let items : new ≡ old = ap (λ v. v.items) w.later-is in
          let without : D n ≡ false = sym c.has.ensures ∙ w.if-has.false in
          record {
            keeps = subst (HaveAll c.args.later.now.items) (sym items) so_far.keeps;
            states = subst (AreStates A) (sym items) so_far.states;
            goes_on = subst (GoOn D (n + 1) (by_move A c.args.state)) (sym items) (not_by D n (by_move A c.args.state) old without so_far.goes_on);
          }
    ]
