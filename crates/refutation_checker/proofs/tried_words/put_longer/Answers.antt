use Rattle.std.proofs.Common.{◌≡◌, ◌∙◌, ◌+◌, List, [], ◌∷◌, ◌++◌, Option, false, ap, subst, sym, arith}
use Rattle.std.specs.Prelude.{Contains, MatchOption}
use Rattle.std.proofs.lemmas.List.Elements.{Contains-push}
use Rattle.rwsp_terms.specs.declared.data.Symbol.{Symbol}
use Rattle.rwsp_terms.specs.Instance.{symbol_numbered}
use Rattle.refutation_terms.specs.Word.{Clean}
use Rattle.domain_store.specs.Store.{has_domain}
use Rattle.refutation_checker.specs.ShortWords.{AreShort, GoOn, HaveAll, by_symbol}
use Rattle.refutation_checker.proofs.ShortWords.{all_stay, not_by, by_one, short_more}
use Rattle.refutation_checker.proofs.tried_words.put_longer.Goals as goal
use Rattle.refutation_checker.proofs.tried_words.put_longer.Goals.{then-has+in_ok-next+in-Some+in_ok-push-in-Some, then-has+in_ok-next+in-None, else-has}

pub loop-number-preserved : goal.loop-number-preserved
loop-number-preserved c =
    let t = c.args.tries in
    let D = has_domain t.domains.now c.args.place in
    let n = c.loop-number.number in
    let word = c.args.word.now in
    let leads = by_symbol t.problem.now t.rules.now t.position word in
    let old = c.loop-number.longer.items in
    let new = c.if-has.longer.items in
    let so_far = c.loop-number.invariant in
    let longer = word ++ symbol_numbered n ∷ [] in
    let Found : Option (List Symbol) → Type 0 = λ o. MatchOption o (Clean t.problem.now t.rules.now t.position longer → ⊥) (λ next. next ≡ longer) in
    elim c.if-has.branch [
      | then-has+in_ok-next+in-Some+in_ok-push-in-Some w ↦
          let next = w.in-Some.next in
          let items : new ≡ old ++ next ∷ [] = ap (λ v. v.items) w.longer-is ∙ w.in_ok-push-in-Some.ensures.items in
          let all : HaveAll old new = subst (HaveAll old) (sym items) (all_stay old next) in
          let is : next ≡ longer = subst Found w.in-Some.is w.in_ok-next.ensures in
          let here : Contains new next = subst (λ (ss : List (List Symbol)). Contains ss next) (sym items) (Contains-push old next) in
          record {
            keeps = λ s k. all s (so_far.keeps s k);
            words = subst (AreShort (c.args.day + 1)) (sym items) (short_more c.args.day word (symbol_numbered n) next old is c.requires.word (omega (arith, c.loop-number-test.true, c.shifts-number-end.ensures.few)) so_far.words);
            goes_on = by_one D n leads old new all (λ to led. subst (Contains new) (is ∙ sym led.0) here) so_far.goes_on;
          }
      | then-has+in_ok-next+in-None w ↦
          let items : new ≡ old = ap (λ v. v.items) w.longer-is in
          let all : HaveAll old new = subst (HaveAll old) (sym items) (λ s k. k) in
          record {
            keeps = λ s k. all s (so_far.keeps s k);
            words = subst (AreShort (c.args.day + 1)) (sym items) so_far.words;
            goes_on = by_one D n leads old new all (λ to led. absurd ((subst Found w.in-None.is w.in_ok-next.ensures) (subst (λ (u : List Symbol). Clean t.problem.now t.rules.now t.position u) led.0 led.1))) so_far.goes_on;
          }
      | else-has w ↦
          let items : new ≡ old = ap (λ v. v.items) w.longer-is in
          let without : D n ≡ false = sym c.has.ensures ∙ w.if-has.false in
          record {
            keeps = subst (HaveAll c.args.longer.now.items) (sym items) so_far.keeps;
            words = subst (AreShort (c.args.day + 1)) (sym items) so_far.words;
            goes_on = subst (GoOn D (n + 1) leads) (sym items) (not_by D n leads old without so_far.goes_on);
          }
    ]

pub returns-clause-goes_on : goal.returns-clause-goes_on
returns-clause-goes_on c = λ x to less has led.
    c.loop-number.invariant.goes_on x to (omega (arith, less, c.loop-number-test.false, c.shifts-number-end.ensures.value)) has led
