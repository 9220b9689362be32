use Rattle.std.proofs.Common.{◌≡◌, ◌∙◌, ℕ, ◌+◌, ◌*◌, ◌%◌, ◌≤◌, List, ap, subst, arith}
use Rattle.std.specs.Prelude.{IsTrue, All}
use Rattle.rwsp_terms.specs.declared.data.Symbol.{Symbol}
use Rattle.rwsp_terms.specs.Instance.{cells, shift_count}
use Rattle.domain_store.specs.Store.{has_domain}
use Rattle.refutation_checker.specs.ShortWords.{GoOn, by_symbol}
use Rattle.refutation_checker.proofs.ShortWords.{clean_later}
use Rattle.refutation_checker.proofs.tried_words.has_no_clean.Goals as goal

pub loop-day-preserved : goal.loop-day-preserved
loop-day-preserved c =
    let t = c.args.tries in
    let P = t.problem.now in
    let S = t.domains.now in
    let D = has_domain S in
    let known : (q x : ℕ) → IsTrue (D q x) → x ≤ shift_count P = λ q x has. omega (arith, (c.prove_facts.ensures.tests.known q x has).1, t.belongs.shifts) in
    let place = (t.position + c.loop-day.day) % c.cells-cells.result in
    let same : c.cells-cells.result ≡ cells P = c.cells-cells.ensures.value ∙ ap (λ (n : ℕ). n * S.days) t.belongs.weeks ∙ ap (λ (n : ℕ). P.weeks * n) t.belongs.days in
    let new = c.in_ok-words-2.words.items in
    let goes = subst (λ (ws : List (List Symbol)). All (λ w. GoOn (D place) (shift_count P + 1) (by_symbol P t.rules.now t.position w) new) ws) c.deref.ensures.value c.in_ok-words-2.ensures.go_on in
    record {
      short = c.in_ok-words-2.ensures.words;
      clean = clean_later P D t.rules.now t.position c.loop-day.day c.loop-day.words.items new known c.loop-day.invariant.clean
          (subst (λ (n : ℕ). All (λ w. GoOn (D ((t.position + c.loop-day.day) % n)) (shift_count P + 1) (by_symbol P t.rules.now t.position w) new) c.loop-day.words.items) same goes);
    }
