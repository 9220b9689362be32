use Rattle.std.proofs.Common.{ℕ, ◌+◌, ◌<◌, get_or, below_more, subst, arith}
use Rattle.std.proofs.lemmas.List.{get_or_default}
use Rattle.rwsp_terms.specs.Instance.{shift_count}
use Rattle.domain_store.specs.Store.{has_domain}
use Rattle.refutation_checker.specs.ShortWords.{GoOn, by_move}
use Rattle.refutation_checker.proofs.ShortWords.{go_on_with}
use Rattle.refutation_checker.proofs.short_words.day_later.Goals as goal

pub loop-place-preserved : goal.loop-place-preserved
loop-place-preserved c =
    let A = c.args.automaton.now in
    let D = has_domain c.args.doms.now c.args.position in
    let count = shift_count A.problem + 1 in
    let states = c.args.states.now in
    let i = c.loop-place.place in
    let new = c.put_later.new.later.items in
    let e = c.in_ok-put_later.ensures in
    let Goes : ℕ → Type 0 = λ s. GoOn D count (by_move A s) new in
    let before : (k : ℕ) → k < i → (d : ℕ) → Goes (get_or states k d) = λ k less d.
    go_on_with D count (by_move A (get_or states k d)) c.loop-place.later.items new e.keeps (c.loop-place.invariant.go_on k d (omega arith) less) in
    let here : (d : ℕ) → Goes (get_or states i d) = λ d. subst Goes (get_or_default states i _ d c.loop-place-test.true) e.goes_on in
    record {
      states = e.states;
      go_on = λ k d low less. below_more (λ k. (d : ℕ) → Goes (get_or states k d)) i before here k less d;
    }
