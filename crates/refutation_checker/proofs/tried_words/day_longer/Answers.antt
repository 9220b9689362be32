use Rattle.std.proofs.Common.{ℕ, ◌+◌, ◌<◌, ◌∙◌, List, get_or, below_more, subst, arith}
use Rattle.std.proofs.lemmas.List.{get_or_default}
use Rattle.rwsp_terms.specs.declared.data.Symbol.{Symbol}
use Rattle.rwsp_terms.specs.Instance.{shift_count}
use Rattle.domain_store.specs.Store.{has_domain}
use Rattle.refutation_checker.specs.ShortWords.{GoOn, by_symbol}
use Rattle.refutation_checker.proofs.ShortWords.{go_on_with}
use Rattle.refutation_checker.proofs.tried_words.day_longer.Goals as goal

pub loop-i-preserved : goal.loop-i-preserved
loop-i-preserved c =
    let t = c.args.tries in
    let D = has_domain t.domains.now c.args.place in
    let count = shift_count t.problem.now + 1 in
    let words = c.args.words.now in
    let i = c.loop-i.i in
    let new = c.put_longer.new.longer.items in
    let e = c.in_ok-put_longer.ensures in
    let Goes : List Symbol → Type 0 = λ w. GoOn D count (by_symbol t.problem.now t.rules.now t.position w) new in
    let before : (k : ℕ) → k < i → (d : List Symbol) → Goes (get_or words k d) = λ k less d.
    go_on_with D count (by_symbol t.problem.now t.rules.now t.position (get_or words k d)) c.loop-i.longer.items new e.keeps (c.loop-i.invariant.go_on k d (omega arith) less) in
    let here : (d : List Symbol) → Goes (get_or words i d) = λ d. subst Goes (c.index-words-i.is ∙ get_or_default words i _ d c.loop-i-test.true) e.goes_on in
    record {
      words = e.words;
      go_on = λ k d low less. below_more (λ k. (d : List Symbol) → Goes (get_or words k d)) i before here k less d;
    }

pub returns-clause-go_on : goal.returns-clause-go_on
returns-clause-go_on c = λ k d less. c.loop-i.invariant.go_on k d (omega arith) (omega (arith, less, c.loop-i-test.false))
