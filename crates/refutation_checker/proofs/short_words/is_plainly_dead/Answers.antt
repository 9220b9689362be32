use Rattle.std.proofs.Common.{◌≡◌, ◌∙◌, ℕ, ◌+◌, ◌*◌, ◌%◌, ◌<◌, ◌≤◌, List, [], ◌∷◌, length, ap, subst, arith}
use Rattle.std.specs.Prelude.{IsTrue, All}
use Rattle.std.proofs.lemmas.List.Elements.{All-nil, All-cons}
use Rattle.rwsp_terms.specs.Instance.{cells, shift_count}
use Rattle.domain_store.specs.Store.{has_domain}
use Rattle.clean_words.specs.Automata.{begin_at}
use Rattle.refutation_checker.specs.ShortWords.{GoOn, by_move}
use Rattle.refutation_checker.proofs.ShortWords.{led_first, led_later}
use Rattle.refutation_checker.proofs.short_words.is_plainly_dead.Goals as goal

pub loop-day-init : goal.loop-day-init
loop-day-init c =
    let A = c.args.automaton.now in
    let D = has_domain c.args.doms.now in
    let small : (q x : ℕ) → IsTrue (D q x) → x ≤ shift_count A.problem = λ q x has. omega (arith, (c.prove_facts.ensures.tests.known q x has).1, c.requires.belongs.shifts) in
    let one : c.in_ok-states.states.items ≡ begin_at A c.args.p ∷ [] = c.in_ok-states.ensures.items ∙ ap (λ s. s ∷ []) c.start.ensures.value in
    record {
      states = rw one (All-cons (λ s. s < length A.moves) (begin_at A c.args.p) [] (c.prove_facts-2.ensures.begins c.args.p) (All-nil (λ s. s < length A.moves)));
      led = rw one (led_first A D c.args.p c.args.len c.prove_facts-2.ensures small);
    }

pub loop-day-preserved : goal.loop-day-preserved
loop-day-preserved c =
    let A = c.args.automaton.now in
    let S = c.args.doms.now in
    let D = has_domain S in
    let place = (c.args.p + c.loop-day.day) % c.cells-cells.result in
    let same : c.cells-cells.result ≡ cells A.problem = c.cells-cells.ensures.value ∙ ap (λ (n : ℕ). n * S.days) c.requires.belongs.weeks ∙ ap (λ (n : ℕ). A.problem.weeks * n) c.requires.belongs.days in
    let goes = subst (λ (ss : List ℕ). All (λ s. GoOn (D place) (shift_count A.problem + 1) (by_move A s) c.in_ok-states-2.states.items) ss) c.deref.ensures.value c.in_ok-states-2.ensures.go_on in
    record {
      states = c.in_ok-states-2.ensures.states;
      led = led_later A D c.args.p c.args.len c.loop-day.day place c.loop-day.states.items c.in_ok-states-2.states.items c.prove_facts-2.ensures (ap (λ (n : ℕ). (c.args.p + c.loop-day.day) % n) same) c.loop-day-test.true c.loop-day.invariant.led goes;
    }
