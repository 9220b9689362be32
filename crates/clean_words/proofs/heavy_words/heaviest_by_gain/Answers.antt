use Rattle.clean_words.specs.Rows.{gain_at}
use Rattle.std.proofs.Common.{◌≡◌, ◌∙◌, ap, sym, subst, arith, rules, w64, to_z, of_z, SFits, ℤ}
use Rattle.std.proofs.lemmas.Int.{ints}
use Rattle.clean_words.specs.Courses.{IsBestOf, AreBelow}
use Rattle.clean_words.specs.Trellis.{Trellis, trellis, start_of, IsGreatest}
use Rattle.clean_words.proofs.Steps.{best_is_greatest}
use Rattle.clean_words.proofs.Readings.{course_of, greatest_at, best_found, below_found}
use Rattle.clean_words.proofs.heavy_words.heaviest_by_gain.Goals as goal

pub returns-in_ok-word-in-Some : goal.returns-in_ok-word-in-Some
returns-in_ok-word-in-Some g c =
    let T : Trellis = trellis c.args.words.now (g.G.Gain.gain_of c.args.gain.now) in
    let facts = c.prove_facts.ensures in
    let greatest = subst (IsGreatest T 0 (start_of T)) c.in-Some.ensures.0 (greatest_at T c.in_ok-rows.rows.first c.at.result (record { automaton = facts.automaton; symbols = facts.symbols }) c.in_ok-rows.ensures.first (c.at.ensures ∙ ap (gain_at c.in_ok-rows.rows.first) c.start.ensures.value)) in
    let best = c.in_ok-word-in-Some.ensures in
    let same : best.0 ≡ c.in-Some.weight = best_is_greatest T 0 (start_of T) c.in_ok-word-in-Some.word best.0 c.in-Some.weight best.1 greatest in
    let narrow : SFits w64 c.in-Some.weight = search rules in
    let heavy : to_z w64 (of_z w64 c.in-Some.weight) ≡ c.in-Some.weight = omega (arith, ints, narrow) in
    let small : SFits w64 c.args.least = search rules in
    let least : to_z w64 (of_z w64 c.args.least) ≡ c.args.least = omega (arith, ints, small) in
    (subst (λ (z : ℤ). IsBestOf (course_of T) c.args.words.now.days z c.in_ok-word-in-Some.word) (same ∙ sym heavy) (best_found T (record { automaton = facts.automaton; symbols = facts.symbols }) c.in_ok-word-in-Some.word best.0 best.1), omega (arith, ints, heavy, least, c.in-Some.ensures.1))

pub returns-in-None : goal.returns-in-None
returns-in-None g c =
    let T : Trellis = trellis c.args.words.now (g.G.Gain.gain_of c.args.gain.now) in
    let facts = c.prove_facts.ensures in
    let greatest = greatest_at T c.in_ok-rows.rows.first c.at.result (record { automaton = facts.automaton; symbols = facts.symbols }) c.in_ok-rows.ensures.first (c.at.ensures ∙ ap (gain_at c.in_ok-rows.rows.first) c.start.ensures.value) in
    let narrow : SFits w64 c.args.least = search rules in
    let same : to_z w64 (of_z w64 c.args.least) ≡ c.args.least = omega (arith, ints, narrow) in
    let below = below_found T (record { automaton = facts.automaton; symbols = facts.symbols }) c.at.result (to_z w64 (of_z w64 c.args.least)) greatest (rw c.in-None.is at c.reaching.ensures) in
    subst (AreBelow (course_of T) c.args.words.now.days) same below
