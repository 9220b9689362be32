use Rattle.std.proofs.Common.{◌≡◌, ℕ, ℤ, subst, ◌∙◌, ap, arith, rules, w64, to_z, of_z, SFits}
use Rattle.std.specs.Prelude.{IfOk, MatchOption, ◌≤ℤ◌}
use Rattle.std.proofs.lemmas.Int.{ints}
use Rattle.refutation_terms.specs.FreeWeekends.{free_weight}
use Rattle.clean_words.specs.Courses.{course, IsBestOf, AreBelow}
use Rattle.clean_words.specs.Gains.{free_gain, weighed}
use Rattle.clean_words.proofs.FreeWords.{free_weighs}
use Rattle.clean_words.proofs.HeavyWords.{heaviest_of_course}
use Rattle.clean_words.proofs.weighed_words.heaviest.Goals as goal

pub returns : goal.returns
returns c =
    let w = c.args.words.now in
    let A = w.automaton.now in
    let y = c.args.weights.now in
    let narrow : SFits w64 c.args.least = search rules in
    let read : to_z w64 (of_z w64 c.args.least) ≡ c.args.least = omega (arith, ints, narrow) in
    let F : ℕ → ℤ → Type 0 = λ days least. IfOk c.heaviest_by_gain.result (λ found. MatchOption found (AreBelow (course A w.domains.now w.position (free_gain y w.position days c.args.reward)) w.days least)
    (λ h. IsBestOf (course A w.domains.now w.position (free_gain y w.position days c.args.reward)) w.days h.weight h.word × (least ≤ℤ h.weight))) in
    let same = c.days-days.ensures.value ∙ ap (λ P. P.days) c.problem-problem.ensures in
    let found = subst (λ (z : ℤ). F A.problem.days z) read (subst (λ (n : ℕ). F n (to_z w64 (of_z w64 c.args.least))) same c.heaviest_by_gain.ensures) in
    heaviest_of_course (weighed A w.domains.now w.position y c.args.reward) w.days (free_weight A.problem y c.args.reward w.position) c.args.least c.heaviest_by_gain.result (free_weighs A.problem y w.position c.args.reward) found
