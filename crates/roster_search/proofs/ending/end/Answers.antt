-- The log of the lines, whole or with a rest.
use Rattle.std.proofs.Common.{◌≡◌, ◌≤◌, ℕ, sym, subst, ◌∙◌, arith, false, ◌+◌, length, length-append, ap}
use Rattle.std.specs.Prelude.{replicate}
use Rattle.std.specs.List.Sorted.{IsStrictlyIncreasing}
use Rattle.std.proofs.lemmas.List.{length-replicate}
use Rattle.refutation_terms.specs.declared.lines.Line.TheVariants.{Unfinished}
use Rattle.refutation_terms.specs.Tree.{IsTree}
use Rattle.domain_store.specs.States.{open_trees}
use Rattle.roster_search.proofs.Logs.{passing_end, spent_end, rest_ends, some_open}
use Rattle.roster_search.proofs.ending.end.Goals as goal

pub returns-then-is_whole : goal.returns-then-is_whole
returns-then-is_whole c =
    let P = c.args.problem.now in
    let s = c.args.progress in
    let up : IsStrictlyIncreasing s.named = subst IsStrictlyIncreasing c.numbers.ensures.value c.numbers.ensures.ascends in
    passing_end P s c.new.result c.requires.written c.requires.allowed up
    ((c.is_whole-is_whole.ensures.tree P s.aim.opening s.lines.items c.requires.written.state).0 c.if-is_whole.true)
    c.requires.few c.new.ensures.named c.new.ensures.opening c.new.ensures.goal (c.new.ensures.counts ∙ c.gives_cells-counts.ensures) c.new.ensures.lines

pub new-requires-2-clause-tree : goal.new-requires-2-clause-tree
new-requires-2-clause-tree c =
    let P = c.args.problem.now in
    let s = c.args.progress in
    let n : ℕ = c.open_count-count.result in
    subst IsTree (sym c.in_ok-leave_open.ensures) (rest_ends s.lines.items n (c.open_count-count.ensures.trees (replicate n Unfinished) P s.aim.opening s.lines.items c.requires.written.state))

pub returns : goal.returns
returns c =
    let P = c.args.problem.now in
    let s = c.args.progress in
    let n : ℕ = c.open_count-count.result in
    let up : IsStrictlyIncreasing s.named = subst IsStrictlyIncreasing c.numbers.ensures.value c.numbers.ensures.ascends in
    let part : s.walk.whole ≡ false = sym c.is_whole-is_whole.ensures.value ∙ c.if-is_whole.false in
    let some : 1 ≤ open_trees s.walk = some_open s.walk part in
    spent_end P s n c.new-2.result c.requires.written c.requires.allowed up
    (rest_ends s.lines.items n (c.open_count-count.ensures.trees (replicate n Unfinished) P s.aim.opening s.lines.items c.requires.written.state))
    c.requires.few (c.requires.spent part) (omega (arith, some, c.open_count-count.ensures.value)) c.new-2.ensures.named c.new-2.ensures.opening c.new-2.ensures.goal (c.new-2.ensures.counts ∙ c.gives_cells-counts.ensures) (c.new-2.ensures.lines ∙ c.in_ok-leave_open.ensures)

pub new-requires-2-clause-few : goal.new-requires-2-clause-few
new-requires-2-clause-few c =
    let s = c.args.progress in
    let n : ℕ = c.open_count-count.result in
    let long : length c.leave_open.new.lines.items ≡ length s.lines.items + length (replicate n Unfinished) = ap length c.in_ok-leave_open.ensures ∙ length-append s.lines.items (replicate n Unfinished) in
    let few_open : n ≤ length s.lines.items + 1 = subst (λ m. m ≤ length s.lines.items + 1) (sym c.open_count-count.ensures.value) c.requires.written.few_open in
    omega (arith, long, few_open, length-replicate n Unfinished, c.requires.few, c.requires.budget)
