use Rattle.std.proofs.Common.{◌≡◌, ◌∙◌, sym, ap, subst, arith, w32, to_z, of_z}
use Rattle.std.proofs.lemmas.Int.{to_z-of_z, ints}
use Rattle.std.specs.Prelude.{AllPairs}
use Rattle.rwsp_terms.specs.Weights.{ComesBefore}
use Rattle.refutation_log.specs.Gathering.{with_last}
use Rattle.refutation_log.proofs.gather.add_behind.Goals as goal

pub append-requires-clause-last : goal.append-requires-clause-last
append-requires-clause-last c = rw (c.if-goes_behind.true, c.entries.ensures.value) at (c.goes_behind.ensures (to_z w32 (of_z w32 c.args.value)))

pub returns-in_ok-append : goal.returns-in_ok-append
returns-in_ok-append c =
    let z = c.args.weights in
    let v = c.args.value in
    let same : to_z w32 (of_z w32 v) ≡ v = to_z-of_z w32 v (omega (arith, ints, c.requires)) in
    let longer : c.append.new.weights ≡ with_last z c.args.day c.args.x v = c.in_ok-append.ensures ∙ ap (λ u. with_last z c.args.day c.args.x u) same in
    let ascends : AllPairs ComesBefore (with_last z c.args.day c.args.x v) = rw (c.if-goes_behind.true, c.entries.ensures.value) at (c.goes_behind.ensures v) in
    (longer, subst (AllPairs ComesBefore) (sym longer) ascends)

pub returns-else-goes_behind : goal.returns-else-goes_behind
returns-else-goes_behind c = rw (c.if-goes_behind.false, c.entries.ensures.value) at (c.goes_behind.ensures c.args.value)
