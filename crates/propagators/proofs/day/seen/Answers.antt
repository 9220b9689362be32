-- An overrun closes; else a symbol is cut; else there is neither.
use Rattle.std.proofs.Common.{◌≤◌, sym, subst, arith}
use Rattle.rwsp_terms.specs.Instance.{shift_count}
use Rattle.domain_store.specs.Store.{has_domain}
use Rattle.domain_store.specs.declared.look.Look.{Look}
use Rattle.domain_store.specs.Looks.{IsLook}
use Rattle.propagators.specs.Days.{IsDayLeaf, IsDaySpent}
use Rattle.propagators.proofs.CutCounts.{held}
use Rattle.propagators.proofs.Cuts.{closing_day, none_closes, cut_day, none_spent}
use Rattle.propagators.proofs.day.seen.Goals as goal

pub returns-in-Some : goal.returns-in-Some
returns-in-Some c = closing_day c.args.problem.now c.args.doms.now c.in-Some.day c.in-Some.x c.in-Some.over (c.in-Some.ensures c.args.doms.now c.requires.stands)

pub returns-in-Some-first_cut : goal.returns-in-Some-first_cut
returns-in-Some-first_cut c =
    let P = c.args.problem.now in
    let S = c.args.doms.now in
    let cut = c.in-Some-first_cut.cut in
    let IsSeen : Look → Type 0 = λ look. IsLook P (IsDayLeaf P) (IsDaySpent P (has_domain S)) S look in
    subst IsSeen (sym c.look.ensures) (
      none_closes P S (c.in_default.ensures S c.requires.stands),
      cut_day P S cut.p cut.x cut.day cut.counted cut.over c.in-Some-first_cut.ensures,
    )

pub returns-in-None : goal.returns-in-None
returns-in-None c =
    let P = c.args.problem.now in
    let S = c.args.doms.now in (
      none_closes P S (c.in_default.ensures S c.requires.stands),
      λ p x spent.
          let known : x.number ≤ S.shifts = (c.prove_facts.ensures.tests.known p x.number (held P (has_domain S) p x.number spent.useful)).1 in
          let small : x.number ≤ shift_count P = omega (arith, known, c.requires.belongs.shifts) in
          none_spent P (has_domain S) p x c.prove_limits.ensures.some_days small (c.in_default.ensures S c.requires.stands) c.in-None.ensures spent,
    )
