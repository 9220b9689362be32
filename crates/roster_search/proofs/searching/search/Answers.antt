-- What is found, by the lines that were written.
use Rattle.std.proofs.Common.{◌≡◌, ◌+◌, ◌*◌, ◌^◌, ◌<◌, refl, sym, subst, ◌∙◌}
use Rattle.std.proofs.lemmas.Result.{IfOk-weaker}
use Rattle.rwsp_terms.specs.Instance.{cells, shift_count}
use Rattle.refutation_terms.specs.Log.{IsAllowed}
use Rattle.refutation_log.specs.declared.found.Found.{Found}
use Rattle.roster_search.specs.declared.aim.Aim.{Aim}
use Rattle.roster_search.specs.Founds.{IsFound, HasSpentBudget}
use Rattle.roster_search.specs.Written.{IsEnded}
use Rattle.roster_search.proofs.Finding.{IsBegun, found_by, undecided_small, begins_under_way, ended_whole}
use Rattle.roster_search.proofs.Reasons.{same_on, later_by, searching_on}
use Rattle.roster_search.proofs.searching.search.Goals as goal

pub write_lines-written-requires-clause-searching : goal.write_lines-written-requires-clause-searching
write_lines-written-requires-clause-searching g c =
    let a = c.in_ok-progress.progress in
    let begun = c.in_ok-progress.ensures in
    searching_on c.args.problem.now _ _ _ _ _ _ a a c.requires.serves c.requires.plain (rw (sym begun.aim) at c.requires.unweighed) c.undone.ensures.same refl
    (subst (g.A.Propagator.tracks c.undone.new.self) c.domains.ensures.value c.undone.ensures.tracks) (begins_under_way c.args.problem.now a begun.written begun.none)

pub returns-in-Ok-None-clause-found : goal.returns-in-Ok-None-clause-found
returns-in-Ok-None-clause-found g c =
    let P = c.args.problem.now in
    let s = c.write_lines-written.new.progress in
    let A = g.A.Propagator in
    let v = c.args.propagator.now in
    let none = c.in-Ok-None.field-0-is in
    let a = c.in_ok-progress.progress in
    let later = c.in-Ok-None.ensures.later none in
    let aim : s.aim ≡ c.args.aim = later.same_aim ∙ c.in_ok-progress.ensures.aim in
    let begun : IsBegun P (A.leaves v) (A.spent v) a s = (c.in_ok-progress.ensures.none, later_by P A.serves A.leaves A.spent v c.undone.new.self a s c.undone.ensures.same later) in
    let IsFoundBy : Aim → Found → Type 0 = λ m. IsFound P m.opening m.goal m.budget (A.leaves v) (A.spent v) in
    IfOk-weaker c.end.result (IsEnded P s.aim s.lines.items) (IsFoundBy c.args.aim) (λ found h. subst (λ m. IsFoundBy m found) aim (found_by P (A.leaves v) (A.spent v) a s found begun h)) c.end.ensures

pub returns-in-Ok-None-clause-complete : goal.returns-in-Ok-None-clause-complete
returns-in-Ok-None-clause-complete g c =
    let P = c.args.problem.now in
    let s = c.write_lines-written.new.progress in
    let aim : s.aim ≡ c.args.aim = (c.in-Ok-None.ensures.later c.in-Ok-None.field-0-is).same_aim ∙ c.in_ok-progress.ensures.aim in
    IfOk-weaker c.end.result
    (IsEnded P s.aim s.lines.items)
    (λ (found : Found). HasSpentBudget found → c.args.aim.budget + 1 < 2 * (shift_count P + 1) ^ cells P)
    (λ found h undecided. subst (λ (m : Aim). m.budget + 1 < 2 * (shift_count P + 1) ^ cells P) aim (undecided_small P s.aim s.lines.items found h undecided))
    c.end.ensures

pub end-requires-clause-written : goal.end-requires-clause-written
end-requires-clause-written g c = (c.in-Ok-None.ensures.searching c.in-Ok-None.field-0-is).under_way.written

pub end-requires-clause-spent : goal.end-requires-clause-spent
end-requires-clause-spent g c = ended_whole c.write_lines-written.new.progress (c.in-Ok-None.ensures.ended c.in-Ok-None.field-0-is)

pub end-requires-clause-few : goal.end-requires-clause-few
end-requires-clause-few g c = (c.in-Ok-None.ensures.searching c.in-Ok-None.field-0-is).under_way.few

pub end-requires-clause-allowed : goal.end-requires-clause-allowed
end-requires-clause-allowed g c =
    subst (λ (m : Aim). IsAllowed c.args.problem.now m.opening) (sym ((c.in-Ok-None.ensures.later c.in-Ok-None.field-0-is).same_aim ∙ c.in_ok-progress.ensures.aim)) c.requires.opening.1

pub returns-in-Ok-None-clause-same : goal.returns-in-Ok-None-clause-same
returns-in-Ok-None-clause-same g c = same_on _ _ _ _ _ _ c.undone.ensures.same c.write_lines-written.ensures.same

pub returns-in-Ok-Some-clause-same : goal.returns-in-Ok-Some-clause-same
returns-in-Ok-Some-clause-same g c = same_on _ _ _ _ _ _ c.undone.ensures.same c.write_lines-written.ensures.same

pub returns-in-Err-clause-same : goal.returns-in-Err-clause-same
returns-in-Err-clause-same g c = same_on _ _ _ _ _ _ c.undone.ensures.same c.write_lines-written.ensures.same
