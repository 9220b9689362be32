-- The verdict on a text that is too long, that has a roster which breaks a rule, and that has one which meets all.
use Rattle.std.proofs.Common.{◌≤◌, length, inr, subst, sym, arith}
use Rattle.rwsp_terms.specs.declared.limits.TheConstants.{LONGEST_FILE}
use Rattle.rwsp_terms.specs.Instance.{Instance}
use Rattle.rwsp_terms.specs.Roster.{MeetsAll}
use Rattle.roster_print.specs.RosterText.{SpellsRoster}
use Rattle.roster_checker.specs.FirstBroken.{IsFirstBroken}
use Rattle.crew_size.specs.Sizes.{with_weeks}
use Rattle.crew_size.specs.Verdict.{EndsWithRight}
use Rattle.crew_size.proofs.Verdicts.{long_roster, roster_broken, roster_right}
use Rattle.crew_checker.proofs.sections.roster_end.Goals as goal

pub returns-then-bytes-clause-verdict : goal.returns-then-bytes-clause-verdict
returns-then-bytes-clause-verdict c = λ text place at.
    inr (inr (long_roster c.args.problem.now text c.args.sizes c.args.line c.args.weeks c.args.bytes.now c.if-bytes.true c.requires.next at))

pub returns-in-Some-clause-verdict : goal.returns-in-Some-clause-verdict
returns-in-Some-clause-verdict c = λ text place at.
    let bytes = c.args.bytes.now in
    let cells = c.in-Ok-read_roster.roster.cells in
    let short : length bytes ≤ LONGEST_FILE = omega (arith, c.if-bytes.false) in
    let spelled : SpellsRoster (with_weeks c.args.problem.now c.args.weeks) bytes cells = subst (λ (P : Instance). SpellsRoster P bytes cells) c.in-Ok.ensures c.in-Ok-read_roster.ensures.spelled in
    let breaks : IsFirstBroken (with_weeks c.args.problem.now c.args.weeks) cells c.in-Some.broken = subst (λ (P : Instance). IsFirstBroken P cells c.in-Some.broken) c.in-Ok.ensures c.in-Some.ensures in
    roster_broken c.args.problem.now text c.args.sizes c.args.line c.args.weeks bytes cells c.in-Some.broken short c.requires.next spelled breaks at

pub returns-clause-verdict : goal.returns-clause-verdict
returns-clause-verdict c = λ text place at.
    let bytes = c.args.bytes.now in
    let cells = c.in-Ok-read_roster.roster.cells in
    let short : length bytes ≤ LONGEST_FILE = omega (arith, c.if-bytes.false) in
    let spelled : SpellsRoster (with_weeks c.args.problem.now c.args.weeks) bytes cells = subst (λ (P : Instance). SpellsRoster P bytes cells) c.in-Ok.ensures c.in-Ok-read_roster.ensures.spelled in
    let meets : MeetsAll (with_weeks c.args.problem.now c.args.weeks) cells = subst (λ (P : Instance). MeetsAll P cells) c.in-Ok.ensures c.in-None.ensures in
    subst (λ first. EndsWithRight c.args.problem.now text first c.args.weeks) (sym c.first_size.ensures)
    (roster_right c.args.problem.now text c.args.sizes c.args.line c.args.weeks bytes cells short c.requires.next spelled meets at)
