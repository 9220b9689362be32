use Rattle.std.proofs.Common.{◌≡◌, length, ap, arith, inl, inr}
use Rattle.std.proofs.lemmas.Bool.Decides.{nat_tests}
use Rattle.crew_size.proofs.Verdicts.{goes_on}
use Rattle.crew_checker.proofs.sections.none_end.Goals as goal

pub returns-then-not-is_empty-clause-verdict : goal.returns-then-not-is_empty-clause-verdict
returns-then-not-is_empty-clause-verdict c = λ P text place at.
    inr (inl (goes_on P text c.args.sizes c.args.line c.args.last c.args.bytes.now
    (λ e. let none : length c.args.bytes.now ≡ 0 = ap length e in first_of (omega (arith, none), grind (arith, nat_tests))) c.requires.last at))
