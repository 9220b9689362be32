use Rattle.std.proofs.Common.{◌+◌, arith, refl}
use Rattle.rwsp_model.specs.RuleNumbers.{place_of}
use Rattle.rwsp_model.proofs.Numbering.{number_at_place, number_within}
use Rattle.roster_checker.proofs.broken.first_broken.Goals as goal

pub returns : goal.returns
returns c = record {
  is_roster = c.requires;
  rules = λ r is.
      let P = c.args.problem.now in
      let number = place_of P r + 1 in
      c.loop-number.invariant number r (omega (arith, number_within P r is)) (number_at_place P r number is refl);
}
