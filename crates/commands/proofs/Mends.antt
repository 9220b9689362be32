-- Two answers to the ways out of a problem.
use Rattle.std.proofs.Common.{ℕ}
use Rattle.std.specs.Prelude.{Bool}
use Rattle.rwsp_terms.specs.Instance.{Instance}
use Rattle.ways_out.specs.declared.answer.WaysOut.{WaysOut}
use Rattle.ways_out.specs.Agreement.{WaysAgree}
use Rattle.ways_out.proofs.Agreeing.{ways_agree}
use Rattle.commands.specs.Mend.{IsMendAnswer}

pub mends_agree : (P : Instance) (budget : ℕ) (counts : Bool) (a b : WaysOut) → IsMendAnswer P budget counts a → IsMendAnswer P budget counts b → WaysAgree a b
mends_agree P budget counts a b h k = ways_agree P (record { budget = budget; counts = counts }) (record { budget = budget; counts = counts }) a b h k
