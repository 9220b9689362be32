-- A problem has one answer about a least rest.
use Rattle.std.proofs.Common.{◌≡◌, ℕ, ap, sym, ◌∙◌, arith}
use Rattle.rwsp_terms.specs.Instance.{Instance}
use Rattle.made_problems.specs.declared.rested.LeastRest.{LeastRest}
use Rattle.made_problems.specs.declared.rested.LeastRest.TheVariants.{Rested, Pairs, Triples}
use Rattle.commands.specs.Rest.{IsRestAnswer}

pub one_rest : (P : Instance) (minutes : ℕ) (a b : LeastRest) → IsRestAnswer P minutes a → IsRestAnswer P minutes b → a ≡ b
one_rest P minutes (Rested Q) (Rested R) h k = ap Rested (h.0.2 ∙ sym k.0.2)
one_rest P minutes (Rested Q) (Pairs n) h k = let few = h.0.0 in let is = k.0.0 in let many = k.0.1 in absurd (omega (arith, few, is, many))
one_rest P minutes (Rested Q) (Triples n) h k = let few = h.0.1 in let is = k.0.1.0 in let many = k.0.1.1 in absurd (omega (arith, few, is, many))
one_rest P minutes (Pairs m) (Rested R) h k = let few = k.0.0 in let is = h.0.0 in let many = h.0.1 in absurd (omega (arith, few, is, many))
one_rest P minutes (Pairs m) (Pairs n) h k = ap Pairs (h.0.0 ∙ sym k.0.0)
one_rest P minutes (Pairs m) (Triples n) h k = let few = k.0.0 in let is = h.0.0 in let many = h.0.1 in absurd (omega (arith, few, is, many))
one_rest P minutes (Triples m) (Rested R) h k = let few = k.0.1 in let is = h.0.1.0 in let many = h.0.1.1 in absurd (omega (arith, few, is, many))
one_rest P minutes (Triples m) (Pairs n) h k = let few = h.0.0 in let is = k.0.0 in let many = k.0.1 in absurd (omega (arith, few, is, many))
one_rest P minutes (Triples m) (Triples n) h k = ap Triples (h.0.1.0 ∙ sym k.0.1.0)
