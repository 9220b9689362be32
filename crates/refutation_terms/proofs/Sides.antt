-- The two sides of a split.
use Rattle.std.proofs.Common.{◌⊎◌, ℕ, ◌<◌, List, get_or, refl, subst, IsTrue, inl, inr, ◌==◌}
use Rattle.std.proofs.lemmas.Bool.{eqb-true, eq-eqb, cases_Bool}
use Rattle.rwsp_terms.specs.declared.data.Symbol.{Symbol}
use Rattle.rwsp_terms.specs.Instance.{Instance, cells, off_symbol}
use Rattle.refutation_terms.specs.declared.lines.Line.TheVariants.{Split}
use Rattle.refutation_terms.specs.Word.{Domains, Within}
use Rattle.refutation_terms.specs.Tree.{Side, First, Second, side_takes, line_leaves, narrowed}
use Rattle.refutation_terms.proofs.Tests.{both, right_of, where_passed, passed_there, not_passed, never_both}

-- a roster is in the side that takes its symbol
in_side : (P : Instance) (D : Domains) (p : ℕ) (x : Symbol) (s : List Symbol) (a : Side) → IsTrue (side_takes a ((get_or s p off_symbol).number == x.number)) → Within P D s → Within P (narrowed D (Split p x) a) s
in_side P D p x s a takes w = record {
  is_roster = w.is_roster;
  each = λ q lt. both (D q (get_or s q off_symbol).number) (line_leaves (Split p x) a q (get_or s q off_symbol).number)
      (w.each q lt)
      (where_passed (p == q) (side_takes a ((get_or s q off_symbol).number == x.number))
      (λ e. subst (λ r. IsTrue (side_takes a ((get_or s r off_symbol).number == x.number))) (eqb-true p q e) takes));
}

pub in_either_side : (P : Instance) (D : Domains) (p : ℕ) (x : Symbol) (s : List Symbol) → Within P D s → Within P (narrowed D (Split p x) First) s ⊎ Within P (narrowed D (Split p x) Second) s
in_either_side P D p x s w =
    elim (cases_Bool ((get_or s p off_symbol).number == x.number)) [
      | inl e ↦ inl (in_side P D p x s First e w)
      | inr e ↦ inr (in_side P D p x s Second (not_passed ((get_or s p off_symbol).number == x.number) e) w)
    ]

taken_there : (P : Instance) (D : Domains) (p : ℕ) (x : Symbol) (s : List Symbol) (a : Side) → p < cells P → Within P (narrowed D (Split p x) a) s → IsTrue (side_takes a ((get_or s p off_symbol).number == x.number))
taken_there P D p x s a lt w =
    passed_there (p == p) (side_takes a ((get_or s p off_symbol).number == x.number)) (eq-eqb p p refl)
    (right_of (D p (get_or s p off_symbol).number) (line_leaves (Split p x) a p (get_or s p off_symbol).number) (w.each p lt))

pub in_one_side : (P : Instance) (D : Domains) (p : ℕ) (x : Symbol) (s : List Symbol) → p < cells P → Within P (narrowed D (Split p x) First) s → Within P (narrowed D (Split p x) Second) s → ⊥
in_one_side P D p x s lt a b =
    never_both ((get_or s p off_symbol).number == x.number) (taken_there P D p x s First lt a) (taken_there P D p x s Second lt b)
