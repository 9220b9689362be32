-- The log of no given cells whose tree is the first leaf of blocks needs all that it names.
use Rattle.std.proofs.Common.{◌≡◌, ℕ, zero, suc, ◌≤◌, [], ◌∷◌, List, None, Some, refl, ap, sym, subst, arith, ⊎_elim}
use Rattle.std.specs.Prelude.{◌<◌, length, All, Contains, Option, slice_get, count_by, map}
use Rattle.rwsp_terms.specs.declared.data.Rule.{Rule}
use Rattle.rwsp_terms.specs.declared.data.Symbol.{Symbol}
use Rattle.rwsp_terms.specs.Instance.{Instance}
use Rattle.rwsp_terms.specs.Rules.{rules, rule_of, Names}
use Rattle.rwsp_model.proofs.Numbering.{one_number}
use Rattle.refutation_terms.specs.declared.lines.Line.{Line}
use Rattle.refutation_terms.specs.declared.lines.Line.TheVariants.{Closing}
use Rattle.refutation_terms.specs.declared.lines.Leaf.TheVariants.{Blocks}
use Rattle.refutation_terms.specs.declared.lines.Opening.{Opening}
use Rattle.refutation_terms.specs.declared.lines.Opening.TheVariants.{Given}
use Rattle.refutation_terms.specs.declared.cells.GivenCell.{GivenCell}
use Rattle.refutation_terms.specs.BlocksLeaf.{BlocksCite}
use Rattle.refutation_terms.specs.Log.{Log, Passes, NamesOnlyCited, OpeningCites, Cites, GoalFits, CountsFit, is_worked, size}
use Rattle.refutation_terms.specs.Strip.{without_rule, strip_line, strip, cells_given}
use Rattle.refutation_log.specs.Filled.{IsCountedFill, IsFillProof}
use Rattle.refutation_log.proofs.CitedRules.{rule_there}
use Rattle.rule_reducer.proofs.Kept.{was_listed}

-- what is said of the one line of a list is said of each line at a place of it
at_only : (Q : ℕ → Line → Type 0) (a : Line) → Q 0 a → (k : ℕ) (b : Line) → slice_get (a ∷ []) k ≡ Some b → Q k b
at_only Q a h zero b at = subst (Q 0) (cc at) h
at_only Q a h (suc k) b at = absurd (cc at)

-- each rule that it names is cited by the leaf, so it is needed
leaf_cites : (P : Instance) (x : Symbol) (g : Log) (r : Rule) → g.opening ≡ Given [] → g.lines ≡ Closing (Blocks x) ∷ [] → NamesOnlyCited P g → Names P g.named r → BlocksCite P x r
leaf_cites P x g r opened lines cited named =
    ⊎_elim
    (λ (c : OpeningCites g.opening r). absurd (subst (λ o. OpeningCites o r) opened c))
    (λ (c : (k : ℕ) × (line : Line) × (slice_get g.lines k ≡ Some line) × Cites P line r). at_only (λ k line. Cites P line r → BlocksCite P x r) (Closing (Blocks x)) (λ h. h) c.0 c.1 (subst (λ (ls : List Line). slice_get ls c.0 ≡ Some c.1) lines c.2) c.3)
    (cited r named)

needs_rule : (P : Instance) (x : Symbol) (g : Log) (number : ℕ) (r : Rule) → rule_of P number ≡ Some r → g.lines ≡ Closing (Blocks x) ∷ [] → BlocksCite P x r → Passes P (strip P number g) → ⊥
needs_rule P x g number r is lines cites passes =
    let at : slice_get (map (strip_line P number) g.lines) 0 ≡ Some (Closing (Blocks x)) = ap (λ (ls : List Line). slice_get (map (strip_line P number) ls) 0) lines in
    let named : Names P (without_rule number g.named) r = passes.grounded.named 0 (Closing (Blocks x)) r at cites in
    (was_listed number g.named named.0 named.1).1 (one_number P named.0 number r named.2 is)

-- what gives cells has no goal, and may count
no_goal : (P : Instance) (goal : Option ℕ) → GoalFits P (Given []) goal → goal ≡ None
no_goal P None h = refl
no_goal P (Some goal) h = absurd (cc (h.0))

pub counted_proof : (P : Instance) (given : List GivenCell) (budget : ℕ) (g : Log) → 1 ≤ budget → IsCountedFill P g → IsFillProof P given budget g
counted_proof P given budget g some h =
    let few : size g ≤ 1 = subst (λ (ls : List Line). count_by is_worked ls ≤ 1) (sym h.one_leaf.2) (omega arith) in
    let fits = h.passes.grounded.fits in
    let nothing : (c : GivenCell) → Contains [] c → ⊥ = λ c has. omega (arith, has.1) in
    record {
      passes = h.passes;
      gives = ([], h.no_cells, λ c has. absurd (nothing c has));
      no_goal = no_goal P g.goal (subst (λ (o : Opening). GoalFits P o g.goal) h.no_cells fits.goal);
      may_count = subst (λ (o : Opening). CountsFit o g.counts) h.no_cells fits.counts;
      small = omega (arith, few, some);
      cells = λ c has passes. nothing c (subst (λ (o : Opening). Contains (cells_given o) c) h.no_cells has);
      rules = λ number has passes.
          let range = in_range fits.named.1 number has in
          let r = rule_there P number range.0 range.1 in
          needs_rule P h.one_leaf.0 g number r.0 r.1 h.one_leaf.2 (leaf_cites P h.one_leaf.0 g r.0 h.no_cells h.one_leaf.2 h.cited (number, has, r.1)) passes;
    }
  where
    in_range : All (λ k. (0 < k) × (k ≤ length (rules P))) g.named → (number : ℕ) → Contains g.named number → (0 < number) × (number ≤ length (rules P))
    in_range all number has = subst (λ k. (0 < k) × (k ≤ length (rules P))) has.2 (all has.0 number has.1)
