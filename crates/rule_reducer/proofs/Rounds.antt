-- Rounds over the given cells and the rules of a log.
use Rattle.std.proofs.Common.{◌≡◌, ℕ, zero, suc, ◌<◌, length, refl, ap, sym, ◌∙◌, subst, arith, ◌⊎◌, inl, inr, ⊎_elim}
use Rattle.rwsp_terms.specs.Instance.{Instance}
use Rattle.refutation_terms.specs.Log.{Log, Passes, size}
use Rattle.refutation_terms.specs.Strip.{ReducesIn, IsReduced, NeedsEachCell, NeedsEachRule}
use Rattle.refutation_checker.specs.LogVerdicts.{with_opening}
use Rattle.rule_reducer.specs.Kept.{KeepsAllButRules, LosesCellsAndRules}
use Rattle.rule_reducer.specs.Leaving.{cell_count, GivesNoMore, LosesCells, IsRound}
use Rattle.rule_reducer.proofs.Needs.{descent_drops}
use Rattle.rule_reducer.proofs.Leaving.{no_more_on, no_more_self}

pub loses_on : (g h k : Log) → LosesCellsAndRules g h → LosesCellsAndRules h k → LosesCellsAndRules g k
loses_on g h k first later = record {
  opening = no_more_on g.opening h.opening k.opening first.opening later.opening;
  goal = later.goal ∙ first.goal;
  counts = later.counts ∙ first.counts;
  size = later.size ∙ first.size;
}

pub cells_lost : (P : Instance) (n : ℕ) (g h : Log) → LosesCells P n g h → LosesCellsAndRules g h
cells_lost P n g h lost = record {
  opening = lost.left.fewer.no_more;
  goal = ap (λ (k : Log). k.goal) lost.same;
  counts = ap (λ (k : Log). k.counts) lost.same;
  size = ap size lost.same;
}

pub passes_still : (P : Instance) (n : ℕ) (g h : Log) → LosesCells P n g h → Passes P h
passes_still P n g h lost = subst (Passes P) (sym lost.same) lost.left.fewer.passes

pub rules_lost : (g h : Log) → KeepsAllButRules g h → LosesCellsAndRules g h
rules_lost g h kept = record {
  opening = subst (GivesNoMore g.opening) (sym kept.opening) (no_more_self g.opening);
  goal = kept.goal;
  counts = kept.counts;
  size = kept.size;
}

-- descents name fewer rules, or leave the log as it is
same_or_shorter : (P : Instance) (n : ℕ) (g h : Log) → ReducesIn P n g h → (h ≡ g) ⊎ (length h.named < length g.named)
same_or_shorter P zero g h a = inl (sym a.1)
same_or_shorter P (suc n) g h a =
    ⊎_elim
    (λ (e : a.0 ≡ g). absurd (a.2 e))
    (λ (less : length (a.0).named < length g.named).
    ⊎_elim
    (λ (e : h ≡ a.0). inr (omega (arith, ap (λ (k : Log). length k.named) e, less)))
    (λ (more : length h.named < length (a.0).named). inr (omega (arith, more, less)))
    (same_or_shorter P n a.0 h a.3))
    (descent_drops P g a.0 a.1)

pub round_over : (P : Instance) (g h k : Log) → LosesCells P 1 g h → IsReduced P h k → KeepsAllButRules h k → Passes P k → NeedsEachRule P k → IsRound P g k
round_over P g h k lost reduced kept passes rules =
    let shrunk = same_or_shorter P reduced.0 h k reduced.1 in
    let named : length h.named ≡ length g.named = ap (λ (x : Log). length x.named) lost.same in
    let given : cell_count k.opening ≡ cell_count h.opening = ap cell_count kept.opening in
    record {
      passes = passes;
      cells = omega (arith, given, lost.left.fewer.count);
      rules = ⊎_elim
          (λ (e : k ≡ h). omega (arith, ap (λ (x : Log). length x.named) e, named))
          (λ (less : length k.named < length h.named). omega (arith, less, named))
          shrunk;
      needed = λ same_cells same_rules.
          let cells = lost.left.needed (sym given ∙ same_cells) in
          let is : h ≡ g = lost.same ∙ ap (λ o. with_opening o g) cells.0 in
          ⊎_elim
          (λ (e : k ≡ h). (subst (NeedsEachCell P) (sym (e ∙ is)) (cells.1 refl), rules))
          (λ (less : length k.named < length h.named). absurd (omega (arith, less, named, same_rules)))
          shrunk;
    }
