-- What strips leave of a log as it was.
use Rattle.std.proofs.Common.{◌≡◌, ℕ, zero, suc, ◌+◌, List, [], ◌∷◌, refl, ap, sym, ◌∙◌, subst, cond, inl, inr}
use Rattle.std.specs.Prelude.{count_by, map, reverse}
use Rattle.std.proofs.lemmas.List.Sums.{sum_by-cons}
use Rattle.rwsp_terms.specs.Instance.{Instance}
use Rattle.refutation_terms.specs.declared.lines.Line.{Line}
use Rattle.refutation_terms.specs.declared.lines.Line.TheVariants.{Closing}
use Rattle.refutation_terms.specs.declared.lines.Leaf.TheVariants.{Words}
use Rattle.refutation_terms.specs.Log.{Log, is_worked}
use Rattle.refutation_terms.specs.Strip.{strip, strip_line, StripsTo, ReducesIn, IsReduced}
use Rattle.refutation_terms.specs.Verdict.{kind_by, kind_of_log}
use Rattle.rule_reducer.specs.Kept.{KeepsAllButRules}

worked_still : (P : Instance) (number : ℕ) (line : Line) → is_worked (strip_line P number line) ≡ is_worked line
worked_still P number (Closing (Words p R claim)) = refl
worked_still P number line = refl

same_work : (P : Instance) (number : ℕ) (lines : List Line) → count_by is_worked (map (strip_line P number) lines) ≡ count_by is_worked lines
same_work P number [] = refl
same_work P number (line ∷ lines) =
    let weigh : Line → ℕ = λ l. cond (is_worked l) 1 0 in
    sum_by-cons weigh (strip_line P number line) (map (strip_line P number) lines)
    ∙ ap (λ b. cond b 1 0 + count_by is_worked (map (strip_line P number) lines)) (worked_still P number line)
    ∙ ap (λ n. cond (is_worked line) 1 0 + n) (same_work P number lines)
    ∙ sym (sum_by-cons weigh line lines)

same_log : (g h : Log) → h ≡ g → KeepsAllButRules g h
same_log g h e = subst (KeepsAllButRules g) (sym e) (record { opening = refl; goal = refl; counts = refl; size = refl })

strip_keeps : (P : Instance) (number : ℕ) (g : Log) → KeepsAllButRules g (strip P number g)
strip_keeps P number g = record { opening = refl; goal = refl; counts = refl; size = same_work P number g.lines }

still : (g h k : Log) → KeepsAllButRules g h → KeepsAllButRules h k → KeepsAllButRules g k
still g h k first later = record {
  opening = later.opening ∙ first.opening;
  goal = later.goal ∙ first.goal;
  counts = later.counts ∙ first.counts;
  size = later.size ∙ first.size;
}

strips_keep : (P : Instance) (numbers : List ℕ) (g h : Log) → StripsTo P numbers g h → KeepsAllButRules g h
strips_keep P [] g h a = same_log g h (sym a)
strips_keep P (number ∷ rest) g h (inl a) = still g (strip P number g) h (strip_keeps P number g) (strips_keep P rest (strip P number g) h a.1)
strips_keep P (number ∷ rest) g h (inr a) = strips_keep P rest g h a.1

steps_keep : (P : Instance) (n : ℕ) (g h : Log) → ReducesIn P n g h → KeepsAllButRules g h
steps_keep P zero g h a = same_log g h (sym a.1)
steps_keep P (suc n) g h a = still g a.0 h (strips_keep P (reverse g.named) g a.0 a.1) (steps_keep P n a.0 h a.3)

pub reduced_keeps : (P : Instance) (g h : Log) → IsReduced P g h → KeepsAllButRules g h
reduced_keeps P g h a = steps_keep P a.0 g h a.1

-- of the log that was given, where one in between is equal to it, and one to what is left
pub reduced_from : (P : Instance) (g old new h : Log) → old ≡ g → IsReduced P old new → h ≡ new → IsReduced P g h
reduced_from P g old new h same reduced is = subst (IsReduced P g) (sym is) (subst (λ k. IsReduced P k new) same reduced)

-- so its kind stays too
pub same_kind : (g h : Log) → KeepsAllButRules g h → kind_of_log h ≡ kind_of_log g
same_kind g h kept = ap (λ o. kind_by o h.goal) kept.opening ∙ ap (kind_by g.opening) kept.goal
