-- A text that is refused by reading has one cause, and the text of a whole log has none.
use Rattle.std.proofs.Common.{◌≡◌, ℕ, ◌+◌, ◌<◌, List, [], ◌∷◌, ◌++◌, length, take, refl, ap, sym, ◌∙◌, subst, arith, inl, inr, Bool, Option, Some, None, length-append}
use Rattle.std.proofs.Math.Seq.{take-append_seam}
use Rattle.rwsp_text.specs.Lines.{AreFronts}
use Rattle.rwsp_terms.specs.Instance.{Instance, name_of, symbol_of}
use Rattle.rwsp_model.specs.Validity.{KeepsLimits}
use Rattle.refutation_terms.specs.declared.lines.LogKind.{LogKind}
use Rattle.refutation_terms.specs.declared.lines.Line.{Line}
use Rattle.refutation_terms.specs.declared.lines.Turn.{Turn}
use Rattle.refutation_terms.specs.declared.lines.LogKind.TheVariants.{WithoutGoal, WithGoal, WithCells}
use Rattle.refutation_terms.specs.declared.lines.Opening.TheVariants.{Turned}
use Rattle.refutation_terms.specs.declared.lines.LogRefusal.{LogRefusal}
use Rattle.refutation_terms.specs.declared.lines.LogRefusal.TheVariants as Refusals
use Rattle.refutation_terms.specs.Word.{Domains}
use Rattle.refutation_terms.specs.Ranges.{AreRules}
use Rattle.refutation_terms.specs.Tree.{IsTree, after_trees, lines_in, domains_at}
use Rattle.refutation_terms.specs.Log.{Log, Fits, LineFits, OpeningFits}
use Rattle.refutation_terms.specs.LogText.{raw, line_text, log_text, turn_text}
use Rattle.refutation_terms.specs.Verdict.{kind_of_log, Reading, header_lines}
use Rattle.refutation_terms.proofs.LineTables.{fitting_lines_are_spelled}
use Rattle.refutation_terms.proofs.Trees.{tree_is_whole, part_is_not_whole}
use Rattle.refutation_terms.proofs.Fronts.{front_fields, fronts, before_by}
use Rattle.refutation_terms.proofs.Causes.{not_unknown, Reason, OfName, OfIdle, OfLong, OfFail, OfEscape, OfOpen, Level, Nothing, Unknown, Known, level_of, turns_same, no_turn_spelled, TurnReason, NoTurn, NoName, NoDay, NoDemand}
use Rattle.refutation_terms.proofs.OneRefusal.{IsAtEndOrLine, refusals_same, whole_has_none}
use Rattle.refutation_terms.proofs.Unique.{got_seam, version_refutes, rules_refutes, third_is_fine, cause_same}
use Rattle.refutation_log.specs.ReadLog.{IsReadCause, IsReadSoFar, IsRead, ReadCause, IsUnread}
use Rattle.refutation_log.specs.Laws.{UnreadTextsHaveOneCause, TextsOfLogsAreRead}
use Rattle.refutation_log.proofs.LineTexts.{is_writable}
use Rattle.refutation_log.proofs.OneText.{has_names}

-- the line of a turn that fits has none
turn_fine : (P : Instance) (counts : Bool) (R : List ℕ) (t : Turn) (why : LogRefusal) → KeepsLimits P → OpeningFits P (Turned t) → TurnReason P counts R (turn_text (name_of P t.x) t.day) why → IsReadCause why → ⊥
turn_fine P counts R t why limits fits (NoTurn a e) r = no_turn_spelled P counts (turn_text (name_of P t.x) t.day) a (name_of P t.x) t.day ((has_names P limits t.x fits.1).0, fits.0, refl)
turn_fine P counts R t why limits fits (NoName name day a s e) r =
    let n = has_names P limits t.x fits.1 in
    let same = turns_same P (turn_text (name_of P t.x) t.day) name (name_of P t.x) day t.day (is_writable P limits) a (n.0, fits.0, refl) in
    let clash : None ≡ Some t.x = sym s ∙ ap (symbol_of P) same.0 ∙ n.1 in cc
turn_fine P counts R t why limits fits (NoDay name day x k a s l e) r = subst IsReadCause e r
turn_fine P counts R t why limits fits (NoDemand name day x a s d l e) r = subst IsReadCause e r

-- a line that is spelled has none
no_reason : (P : Instance) (goal : Option ℕ) (R : List ℕ) (D : Domains) (n : ℕ) (line : Line) (why : LogRefusal) → Reason P goal R D n line why → IsReadCause why → ⊥
no_reason P goal R D n line why (OfName k a e) r = subst IsReadCause e r
no_reason P goal R D n line why (OfIdle i e) r = subst IsReadCause e r
no_reason P goal R D n line why (OfLong all k a e) r = subst IsReadCause e r
no_reason P goal R D n line why (OfFail all plain not e) r = subst IsReadCause e r
no_reason P goal R D n line why (OfEscape all short u a e) r = subst IsReadCause e r
no_reason P goal R D n line why (OfOpen o e) r = subst IsReadCause e r

level_fine : (P : Instance) (goal : Option ℕ) (counts : Bool) (R : List ℕ) (D : Domains) (n : ℕ) (line : Line) (why : LogRefusal) → KeepsLimits P → LineFits P goal counts line → Level P goal counts R D n (line_text P (raw P goal line)) why → IsReadCause why → ⊥
level_fine P goal counts R D n line why limits fits (Nothing a e) r = let s = fitting_lines_are_spelled P goal counts line (has_names P limits) fits in a s.0 s.1
level_fine P goal counts R D n line why limits fits (Unknown a e) r = not_unknown P goal counts (line_text P (raw P goal line)) line (is_writable P limits) (fitting_lines_are_spelled P goal counts line (has_names P limits) fits) a
level_fine P goal counts R D n line why limits fits (Known other a q) r = no_reason P goal R D n other why q r

line_fine : (P : Instance) (kind : LogKind) (f : Log) (line : Line) (more : List Line) (why : LogRefusal) → KeepsLimits P → IsReadSoFar P (record { named = f.named; opening = f.opening; goal = f.goal; counts = f.counts; lines = f.lines ++ line ∷ more }) → ReadCause P kind (Reading f) (line_text P (raw P f.goal line)) why → ⊥
line_fine P kind f line more why limits h (inl c, r) =
    let short : length f.lines < length (f.lines ++ line ∷ more) = omega (arith, length-append f.lines (line ∷ more)) in
    h.in_tree (length f.lines) short (subst IsTree (sym (take-append_seam f.lines (line ∷ more))) c.0)
line_fine P kind f line more why limits h (inr c, r) =
    let n = header_lines f.opening f.goal f.counts + length f.lines + 1 in
    let D = domains_at P f.opening f.lines (length f.lines) in
    level_fine P f.goal f.counts f.named D n line why limits (h.fits.lines (length f.lines) line (got_seam f.lines more line)) (level_of P f.goal f.counts f.named D n (line_text P (raw P f.goal line)) why c.1) r

read_fronts : (P : Instance) (kind : LogKind) → KeepsLimits P → AreFronts (front_fields P) (IsRead P kind) (ReadCause P kind)
read_fronts P kind limits =
    let w = is_writable P limits in
    let n = has_names P limits in
    fronts P w n kind (IsRead P kind) (λ F h. h.0) are_rules (λ g h. h.1.fits) (ReadCause P kind)
    (λ v why of c. version_refutes kind v why of c.0)
    (λ v R why are c. rules_refutes P R why are c.0)
    (λ g why h has c.
    third_is_fine P kind g.named g.opening g.goal g.counts why w n h.1.fits.opening h.1.fits.goal has
    (λ t is q. turn_fine P g.counts g.named t why limits (subst (OpeningFits P) is h.1.fits.opening) q c.1) c.0)
    (λ f line more why h c. line_fine P kind f line more why limits h.1 c)
    (λ F line why other a b. cause_same P kind F line why other w n a.0 b.0)
  where
    are_rules : (k : LogKind) (c : Bool) (R : List ℕ) → IsRead P kind (before_by k c R) → AreRules P R
    are_rules WithoutGoal c R h = h.1
    are_rules WithGoal c R h = h.1
    are_rules WithCells c R h = h.1

-- a refusal is at the end or at a line
end_or_line : (P : Instance) (kind : LogKind) (text : List ℕ) (why : LogRefusal) → IsUnread P kind text why → IsAtEndOrLine P (IsRead P kind) (ReadCause P kind) text why
end_or_line P kind text Refusals.Ends h = inl (h, refl)
end_or_line P kind text why h = inr h

pub one_cause : UnreadTextsHaveOneCause
one_cause P kind text why other limits a b =
    refusals_same P (IsRead P kind) (ReadCause P kind) (read_fronts P kind limits) text why other (end_or_line P kind text why a) (end_or_line P kind text other b)

-- a whole log that fits is read
whole_read : (P : Instance) (g : Log) → Fits P g → IsTree g.lines → IsReadSoFar P g
whole_read P g fits tree = record {
  fits = fits;
  in_tree = λ k lt t.
      let less : k < length (lines_in tree.0) = subst (λ ls. k < length ls) (sym tree.1) lt in
      let none : after_trees 1 (take k g.lines) ≡ None = ap (λ ls. after_trees 1 (take k ls)) (sym tree.1) ∙ part_is_not_whole tree.0 0 k less in
      let some : after_trees 1 (take k g.lines) ≡ Some [] = ap (after_trees 1) (sym t.1) ∙ tree_is_whole t.0 in
      let clash : None ≡ Some [] = sym none ∙ some in cc;
}

pub texts_read : TextsOfLogsAreRead
texts_read P g why limits fits tree u =
    let kind = kind_of_log g in
    whole_has_none P (IsRead P kind) (ReadCause P kind) (read_fronts P kind limits) (log_text P g) (Reading g) why (refl, whole_read P g fits tree) tree refl (end_or_line P kind (log_text P g) why u)
