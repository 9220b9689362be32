-- A text begins with one header.
use Rattle.std.proofs.Common.{◌≡◌, ℕ, List, [], ◌++◌, refl, ap, sym, ◌∙◌, append-nil, inl, inr, Bool, Option}
use Rattle.rwsp_text.specs.Lines.{text_of_lines}
use Rattle.rwsp_text.proofs.LineLaws.{Longer, one_is_longer}
use Rattle.rwsp_terms.specs.Instance.{Instance}
use Rattle.rwsp_model.specs.Validity.{KeepsLimits}
use Rattle.refutation_terms.specs.declared.lines.LogKind.{LogKind}
use Rattle.refutation_terms.specs.declared.lines.Opening.{Opening}
use Rattle.refutation_terms.specs.Log.{Log, Fits}
use Rattle.refutation_terms.specs.LogText.{header_text}
use Rattle.refutation_terms.specs.Verdict.{kind_by}
use Rattle.refutation_terms.proofs.Texts.{lines_fields, log_fields, log_written, log_words}
use Rattle.refutation_terms.proofs.Fronts.{goes_on}
use Rattle.refutation_log.specs.ReadLog.{HasLogsOf, log_with}
use Rattle.refutation_log.specs.Headers.{BeginsWithHeader}
use Rattle.refutation_log.specs.Laws.{TextsHaveOneHeader}
use Rattle.refutation_log.proofs.LineTexts.{is_writable}
use Rattle.refutation_log.proofs.OneText.{has_names}
use Rattle.refutation_log.proofs.HeaderLines.{goal_fits}

-- the header of a log without lines
fits : (P : Instance) (kind : LogKind) (text R : List ℕ) (o : Opening) (goal : Option ℕ) (counts : Bool) (body : List ℕ) → HasLogsOf P kind → BeginsWithHeader P kind text R o goal counts body → Fits P (log_with R o goal counts [])
fits P kind text R o goal counts body has h = record {
  named = h.rules;
  opening = h.fits;
  goal = goal_fits P kind o goal has h.of_kind h.in_range;
  counts = h.may_count;
  lines = λ k line e. absurd (cc);
}

written : (P : Instance) (kind : LogKind) (text R : List ℕ) (o : Opening) (goal : Option ℕ) (counts : Bool) (body : List ℕ) → BeginsWithHeader P kind text R o goal counts body → text ≡ text_of_lines (log_fields P (log_with R o goal counts [])) ++ body
written P kind text R o goal counts body h =
    let g = log_with R o goal counts [] in
    h.whole ∙ ap (λ t. t ++ body) (sym (append-nil (header_text P R o goal counts)) ∙ log_written P g)

-- a log without lines that goes on where another without lines ends is that
abbrev IsOne : Log → Log → List ℕ → List ℕ → Type 0
IsOne g h body rest = (h ≡ g) × (body ≡ rest)

on_is_one : (P : Instance) (g h : Log) (body rest : List ℕ) → KeepsLimits P → g.lines ≡ [] → h.lines ≡ [] → Fits P g → Fits P h → Longer (log_fields P g) body (log_fields P h) rest → IsOne g h body rest
on_is_one P g h body rest limits none nor a b longer =
    let s = goes_on P g h longer.0 (is_writable P limits) (has_names P limits) a b longer.1 in
    let lines : [] ≡ s.more = sym nor ∙ ap (λ (l : Log). l.lines) s.longer ∙ ap (λ ls. ls ++ s.more) none in
    let nothing : [] ≡ longer.0 = ap (lines_fields P g.goal) lines ∙ sym s.written in (
      s.longer ∙ ap (λ ls. log_with g.named g.opening g.goal g.counts (g.lines ++ ls)) (sym lines) ∙ ap (log_with g.named g.opening g.goal g.counts) (append-nil g.lines),
      longer.2 ∙ ap (λ zs. text_of_lines zs ++ rest) (sym nothing),
    )

pub one_header : TextsHaveOneHeader
one_header P kind other text R Q o p goal aim counts may body rest limits has some a b =
    let g = log_with R o goal counts [] in
    let h = log_with Q p aim may [] in
    let fits_g = fits P kind text R o goal counts body has a in
    let fits_h = fits P other text Q p aim may rest some b in
    let w = is_writable P limits in
    let n = has_names P limits in
    let same : IsOne g h body rest =
    elim (one_is_longer (log_fields P g) (log_fields P h) body rest (log_words P g w n fits_g) (log_words P h w n fits_h)
    (sym (written P kind text R o goal counts body a) ∙ written P other text Q p aim may rest b)) [
      | inl longer ↦ on_is_one P g h body rest limits refl refl fits_g fits_h longer
      | inr longer ↦ (let back = on_is_one P h g rest body limits refl refl fits_h fits_g longer in (sym back.0, sym back.1))
    ] in
    let logs : g ≡ h = sym same.0 in (
      sym a.of_kind ∙ ap (λ (l : Log). kind_by l.opening l.goal) logs ∙ b.of_kind,
      ap (λ (l : Log). l.named) logs,
      ap (λ (l : Log). l.opening) logs,
      ap (λ (l : Log). l.goal) logs,
      ap (λ (l : Log). l.counts) logs,
      same.1,
    )
