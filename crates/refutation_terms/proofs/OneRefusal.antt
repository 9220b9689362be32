-- Fronts that are told apart by their lines leave a text one refusal, and none where it is that of a whole front.
use Rattle.std.proofs.Common.{◌≡◌, ◌⊎◌, List, ℕ, ◌++◌, ap, sym, ◌∙◌, subst, append_assoc, inl, inr}
use Rattle.rwsp_text.specs.Lines.{AreFronts, IsRefusedBehind}
use Rattle.rwsp_text.proofs.LineLaws.{same_lines, whole_not_refused, refused_same}
use Rattle.rwsp_terms.specs.Instance.{Instance}
use Rattle.refutation_terms.specs.declared.lines.LogRefusal.{LogRefusal}
use Rattle.refutation_terms.specs.declared.lines.LogRefusal.TheVariants as Refusals
use Rattle.refutation_terms.specs.Verdict.{Front, front_text, IsWhole, IsRefusedBehindFront, EndsWithFront}
use Rattle.refutation_terms.proofs.Fronts.{front_fields, front_written}

-- a refusal at the end or at a line
abbrev pub IsAtEndOrLine : Instance → (Front → Type 0) → (Front → List ℕ → LogRefusal → Type 0) → List ℕ → LogRefusal → Type 0
IsAtEndOrLine P Good C text why = (EndsWithFront P Good text × (why ≡ Refusals.Ends)) ⊎ IsRefusedBehindFront P Good C text why

module _ (P : Instance) (Good : Front → Type 0) (C : Front → List ℕ → LogRefusal → Type 0) (all : AreFronts (front_fields P) Good C) where
  refused_behind : (text : List ℕ) (why : LogRefusal) → IsRefusedBehindFront P Good C text why → IsRefusedBehind (front_fields P) Good C text why
  refused_behind text why r = record {
    front = r.front;
    line = r.line;
    rest = r.rest;
    good = r.no_cause;
    whole = r.whole ∙ append_assoc (front_text P r.front) r.line r.rest ∙ ap (λ t. t ++ (r.line ++ r.rest)) (front_written P r.front);
    is_line = r.is_line;
    cause = r.cause;
  }

  not_refused : (text : List ℕ) (g : Front) (why : LogRefusal) → Good g → text ≡ front_text P g → IsRefusedBehindFront P Good C text why → ⊥
  not_refused text g why h e r = whole_not_refused (front_fields P) Good C all text g why h (e ∙ front_written P g) (refused_behind text why r)

  pub refusals_same : (text : List ℕ) (why other : LogRefusal) → IsAtEndOrLine P Good C text why → IsAtEndOrLine P Good C text other → why ≡ other
  refusals_same text why other (inl a) (inl b) = a.1 ∙ sym b.1
  refusals_same text why other (inl a) (inr b) = absurd (not_refused text a.0.front other a.0.no_cause a.0.whole b)
  refusals_same text why other (inr a) (inl b) = absurd (not_refused text b.0.front why b.0.no_cause b.0.whole a)
  refusals_same text why other (inr a) (inr b) = refused_same (front_fields P) Good C all text why other (refused_behind text why a) (refused_behind text other b)

  pub whole_has_none : (text : List ℕ) (g : Front) (why : LogRefusal) → Good g → IsWhole g → text ≡ front_text P g → IsAtEndOrLine P Good C text why → ⊥
  whole_has_none text g why good is_whole e (inl b) =
      let one : front_fields P g ≡ front_fields P b.0.front =
      same_lines (front_fields P g) (front_fields P b.0.front) (all.written g good) (all.written b.0.front b.0.no_cause) (sym (front_written P g) ∙ sym e ∙ b.0.whole ∙ front_written P b.0.front) in
      b.0.not_whole (subst IsWhole (sym (all.same b.0.front g b.0.no_cause good one)) is_whole)
  whole_has_none text g why good is_whole e (inr b) = not_refused text g why good e b
