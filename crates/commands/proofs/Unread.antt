-- What passes is read.
use Rattle.std.proofs.Common.{ℕ, List, subst, sym}
use Rattle.rwsp_terms.specs.Instance.{Instance}
use Rattle.rwsp_model.specs.Validity.{KeepsLimits}
use Rattle.refutation_terms.specs.declared.lines.LogKind.{LogKind}
use Rattle.refutation_terms.specs.declared.lines.LogRefusal.{LogRefusal}
use Rattle.refutation_terms.specs.Log.{Log}
use Rattle.refutation_terms.specs.Verdict.{kind_of_log, IsAccepted}
use Rattle.refutation_log.specs.ReadLog.{IsUnread}
use Rattle.refutation_log.proofs.OneCause.{texts_read}

pub passes_and_is_unread : (P : Instance) (kind : LogKind) (bytes : List ℕ) (g : Log) (why : LogRefusal) → KeepsLimits P → IsAccepted P kind bytes g → IsUnread P kind bytes why → ⊥
passes_and_is_unread P kind bytes g why limits a u =
    let as_its_own : IsUnread P (kind_of_log g) bytes why = subst (λ (k : LogKind). IsUnread P k bytes why) (sym a.of_kind) u in
    texts_read P g why limits a.passes.grounded.fits a.passes.tree (subst (λ (text : List ℕ). IsUnread P (kind_of_log g) text why) a.is_text as_its_own)
