-- The lines of all outcomes.
use Rattle.std.proofs.Common.{◌≡◌, ℕ, zero, suc, ◌+◌, ◌<◌, List, [], ◌∷◌, ◌++◌, length, get_or, ap, sym, ◌∙◌, arith}
use Rattle.std.specs.Prelude.{take}
use Rattle.std.proofs.lemmas.List.{append_assoc, append-nil}
use Rattle.rwsp_terms.specs.Instance.{Instance}
use Rattle.ways_out.specs.declared.change.Change.{Change}
use Rattle.ways_out.specs.declared.change.Outcome.{Outcome}
use Rattle.ways_out.specs.Texts.{outcome_text, outcomes_text}

-- one line more
pub line_more : (P : Instance) (cs : List Change) (os : List Outcome) (n : ℕ) (c : Change) (o : Outcome) → n < length cs → n < length os → outcomes_text P (take (n + 1) cs) (take (n + 1) os) ≡ outcomes_text P (take n cs) (take n os) ++ outcome_text P (get_or cs n c) (get_or os n o)
line_more P [] os n c o in_cs in_os = absurd (omega (arith, in_cs))
line_more P (d ∷ cs) [] n c o in_cs in_os = absurd (omega (arith, in_os))
line_more P (d ∷ cs) (p ∷ os) zero c o in_cs in_os = append-nil (outcome_text P d p)
line_more P (d ∷ cs) (p ∷ os) (suc n) c o in_cs in_os =
    let next : suc n + 1 ≡ suc (n + 1) = omega arith in
    ap (λ (k : ℕ). outcomes_text P (take k (d ∷ cs)) (take k (p ∷ os))) next
    ∙ ap (λ t. outcome_text P d p ++ t) (line_more P cs os n c o (omega (arith, in_cs)) (omega (arith, in_os)))
    ∙ sym (append_assoc (outcome_text P d p) (outcomes_text P (take n cs) (take n os)) (outcome_text P (get_or cs n c) (get_or os n o)))
