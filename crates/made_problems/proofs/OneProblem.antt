-- A number and a count of weeks have one problem.
use Rattle.std.proofs.Common.{◌≡◌, ℕ, zero, suc, ◌+◌, ◌-◌, ◌*◌, ◌≤◌, ◌⊎◌, List, [], ◌∷◌, refl, ap, sym, subst, ◌∙◌, inl, inr, ⊎_elim, arith}
use Rattle.rwsp_terms.specs.Instance.{Instance}
use Rattle.made_problems.specs.Draws.{state_after}
use Rattle.made_problems.specs.Stints.{stint_days, drawn_stint}
use Rattle.made_problems.specs.Blocks.{roster_of}
use Rattle.made_problems.specs.Generated.{problem_of, IsGenerated}
use Rattle.made_problems.specs.declared.stint.Stint.{Stint}
use Rattle.made_problems.proofs.Following.{Follow, stints_follow}
use Rattle.made_problems.proofs.Usual.{drawn_leaves, follow_from}

same_stints : (x left : ℕ) (ts us : List Stint) → Follow x left ts → Follow x left us → ts ≡ us
same_stints x left [] [] h k = refl
same_stints x left [] (u ∷ us) h k = let a = k.1 in let b = k.2 in absurd (omega arith)
same_stints x left (t ∷ ts) [] h k = let a = h.1 in let b = h.2 in absurd (omega arith)
same_stints x left (t ∷ ts) (u ∷ us) h k =
    let same : u ≡ t = k.0 ∙ sym h.0 in
    let rest = subst (λ (v : Stint). Follow (state_after x 3) (left - stint_days v) us) same k.3 in
    ap (λ (vs : List Stint). t ∷ vs) (same_stints (state_after x 3) (left - stint_days t) ts us h.3 rest) ∙ ap (λ (v : Stint). v ∷ us) (sym same)

some_stints : (most x left : ℕ) → left ≤ most → (left ≡ 0) ⊎ (6 ≤ left) → (ts : List Stint) × Follow x left ts
some_stints zero x left le fits = ([], omega arith)
some_stints (suc most) x left le fits =
    ⊎_elim
    (λ (none : left ≡ 0). ([], none))
    (λ (six : 6 ≤ left).
    let t = drawn_stint x left in
    let leaves = drawn_leaves x left six in
    let work = leaves.0.0 in
    let within : stint_days t ≤ left = ⊎_elim (λ (all : stint_days t ≡ left). omega arith) (λ (room : 6 + stint_days t ≤ left). omega arith) leaves.1 in
    let rest = some_stints most (state_after x 3) (left - stint_days t) (omega arith) (⊎_elim (λ (all : stint_days t ≡ left). inl (omega arith)) (λ (room : 6 + stint_days t ≤ left). inr (omega arith)) leaves.1) in
    (t ∷ rest.0, (refl, omega arith, within, rest.1)))
    fits

pub one_problem : (number weeks : ℕ) → 1 ≤ weeks → (P : Instance) × IsGenerated number weeks P × ((Q : Instance) → IsGenerated number weeks Q → Q ≡ P)
one_problem number weeks some =
    let days = weeks * 7 in
    let made = some_stints days number days (omega arith) (inr (omega arith)) in (
      problem_of weeks (roster_of made.0),
      (made.0, stints_follow number days made.0 made.1, refl),
      λ Q is. is.2 ∙ ap (λ ts. problem_of weeks (roster_of ts)) (same_stints number days is.0 made.0 (follow_from number days is.0 is.1.whole is.1.each) made.1),
    )

pub same_generated : (number weeks : ℕ) (P Q : Instance) → IsGenerated number weeks P → IsGenerated number weeks Q → P ≡ Q
same_generated number weeks P Q h k =
    let days = weeks * 7 in
    let follow = follow_from number days h.0 h.1.whole h.1.each in
    let other = follow_from number days k.0 k.1.whole k.1.each in
    h.2 ∙ ap (λ ts. problem_of weeks (roster_of ts)) (same_stints number days h.0 k.0 follow other) ∙ sym k.2
