-- What any two answers to the ways out of a problem have in common.
use Rattle.std.proofs.Common.{◌≡◌, ℕ, ◌<◌, List, [], ◌∷◌, true, false, refl, ap, ◌∙◌, arith}
use Rattle.std.specs.List.{AllZip, list_all}
use Rattle.std.proofs.lemmas.Bool.{and_parts}
use Rattle.rwsp_terms.specs.Instance.{Instance}
use Rattle.roster_planner.specs.declared.effort.Effort.{Effort}
use Rattle.ways_out.specs.declared.change.Change.{Change}
use Rattle.ways_out.specs.declared.change.Outcome.{Outcome}
use Rattle.ways_out.specs.declared.change.Outcome.TheVariants.{Helps, Shut, Open}
use Rattle.ways_out.specs.declared.answer.WaysOut.TheVariants.{NoNeed, Undecided, Changes}
use Rattle.ways_out.specs.Helping.{IsOutcome}
use Rattle.ways_out.specs.Changes.{changes}
use Rattle.ways_out.specs.Answers.{is_decided}
use Rattle.ways_out.specs.Agreement.{AllWaysAgree}

same_steps : (P : Instance) (effort other : Effort) (change : Change) (m n : ℕ) → IsOutcome P effort change (Helps m true) → IsOutcome P other change (Helps n true) → m ≡ n
same_steps P effort other change m n h k =
    let low : m < n → ⊥ = λ less. k.nearest m h.step less h.roster.0 h.roster.1 in
    let high : n < m → ⊥ = λ less. h.nearest n k.step less k.roster.0 k.roster.1 in
    omega (arith, low, high)

one_outcome : (P : Instance) (effort other : Effort) (change : Change) (a b : Outcome) → IsOutcome P effort change a → IsOutcome P other change b → is_decided a ≡ true → is_decided b ≡ true → a ≡ b
one_outcome P effort other change (Helps m true) (Helps n true) h k d e = ap (λ (i : ℕ). Helps i true) (same_steps P effort other change m n h k)
one_outcome P effort other change (Helps m true) Shut h k d e = absurd (k m h.step h.roster.0 h.roster.1)
one_outcome P effort other change Shut (Helps n true) h k d e = absurd (h n k.step k.roster.0 k.roster.1)
one_outcome P effort other change Shut Shut h k d e = refl
one_outcome P effort other change (Helps m false) b h k d e = absurd (cc)
one_outcome P effort other change a (Helps n false) h k d e = absurd (cc)
one_outcome P effort other change Open b h k d e = absurd (cc)
one_outcome P effort other change a Open h k d e = absurd (cc)

one_list : (P : Instance) (effort other : Effort) (cs : List Change) (xs ys : List Outcome) → AllZip (IsOutcome P effort) cs xs → AllZip (IsOutcome P other) cs ys → list_all is_decided xs ≡ true → list_all is_decided ys ≡ true → xs ≡ ys
one_list P effort other [] [] [] h k d e = refl
one_list P effort other [] (a ∷ xs) ys h k d e = absurd h
one_list P effort other [] [] (b ∷ ys) h k d e = absurd k
one_list P effort other (c ∷ cs) [] ys h k d e = absurd h
one_list P effort other (c ∷ cs) (a ∷ xs) [] h k d e = absurd k
one_list P effort other (c ∷ cs) (a ∷ xs) (b ∷ ys) h k d e =
    let of_a = and_parts (is_decided a) (list_all is_decided xs) d in
    let of_b = and_parts (is_decided b) (list_all is_decided ys) e in
    ap (λ (o : Outcome). o ∷ xs) (one_outcome P effort other c a b h.0 k.0 of_a.0 of_b.0)
    ∙ ap (λ (os : List Outcome). b ∷ os) (one_list P effort other cs xs ys h.1 k.1 of_a.1 of_b.1)

pub ways_agree : AllWaysAgree
ways_agree P effort other (NoNeed s) (NoNeed t) h k = tt
ways_agree P effort other (NoNeed s) (Undecided g) h k = tt
ways_agree P effort other (NoNeed s) (Changes ys) h k = k.0 s.cells h.1
ways_agree P effort other (Changes xs) (NoNeed t) h k = h.0 t.cells k.1
ways_agree P effort other (Changes xs) (Undecided g) h k = tt
ways_agree P effort other (Changes xs) (Changes ys) h k = λ d e. one_list P effort other (changes P) xs.items ys.items h.1 k.1 d e
ways_agree P effort other (Undecided g) b h k = tt
