-- A sentence byte by byte.
use Rattle.std.proofs.Common.{◌≡◌, ℕ, ◌+◌, ◌<◌, ◌≤◌, List, [], ◌∷◌, ◌++◌, length, get_or, drop, cond, Bool, true, false, refl, ap, sym, ◌∙◌, append_assoc}
use Rattle.std.specs.Prelude.{◌==◌}
use Rattle.std.proofs.lemmas.Bool.{eqb-true}
use Rattle.std.proofs.lemmas.List.{append-nil, drop_more, drop_all}
use Rattle.rwsp_terms.specs.Instance.{Instance}
use Rattle.plain_words.specs.declared.part.Part.{Part}
use Rattle.plain_words.specs.Filled.{part_words, filled}
use Rattle.plain_words.specs.declared.pieces.TheConstants.{HOLE}

-- a hole in front, and a byte that is none or for which no part is left
part_here : (P : Instance) (rest : List ℕ) (p : Part) (ps : List Part) (out : List ℕ) → (out ++ part_words P p) ++ filled P rest ps ≡ out ++ filled P (HOLE ∷ rest) (p ∷ ps)
unfolding filled
part_here P rest p ps out = append_assoc out (part_words P p) (filled P rest ps)

byte_by : (P : Instance) (b : ℕ) (rest : List ℕ) (ps : List Part) (is_hole : Bool) → (b == HOLE) ≡ is_hole → (b ≡ HOLE → ps ≡ []) → b ∷ filled P rest ps ≡ filled P (b ∷ rest) ps
unfolding filled
byte_by P b rest [] is_hole is none = refl
byte_by P b rest (p ∷ ps) true is none = absurd (let e : p ∷ ps ≡ [] = none (eqb-true b HOLE is) in cc)
byte_by P b rest (p ∷ ps) false is none = ap (λ c. cond c (part_words P p ++ filled P rest ps) (b ∷ filled P rest (p ∷ ps))) (sym is)

-- what is written, with what the rest of the text and of the parts will add
pub next_part : (P : Instance) (text : List ℕ) (parts : List Part) (i k e : ℕ) (d : Part) (old out : List ℕ) → i < length text → k < length parts → get_or text i e ≡ HOLE
    → out ++ filled P (drop i text) (drop k parts) ≡ old → (out ++ part_words P (get_or parts k d)) ++ filled P (drop (i + 1) text) (drop (k + 1) parts) ≡ old
next_part P text parts i k e d old out less some hole before =
    part_here P (drop (i + 1) text) (get_or parts k d) (drop (k + 1) parts) out
    ∙ ap (λ (bs : List ℕ). out ++ filled P bs (get_or parts k d ∷ drop (k + 1) parts)) (sym (drop_more text i e less ∙ ap (λ (b : ℕ). b ∷ drop (i + 1) text) hole))
    ∙ ap (λ (ps : List Part). out ++ filled P (drop i text) ps) (sym (drop_more parts k d some))
    ∙ before

pub next_byte : (P : Instance) (text : List ℕ) (parts : List Part) (i k e : ℕ) (old out : List ℕ) → i < length text → (get_or text i e ≡ HOLE → length parts ≤ k)
    → out ++ filled P (drop i text) (drop k parts) ≡ old → (out ++ get_or text i e ∷ []) ++ filled P (drop (i + 1) text) (drop k parts) ≡ old
next_byte P text parts i k e old out less none before =
    let b = get_or text i e in
    append_assoc out (b ∷ []) (filled P (drop (i + 1) text) (drop k parts))
    ∙ ap (λ t. out ++ t) (byte_by P b (drop (i + 1) text) (drop k parts) (b == HOLE) refl (λ hole. drop_all k parts (none hole)))
    ∙ ap (λ (bs : List ℕ). out ++ filled P bs (drop k parts)) (sym (drop_more text i e less))
    ∙ before

-- nothing is left
pub all_filled : (P : Instance) (text : List ℕ) (parts : List Part) (i k : ℕ) (old out : List ℕ) → length text ≤ i → out ++ filled P (drop i text) (drop k parts) ≡ old → out ≡ old
unfolding filled
all_filled P text parts i k old out past before =
    sym (append-nil out) ∙ ap (λ (bs : List ℕ). out ++ filled P bs (drop k parts)) (sym (drop_all i text past)) ∙ before
