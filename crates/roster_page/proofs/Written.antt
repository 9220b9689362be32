-- A name, byte by byte.
use Rattle.std.proofs.Common.{◌≡◌, ℕ, zero, suc, ◌≤◌, List, [], ◌++◌, length, drop, refl, ap, sym, ◌∙◌}
use Rattle.std.proofs.lemmas.List.{append-nil, drop_all}
use Rattle.roster_page.specs.Escaped.{escaped_within}

none_left : (within : ℕ) → escaped_within within [] ≡ []
none_left zero = refl
none_left (suc k) = refl

-- the end of a name
pub all_put : (name : List ℕ) (i within : ℕ) (old out : List ℕ) → length name ≤ i → out ++ escaped_within within (drop i name) ≡ old ++ escaped_within 0 name → out ≡ old ++ escaped_within 0 name
all_put name i within old out all h =
    sym (append-nil out)
    ∙ ap (λ t. out ++ t) (sym (ap (escaped_within within) (drop_all i name all) ∙ none_left within))
    ∙ h
