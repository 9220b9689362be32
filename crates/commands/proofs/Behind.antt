-- A text behind the program's name, byte by byte.
use Rattle.std.proofs.Common.{◌≡◌, ℕ, ◌+◌, ◌<◌, ◌≤◌, ◌==◌, Bool, List, [], ◌∷◌, ◌++◌, length, drop, get_or, append_assoc, append-nil, ap, sym, ◌∙◌}
use Rattle.std.proofs.lemmas.List.{drop_more, drop_all}
use Rattle.commands.specs.Told.{name_where, behind_from, behind_rwsp}

pub byte_more : (text : List ℕ) (i d : ℕ) (begins : Bool) (out new : List ℕ) → i < length text → new ≡ out ++ (name_where begins ++ get_or text i d ∷ []) → out ++ behind_from begins (drop i text) ≡ behind_rwsp text → new ++ behind_from (get_or text i d == 10) (drop (i + 1) text) ≡ behind_rwsp text
unfolding behind_from
byte_more text i d begins out new less put inv =
    let b = get_or text i d in
    let rest = behind_from (b == 10) (drop (i + 1) text) in
    ap (λ o. o ++ rest) put
    ∙ append_assoc out (name_where begins ++ b ∷ []) rest
    ∙ ap (λ o. out ++ o) (append_assoc (name_where begins) (b ∷ []) rest)
    ∙ ap (λ o. out ++ behind_from begins o) (sym (drop_more text i d less))
    ∙ inv

pub bytes_done : (text : List ℕ) (i : ℕ) (begins : Bool) (out : List ℕ) → length text ≤ i → out ++ behind_from begins (drop i text) ≡ behind_rwsp text → out ≡ behind_rwsp text
unfolding behind_from
bytes_done text i begins out past inv = sym (append-nil out) ∙ ap (λ o. out ++ behind_from begins o) (sym (drop_all i text past)) ∙ inv
