-- The first line of a text, by where its first LF is.
use Rattle.std.proofs.Common.{◌≡◌, ◌≢◌, ℕ, ◌+◌, ◌<◌, ◌≤◌, List, [], ◌∷◌, ◌++◌, length, take, drop, get_or, ap, sym, ◌∙◌, subst, arith, inl, inr}
use Rattle.std.proofs.lemmas.List.{take_more, take_all, drop_all, get_or-take, length-take-le}
use Rattle.std.proofs.lemmas.List.Elements.{All-from_get_or}
use Rattle.rwsp_text.specs.Lines.{HasNoFeed, IsNextLine}

no_feed : (bytes : List ℕ) (i : ℕ) → i ≤ length bytes → ((k : ℕ) → k < i → get_or bytes k 0 ≡ 10 → ⊥) → HasNoFeed (take i bytes)
no_feed bytes i within before =
    All-from_get_or (λ b. b ≢ 10) (take i bytes) 0
    (λ k less. let lt : k < i = omega (arith, less, length-take-le i bytes within) in
    λ e. before k lt (sym (get_or-take i bytes k 0 lt) ∙ e))

pub line_found : (bytes : List ℕ) (i : ℕ) → i < length bytes → ((k : ℕ) → k < i → get_or bytes k 0 ≡ 10 → ⊥) → get_or bytes i 0 ≡ 10 → IsNextLine (take (i + 1) bytes) (drop (i + 1) bytes)
line_found bytes i less before here =
    inl (take i bytes, no_feed bytes i (omega (arith, less)) before, take_more bytes i 0 less ∙ ap (λ b. take i bytes ++ b ∷ []) here)

some_bytes : (bytes : List ℕ) → 0 < length bytes → bytes ≢ []
some_bytes [] h = λ e. omega (arith, h)
some_bytes (b ∷ bytes) h = λ e. cc

pub line_last : (bytes : List ℕ) (n : ℕ) → 0 < length bytes → length bytes ≤ n → ((k : ℕ) → k < length bytes → get_or bytes k 0 ≡ 10 → ⊥) → IsNextLine (take n bytes) (drop n bytes)
line_last bytes n some all none =
    let e : bytes ≡ take n bytes = sym (take_all n bytes all) in
    inr (subst (λ z. z ≢ []) e (some_bytes bytes some), subst HasNoFeed e (All-from_get_or (λ b. b ≢ 10) bytes 0 none), drop_all n bytes all)
