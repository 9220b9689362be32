-- A name, byte by byte.
use Rattle.std.proofs.Common.{◌≡◌, ℕ, zero, suc, ◌+◌, ◌-◌, ◌<◌, ◌≤◌, List, [], ◌∷◌, ◌++◌, length, take, drop, get_or, Bool, true, false, refl, ap, sym, ◌∙◌, arith, append_assoc}
use Rattle.std.specs.Prelude.{slice_range, ◌&&◌, IsUtf8}
use Rattle.std.specs.Str.{is_utf8}
use Rattle.std.proofs.lemmas.List.{append-nil, drop-drop, drop_all, take_all, length-drop}
use Rattle.std.proofs.lemmas.Bool.{le-leb}
use Rattle.std.proofs.lemmas.Str.{IsUtf8-from_is_utf8}
use Rattle.shown_names.specs.ShownNames.{begins_with_text, character_len, first_shown, shown_from}

range-end : (l : List ℕ) (i : ℕ) → slice_range l i (length l) ≡ drop i l
range-end l i = take_all (length l - i) (drop i l) (omega (arith, length-drop i l))

-- one piece more
put_one : (old one rest new : List ℕ) → new ≡ old ++ one → old ++ (one ++ rest) ≡ new ++ rest
put_one old one rest new is = sym (append_assoc old one rest) ∙ ap (λ t. t ++ rest) (sym is)

pub not_text : (bytes : List ℕ) (text : Bool) → is_utf8 bytes ≡ text → (IsUtf8 bytes → ⊥) → false ≡ text
not_text bytes true e none = absurd (none (IsUtf8-from_is_utf8 bytes e))
not_text bytes false e none = refl

pub text_there : (bytes : List ℕ) (n : ℕ) (ok : Bool) → n ≤ length bytes → ok ≡ is_utf8 (take n bytes) → ok ≡ begins_with_text bytes n
text_there bytes n ok le is = is ∙ ap (λ b. b && is_utf8 (take n bytes)) (sym (le-leb n (length bytes) le))

shown-more : (more : ℕ) (l : List ℕ) → 0 < length l → shown_from (suc more) l ≡ get_or l 0 0 ∷ shown_from more (drop 1 l)
unfolding shown_from
shown-more more [] some = absurd (omega (arith, some))
shown-more more (b ∷ l) some = refl

shown-first : (l : List ℕ) → 0 < length l → shown_from 0 l ≡ first_shown (get_or l 0 0) (character_len l) ++ shown_from (character_len l - 1) (drop 1 l)
unfolding shown_from
shown-first [] some = absurd (omega (arith, some))
shown-first (b ∷ l) some = refl

pub goes_on : (old new l : List ℕ) (more : ℕ) → 0 < length l → 0 < more → new ≡ old ++ get_or l 0 0 ∷ [] → old ++ shown_from more l ≡ new ++ shown_from (more - 1) (drop 1 l)
goes_on old new l zero some k put = absurd (omega (arith, k))
goes_on old new l (suc more) some k put =
    let back : suc more - 1 ≡ more = omega arith in
    ap (λ f. old ++ f) (shown-more more l some) ∙ put_one old (get_or l 0 0 ∷ []) (shown_from more (drop 1 l)) new put
    ∙ ap (λ m. new ++ shown_from m (drop 1 l)) (sym back)

pub begins : (old new l : List ℕ) (more len next : ℕ) → 0 < length l → more ≡ 0 → len ≡ character_len l → next ≡ len - 1 → new ≡ old ++ first_shown (get_or l 0 0) len → old ++ shown_from more l ≡ new ++ shown_from next (drop 1 l)
begins old new l more len next some none is then put =
    let after : character_len l - 1 ≡ next = ap (λ n. n - 1) (sym is) ∙ sym then in
    ap (λ m. old ++ shown_from m l) none ∙ ap (λ f. old ++ f) (shown-first l some)
    ∙ put_one old (first_shown (get_or l 0 0) (character_len l)) (shown_from (character_len l - 1) (drop 1 l)) new (put ∙ ap (λ n. old ++ first_shown (get_or l 0 0) n) is)
    ∙ ap (λ m. new ++ shown_from m (drop 1 l)) after

pub shown_step : (old out new name : List ℕ) (more next i n : ℕ) → n ≡ length name → old ++ shown_from 0 name ≡ out ++ shown_from more (drop i name) → out ++ shown_from more (slice_range name i n) ≡ new ++ shown_from next (drop 1 (slice_range name i n)) → old ++ shown_from 0 name ≡ new ++ shown_from next (drop (i + 1) name)
shown_step old out new name more next i n is before step =
    let rest : slice_range name i n ≡ drop i name = ap (slice_range name i) is ∙ range-end name i in
    before ∙ ap (λ t. out ++ shown_from more t) (sym rest) ∙ step
    ∙ ap (λ t. new ++ shown_from next (drop 1 t)) rest
    ∙ ap (λ t. new ++ shown_from next t) (drop-drop 1 i name)

shown-nil : (more : ℕ) → shown_from more [] ≡ []
unfolding shown_from
shown-nil zero = refl
shown-nil (suc more) = refl

pub shown_done : (old out name : List ℕ) (more i : ℕ) → length name ≤ i → old ++ shown_from 0 name ≡ out ++ shown_from more (drop i name) → out ≡ old ++ shown_from 0 name
shown_done old out name more i past is =
    sym (is ∙ ap (λ t. out ++ shown_from more t) (drop_all i name past) ∙ ap (λ t. out ++ t) (shown-nil more) ∙ append-nil out)
