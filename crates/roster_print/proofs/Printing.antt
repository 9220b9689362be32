-- What printing appends, step by step.
use Rattle.std.proofs.Common.{◌≡◌, ℕ, suc, ◌+◌, ◌-◌, ◌*◌, ◌<◌, ◌≤◌, List, [], ◌∷◌, ◌++◌, length, get_or, take, drop, ap, sym, ◌∙◌, arith, append_assoc, false}
use Rattle.std.specs.Prelude.{map, All, slice_range, ◌==◌}
use Rattle.std.specs.List.{flat_map, range_with_len, join_with_byte}
use Rattle.std.proofs.lemmas.List.{take_more, flat_map_more, take_all}
use Rattle.std.proofs.lemmas.List.Elements.{All-take, All-drop}
use Rattle.std.proofs.lemmas.List.Folds.{flat_map-map}
use Rattle.rwsp_text.proofs.JoinedWords.{join_spaced}
use Rattle.rwsp_terms.specs.Instance.{Instance, name_of, IsSymbol, off_symbol}
use Rattle.rwsp_terms.specs.declared.data.Symbol.{Symbol}
use Rattle.rwsp_terms.proofs.Counting.{range_more}
use Rattle.roster_print.specs.RosterText.{week_at, week_text}

-- one symbol more of those that were appended after blanks: a blank, and then the name
pub name_more : (P : Instance) (symbols : List Symbol) (i : ℕ) (old out blank name new : List ℕ) → i < length symbols → out ≡ old ++ flat_map (λ x. 32 ∷ name_of P x) (take i symbols) → blank ≡ out ++ 32 ∷ [] → name ≡ name_of P (get_or symbols i off_symbol) → new ≡ blank ++ name → new ≡ old ++ flat_map (λ x. 32 ∷ name_of P x) (take (i + 1) symbols)
name_more P symbols i old out blank name new h e pushed named step =
    let x = get_or symbols i off_symbol in
    step
    ∙ ap (λ n. blank ++ n) named
    ∙ ap (λ t. t ++ name_of P x) pushed
    ∙ append_assoc out (32 ∷ []) (name_of P x)
    ∙ ap (λ t. t ++ (32 ∷ name_of P x)) e
    ∙ flat_map_more (λ x. 32 ∷ name_of P x) old (take i symbols) x
    ∙ ap (λ t. old ++ flat_map (λ x. 32 ∷ name_of P x) t) (sym (take_more symbols i off_symbol h))

pub names_done : (P : Instance) (symbols : List Symbol) (i : ℕ) (old out : List ℕ) → length symbols ≤ i → out ≡ old ++ flat_map (λ x. 32 ∷ name_of P x) (take i symbols) → out ≡ old ++ flat_map (λ x. 32 ∷ name_of P x) symbols
names_done P symbols i old out h e = e ∙ ap (λ t. old ++ flat_map (λ x. 32 ∷ name_of P x) t) (take_all i symbols h)

-- names with blanks between them: the first, and each other after a blank
join_blanks : (P : Instance) (x : Symbol) (rest : List Symbol) → join_with_byte 32 (map (name_of P) (x ∷ rest)) ≡ name_of P x ++ flat_map (λ y. 32 ∷ name_of P y) rest
join_blanks P x rest = join_spaced (name_of P x) (map (name_of P) rest) ∙ ap (λ t. name_of P x ++ t) (flat_map-map (λ v. 32 ∷ v) (name_of P) rest)

pub join_from : (P : Instance) (week : List Symbol) (old mid new : List ℕ) → (length week == 0) ≡ false → mid ≡ old ++ name_of P (get_or week 0 off_symbol) → new ≡ mid ++ flat_map (λ x. 32 ∷ name_of P x) (take (length week - 1) (drop 1 week)) → new ≡ old ++ join_with_byte 32 (map (name_of P) week)
join_from P [] old mid new h e f = absurd (cc)
join_from P (x ∷ rest) old mid new h e f =
    let all : take (suc (length rest) - 1) rest ≡ rest = take_all (suc (length rest) - 1) rest (omega arith) in
    f
    ∙ ap (λ w. mid ++ flat_map (λ y. 32 ∷ name_of P y) w) all
    ∙ ap (λ t. t ++ flat_map (λ y. 32 ∷ name_of P y) rest) e
    ∙ append_assoc old (name_of P x) (flat_map (λ y. 32 ∷ name_of P y) rest)
    ∙ ap (λ t. old ++ t) (sym (join_blanks P x rest))

-- one week more
pub week_more : (f : ℕ → List ℕ) (n : ℕ) (out : List ℕ) → out ≡ flat_map f (range_with_len 0 n) → out ++ f n ≡ flat_map f (range_with_len 0 (n + 1))
week_more f n out e =
    let last : 0 + n ≡ n = omega arith in
    ap (λ t. t ++ f n) e
    ∙ flat_map_more f [] (range_with_len 0 n) n
    ∙ ap (λ k. flat_map f (range_with_len 0 n ++ k ∷ [])) (sym last)
    ∙ ap (flat_map f) (sym (range_more 0 n))

pub week_symbols : (P : Instance) (s : List Symbol) (a b : ℕ) → All (IsSymbol P) s → All (IsSymbol P) (slice_range s a b)
week_symbols P s a b h = All-take (IsSymbol P) (b - a) (drop a s) (All-drop (IsSymbol P) a s h)

-- one week more of a roster
pub print_more : (P : Instance) (s : List Symbol) (k days : ℕ) (out new : List ℕ) → days ≡ P.days → out ≡ flat_map (λ i. week_text P (week_at P s i)) (range_with_len 0 k) → new ≡ out ++ week_text P (slice_range s (k * days) (k * days + days)) → new ≡ flat_map (λ i. week_text P (week_at P s i)) (range_with_len 0 (k + 1))
print_more P s k days out new e inv step =
    let long : k * days + days - k * days ≡ P.days = omega (arith, e) in
    let cut : slice_range s (k * days) (k * days + days) ≡ week_at P s k = ap (λ n. take n (drop (k * days) s)) long ∙ ap (λ n. take P.days (drop (k * n) s)) e in
    step ∙ ap (λ w. out ++ week_text P w) cut ∙ week_more (λ i. week_text P (week_at P s i)) k out inv
