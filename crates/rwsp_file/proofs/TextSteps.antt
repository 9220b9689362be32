-- Steps of printing a canonical text.
use Rattle.std.proofs.Common.{◌≡◌, ℕ, zero, suc, ◌+◌, ◌-◌, ◌<◌, ◌≤◌, List, [], ◌∷◌, ◌++◌, length, get_or, take, Result, Ok, Err, refl, ap, sym, ◌∙◌, arith, map, append_assoc}
use Rattle.std.specs.Prelude.{slice_get}
use Rattle.std.specs.List.{flat_map, join_with_byte, All}
use Rattle.std.specs.Result.{OnOk}
use Rattle.std.proofs.lemmas.List.{take_more, take_all, map_push, flat_map_more, length-map}
use Rattle.std.proofs.lemmas.List.Elements.{All-get_or}
use Rattle.std.proofs.lemmas.Option.{slice_get-get_or}
use Rattle.rwsp_terms.specs.Instance.{Instance, shift_demand, range_in, no_bounds}
use Rattle.rwsp_terms.specs.declared.data.Bounds.{Bounds}
use Rattle.rwsp_file.specs.Spelling.{FileField, size_lines, frame_lines, shift_fields, sequence_fields}
use Rattle.rwsp_file.specs.Spelling.FileField.{DemandField}
use Rattle.rwsp_file.specs.Text.{line_words, file_line, demand_text, range_at, row_of_demand, problem_text}
use Rattle.std.proofs.lemmas.Grind.{flat_map-append}

-- one more word of a line
joined_push : (words : List (List ℕ)) (word : List ℕ) → 0 < length words → join_with_byte 32 (words ++ word ∷ []) ≡ join_with_byte 32 words ++ 32 ∷ word
joined_push [] word some = absurd (omega (arith, some))
joined_push (v ∷ []) word some = refl
joined_push (v ∷ u ∷ us) word some =
    ap (λ t. v ++ 32 ∷ t) (joined_push (u ∷ us) word (omega arith)) ∙ sym (append_assoc v (32 ∷ join_with_byte 32 (u ∷ us)) (32 ∷ word))

some_front : {X : Type 0} (xs : List X) (i : ℕ) → 0 < i → i < length xs → 0 < length (take i xs)
some_front [] i p q = absurd (omega (arith, q))
some_front (x ∷ xs) zero p q = absurd (omega (arith, p))
some_front (x ∷ xs) (suc i) p q = omega arith

-- one more demand of a row
pub demand_more : (row : List Bounds) (i : ℕ) (start old new : List ℕ) → 0 < i → i < length row → old ≡ start ++ join_with_byte 32 (map demand_text (take i row)) → new ≡ old ++ 32 ∷ demand_text (get_or row i no_bounds) →
    new ≡ start ++ join_with_byte 32 (map demand_text (take (i + 1) row))
demand_more row i start old new some less o n =
    let front : List (List ℕ) = map demand_text (take i row) in
    let more : map demand_text (take (i + 1) row) ≡ map demand_text (take i row) ++ demand_text (get_or row i no_bounds) ∷ [] =
    ap (map demand_text) (take_more row i no_bounds less) ∙ map_push demand_text (take i row) (get_or row i no_bounds) in
    let long : 0 < length (map demand_text (take i row)) = omega (arith, length-map (take i row) demand_text, some_front row i some less) in
    n ∙ ap (λ t. t ++ 32 ∷ demand_text (get_or row i no_bounds)) o
    ∙ append_assoc start (join_with_byte 32 (map demand_text (take i row))) (32 ∷ demand_text (get_or row i no_bounds))
    ∙ ap (λ t. start ++ t) (sym (joined_push (map demand_text (take i row)) (demand_text (get_or row i no_bounds)) long))
    ∙ ap (λ ws. start ++ join_with_byte 32 ws) (sym more)

-- the first demand of a row
pub demand_first : (row : List Bounds) (start new : List ℕ) → 0 < length row → new ≡ start ++ demand_text (get_or row 0 no_bounds) → new ≡ start ++ join_with_byte 32 (map demand_text (take 1 row))
demand_first [] start new some n = absurd (omega (arith, some))
demand_first (b ∷ row) start new some n = n

demand_words : (row : List Bounds) → map demand_text row ≡ line_words (map DemandField row)
demand_words [] = refl
demand_words (b ∷ row) = ap (λ ws. demand_text b ∷ ws) (demand_words row)

-- a row with its line's end
pub demand_line : (row : List Bounds) (i : ℕ) (start old new : List ℕ) → length row ≤ i → old ≡ start ++ join_with_byte 32 (map demand_text (take i row)) → new ≡ old ++ 10 ∷ [] → new ≡ start ++ file_line (map DemandField row)
demand_line row i start old new all o n =
    n ∙ ap (λ t. t ++ 10 ∷ []) (o ∙ ap (λ r. start ++ join_with_byte 32 (map demand_text r)) (take_all i row all)) ∙ append_assoc start (join_with_byte 32 (map demand_text row)) (10 ∷ [])
    ∙ ap (λ ws. start ++ (join_with_byte 32 ws ++ 10 ∷ [])) (demand_words row)

-- what follows from what holds where it went well, holds there too
pub on_ok : {X E : Type 0} (r : Result X E) (P Q : Type 0) → (P → Q) → OnOk r P → OnOk r Q
on_ok (Ok x) P Q f h = f h
on_ok (Err e) P Q f h = tt

-- a row of demands has a demand for each day
pub row_length : (P : Instance) (k : ℕ) → k < length P.demand → All (λ (row : List Bounds). length row ≡ P.days) P.demand → length (row_of_demand P k) ≡ P.days
row_length P k less all = All-get_or (λ (row : List Bounds). length row ≡ P.days) P.demand k [] less all

-- one more line
pub lines_more : {X : Type 0} (g : X → List FileField) (xs : List X) (i : ℕ) (d : X) (start old new : List ℕ) → i < length xs → old ≡ start ++ flat_map file_line (map g (take i xs)) → new ≡ old ++ file_line (g (get_or xs i d)) →
    new ≡ start ++ flat_map file_line (map g (take (i + 1) xs))
lines_more g xs i d start old new less o n =
    n ∙ ap (λ t. t ++ file_line (g (get_or xs i d))) o ∙ flat_map_more file_line start (map g (take i xs)) (g (get_or xs i d))
    ∙ ap (λ ls. start ++ flat_map file_line ls) (sym (ap (map g) (take_more xs i d less) ∙ map_push g (take i xs) (get_or xs i d)))

-- all lines
pub lines_all : {X : Type 0} (g : X → List FileField) (xs : List X) (i : ℕ) (start old : List ℕ) → length xs ≤ i → old ≡ start ++ flat_map file_line (map g (take i xs)) → old ≡ start ++ flat_map file_line (map g xs)
lines_all g xs i start old all o = o ∙ ap (λ ys. start ++ flat_map file_line (map g ys)) (take_all i xs all)

-- what the accessors of a problem give

pub range_there : (P : Instance) (k i : ℕ) → k < length P.demand → shift_demand P (k + 1) (i + 1) ≡ range_at P k i
range_there P k i less =
    let a : k + 1 - 1 ≡ k = omega arith in
    let b : i + 1 - 1 ≡ i = omega arith in
    ap (λ n. range_in (slice_get P.demand n) (i + 1 - 1)) a ∙ ap (λ n. range_in (slice_get P.demand k) n) b ∙ ap (λ o. range_in o i) (slice_get-get_or P.demand k [] less)

-- the parts of a text, one behind another
parts : (A B C D E : List (List FileField)) (a b c d e : List ℕ) → a ≡ flat_map file_line A → b ≡ a ++ flat_map file_line B → c ≡ b ++ flat_map file_line C → d ≡ c ++ flat_map file_line D → e ≡ d ++ flat_map file_line E → e ≡ flat_map file_line (A ++ (B ++ (C ++ (D ++ E))))
parts A B C D E a b c d e ha hb hc hd he = rw (he, hd, hc, hb, ha) (simp (flat_map-append, append_assoc) refl)

pub whole_text : (P : Instance) (a b c d e : List ℕ) → a ≡ flat_map file_line (size_lines P) → b ≡ a ++ flat_map file_line (map (map DemandField) P.demand) → c ≡ b ++ flat_map file_line (map shift_fields P.shifts) →
    d ≡ c ++ flat_map file_line (frame_lines P) → e ≡ d ++ flat_map file_line (map (sequence_fields P) P.sequences) → e ≡ problem_text P
whole_text P = parts (size_lines P) (map (map DemandField) P.demand) (map shift_fields P.shifts) (frame_lines P) (map (sequence_fields P) P.sequences)
