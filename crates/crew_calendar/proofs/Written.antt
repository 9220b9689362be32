-- What is written byte by byte.
use Rattle.std.proofs.Common.{◌≡◌, ℕ, ◌+◌, ◌<◌, ◌≤◌, List, [], ◌∷◌, ◌++◌, length, drop, get_or, Bool, true, false, cond, refl, ap, sym, ◌∙◌, arith, append_assoc}
use Rattle.std.specs.Prelude.{nat_le}
use Rattle.std.specs.List.{flat_map}
use Rattle.std.proofs.Math.Numerals.{add-one}
use Rattle.std.proofs.Math.Seq.{drop-cons}
use Rattle.std.proofs.lemmas.List.{append-nil, drop_all}
use Rattle.std.proofs.lemmas.Bool.{le-leb, leb-true}
use Rattle.crew_calendar.specs.declared.content_lines.TheConstants.{LONGEST_ROW}
use Rattle.crew_calendar.specs.ContentLines.{width, has_room, folded_from}

-- what is behind an index begins with the element there
drop-at : (l : List ℕ) (i : ℕ) → i < length l → drop i l ≡ get_or l i 0 ∷ drop (i + 1) l
drop-at l i less = rw add-one (drop-cons l i 0 less)

-- one piece more
put_one : (old one rest new : List ℕ) → new ≡ old ++ one → old ++ (one ++ rest) ≡ new ++ rest
put_one old one rest new is = sym (append_assoc old one rest) ∙ ap (λ t. t ++ rest) (sym is)

pub byte_more : (f : ℕ → List ℕ) (old out new l : List ℕ) (i : ℕ) → i < length l → old ++ flat_map f l ≡ out ++ flat_map f (drop i l) → new ≡ out ++ f (get_or l i 0) → old ++ flat_map f l ≡ new ++ flat_map f (drop (i + 1) l)
byte_more f old out new l i less before step =
    before ∙ ap (λ t. out ++ flat_map f t) (drop-at l i less) ∙ put_one out (f (get_or l i 0)) (flat_map f (drop (i + 1) l)) new step

pub bytes_done : (f : ℕ → List ℕ) (old out l : List ℕ) (i : ℕ) → length l ≤ i → old ++ flat_map f l ≡ out ++ flat_map f (drop i l) → out ≡ old ++ flat_map f l
bytes_done f old out l i past is = sym (is ∙ ap (λ t. out ++ flat_map f t) (drop_all i l past) ∙ append-nil out)

-- Rows.

pub fold-byte : (column b : ℕ) (line : List ℕ) (room : Bool) → has_room column b ≡ room → folded_from column (b ∷ line) ≡ cond room (b ∷ folded_from (column + 1) line) (13 ∷ 10 ∷ 32 ∷ b ∷ folded_from 2 line)
unfolding folded_from
fold-byte column b line room is = ap (λ r. cond r (b ∷ folded_from (column + 1) line) (13 ∷ 10 ∷ 32 ∷ b ∷ folded_from 2 line)) is

pub fold-nil : (column : ℕ) → folded_from column [] ≡ []
unfolding folded_from
fold-nil column = refl

pub has_more : (column b w : ℕ) → w ≡ width b → column + w ≤ LONGEST_ROW → has_room column b ≡ true
has_more column b w is fits = le-leb (column + width b) LONGEST_ROW (omega (arith, fits, is))

past_row : (n : ℕ) (fits : Bool) → nat_le n LONGEST_ROW ≡ fits → LONGEST_ROW < n → fits ≡ false
past_row n true is past = absurd (let le : n ≤ LONGEST_ROW = leb-true n LONGEST_ROW is in omega (arith, le, past))
past_row n false is past = refl

pub put_in_full : (old new : List ℕ) (column b w : ℕ) → w ≡ width b → column + w ≤ LONGEST_ROW → new ≡ old ++ b ∷ [] → (line : List ℕ) → old ++ folded_from column (b ∷ line) ≡ new ++ folded_from (column + 1) line
put_in_full old new column b w is fits put line =
    ap (λ f. old ++ f) (fold-byte column b line true (has_more column b w is fits))
    ∙ put_one old (b ∷ []) (folded_from (column + 1) line) new put

pub put_in_new : (old mid new : List ℕ) (column b w : ℕ) → w ≡ width b → LONGEST_ROW < column + w → mid ≡ old ++ 13 ∷ 10 ∷ 32 ∷ [] → new ≡ mid ++ b ∷ [] → (line : List ℕ) → old ++ folded_from column (b ∷ line) ≡ new ++ folded_from 2 line
put_in_new old mid new column b w is past first second line =
    ap (λ f. old ++ f) (fold-byte column b line false (past_row (column + width b) (has_room column b) refl (omega (arith, past, is))))
    ∙ put_one old (13 ∷ 10 ∷ 32 ∷ []) (b ∷ folded_from 2 line) mid first
    ∙ put_one mid (b ∷ []) (folded_from 2 line) new second

pub row_more : (old out new line : List ℕ) (column next i : ℕ) → i < length line → old ++ folded_from 0 line ≡ out ++ folded_from column (drop i line) → ((rest : List ℕ) → out ++ folded_from column (get_or line i 0 ∷ rest) ≡ new ++ folded_from next rest) → old ++ folded_from 0 line ≡ new ++ folded_from next (drop (i + 1) line)
row_more old out new line column next i less before step =
    before ∙ ap (λ t. out ++ folded_from column t) (drop-at line i less) ∙ step (drop (i + 1) line)

pub rows_done : (old out new line : List ℕ) (column i : ℕ) → length line ≤ i → old ++ folded_from 0 line ≡ out ++ folded_from column (drop i line) → new ≡ out ++ 13 ∷ 10 ∷ [] → new ≡ old ++ (folded_from 0 line ++ 13 ∷ 10 ∷ [])
rows_done old out new line column i past is end =
    let all : old ++ folded_from 0 line ≡ out = is ∙ ap (λ t. out ++ folded_from column t) (drop_all i line past) ∙ ap (λ t. out ++ t) (fold-nil column) ∙ append-nil out in
    end ∙ ap (λ t. t ++ 13 ∷ 10 ∷ []) (sym all) ∙ append_assoc old (folded_from 0 line) (13 ∷ 10 ∷ [])
