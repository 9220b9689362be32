-- Lines and texts are read back from how they are written.
use Rattle.std.proofs.Common.{◌≡◌, ℕ, suc, ◌+◌, ◌≤◌, ◌==◌, List, [], ◌∷◌, ◌++◌, length, take, Bool, true, false, cond, refl, ap, sym, subst, ◌∙◌, arith}
use Rattle.std.specs.Prelude.{◌≢◌, All, nat_lt, ◌||◌}
use Rattle.std.specs.List.{flat_map}
use Rattle.std.specs.Str.{bytes_eq}
use Rattle.std.proofs.lemmas.Slice.Eq.{bytes_eq-Decides}
use Rattle.std.proofs.lemmas.Bool.{leb-true, le-leb}
use Rattle.crew_calendar.specs.declared.content_lines.TheConstants.{LONGEST_ROW}
use Rattle.crew_calendar.specs.ContentLines.{is_special, escape, escaped, width, has_room, folded_from, content_line, begins_with_fold, unfolded_from, unfolded, unescaped_from, unescaped, HasNoReturn, is_break, RowsFit}
use Rattle.crew_calendar.proofs.Written.{fold-byte, fold-nil}

-- Texts.

special_first : (b : ℕ) (back rest : Bool) → (b == 92) ≡ back → (back || rest) ≡ false → (b == 92) ≡ false
special_first b true rest e h = absurd (cc)
special_first b false rest e h = e

unescape_one : (b : ℕ) (text : List ℕ) (special : Bool) → is_special b ≡ special → unescaped_from false (cond special (92 ∷ b ∷ []) (b ∷ []) ++ text) ≡ b ∷ unescaped_from false text
unfolding unescaped_from
unescape_one b text true is = refl
unescape_one b text false is = ap (λ r. cond r (unescaped_from true text) (b ∷ unescaped_from false text)) (special_first b (b == 92) (b == 44) refl (first_two (b == 92 || b == 44) (b == 59) is))
  where
    first_two : (x y : Bool) → (x || y) ≡ false → x ≡ false
    first_two true y h = absurd (cc)
    first_two false y h = refl

unescape-nil : unescaped_from false [] ≡ []
unfolding unescaped_from
unescape-nil = refl

pub texts_read : (text : List ℕ) → unescaped (escaped text) ≡ text
texts_read [] = unescape-nil
texts_read (b ∷ text) = unescape_one b (flat_map escape text) (is_special b) refl ∙ ap (λ t. b ∷ t) (texts_read text)

-- Lines.

no_fold_by : (b : ℕ) (bytes : List ℕ) (fold : Bool) → bytes_eq (take 3 (b ∷ bytes)) (13 ∷ 10 ∷ 32 ∷ []) ≡ fold → b ≢ 13 → fold ≡ false
no_fold_by b bytes true e apart =
    let same : b ∷ take 2 bytes ≡ 13 ∷ 10 ∷ 32 ∷ [] = (bytes_eq-Decides (take 3 (b ∷ bytes)) (13 ∷ 10 ∷ 32 ∷ [])).0 e in
    let is : b ≡ 13 = cc in
    absurd (apart is)
no_fold_by b bytes false e apart = refl

no_fold : (b : ℕ) (bytes : List ℕ) → b ≢ 13 → begins_with_fold (b ∷ bytes) ≡ false
no_fold b bytes apart = no_fold_by b bytes (begins_with_fold (b ∷ bytes)) refl apart

unfold-byte : (b : ℕ) (bytes : List ℕ) → b ≢ 13 → unfolded_from 0 (b ∷ bytes) ≡ b ∷ unfolded_from 0 bytes
unfolding unfolded_from
unfold-byte b bytes apart = ap (λ r. cond r (unfolded_from 2 bytes) (b ∷ unfolded_from 0 bytes)) (no_fold b bytes apart)

unfold-fold : (bytes : List ℕ) → unfolded_from 0 (13 ∷ 10 ∷ 32 ∷ bytes) ≡ unfolded_from 0 bytes
unfolding unfolded_from
unfold-fold bytes = refl

-- the bytes begin with a blank
abbrev pub begins_blank : List ℕ → Bool
begins_blank [] = false
begins_blank (b ∷ bytes) = b == 32

no_blank_by : (b : ℕ) (bytes : List ℕ) (fold : Bool) → bytes_eq (13 ∷ 10 ∷ b ∷ bytes) (13 ∷ 10 ∷ 32 ∷ []) ≡ fold → (b == 32) ≡ false → fold ≡ false
no_blank_by b bytes true e other =
    let same = (bytes_eq-Decides (13 ∷ 10 ∷ b ∷ bytes) (13 ∷ 10 ∷ 32 ∷ [])).0 e in
    let is : b ≡ 32 = cc in
    let yes : (b == 32) ≡ true = ap (λ z. z == 32) is in
    absurd (cc)
no_blank_by b bytes false e other = refl

-- before what begins with no blank an end of a line stays
unfold-end : (rest : List ℕ) → begins_blank rest ≡ false → unfolded_from 0 (13 ∷ 10 ∷ rest) ≡ 13 ∷ 10 ∷ unfolded_from 0 rest
unfolding unfolded_from
unfold-end [] other = refl
unfold-end (b ∷ rest) other =
    ap (λ r. cond r (unfolded_from 2 (10 ∷ b ∷ rest)) (13 ∷ unfolded_from 0 (10 ∷ b ∷ rest))) (no_blank_by b [] (begins_with_fold (13 ∷ 10 ∷ b ∷ rest)) refl other)
    ∙ ap (λ t. 13 ∷ t) (unfold-byte 10 (b ∷ rest) (λ e. absurd (omega (arith, e))))

byte_read : (column b : ℕ) (line rest : List ℕ) (room : Bool) → b ≢ 13 → ((next : ℕ) → unfolded_from 0 (folded_from next line ++ 13 ∷ 10 ∷ rest) ≡ line ++ 13 ∷ 10 ∷ unfolded_from 0 rest) → unfolded_from 0 (cond room (b ∷ folded_from (column + 1) line) (13 ∷ 10 ∷ 32 ∷ b ∷ folded_from 2 line) ++ 13 ∷ 10 ∷ rest) ≡ b ∷ line ++ 13 ∷ 10 ∷ unfolded_from 0 rest
byte_read column b line rest true apart more = unfold-byte b (folded_from (column + 1) line ++ 13 ∷ 10 ∷ rest) apart ∙ ap (λ t. b ∷ t) (more (column + 1))
byte_read column b line rest false apart more =
    unfold-fold (b ∷ folded_from 2 line ++ 13 ∷ 10 ∷ rest)
    ∙ unfold-byte b (folded_from 2 line ++ 13 ∷ 10 ∷ rest) apart ∙ ap (λ t. b ∷ t) (more 2)

-- a line before what begins with no blank
pub line_read : (line rest : List ℕ) → HasNoReturn line → begins_blank rest ≡ false → (column : ℕ) → unfolded_from 0 (folded_from column line ++ 13 ∷ 10 ∷ rest) ≡ line ++ 13 ∷ 10 ∷ unfolded_from 0 rest
line_read [] rest none other column = ap (λ f. unfolded_from 0 (f ++ 13 ∷ 10 ∷ rest)) (fold-nil column) ∙ unfold-end rest other
line_read (b ∷ line) rest none other column =
    ap (λ f. unfolded_from 0 (f ++ 13 ∷ 10 ∷ rest)) (fold-byte column b line (has_room column b) refl)
    ∙ byte_read column b line rest (has_room column b) (none 0 b (omega arith)) (line_read line rest (λ k d less. none (suc k) d (omega (arith, less))) other)

unfold-nil : unfolded_from 0 [] ≡ []
unfolding unfolded_from
unfold-nil = refl

pub lines_read : (line : List ℕ) → HasNoReturn line → unfolded (content_line line) ≡ line ++ 13 ∷ 10 ∷ []
lines_read line none = line_read line [] none refl 0 ∙ ap (λ t. line ++ 13 ∷ 10 ∷ t) unfold-nil

-- Rows.

widths : (x y z : Bool) → (1 ≤ cond x 1 (cond y 2 (cond z 3 4))) × (cond x 1 (cond y 2 (cond z 3 4)) ≤ 4)
widths true y z = (omega arith, omega arith)
widths false true z = (omega arith, omega arith)
widths false false true = (omega arith, omega arith)
widths false false false = (omega arith, omega arith)

width_some : (b : ℕ) → 1 ≤ width b
width_some b = (widths (nat_lt b 192) (nat_lt b 224) (nat_lt b 240)).0

width_few : (b : ℕ) → width b ≤ 4
width_few b = (widths (nat_lt b 192) (nat_lt b 224) (nat_lt b 240)).1

-- the rows of the rest of a line, from a column on that is no less than the count
RestFits : List ℕ → Type 0
RestFits line = (count column : ℕ) → count ≤ column → column ≤ LONGEST_ROW → RowsFit count (folded_from column line ++ 13 ∷ 10 ∷ [])

next_fits : (line : List ℕ) → RestFits line → (next n : ℕ) (stop : Bool) → next ≤ LONGEST_ROW → n + 1 ≤ next → RowsFit (cond stop 0 (n + 1)) (folded_from next line ++ 13 ∷ 10 ∷ [])
unfolding RestFits
next_fits line rest next n true small less = rest 0 next (omega arith) small
next_fits line rest next n false small less = rest (n + 1) next less small

byte_fits : (count column b : ℕ) (line : List ℕ) (room : Bool) → has_room column b ≡ room → RestFits line → count ≤ column → column ≤ LONGEST_ROW → RowsFit count (cond room (b ∷ folded_from (column + 1) line) (13 ∷ 10 ∷ 32 ∷ b ∷ folded_from 2 line) ++ 13 ∷ 10 ∷ [])
byte_fits count column b line true is rest le fits =
    let room : column + width b ≤ LONGEST_ROW = leb-true (column + width b) LONGEST_ROW is in
    (omega (arith, le, fits), next_fits line rest (column + 1) count (is_break b) (omega (arith, room, width_some b)) (omega (arith, le)))
byte_fits count column b line false is rest le fits =
    (omega (arith, le, fits), (omega arith, (omega arith, (omega arith, next_fits line rest 2 1 (is_break b) (omega arith) (omega arith)))))

rows_fit : (line : List ℕ) → RestFits line
unfolding RestFits
rows_fit [] count column le fits =
    subst (λ f. RowsFit count (f ++ 13 ∷ 10 ∷ [])) (sym (fold-nil column)) (omega (arith, le, fits), (omega arith, omega arith))
rows_fit (b ∷ line) count column le fits =
    subst (λ f. RowsFit count (f ++ 13 ∷ 10 ∷ [])) (sym (fold-byte column b line (has_room column b) refl)) (byte_fits count column b line (has_room column b) refl (rows_fit line) le fits)

pub rows_short : (line : List ℕ) → RowsFit 0 (content_line line)
unfolding RestFits
rows_short line = rows_fit line 0 0 (omega arith) (omega arith)

-- Characters.

-- the bytes behind the first of a character stay in its row
tail_stays : (column : ℕ) (tail line : List ℕ) → All (λ c. nat_lt c 192 ≡ true) tail → column + length tail ≤ LONGEST_ROW → folded_from column (tail ++ line) ≡ tail ++ folded_from (column + length tail) line
tail_stays column [] line small fits = let same : column ≡ column + 0 = omega arith in ap (λ n. folded_from n line) same
tail_stays column (c ∷ tail) line small fits =
    let one : width c ≡ 1 = ap (λ r. cond r 1 (cond (nat_lt c 224) 2 (cond (nat_lt c 240) 3 4))) (small 0 c (omega arith)) in
    let room : has_room column c ≡ true = le-leb (column + width c) LONGEST_ROW (omega (arith, one, fits)) in
    let count : column + 1 + length tail ≡ column + suc (length tail) = omega arith in
    fold-byte column c (tail ++ line) true room
    ∙ ap (λ t. c ∷ t) (tail_stays (column + 1) tail line (λ k d less. small (suc k) d (omega (arith, less))) (omega (arith, fits)))
    ∙ ap (λ n. c ∷ tail ++ folded_from n line) count

whole_in : (column b : ℕ) (tail line : List ℕ) (room : Bool) → has_room column b ≡ room → length tail + 1 ≡ width b → All (λ c. nat_lt c 192 ≡ true) tail → (start : List ℕ) × (next : ℕ) × (folded_from column (b ∷ tail ++ line) ≡ start ++ b ∷ tail ++ folded_from next line)
whole_in column b tail line true is long small =
    let room : column + width b ≤ LONGEST_ROW = leb-true (column + width b) LONGEST_ROW is in
    let fits : column + 1 + length tail ≤ LONGEST_ROW = omega (arith, room, long) in
    ([], column + 1 + length tail, fold-byte column b (tail ++ line) true is ∙ ap (λ t. b ∷ t) (tail_stays (column + 1) tail line small fits))
whole_in column b tail line false is long small =
    let fits : 2 + length tail ≤ LONGEST_ROW = omega (arith, long, width_few b) in
    (13 ∷ 10 ∷ 32 ∷ [], 2 + length tail, fold-byte column b (tail ++ line) false is ∙ ap (λ t. 13 ∷ 10 ∷ 32 ∷ b ∷ t) (tail_stays 2 tail line small fits))

pub characters_whole : (column b : ℕ) (tail line : List ℕ) → length tail + 1 ≡ width b → All (λ c. nat_lt c 192 ≡ true) tail → (start : List ℕ) × (next : ℕ) × (folded_from column (b ∷ tail ++ line) ≡ start ++ b ∷ tail ++ folded_from next line)
characters_whole column b tail line long small = whole_in column b tail line (has_room column b) refl long small
