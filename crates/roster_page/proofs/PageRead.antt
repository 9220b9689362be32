-- The weeks of a page are read back from its text.
use Rattle.std.proofs.Common.{◌≡◌, ℕ, zero, suc, ◌+◌, ◌*◌, ◌^◌, ◌<◌, List, [], ◌∷◌, ◌++◌, map, codes, Bool, true, false, Option, Some, refl, ap, sym, ◌∙◌, arith, append_assoc}
use Rattle.std.specs.Prelude.{All, ◌==◌, if◌then◌else◌}
use Rattle.std.specs.List.{flat_map, range_with_len}
use Rattle.std.specs.Fmt.{decimal}
use Rattle.std.proofs.lemmas.List.{append-nil}
use Rattle.std.proofs.lemmas.List.Elements.{All-take, All-drop}
use Rattle.rwsp_text.specs.Numbers.{number_of}
use Rattle.rwsp_text.proofs.Printed.{printed_is_read}
use Rattle.rwsp_terms.specs.Instance.{Instance, IsSymbol, name_of, symbol_of}
use Rattle.rwsp_terms.specs.Roster.{IsRoster}
use Rattle.rwsp_terms.specs.declared.data.Symbol.{Symbol}
use Rattle.rwsp_terms.specs.declared.limits.TheConstants.{DAYS_OF_WEEK}
use Rattle.rwsp_model.specs.Validity.{KeepsLimits}
use Rattle.rwsp_model.proofs.Names.{symbol_named}
use Rattle.roster_print.specs.RosterText.{week_at}
use Rattle.plain_words.specs.Fixed.{fixed}
use Rattle.roster_page.specs.Clock.{hours_text}
use Rattle.roster_page.specs.Escaped.{escaped, unescaped}
use Rattle.roster_page.specs.Hours.{minutes_in}
use Rattle.roster_page.specs.PageText.{IsPage, page_text, page_head, page_rest, style_text, day_head, day_heads, weekend_head, roster_head, roster_table, week_rows, week_row, week_top, week_end, hours_cell, weekend_cell, free_text, is_free, cells_text, cell_text, name_text}
use Rattle.roster_page.specs.ReadPage.{before, behind, parts, Cell, cell_in, Row, row_in, first_body, rows_in, cell_of, row_of, symbols_named}
use Rattle.roster_page.specs.Laws.{PagesAreReadBack}
use Rattle.roster_page.specs.declared.pieces.TheConstants.{AFTER_STYLE, AFTER_TITLE, BODY_TOP, CELL_END, CELL_TOP, CLASS_END, DAY_HEAD, FREE, HEAD, HEAD_END, HOURS_HEAD, PLAIN_CELL, ROSTER_TOP, ROW_END, TABLE_END, WEEKEND_HEAD, WEEK_TOP}
use Rattle.plain_words.specs.declared.pieces.TheConstants.{WEEK, WEEKS}
use Rattle.plain_words.specs.Words.{count_words, weeks_words}
use Rattle.roster_page.proofs.Places.{is_clear, IsClear, clear_both, clear_all, clear_without, before_past, before_to, behind_past, behind_to, parts_past, parts_none, parts_here}
use Rattle.roster_page.proofs.Signs.{decimal_lacks, hours_lack, escaped_lacks, no_bracket, no_quote}
use Rattle.roster_page.proofs.ReadBack.{names_are_read_back}

-- The words that are looked for, behind their first byte `<`.

abbrev body_top : List ℕ
body_top = codes "tbody>"

abbrev body_end : List ℕ
body_end = codes "/tbody>"

abbrev week_word : List ℕ
week_word = codes "tr><th scope=\"row\">"

abbrev cell_word : List ℕ
cell_word = codes "td class=\"c"

-- a word that is in no piece of a row but its first ones
record FitsRow (word : List ℕ) : Type 0 where
  head_end : IsClear (60 ∷ word) (fixed HEAD_END.now)
  class_end : IsClear (60 ∷ word) (fixed CLASS_END.now)
  cell_end : IsClear (60 ∷ word) (fixed CELL_END.now)
  plain_cell : IsClear (60 ∷ word) (fixed PLAIN_CELL.now)
  free : IsClear (60 ∷ word) (fixed FREE.now)
  row_end : IsClear (60 ∷ word) (fixed ROW_END.now)

end_fits : FitsRow body_end
unfolding fixed
end_fits = record { head_end = refl; class_end = refl; cell_end = refl; plain_cell = refl; free = refl; row_end = refl }

week_fits : FitsRow week_word
unfolding fixed
week_fits = record { head_end = refl; class_end = refl; cell_end = refl; plain_cell = refl; free = refl; row_end = refl }

cell_fits : FitsRow cell_word
unfolding fixed
cell_fits = record { head_end = refl; class_end = refl; cell_end = refl; plain_cell = refl; free = refl; row_end = refl }

-- numbers, hours and names have no tag
decimal_clear : (word : List ℕ) (n : ℕ) → IsClear (60 ∷ word) (decimal n)
decimal_clear word n = clear_without 60 word (decimal n) (decimal_lacks 60 n no_bracket)

name_clear : (word : List ℕ) (P : Instance) (x : Symbol) → IsClear (60 ∷ word) (name_text P x)
unfolding name_text
name_clear word P x = clear_without 60 word (escaped (name_of P x)) (escaped_lacks (name_of P x))

-- what is behind the cells of a week

free_clear : (word : List ℕ) → FitsRow word → (week : List Symbol) → IsClear (60 ∷ word) (free_text week)
unfolding free_text
free_clear word fits week =
    elim (is_free week) as (λ (t : Bool). IsClear (60 ∷ word) (if t then fixed FREE.now else [])) [
      | true ↦ fits.free
      | false ↦ refl
    ]

hours_clear : (word : List ℕ) → FitsRow word → (P : Instance) (week : List Symbol) → IsClear (60 ∷ word) (hours_cell P week)
unfolding hours_cell
hours_clear word fits P week =
    let hours = hours_text (minutes_in P week) in
    clear_both (60 ∷ word) (fixed PLAIN_CELL.now ++ hours) (fixed CELL_END.now)
    (clear_both (60 ∷ word) (fixed PLAIN_CELL.now) hours fits.plain_cell (clear_without 60 word hours (hours_lack (minutes_in P week))))
    fits.cell_end

weekend_clear : (word : List ℕ) → FitsRow word → (P : Instance) (week : List Symbol) → IsClear (60 ∷ word) (weekend_cell P week)
unfolding weekend_cell
weekend_clear word fits P week =
    let free = free_text week in
    elim (P.days == DAYS_OF_WEEK) as (λ (t : Bool). IsClear (60 ∷ word) (if t then fixed PLAIN_CELL.now ++ free ++ fixed CELL_END.now else [])) [
      | true ↦
          clear_both (60 ∷ word) (fixed PLAIN_CELL.now ++ free) (fixed CELL_END.now)
          (clear_both (60 ∷ word) (fixed PLAIN_CELL.now) free fits.plain_cell (free_clear word fits week))
          fits.cell_end
      | false ↦ refl
    ]

end_clear : (word : List ℕ) → FitsRow word → (P : Instance) (week : List Symbol) → IsClear (60 ∷ word) (week_end P week)
unfolding week_end
end_clear word fits P week =
    clear_both (60 ∷ word) (hours_cell P week ++ weekend_cell P week) (fixed ROW_END.now)
    (clear_both (60 ∷ word) (hours_cell P week) (weekend_cell P week) (hours_clear word fits P week) (weekend_clear word fits P week))
    fits.row_end

-- The cells of a week.

-- what is behind the front of a cell
abbrev in_cell : Instance → Symbol → List ℕ
in_cell P x = decimal x.number ++ (fixed CLASS_END.now ++ (name_text P x ++ fixed CELL_END.now))

cell_front : (P : Instance) (x : Symbol) (rest : List ℕ) → cell_text P x ++ rest ≡ fixed CELL_TOP.now ++ (in_cell P x ++ rest)
unfolding cell_text
cell_front P x rest = simp append_assoc

in_cell_clear : (word : List ℕ) → FitsRow word → (P : Instance) (x : Symbol) → IsClear (60 ∷ word) (in_cell P x)
in_cell_clear word fits P x =
    let named = name_text P x ++ fixed CELL_END.now in
    clear_both (60 ∷ word) (decimal x.number) (fixed CLASS_END.now ++ named) (decimal_clear word x.number)
    (clear_both (60 ∷ word) (fixed CLASS_END.now) named fits.class_end
    (clear_both (60 ∷ word) (name_text P x) (fixed CELL_END.now) (name_clear word P x) fits.cell_end))

abbrev cell : Option ℕ → List ℕ → Cell
cell number name = record { number = number; name = name }

-- numbers as they are read
abbrev IsSmall : Symbol → Type 0
IsSmall x = x.number < 10 ^ 9

cell_read : (P : Instance) (x : Symbol) (rest : List ℕ) → IsSmall x → cell_in (in_cell P x ++ rest) ≡ cell_of P x
unfolding name_text fixed
cell_read P x rest small =
    let behind_number = fixed CLASS_END.now ++ (name_text P x ++ (fixed CELL_END.now ++ rest)) in
    let is : in_cell P x ++ rest ≡ decimal x.number ++ behind_number = simp append_assoc in
    let quoteless = clear_without 34 (codes ">") (decimal x.number) (decimal_lacks 34 x.number no_quote) in
    let name = unescaped (before (codes "</td>") (behind (codes "\">") (decimal x.number ++ behind_number))) in
    ap cell_in is
    ∙ ap (λ n. cell n name) (ap number_of (before_to 34 (codes ">") (decimal x.number) (name_text P x ++ (fixed CELL_END.now ++ rest)) quoteless) ∙ printed_is_read x.number small)
    ∙ ap (cell (Some x.number)) (ap (λ t. unescaped (before (codes "</td>") t)) (behind_to 34 (codes ">") (decimal x.number) (name_text P x ++ (fixed CELL_END.now ++ rest)) quoteless)
    ∙ ap unescaped (before_to 60 (codes "/td>") (name_text P x) rest (name_clear (codes "/td>") P x))
    ∙ names_are_read_back (name_of P x))

cells_read : (P : Instance) (xs : List Symbol) (end : List ℕ) → All IsSmall xs → IsClear (60 ∷ cell_word) end → map cell_in (parts (60 ∷ cell_word) (flat_map (cell_text P) xs ++ end)) ≡ map (cell_of P) xs
unfolding fixed
cells_read P [] end small clear = ap (map cell_in) (parts_none (60 ∷ cell_word) end clear)
cells_read P (x ∷ xs) end small clear =
    let more = flat_map (cell_text P) xs ++ end in
    ap (λ t. map cell_in (parts (60 ∷ cell_word) t)) (append_assoc (cell_text P x) (flat_map (cell_text P) xs) end ∙ cell_front P x more)
    ∙ ap (map cell_in) (parts_here 60 cell_word (in_cell P x) more refl (in_cell_clear cell_word cell_fits P x))
    ∙ ap (λ c. c ∷ map cell_in (parts (60 ∷ cell_word) more)) (cell_read P x (before (60 ∷ cell_word) more) (small 0 x (omega arith)))
    ∙ ap (λ cs. cell_of P x ∷ cs) (cells_read P xs end (λ k d less. small (suc k) d (omega (arith, less))) clear)

cells_clear : (word : List ℕ) → FitsRow word → IsClear (60 ∷ word) (fixed CELL_TOP.now) → (P : Instance) (xs : List Symbol) → IsClear (60 ∷ word) (flat_map (cell_text P) xs)
cells_clear word fits top P [] = refl
cells_clear word fits top P (x ∷ xs) = clear_both (60 ∷ word) (cell_text P x) (flat_map (cell_text P) xs) (one word fits top P x) (cells_clear word fits top P xs)
  where
    one : (word : List ℕ) → FitsRow word → IsClear (60 ∷ word) (fixed CELL_TOP.now) → (P : Instance) (x : Symbol) → IsClear (60 ∷ word) (cell_text P x)
    one word fits top P x =
        let whole : fixed CELL_TOP.now ++ in_cell P x ≡ cell_text P x = ap (λ t. fixed CELL_TOP.now ++ t) (sym (append-nil (in_cell P x))) ∙ sym (cell_front P x []) ∙ append-nil (cell_text P x) in
        ap (λ t. is_clear (60 ∷ word) t) (sym whole) ∙ clear_both (60 ∷ word) (fixed CELL_TOP.now) (in_cell P x) top (in_cell_clear word fits P x)

-- The weeks.

-- what is behind the front of a row
abbrev in_row : Instance → List Symbol → ℕ → List ℕ
in_row P s k = decimal (k + 1) ++ (fixed HEAD_END.now ++ (flat_map (cell_text P) (week_at P s k) ++ week_end P (week_at P s k)))

row_front : (P : Instance) (s : List Symbol) (k : ℕ) (rest : List ℕ) → week_row P s k ++ rest ≡ fixed WEEK_TOP.now ++ (in_row P s k ++ rest)
unfolding week_row week_top cells_text
row_front P s k rest = simp append_assoc

in_row_clear : (word : List ℕ) → FitsRow word → IsClear (60 ∷ word) (fixed CELL_TOP.now) → (P : Instance) (s : List Symbol) (k : ℕ) → IsClear (60 ∷ word) (in_row P s k)
in_row_clear word fits top P s k =
    let week = week_at P s k in
    let cells = flat_map (cell_text P) week in
    clear_both (60 ∷ word) (decimal (k + 1)) (fixed HEAD_END.now ++ (cells ++ week_end P week)) (decimal_clear word (k + 1))
    (clear_both (60 ∷ word) (fixed HEAD_END.now) (cells ++ week_end P week) fits.head_end
    (clear_both (60 ∷ word) cells (week_end P week) (cells_clear word fits top P week) (end_clear word fits P week)))

abbrev row : Option ℕ → List Cell → Row
row week cells = record { week = week; cells = cells }

row_read : (P : Instance) (s : List Symbol) (k : ℕ) → k + 1 < 10 ^ 9 → All IsSmall (week_at P s k) → row_in (in_row P s k) ≡ row_of P s k
unfolding fixed
row_read P s k few small =
    let week = week_at P s k in
    let behind_head = flat_map (cell_text P) week ++ week_end P week in
    let cells = map cell_in (parts (60 ∷ cell_word) (in_row P s k)) in
    ap (λ n. row n cells) (ap number_of (before_to 60 (codes "/th>") (decimal (k + 1)) behind_head (decimal_clear (codes "/th>") (k + 1))) ∙ printed_is_read (k + 1) few)
    ∙ ap (row (Some (k + 1))) (ap (map cell_in) (parts_past (60 ∷ cell_word) (decimal (k + 1)) (fixed HEAD_END.now ++ behind_head) (decimal_clear cell_word (k + 1))
    ∙ parts_past (60 ∷ cell_word) (fixed HEAD_END.now) behind_head cell_fits.head_end)
    ∙ cells_read P week (week_end P week) small (end_clear cell_word cell_fits P week))

rows_front : (P : Instance) (s : List Symbol) (from n : ℕ) → before (60 ∷ week_word) (flat_map (week_row P s) (range_with_len from n)) ≡ []
unfolding before fixed
rows_front P s from zero = refl
rows_front P s from (suc n) =
    let more = flat_map (week_row P s) (range_with_len (from + 1) n) in
    ap (before (60 ∷ week_word)) (row_front P s from more) ∙ before_to 60 week_word [] (in_row P s from ++ more) refl

rows_read : (P : Instance) (s : List Symbol) (from n : ℕ) → from + n < 10 ^ 9 → ((k : ℕ) → All IsSmall (week_at P s k)) → map row_in (parts (60 ∷ week_word) (flat_map (week_row P s) (range_with_len from n))) ≡ map (row_of P s) (range_with_len from n)
unfolding parts fixed
rows_read P s from zero few small = refl
rows_read P s from (suc n) few small =
    let more = flat_map (week_row P s) (range_with_len (from + 1) n) in
    ap (λ t. map row_in (parts (60 ∷ week_word) t)) (row_front P s from more)
    ∙ ap (map row_in) (parts_here 60 week_word (in_row P s from) more refl (in_row_clear week_word week_fits refl P s from))
    ∙ ap (λ t. row_in t ∷ map row_in (parts (60 ∷ week_word) more)) (ap (λ t. in_row P s from ++ t) (rows_front P s (from + 1) n) ∙ append-nil (in_row P s from))
    ∙ ap (λ r. r ∷ map row_in (parts (60 ∷ week_word) more)) (row_read P s from (omega (arith, few)) (small from))
    ∙ ap (λ rs. row_of P s from ∷ rs) (rows_read P s (from + 1) n (omega (arith, few)) small)

row_clear : (P : Instance) (s : List Symbol) (k : ℕ) → IsClear (60 ∷ body_end) (week_row P s k)
unfolding fixed
row_clear P s k =
    let top = fixed WEEK_TOP.now in
    let whole : top ++ in_row P s k ≡ week_row P s k = ap (λ t. top ++ t) (sym (append-nil (in_row P s k))) ∙ sym (row_front P s k []) ∙ append-nil (week_row P s k) in
    ap (λ t. is_clear (60 ∷ body_end) t) (sym whole) ∙ clear_both (60 ∷ body_end) top (in_row P s k) refl (in_row_clear body_end end_fits refl P s k)

-- The body of the first table.

weeks_clear : (n : ℕ) → IsClear (60 ∷ body_top) (weeks_words n)
unfolding weeks_words count_words fixed
weeks_clear n =
    clear_both (60 ∷ body_top) (decimal n) (if n == 1 then fixed WEEK.now else fixed WEEKS.now) (decimal_clear body_top n)
    (elim (n == 1) as (λ (t : Bool). IsClear (60 ∷ body_top) (if t then fixed WEEK.now else fixed WEEKS.now)) [
      | true ↦ refl
      | false ↦ refl
    ])

head_clear : (P : Instance) → IsClear (60 ∷ body_top) (page_head P)
unfolding page_head style_text fixed
head_clear P =
    let weeks = weeks_words P.weeks in
    let front = fixed HEAD.now ++ weeks in
    let style = front ++ fixed AFTER_TITLE.now ++ style_text in
    clear_both (60 ∷ body_top) (style ++ fixed AFTER_STYLE.now) weeks
    (clear_both (60 ∷ body_top) style (fixed AFTER_STYLE.now)
    (clear_both (60 ∷ body_top) (front ++ fixed AFTER_TITLE.now) style_text
    (clear_both (60 ∷ body_top) front (fixed AFTER_TITLE.now)
    (clear_both (60 ∷ body_top) (fixed HEAD.now) weeks refl (weeks_clear P.weeks))
    refl)
    refl)
    refl)
    (weeks_clear P.weeks)

day_clear : (j : ℕ) → IsClear (60 ∷ body_top) (day_head j)
unfolding day_head fixed
day_clear j =
    clear_both (60 ∷ body_top) (fixed DAY_HEAD.now ++ decimal (j + 1)) (fixed HEAD_END.now)
    (clear_both (60 ∷ body_top) (fixed DAY_HEAD.now) (decimal (j + 1)) refl (decimal_clear body_top (j + 1)))
    refl

-- the heads of the columns
abbrev heads : Instance → List ℕ
heads P = fixed ROSTER_TOP.now ++ day_heads P ++ fixed HOURS_HEAD.now ++ weekend_head P

heads_clear : (P : Instance) → IsClear (60 ∷ body_top) (heads P)
unfolding day_heads weekend_head fixed
heads_clear P =
    let days = fixed ROSTER_TOP.now ++ day_heads P in
    clear_both (60 ∷ body_top) (days ++ fixed HOURS_HEAD.now) (weekend_head P)
    (clear_both (60 ∷ body_top) days (fixed HOURS_HEAD.now)
    (clear_both (60 ∷ body_top) (fixed ROSTER_TOP.now) (day_heads P) refl (clear_all (60 ∷ body_top) day_head (range_with_len 0 P.days) day_clear))
    refl)
    (elim (P.days == DAYS_OF_WEEK) as (λ (t : Bool). IsClear (60 ∷ body_top) (if t then fixed WEEKEND_HEAD.now else [])) [
      | true ↦ refl
      | false ↦ refl
    ])

abbrev rows : Instance → List Symbol → List ℕ
rows P s = flat_map (week_row P s) (range_with_len 0 P.weeks)

page_parts : (P : Instance) (s : List Symbol) (rest : Option ℕ) → page_text P s rest ≡ page_head P ++ (heads P ++ (fixed BODY_TOP.now ++ (rows P s ++ (fixed TABLE_END.now ++ page_rest P s rest))))
unfolding page_text roster_table roster_head week_rows
page_parts P s rest = simp append_assoc

body_behind : (text : List ℕ) → behind (60 ∷ body_top) (fixed BODY_TOP.now ++ text) ≡ 10 ∷ text
unfolding behind fixed
body_behind text = refl

body_before : (text : List ℕ) → before (60 ∷ body_end) (fixed TABLE_END.now ++ text) ≡ []
unfolding before fixed
body_before text = refl

body_read : (P : Instance) (s : List Symbol) (rest : Option ℕ) → first_body (page_text P s rest) ≡ 10 ∷ rows P s
body_read P s rest =
    let end = fixed TABLE_END.now ++ page_rest P s rest in
    let body = fixed BODY_TOP.now ++ (rows P s ++ end) in
    let clear : IsClear (60 ∷ body_end) (10 ∷ rows P s) = clear_both (60 ∷ body_end) (10 ∷ []) (rows P s) refl (clear_all (60 ∷ body_end) (week_row P s) (range_with_len 0 P.weeks) (row_clear P s)) in
    ap first_body (page_parts P s rest)
    ∙ ap (before (60 ∷ body_end)) (behind_past (60 ∷ body_top) (page_head P) (heads P ++ body) (head_clear P) ∙ behind_past (60 ∷ body_top) (heads P) body (heads_clear P) ∙ body_behind (rows P s ++ end))
    ∙ before_past (60 ∷ body_end) (10 ∷ rows P s) end clear
    ∙ ap (λ t. (10 ∷ rows P s) ++ t) (body_before (page_rest P s rest))
    ∙ append-nil (10 ∷ rows P s)

-- The page.

week_symbols : (P : Instance) (s : List Symbol) (k : ℕ) → IsRoster P s → All (IsSymbol P) (week_at P s k)
week_symbols P s k roster = All-take (IsSymbol P) P.days _ (All-drop (IsSymbol P) (k * P.days) s roster.symbols)

week_small : (P : Instance) (s : List Symbol) (k : ℕ) → KeepsLimits P → IsRoster P s → All IsSmall (week_at P s k)
week_small P s k limits roster i d less =
    let known = week_symbols P s k roster i d less in
    let few = limits.few_shifts in
    omega (arith, known, few)

week_named : (P : Instance) (week : List Symbol) → KeepsLimits P → All (IsSymbol P) week → map (λ (c : Cell). symbol_of P c.name) (map (cell_of P) week) ≡ map Some week
week_named P [] limits h = refl
week_named P (x ∷ week) limits h =
    let here : symbol_of P (name_of P x) ≡ Some x = symbol_named P x limits (h 0 x (omega arith)) in
    let more = week_named P week limits (λ k d less. h (suc k) d (omega (arith, less))) in
    ap (λ o. o ∷ map (λ (c : Cell). symbol_of P c.name) (map (cell_of P) week)) here ∙ ap (λ w. Some x ∷ w) more

weeks_named : (P : Instance) (s : List Symbol) (ks : List ℕ) → KeepsLimits P → IsRoster P s → map (symbols_named P) (map (row_of P s) ks) ≡ map (λ k. map Some (week_at P s k)) ks
weeks_named P s [] limits roster = refl
weeks_named P s (k ∷ ks) limits roster =
    ap (λ w. w ∷ map (symbols_named P) (map (row_of P s) ks)) (week_named P (week_at P s k) limits (week_symbols P s k roster))
    ∙ ap (λ ws. map Some (week_at P s k) ∷ ws) (weeks_named P s ks limits roster)

page_rows : (P : Instance) (s : List Symbol) (text : List ℕ) → KeepsLimits P → IsRoster P s → IsPage P s text → rows_in text ≡ map (row_of P s) (range_with_len 0 P.weeks)
page_rows P s text limits roster page =
    let few = limits.few_weeks in
    ap (λ t. map row_in (parts (60 ∷ week_word) (first_body t))) page.is
    ∙ ap (λ t. map row_in (parts (60 ∷ week_word) t)) (body_read P s page.rest)
    ∙ ap (map row_in) (parts_past (60 ∷ week_word) (10 ∷ []) (rows P s) refl)
    ∙ rows_read P s 0 P.weeks (omega (arith, few)) (λ k. week_small P s k limits roster)

pub pages_are_read_back : PagesAreReadBack
pages_are_read_back P s text limits roster page =
    let rows = page_rows P s text limits roster page in
    record { rows = rows; names = ap (map (symbols_named P)) rows ∙ weeks_named P s (range_with_len 0 P.weeks) limits roster }
