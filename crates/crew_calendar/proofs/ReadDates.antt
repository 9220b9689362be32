-- A table and who works on a date, read from their texts, say the same of each employee.
use Rattle.std.proofs.Common.{◌≡◌, ◌≢◌, ◌⊎◌, ℕ, zero, suc, ◌+◌, ◌/◌, ◌%◌, ◌^◌, ◌<◌, ◌≤◌, ◌==◌, inl, inr, List, [], ◌∷◌, ◌++◌, map, Bool, true, false, cond, not, Some, None, ℤ, pos, negsuc, ◌+ℤ◌, refl, ap, sym, subst, ◌∙◌, arith, append_assoc}
use Rattle.std.specs.Prelude.{All, slice_get, slice_index_or, codes}
use Rattle.std.specs.List.{flat_map, range_with_len, join_with_byte, list_all}
use Rattle.std.specs.Fmt.{decimal}
use Rattle.std.proofs.lemmas.Bool.{ne_eqb, eqb-true, eq-eqb, cases_order, and_parts}
use Rattle.std.proofs.lemmas.Grind.{flat_map-append}
use Rattle.std.proofs.lemmas.List.{append-nil}
use Rattle.std.proofs.lemmas.List.Folds.{flat_map-map}
use Rattle.std.proofs.lemmas.List.Splits.{slice_split_at}
use Rattle.std.proofs.lemmas.List.Elements.{All-nil, All-cons, All-head, All-tail, All-weaker, All-append}
use Rattle.jiff_core.proofs.SignedLemmas.{signed_arith}
use Rattle.jiff_core.specs.Date.{weekday_of}
use Rattle.jiff_fmt.specs.Text.{pad2, pad4, year_text}
use Rattle.rwsp_terms.specs.Instance.{Instance, name_of, name_in, name_among, shift_count, symbol_numbered}
use Rattle.rwsp_terms.specs.Roster.{IsRoster}
use Rattle.rwsp_terms.specs.declared.data.ShiftRow.{ShiftRow}
use Rattle.rwsp_terms.specs.declared.data.Symbol.{Symbol}
use Rattle.rwsp_text.specs.Fields.{Words, text_of, is_visible}
use Rattle.rwsp_text.specs.Kinds.{IsBlankless, AreBlankless}
use Rattle.rwsp_text.specs.Lexemes.{lines_of}
use Rattle.rwsp_text.specs.Lines.{words_of, HasNoFeed, text_of_lines, AreWords, AreLines}
use Rattle.rwsp_text.specs.Numbers.{number_of}
use Rattle.rwsp_text.proofs.JoinedWords.{join_spaced}
use Rattle.rwsp_text.proofs.KindLaws.{decimal_blankless}
use Rattle.rwsp_text.proofs.LineLaws.{words_again, join_no_feed}
use Rattle.rwsp_text.proofs.Printed.{printed_is_read}
use Rattle.rwsp_text.proofs.Words.{seen_only}
use Rattle.rwsp_model.specs.Validity.{KeepsLimits, IsShiftName, breaks_name}
use Rattle.crew_calendar.specs.Crew.{IsEmployee, employees, symbol_on}
use Rattle.crew_calendar.specs.Calendar.{Date, epoch_day, date_text, weekday_names, weekday_text}
use Rattle.crew_calendar.specs.Texts.{day_line, table_text, IsTable}
use Rattle.crew_calendar.specs.OnDate.{symbol_line, on_text}
use Rattle.crew_calendar.specs.ReadDates.{lines_read, IsNamed, HasNumber, StandsUnder, DatesAreAsInTables}
use Rattle.crew_calendar.proofs.Calendars.{one_text}
use Rattle.crew_calendar.proofs.Standing.{on_symbol}

-- Lines.

no_ends : (bytes : List ℕ) → HasNoFeed bytes → All (λ b. (b == 10) ≡ false) bytes
no_ends bytes h = All-weaker (λ b. b ≢ 10) (λ b. (b == 10) ≡ false) (λ b apart. ne_eqb b 10 apart) bytes h

-- the lines of a text, and nothing behind the last LF
lines_again : (lines : List Words) → AreLines lines → lines_read (text_of_lines lines) ≡ lines ++ ([] ∷ []) ∷ []
lines_again [] h = refl
lines_again (ws ∷ lines) h =
    let rest = text_of_lines lines in
    ap (map words_of)
    (ap lines_of (append_assoc (join_with_byte 32 ws) (10 ∷ []) rest)
    ∙ slice_split_at (λ b. b == 10) (join_with_byte 32 ws) 10 rest (no_ends (join_with_byte 32 ws) (join_no_feed ws h.0.1)) refl)
    ∙ ap (λ l. l ∷ lines_read rest) (words_again ws h.0)
    ∙ ap (λ ls. ws ∷ ls) (lines_again lines h.1)

lines_mapped : (f : ℕ → List ℕ) (g : ℕ → Words) (xs : List ℕ) → ((x : ℕ) → f x ≡ text_of (g x)) → flat_map f xs ≡ text_of_lines (map g xs)
lines_mapped f g [] same = refl
lines_mapped f g (x ∷ xs) same = ap (λ l. l ++ flat_map f xs) (same x) ∙ ap (λ l. text_of (g x) ++ l) (lines_mapped f g xs same)

lines_are : (g : ℕ → Words) (xs : List ℕ) → ((x : ℕ) → AreWords (g x)) → AreLines (map g xs)
lines_are g [] words = tt
lines_are g (x ∷ xs) words = (words x, lines_are g xs words)

-- Places in lists.

-- in front of one more
mapped_at : (f : ℕ → Words) (z : Words) (xs : List ℕ) (j x : ℕ) → slice_get xs j ≡ Some x → slice_get (map f xs ++ z ∷ []) j ≡ Some (f x)
mapped_at f z [] j x h = absurd (cc)
mapped_at f z (y ∷ xs) zero x h = let same : y ≡ x = cc in ap (λ v. Some (f v)) same
mapped_at f z (y ∷ xs) (suc j) x h = mapped_at f z xs j x h

mapped_from : (f : ℕ → Words) (z : Words) (xs : List ℕ) (j : ℕ) (line : Words) → slice_get (map f xs ++ z ∷ []) j ≡ Some line → ((x : ℕ) × (slice_get xs j ≡ Some x) × (line ≡ f x)) ⊎ (line ≡ z)
mapped_from f z [] zero line h = let same : line ≡ z = cc in inr same
mapped_from f z [] (suc j) line h = absurd (cc)
mapped_from f z (x ∷ xs) zero line h = let same : line ≡ f x = cc in inl (x, refl, same)
mapped_from f z (x ∷ xs) (suc j) line h = mapped_from f z xs j line h

range_at : (a n i : ℕ) → i < n → slice_get (range_with_len a n) i ≡ Some (a + i)
range_at a zero i less = absurd (omega (arith, less))
range_at a (suc n) zero less = let same : a ≡ a + 0 = omega arith in ap (λ v. Some v) same
range_at a (suc n) (suc i) less = let same : a + 1 + i ≡ a + suc i = omega arith in range_at (a + 1) n i (omega (arith, less)) ∙ ap (λ v. Some v) same

names_at : (f : ℕ → List ℕ) (xs : List ℕ) (j x : ℕ) → slice_get xs j ≡ Some x → slice_get (map f xs) j ≡ Some (f x)
names_at f [] j x h = absurd (cc)
names_at f (y ∷ xs) zero x h = let same : y ≡ x = cc in ap (λ v. Some (f v)) same
names_at f (y ∷ xs) (suc j) x h = names_at f xs j x h

-- Words with no blank.

abbrev Vis : ℕ → Type 0
Vis b = is_visible b ≡ true

from_digit : (b : ℕ) → 45 ≤ b → Vis b
from_digit b h = seen_only b (λ e. omega (arith, h, e), λ e. omega (arith, h, e), λ e. omega (arith, h, e), λ e. omega (arith, h, e))

two_seen : (n : ℕ) → IsBlankless (pad2 n)
two_seen n = All-cons Vis (48 + n / 10) ((48 + n % 10) ∷ []) (from_digit (48 + n / 10) (omega arith)) (All-cons Vis (48 + n % 10) [] (from_digit (48 + n % 10) (omega arith)) (All-nil Vis))

four_seen : (n : ℕ) → IsBlankless (pad4 n)
four_seen n = All-append Vis (pad2 (n / 100)) (pad2 (n % 100)) (two_seen (n / 100)) (two_seen (n % 100))

dash_seen : IsBlankless (45 ∷ [])
dash_seen = All-cons Vis 45 [] refl (All-nil Vis)

year_seen : (y : ℤ) → IsBlankless (year_text y)
year_seen (pos n) = four_seen n
year_seen (negsuc n) = All-append Vis (codes "-00") (pad4 (suc n)) (All-cons Vis 45 (48 ∷ 48 ∷ []) refl (All-cons Vis 48 (48 ∷ []) refl (All-cons Vis 48 [] refl (All-nil Vis)))) (four_seen (suc n))

date_seen : (d : Date) → IsBlankless (date_text d)
date_seen d =
    let year = year_text d.year in
    let month = pad2 d.month in
    All-append Vis (((year ++ 45 ∷ []) ++ month) ++ 45 ∷ []) (pad2 d.day)
    (All-append Vis ((year ++ 45 ∷ []) ++ month) (45 ∷ [])
    (All-append Vis (year ++ 45 ∷ []) month (All-append Vis year (45 ∷ []) (year_seen d.year) dash_seen) (two_seen d.month))
    dash_seen)
    (two_seen d.day)

by_test : (bytes : List ℕ) → list_all is_visible bytes ≡ true → IsBlankless bytes
by_test [] h = All-nil Vis
by_test (b ∷ bytes) h = let p = and_parts (is_visible b) (list_all is_visible bytes) h in All-cons Vis b bytes p.0 (by_test bytes p.1)

weekday_seen : (k : ℕ) → IsBlankless (slice_index_or weekday_names k [])
weekday_seen zero = by_test (codes "Monday") refl
weekday_seen (suc zero) = by_test (codes "Tuesday") refl
weekday_seen (suc (suc zero)) = by_test (codes "Wednesday") refl
weekday_seen (suc (suc (suc zero))) = by_test (codes "Thursday") refl
weekday_seen (suc (suc (suc (suc zero)))) = by_test (codes "Friday") refl
weekday_seen (suc (suc (suc (suc (suc zero))))) = by_test (codes "Saturday") refl
weekday_seen (suc (suc (suc (suc (suc (suc zero)))))) = by_test (codes "Sunday") refl
weekday_seen (suc (suc (suc (suc (suc (suc (suc k))))))) = All-nil Vis

-- no day of the week is a number
weekday_no_number : (k : ℕ) → number_of (slice_index_or weekday_names k []) ≡ None
weekday_no_number zero = refl
weekday_no_number (suc zero) = refl
weekday_no_number (suc (suc zero)) = refl
weekday_no_number (suc (suc (suc zero))) = refl
weekday_no_number (suc (suc (suc (suc zero)))) = refl
weekday_no_number (suc (suc (suc (suc (suc zero))))) = refl
weekday_no_number (suc (suc (suc (suc (suc (suc zero)))))) = refl
weekday_no_number (suc (suc (suc (suc (suc (suc (suc k))))))) = refl

row_seen : (rows : List ShiftRow) (k : ℕ) → All (λ row. IsShiftName row.name) rows → IsBlankless (name_in (slice_get rows k))
row_seen [] k h = All-nil Vis
row_seen (row ∷ rows) zero h = All-weaker (λ b. breaks_name b ≡ false) Vis (λ b f. ap not f) row.name (All-head (λ (row : ShiftRow). IsShiftName row.name) row rows h).unbroken
row_seen (row ∷ rows) (suc k) h = row_seen rows k (All-tail (λ (row : ShiftRow). IsShiftName row.name) row rows h)

name_seen : (rows : List ShiftRow) (x : ℕ) → All (λ row. IsShiftName row.name) rows → IsBlankless (name_among rows x)
name_seen rows zero h = dash_seen
name_seen rows (suc k) h = row_seen rows k h

names_seen : (f : ℕ → List ℕ) (xs : List ℕ) → ((x : ℕ) → IsBlankless (f x)) → AreBlankless (map f xs)
names_seen f [] seen = tt
names_seen f (x ∷ xs) seen = (seen x, names_seen f xs seen)

-- The numbers of those who pass a test.

abbrev numbers_of : (ℕ → Bool) → List ℕ → Words
numbers_of p es = flat_map (λ e. cond (p e) (decimal e ∷ []) []) es

numbers_spaced : (p : ℕ → Bool) (es : List ℕ) → flat_map (λ e. cond (p e) (32 ∷ decimal e) []) es ≡ flat_map (λ v. 32 ∷ v) (numbers_of p es)
numbers_spaced p [] = refl
numbers_spaced p (e ∷ es) = by (p e) (numbers_spaced p es)
  where
    by : (b : Bool) → flat_map (λ e. cond (p e) (32 ∷ decimal e) []) es ≡ flat_map (λ v. 32 ∷ v) (numbers_of p es) → cond b (32 ∷ decimal e) [] ++ flat_map (λ e. cond (p e) (32 ∷ decimal e) []) es ≡ flat_map (λ v. 32 ∷ v) (cond b (decimal e ∷ []) [] ++ numbers_of p es)
    by true rest = ap (λ l. (32 ∷ decimal e) ++ l) rest
    by false rest = rest

numbers_seen : (p : ℕ → Bool) (a n : ℕ) → a + n ≤ 10 ^ 9 → AreBlankless (numbers_of p (range_with_len a n))
numbers_seen p a zero few = tt
numbers_seen p a (suc n) few = by (p a) (numbers_seen p (a + 1) n (omega (arith, few)))
  where
    by : (b : Bool) → AreBlankless (numbers_of p (range_with_len (a + 1) n)) → AreBlankless (cond b (decimal a ∷ []) [] ++ numbers_of p (range_with_len (a + 1) n))
    by true rest = (decimal_blankless a (omega (arith, few)), rest)
    by false rest = rest

-- a number is among words
abbrev Among : Words → ℕ → Type 0
Among ws e = (k : ℕ) × (slice_get (map number_of ws) k ≡ Some (Some e))

numbers_has : (p : ℕ → Bool) (a n e : ℕ) → a + n ≤ 10 ^ 9 → a ≤ e → e < a + n → p e ≡ true → Among (numbers_of p (range_with_len a n)) e
numbers_has p a zero e few low high pass = absurd (omega (arith, low, high))
numbers_has p a (suc n) e few low high pass =
    elim (cases_order a e) [
      | inl same ↦ here (p a) (ap p same ∙ pass) same
      | inr (inl less) ↦ later (p a) (numbers_has p (a + 1) n e (omega (arith, few)) (omega (arith, less)) (omega (arith, high)) pass)
      | inr (inr more) ↦ absurd (omega (arith, low, more))
    ]
  where
    here : (b : Bool) → b ≡ true → a ≡ e → Among (cond b (decimal a ∷ []) [] ++ numbers_of p (range_with_len (a + 1) n)) e
    here true is same = (0, ap (λ v. Some v) (printed_is_read a (omega (arith, few)) ∙ ap (λ v. Some v) same))
    here false is same = absurd (cc)

    later : (b : Bool) → Among (numbers_of p (range_with_len (a + 1) n)) e → Among (cond b (decimal a ∷ []) [] ++ numbers_of p (range_with_len (a + 1) n)) e
    later true h = (suc h.0, h.1)
    later false h = h

numbers_only : (p : ℕ → Bool) (a n e k : ℕ) → a + n ≤ 10 ^ 9 → slice_get (map number_of (numbers_of p (range_with_len a n))) k ≡ Some (Some e) → p e ≡ true
numbers_only p a zero e k few h = absurd (cc)
numbers_only p a (suc n) e k few h = by (p a) refl (λ i there. numbers_only p (a + 1) n e i (omega (arith, few)) there) k h
  where
    by : (b : Bool) → p a ≡ b → ((i : ℕ) → slice_get (map number_of (numbers_of p (range_with_len (a + 1) n))) i ≡ Some (Some e) → p e ≡ true) → (k : ℕ) → slice_get (map number_of (cond b (decimal a ∷ []) [] ++ numbers_of p (range_with_len (a + 1) n))) k ≡ Some (Some e) → p e ≡ true
    by true is rest zero h =
        let read : number_of (decimal a) ≡ Some a = printed_is_read a (omega (arith, few)) in
        let same : a ≡ e = cc in
        subst (λ v. p v ≡ true) same is
    by true is rest (suc k) h = rest k h
    by false is rest k h = rest k h

-- The order of the lines of who works on a date.

abbrev order : ℕ → ℕ → List ℕ
order a k = range_with_len a k ++ 0 ∷ []

-- where a symbol stands in it
abbrev place_in : (k x : ℕ) → ℕ
place_in k zero = k
place_in k (suc x) = x

order_last : (a k : ℕ) → slice_get (order a k) k ≡ Some 0
order_last a zero = refl
order_last a (suc k) = order_last (a + 1) k

order_shift : (a k y : ℕ) → y < k → slice_get (order a k) y ≡ Some (a + y)
order_shift a zero y less = absurd (omega (arith, less))
order_shift a (suc k) zero less = let same : a ≡ a + 0 = omega arith in ap (λ v. Some v) same
order_shift a (suc k) (suc y) less = let same : a + 1 + y ≡ a + suc y = omega arith in order_shift (a + 1) k y (omega (arith, less)) ∙ ap (λ v. Some v) same

order_at : (k x : ℕ) → x ≤ k → slice_get (order 1 k) (place_in k x) ≡ Some x
order_at k zero few = order_last 1 k
order_at k (suc x) few = let same : 1 + x ≡ suc x = omega arith in order_shift 1 k x (omega (arith, few)) ∙ ap (λ v. Some v) same

order_from : (a k j x : ℕ) → slice_get (order a k) j ≡ Some x → ((j < k) × (x ≡ a + j)) ⊎ ((j ≡ k) × (x ≡ 0))
order_from a zero zero x h = let none : x ≡ 0 = cc in inr (refl, none)
order_from a zero (suc j) x h = absurd (cc)
order_from a (suc k) zero x h = let first : x ≡ a = cc in inl (omega arith, omega (arith, first))
order_from a (suc k) (suc j) x h =
    elim (order_from (a + 1) k j x h) [
      | inl l ↦ inl (omega (arith, l.0), omega (arith, l.1))
      | inr r ↦ inr (ap (λ v. suc v) r.0, r.1)
    ]

order_one : (k j x : ℕ) → slice_get (order 1 k) j ≡ Some x → j ≡ place_in k x
order_one k j zero h =
    elim (order_from 1 k j 0 h) [ inl l ↦ absurd (omega (arith, l.1)) | inr r ↦ r.0 ]
order_one k j (suc x) h =
    elim (order_from 1 k j (suc x) h) [ inl l ↦ omega (arith, l.1) | inr r ↦ absurd (omega (arith, r.1)) ]

-- Both texts as lines of words.

abbrev has_symbol : Instance → List Symbol → (t x e : ℕ) → Bool
has_symbol P s t x e = (symbol_on P s e t).number == x

abbrev pub day_words : Instance → List Symbol → (ℕ → Date) → ℕ → Words
day_words P s on t = date_text (on t) ∷ map (λ e. name_of P (symbol_on P s e t)) (employees P)

abbrev symbol_words : Instance → List Symbol → (t x : ℕ) → Words
symbol_words P s t x = name_of P (symbol_numbered x) ∷ numbers_of (has_symbol P s t x) (employees P)

abbrev date_words : Date → Words
date_words date = date_text date ∷ weekday_text date ∷ []

day_is : (P : Instance) (s : List Symbol) (on : ℕ → Date) (t : ℕ) → day_line P s on t ≡ text_of (day_words P s on t)
day_is P s on t =
    let name : ℕ → List ℕ = λ e. name_of P (symbol_on P s e t) in
    ap (λ l. l ++ 10 ∷ [])
    (ap (λ c. date_text (on t) ++ c) (sym (flat_map-map (λ v. 32 ∷ v) name (employees P)))
    ∙ sym (join_spaced (date_text (on t)) (map name (employees P))))

symbol_is : (P : Instance) (s : List Symbol) (t x : ℕ) → symbol_line P s t x ≡ text_of (symbol_words P s t x)
symbol_is P s t x =
    let name = name_of P (symbol_numbered x) in
    ap (λ l. l ++ 10 ∷ [])
    (ap (λ c. name ++ c) (numbers_spaced (has_symbol P s t x) (employees P))
    ∙ sym (join_spaced name (numbers_of (has_symbol P s t x) (employees P))))

few_employees : (P : Instance) → KeepsLimits P → 1 + P.weeks ≤ 10 ^ 9
few_employees P limits = omega (arith, limits.few_weeks)

day_fits : (P : Instance) (s : List Symbol) (on : ℕ → Date) → KeepsLimits P → (t : ℕ) → AreWords (day_words P s on t)
day_fits P s on limits t = (
  omega arith,
  (date_seen (on t), names_seen (λ e. name_of P (symbol_on P s e t)) (employees P) (λ e. name_seen P.shifts (symbol_on P s e t).number limits.names)),
)

symbol_fits : (P : Instance) (s : List Symbol) (t : ℕ) → KeepsLimits P → (x : ℕ) → AreWords (symbol_words P s t x)
symbol_fits P s t limits x = (
  omega arith,
  (name_seen P.shifts x limits.names, numbers_seen (has_symbol P s t x) 1 P.weeks (few_employees P limits)),
)

pub table_lines : (P : Instance) (s : List Symbol) (on : ℕ → Date) (days : ℕ) → KeepsLimits P → lines_read (table_text P s on days) ≡ map (day_words P s on) (range_with_len 0 days) ++ ([] ∷ []) ∷ []
table_lines P s on days limits =
    ap lines_read (lines_mapped (day_line P s on) (day_words P s on) (range_with_len 0 days) (day_is P s on))
    ∙ lines_again (map (day_words P s on) (range_with_len 0 days)) (lines_are (day_words P s on) (range_with_len 0 days) (day_fits P s on limits))

on_is : (P : Instance) (s : List Symbol) (date : Date) (t : ℕ) → on_text P s date t ≡ text_of_lines (date_words date ∷ map (symbol_words P s t) (order 1 (shift_count P)))
on_is P s date t =
    let head = text_of (date_words date) in
    let line = symbol_line P s t in
    let shifts = range_with_len 1 (shift_count P) in
    append_assoc head (flat_map line shifts) (line 0)
    ∙ ap (λ l. head ++ l)
    (ap (λ l. flat_map line shifts ++ l) (sym (append-nil (line 0)))
    ∙ sym (flat_map-append line shifts (0 ∷ []))
    ∙ lines_mapped line (symbol_words P s t) (order 1 (shift_count P)) (symbol_is P s t))

on_lines : (P : Instance) (s : List Symbol) (date : Date) (t : ℕ) → KeepsLimits P → lines_read (on_text P s date t) ≡ date_words date ∷ (map (symbol_words P s t) (order 1 (shift_count P)) ++ ([] ∷ []) ∷ [])
on_lines P s date t limits =
    let symbols = map (symbol_words P s t) (order 1 (shift_count P)) in
    let head : AreWords (date_words date) = (omega arith, (date_seen date, (weekday_seen (weekday_of date), tt))) in
    ap lines_read (on_is P s date t)
    ∙ lines_again (date_words date ∷ symbols) (head, lines_are (symbol_words P s t) (order 1 (shift_count P)) (symbol_fits P s t limits))

-- The law.

crew_named : (P : Instance) (s : List Symbol) (start date : Date) (days t e : ℕ) (table : List ℕ) → KeepsLimits P → IsTable P s start days table → epoch_day date ≡ epoch_day start +ℤ pos t → t < days → IsEmployee P e → IsNamed table date e (name_of P (symbol_on P s e t))
crew_named P s start date days t zero table limits h same less e = absurd (omega (arith, e.0))
crew_named P s start date days t (suc k) table limits h same less e = record {
  place = t;
  line = day_words P s h.on t;
  is_line =
      ap (λ text. slice_get (lines_read text) t) h.is ∙ ap (λ lines. slice_get lines t) (table_lines P s h.on days limits)
      ∙ mapped_at (day_words P s h.on) ([] ∷ []) (range_with_len 0 days) t t (range_at 0 days t less ∙ (let here : 0 + t ≡ t = omega arith in ap (λ v. Some v) here));
  dated = ap (λ d. Some d) (one_text (h.on t) date (h.calendar t (omega (arith, less)) ∙ sym same));
  named =
      names_at (λ e. name_of P (symbol_on P s e t)) (employees P) k (suc k)
      (range_at 1 P.weeks k (omega (arith, e.1)) ∙ (let here : 1 + k ≡ suc k = omega arith in ap (λ v. Some v) here));
}

-- a line that has the number is that of the employee's symbol
has_only : (P : Instance) (s : List Symbol) (t x e : ℕ) (line : Words) → KeepsLimits P → line ≡ symbol_words P s t x → HasNumber line e → (symbol_on P s e t).number ≡ x
has_only P s t x e line limits is has =
    let here = subst (λ (l : Words). HasNumber l e) is has in
    eqb-true (symbol_on P s e t).number x (numbers_only (has_symbol P s t x) 1 P.weeks e here.0 (few_employees P limits) here.1)

-- the head has none
head_has_none : (date : Date) (e : ℕ) → HasNumber (date_words date) e → ⊥
head_has_none date e (zero, h) = let none : number_of (weekday_text date) ≡ None = weekday_no_number (weekday_of date) in absurd (cc)
head_has_none date e (suc k, h) = absurd (cc)

nothing_has_none : (line : Words) (e : ℕ) → line ≡ [] ∷ [] → HasNumber line e → ⊥
nothing_has_none line e is has = by (subst (λ (l : Words). HasNumber l e) is has)
  where
    by : HasNumber ([] ∷ []) e → ⊥
    by h = absurd (let g : None ≡ Some (Some e) = h.1 in cc)

one_line : (P : Instance) (s : List Symbol) (date : Date) (t e : ℕ) → KeepsLimits P → (i : ℕ) (line : Words) → slice_get (date_words date ∷ (map (symbol_words P s t) (order 1 (shift_count P)) ++ ([] ∷ []) ∷ [])) i ≡ Some line → HasNumber line e → i ≡ suc (place_in (shift_count P) (symbol_on P s e t).number)
one_line P s date t e limits zero line is has = let same : line ≡ date_words date = cc in absurd (head_has_none date e (subst (λ (l : Words). HasNumber l e) same has))
one_line P s date t e limits (suc j) line is has =
    elim (mapped_from (symbol_words P s t) ([] ∷ []) (order 1 (shift_count P)) j line is) [
      | inl found ↦
          let x = has_only P s t found.0 e line limits found.2 has in
          ap (λ v. suc v) (order_one (shift_count P) j found.0 found.1 ∙ ap (place_in (shift_count P)) (sym x))
      | inr last ↦ absurd (nothing_has_none line e last has)
    ]

on_stands : (P : Instance) (s : List Symbol) (date : Date) (t e : ℕ) (text : List ℕ) → KeepsLimits P → IsRoster P s → text ≡ on_text P s date t → IsEmployee P e → StandsUnder text e (name_of P (symbol_on P s e t))
on_stands P s date t e text limits roster is employee =
    let x = (symbol_on P s e t).number in
    let known : x ≤ shift_count P = on_symbol P s e t (symbol_on P s e t) roster refl in
    let lines = ap lines_read is ∙ on_lines P s date t limits in
    record {
      place = suc (place_in (shift_count P) x);
      stands = record {
        line = symbol_words P s t x;
        is_line = ap (λ ls. slice_get ls (suc (place_in (shift_count P) x))) lines ∙ mapped_at (symbol_words P s t) ([] ∷ []) (order 1 (shift_count P)) (place_in (shift_count P) x) x (order_at (shift_count P) x known);
        named = refl;
        has = numbers_has (has_symbol P s t x) 1 P.weeks e (few_employees P limits) employee.0 (omega (arith, employee.1)) (eq-eqb x x refl);
      };
      only = λ i other at. one_line P s date t e limits i at.line (ap (λ ls. slice_get ls i) (sym lines) ∙ at.is_line) at.has;
    }

pub as_in_tables : DatesAreAsInTables
as_in_tables P s start date days t e table text limits roster tabled on same less employee =
    let days_same : on.t ≡ t = omega (arith, signed_arith, on.days, same) in
    let is : text ≡ on_text P s date t = on.is ∙ ap (on_text P s date) days_same in
    (name_of P (symbol_on P s e t), crew_named P s start date days t e table limits tabled same less employee, on_stands P s date t e text limits roster is employee)
