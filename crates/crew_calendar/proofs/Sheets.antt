-- A sheet has one text, and its cells are read back.
use Rattle.std.proofs.Common.{◌≡◌, ℕ, zero, suc, ◌+◌, ◌<◌, List, [], ◌∷◌, ◌++◌, map, Some, refl, ap, sym, ◌∙◌, arith, append_assoc}
use Rattle.std.specs.List.{flat_map, range_with_len}
use Rattle.std.proofs.lemmas.List.Folds.{flat_map-map}
use Rattle.jiff_core.proofs.DateLemmas.{epoch_day_injective}
use Rattle.rwsp_terms.specs.Instance.{Instance}
use Rattle.rwsp_terms.specs.declared.data.Symbol.{Symbol}
use Rattle.crew_calendar.specs.declared.dates.TheConstants.{MOST_DAYS_LATER}
use Rattle.crew_calendar.specs.Crew.{employees}
use Rattle.crew_calendar.specs.Calendar.{Date, epoch_day, date_text, weekday_text, IsCalendar}
use Rattle.crew_calendar.specs.Csv.{Record, next_text, record_text, records_text, records_in, HaveFields}
use Rattle.crew_calendar.specs.ReadDates.{lines_read}
use Rattle.crew_calendar.specs.Sheet.{head_cells, cell, day_cells, sheet_records, without_weekday, IsSheet, SheetsAreOne, SheetsAreReadBack, SheetsAreAsTables}
use Rattle.crew_calendar.proofs.Appended.{piece_more}
use Rattle.crew_calendar.proofs.Calendars.{one_text}
use Rattle.crew_calendar.proofs.CsvRead.{records_again}
use Rattle.crew_calendar.proofs.ReadDates.{day_words, table_lines}

-- two dates of one day have one day of the week
pub one_weekday : (a b : Date) → epoch_day a ≡ epoch_day b → weekday_text a ≡ weekday_text b
one_weekday a b same =
    let parts = epoch_day_injective a b same in
    rw (parts.0, parts.1, parts.2)

mapped_same : (f g : ℕ → Record) (a n : ℕ) → ((i : ℕ) → i < a + n → f i ≡ g i) → map f (range_with_len a n) ≡ map g (range_with_len a n)
mapped_same f g a zero same = refl
mapped_same f g a (suc n) same =
    ap (λ l. l ∷ map f (range_with_len (a + 1) n)) (same a (omega arith))
    ∙ ap (λ l. g a ∷ l) (mapped_same f g (a + 1) n (λ i less. same i (omega (arith, less))))

-- the days of two calendars from one date are the same
days_same : (P : Instance) (s : List Symbol) (date : Date) (days : ℕ) (on other : ℕ → Date) → IsCalendar date (days + MOST_DAYS_LATER) on → IsCalendar date (days + MOST_DAYS_LATER) other → map (day_cells P s on) (range_with_len 0 days) ≡ map (day_cells P s other) (range_with_len 0 days)
days_same P s date days on other here there =
    mapped_same (day_cells P s on) (day_cells P s other) 0 days
    (λ t less.
    let day = here t (omega (arith, less)) ∙ sym (there t (omega (arith, less))) in
    ap (λ d. d ∷ weekday_text (on t) ∷ map (cell P s t) (employees P)) (one_text (on t) (other t) day)
    ∙ ap (λ w. date_text (other t) ∷ w ∷ map (cell P s t) (employees P)) (one_weekday (on t) (other t) day))

records_same : (P : Instance) (s : List Symbol) (date : Date) (days : ℕ) (on other : ℕ → Date) → IsCalendar date (days + MOST_DAYS_LATER) on → IsCalendar date (days + MOST_DAYS_LATER) other → sheet_records P s on days ≡ sheet_records P s other days
records_same P s date days on other here there = ap (λ l. head_cells P ∷ l) (days_same P s date days on other here there)

pub one_sheet : SheetsAreOne
one_sheet P s date days text other a b = a.is ∙ ap records_text (records_same P s date days a.on b.on a.calendar b.calendar) ∙ sym b.is

-- every record has a field
days_have : (P : Instance) (s : List Symbol) (on : ℕ → Date) (ts : List ℕ) → HaveFields (map (day_cells P s on) ts)
days_have P s on [] = tt
days_have P s on (t ∷ ts) = (tt, days_have P s on ts)

sheet_read : (P : Instance) (s : List Symbol) (date : Date) (days : ℕ) (text : List ℕ) (sheet : IsSheet P s date days text) → records_in text ≡ Some (sheet_records P s sheet.on days)
sheet_read P s date days text sheet =
    ap records_in sheet.is ∙ records_again (sheet_records P s sheet.on days) (tt, days_have P s sheet.on (range_with_len 0 days))

pub sheets_read : SheetsAreReadBack
sheets_read P s date days text sheet on calendar =
    sheet_read P s date days text sheet ∙ ap (λ l. Some l) (records_same P s date days sheet.on on sheet.calendar calendar)

-- without the day of the week a day has the words of its line
words_are : (P : Instance) (s : List Symbol) (on : ℕ → Date) (ts : List ℕ) → map (day_words P s on) ts ≡ map without_weekday (map (day_cells P s on) ts)
words_are P s on [] = refl
words_are P s on (t ∷ ts) = ap (λ l. day_words P s on t ∷ l) (words_are P s on ts)

pub as_tables : SheetsAreAsTables
as_tables P s date days sheet table limits is tabled =
    let rows = map (day_cells P s tabled.on) (range_with_len 0 days) in (
      rows,
      sheet_read P s date days sheet is ∙ ap (λ l. Some l) (records_same P s date days is.on tabled.on is.calendar tabled.calendar),
      ap lines_read tabled.is ∙ table_lines P s tabled.on days limits
          ∙ ap (λ l. l ++ ([] ∷ []) ∷ []) (words_are P s tabled.on (range_with_len 0 days)),
    )

-- What is put.

-- fields behind commas, each of an employee
pub fields_mapped : (f : ℕ → List ℕ) (es : List ℕ) → flat_map (λ e. next_text (f e)) es ≡ flat_map next_text (map f es)
fields_mapped f es = sym (flat_map-map next_text f es)

-- the first fields, the cells of all employees, and CR LF
pub record_put : (old first mid out new : List ℕ) (f : ℕ → List ℕ) (es : List ℕ) (fields : Record) → mid ≡ old ++ first → out ≡ mid ++ flat_map (λ e. next_text (f e)) es → new ≡ out ++ 13 ∷ 10 ∷ [] → record_text fields ≡ (first ++ flat_map next_text (map f es)) ++ 13 ∷ 10 ∷ [] → new ≡ old ++ record_text fields
record_put old first mid out new f es fields a b c is =
    c
    ∙ ap (λ t. t ++ 13 ∷ 10 ∷ []) (b ∙ ap (λ t. t ++ flat_map (λ e. next_text (f e)) es) a ∙ append_assoc old first (flat_map (λ e. next_text (f e)) es) ∙ ap (λ t. old ++ (first ++ t)) (fields_mapped f es))
    ∙ append_assoc old (first ++ flat_map next_text (map f es)) (13 ∷ 10 ∷ [])
    ∙ ap (λ t. old ++ t) (sym is)

-- one day more
pub sheet_more : (f : ℕ → Record) (t : ℕ) (head out new : List ℕ) → out ≡ head ++ records_text (map f (range_with_len 0 t)) → new ≡ out ++ record_text (f t) → new ≡ head ++ records_text (map f (range_with_len 0 (t + 1)))
sheet_more f t head out new before step =
    let here : t ≡ 0 + t = omega arith in
    piece_more (λ t. record_text (f t)) 0 t head out new
    (before ∙ ap (λ l. head ++ l) (flat_map-map record_text f (range_with_len 0 t)))
    (step ∙ ap (λ k. out ++ record_text (f k)) here)
    ∙ ap (λ l. head ++ l) (sym (flat_map-map record_text f (range_with_len 0 (t + 1))))
