-- The events of a calendar are read back from its text.
use Rattle.std.proofs.Common.{◌≡◌, ℕ, ℤ, pos, negsuc, zero, suc, ◌+◌, ◌-◌, ◌*◌, ◌/◌, ◌%◌, ◌^◌, ◌<◌, ◌≤◌, ◌==◌, inl, inr, List, [], ◌∷◌, ◌++◌, take, drop, map, codes, Bool, true, false, cond, not, Some, None, refl, ap, sym, subst, ◌∙◌, arith, append_assoc}
use Rattle.std.specs.Prelude.{◌≢◌, ◌≤ℤ◌, All, ◌&&◌, nat_lt, slice_get, unsigned_abs}
use Rattle.std.specs.List.{flat_map, range_with_len, list_all}
use Rattle.std.specs.Char.{is_ascii_digit}
use Rattle.std.specs.Fmt.{decimal}
use Rattle.std.specs.Str.{bytes_eq}
use Rattle.std.proofs.lemmas.Bool.{and_parts}
use Rattle.std.proofs.lemmas.Bool.Decides.{nat_tests}
use Rattle.std.proofs.lemmas.Int.{ints}
use Rattle.std.proofs.lemmas.Option.{slice_get_cases}
use Rattle.std.proofs.lemmas.Slice.Eq.{bytes_eq-Decides}
use Rattle.std.proofs.lemmas.Grind.{flat_map-append}
use Rattle.std.proofs.lemmas.List.{append-nil, map-append}
use Rattle.std.proofs.lemmas.List.Elements.{All-nil, All-cons, All-append, All-weaker}
use Rattle.jiff_core.specs.Calendar.{days_in_month}
use Rattle.jiff_core.proofs.CalendarLemmas.{days_in_month_bounds}
use Rattle.rwsp_terms.specs.declared.data.ShiftRow.{ShiftRow}
use Rattle.rwsp_terms.specs.declared.data.Symbol.{Symbol}
use Rattle.rwsp_terms.specs.Instance.{Instance, name_of, name_among, symbol_numbered}
use Rattle.rwsp_text.specs.Fields.{is_visible}
use Rattle.rwsp_text.specs.Numbers.{value_of}
use Rattle.rwsp_text.proofs.KindLaws.{decimal_blankless}
use Rattle.rwsp_model.specs.Validity.{KeepsLimits, IsShiftName, breaks_name}
use Rattle.crew_calendar.specs.Crew.{symbol_on}
use Rattle.crew_calendar.specs.Calendar.{Date}
use Rattle.crew_calendar.specs.Texts.{two_digits, day_minutes, start_of, length_of, shift_line, duty_line_of, duty_line}
use Rattle.shown_names.specs.ShownNames.{character_len, first_shown, hex_digit, hex_text, is_printable, shown, shown_from}
use Rattle.crew_calendar.specs.ContentLines.{is_special, escape, escaped, has_room, folded_from, content_line, content_text, unfolded, unfolded_from, unescaped, HasNoReturn}
use Rattle.crew_calendar.specs.Events.{compact_date, compact_moment, moment_at, uid_line, stamp_line, start_line, end_line, summary_line, opening_lines, closing_lines, time_lines, event_lines, duty_events, events_on, first_lines, last_lines, calendar_lines}
use Rattle.crew_calendar.specs.ReadEvents.{begins_with_end, onto_first, lines_from, lines_in, Said, Nothing, NoMoment, At, is_moment, moment_in, Event, untold, events_from, events_in, Duty, duties_with, duties_of, said_at, end_said, event_of, EventsAreReadBack, DutiesAreListed}
use Rattle.crew_calendar.proofs.Written.{fold-byte, fold-nil}
use Rattle.crew_calendar.proofs.ReadBack.{begins_blank, line_read, texts_read}
use Rattle.crew_calendar.proofs.OneEvents.{one_events}

-- Lines.

-- a line that is read whole
pub record IsPlain (line : List ℕ) : Type 0 where
  pub whole : HasNoReturn line
  pub first : begins_blank line ≡ false

abbrev pub ended : List ℕ → List ℕ
ended line = line ++ 13 ∷ 10 ∷ []

row_first : (b : ℕ) (line rest : List ℕ) (room : Bool) → (b == 32) ≡ false → begins_blank (cond room (b ∷ folded_from 1 line) (13 ∷ 10 ∷ 32 ∷ b ∷ folded_from 2 line) ++ rest) ≡ false
row_first b line rest true other = other
row_first b line rest false other = refl

line_first : (line rest : List ℕ) → begins_blank line ≡ false → begins_blank (content_line line ++ rest) ≡ false
line_first [] rest other = ap (λ f. begins_blank ((f ++ 13 ∷ 10 ∷ []) ++ rest)) (fold-nil 0)
line_first (b ∷ line) rest other =
    ap (λ f. begins_blank ((f ++ 13 ∷ 10 ∷ []) ++ rest)) (fold-byte 0 b line (has_room 0 b) refl)
    ∙ ap begins_blank (append_assoc (cond (has_room 0 b) (b ∷ folded_from 1 line) (13 ∷ 10 ∷ 32 ∷ b ∷ folded_from 2 line)) (13 ∷ 10 ∷ []) rest)
    ∙ row_first b line (13 ∷ 10 ∷ rest) (has_room 0 b) other

text_first : (lines : List (List ℕ)) → All IsPlain lines → begins_blank (content_text lines) ≡ false
text_first [] plain = refl
text_first (line ∷ lines) plain = line_first line (content_text lines) (plain 0 line (omega arith)).first

text_unfolded : (lines : List (List ℕ)) → All IsPlain lines → unfolded (content_text lines) ≡ flat_map ended lines
unfolding unfolded_from
text_unfolded [] plain = refl
text_unfolded (line ∷ lines) plain =
    let others : All IsPlain lines = λ k d less. plain (suc k) d (omega (arith, less)) in
    ap unfolded (append_assoc (folded_from 0 line) (13 ∷ 10 ∷ []) (content_text lines))
    ∙ line_read line (content_text lines) (plain 0 line (omega arith)).whole (text_first lines others) 0
    ∙ ap (λ t. line ++ 13 ∷ 10 ∷ t) (text_unfolded lines others)
    ∙ sym (append_assoc line (13 ∷ 10 ∷ []) (flat_map ended lines))

no_end_by : (b : ℕ) (bytes : List ℕ) (end : Bool) → bytes_eq (take 2 (b ∷ bytes)) (13 ∷ 10 ∷ []) ≡ end → b ≢ 13 → end ≡ false
no_end_by b bytes true e apart =
    let same = (bytes_eq-Decides (take 2 (b ∷ bytes)) (13 ∷ 10 ∷ [])).0 e in
    let is : b ≡ 13 = cc in
    absurd (apart is)
no_end_by b bytes false e apart = refl

line_found : (line rest : List ℕ) → HasNoReturn line → lines_from 0 (line ++ 13 ∷ 10 ∷ rest) ≡ line ∷ lines_from 0 rest
unfolding lines_from
line_found [] rest whole = refl
line_found (b ∷ line) rest whole =
    let all = line ++ 13 ∷ 10 ∷ rest in
    ap (λ r. cond r ([] ∷ lines_from 1 all) (onto_first b (lines_from 0 all))) (no_end_by b all (begins_with_end (b ∷ all)) refl (whole 0 b (omega arith)))
    ∙ ap (onto_first b) (line_found line rest (λ k d less. whole (suc k) d (omega (arith, less))))

lines_found : (lines : List (List ℕ)) → All IsPlain lines → lines_from 0 (flat_map ended lines) ≡ lines
unfolding lines_from
lines_found [] plain = refl
lines_found (line ∷ lines) plain =
    ap (lines_from 0) (append_assoc line (13 ∷ 10 ∷ []) (flat_map ended lines))
    ∙ line_found line (flat_map ended lines) (plain 0 line (omega arith)).whole
    ∙ ap (λ ls. line ∷ ls) (lines_found lines (λ k d less. plain (suc k) d (omega (arith, less))))

pub text_lines : (lines : List (List ℕ)) → All IsPlain lines → lines_in (content_text lines) ≡ lines
text_lines lines plain = ap (lines_from 0) (text_unfolded lines plain) ∙ lines_found lines plain

-- No line of a calendar has a CR, and none begins with a blank.

apart_by : (b : ℕ) → not (b == 13) ≡ true → b ≢ 13
apart_by b h e = let no : not (b == 13) ≡ false = ap (λ z. not (z == 13)) e in absurd (cc)

no_return : (line : List ℕ) → list_all (λ b. not (b == 13)) line ≡ true → HasNoReturn line
no_return [] h = All-nil (λ b. b ≢ 13)
no_return (b ∷ line) h =
    let p = and_parts (not (b == 13)) (list_all (λ c. not (c == 13)) line) h in
    All-cons (λ c. c ≢ 13) b line (apart_by b p.0) (no_return line p.1)

digit_apart : (d : ℕ) → 48 + d ≢ 13
digit_apart d = λ e. absurd (omega (arith, e))

digits_plain : (n : ℕ) → HasNoReturn (two_digits n)
digits_plain n = All-cons (λ b. b ≢ 13) (48 + n / 10) ((48 + n % 10) ∷ []) (digit_apart (n / 10)) (All-cons (λ b. b ≢ 13) (48 + n % 10) [] (digit_apart (n % 10)) (All-nil (λ b. b ≢ 13)))

both : (xs ys : List ℕ) → HasNoReturn xs → HasNoReturn ys → HasNoReturn (xs ++ ys)
both xs ys h k = All-append (λ b. b ≢ 13) xs ys h k

date_plain : (date : Date) → HasNoReturn (compact_date date)
date_plain date =
    let month = two_digits date.month ++ two_digits date.day in
    let years = two_digits (unsigned_abs date.year % 100) ++ month in
    both (two_digits (unsigned_abs date.year / 100)) years (digits_plain (unsigned_abs date.year / 100))
    (both (two_digits (unsigned_abs date.year % 100)) month (digits_plain (unsigned_abs date.year % 100))
    (both (two_digits date.month) (two_digits date.day) (digits_plain date.month) (digits_plain date.day)))

moment_plain : (date : Date) (minutes : ℕ) → HasNoReturn (compact_moment date minutes)
moment_plain date minutes =
    let seconds = two_digits (minutes % 60) ++ codes "00" in
    let time = two_digits (minutes / 60) ++ seconds in
    both (compact_date date) (84 ∷ time) (date_plain date)
    (both (84 ∷ []) time (no_return (84 ∷ []) refl)
    (both (two_digits (minutes / 60)) seconds (digits_plain (minutes / 60))
    (both (two_digits (minutes % 60)) (codes "00") (digits_plain (minutes % 60)) (no_return (codes "00") refl))))

decimal_plain : (n : ℕ) → n < 2 ^ 64 → HasNoReturn (decimal n)
decimal_plain n small = All-weaker (λ b. is_visible b ≡ true) (λ b. b ≢ 13) (λ b h e. let no : is_visible b ≡ false = ap is_visible e in absurd (cc)) (decimal n) (decimal_blankless n small)

uid_plain : (e : ℕ) (date : Date) → e < 2 ^ 64 → IsPlain (uid_line e date)
uid_plain e date small = record {
  whole =
      both (codes "UID:" ++ decimal e ++ 45 ∷ compact_date date) (codes "@rwsp")
      (both (codes "UID:" ++ decimal e) (45 ∷ compact_date date)
      (both (codes "UID:") (decimal e) (no_return (codes "UID:") refl) (decimal_plain e small))
      (both (45 ∷ []) (compact_date date) (no_return (45 ∷ []) refl) (date_plain date)))
      (no_return (codes "@rwsp") refl);
  first = refl;
}

stamp_plain : (date : Date) → IsPlain (stamp_line date)
stamp_plain date = record {
  whole =
      both (codes "DTSTAMP:") (compact_moment date 0 ++ 90 ∷ []) (no_return (codes "DTSTAMP:") refl)
      (both (compact_moment date 0) (90 ∷ []) (moment_plain date 0) (no_return (90 ∷ []) refl));
  first = refl;
}

start_plain : (on : ℕ → Date) (minutes : ℕ) → IsPlain (start_line on minutes)
start_plain on minutes = record {
  whole = both (codes "DTSTART:") (moment_at on minutes) (no_return (codes "DTSTART:") refl) (moment_plain (on (minutes / day_minutes)) (minutes % day_minutes));
  first = refl;
}

end_plain : (on : ℕ → Date) (minutes : ℕ) → IsPlain (end_line on minutes)
end_plain on minutes = record {
  whole = both (codes "DTEND:") (moment_at on minutes) (no_return (codes "DTEND:") refl) (moment_plain (on (minutes / day_minutes)) (minutes % day_minutes));
  first = refl;
}

-- names

escape_plain : (b : ℕ) (special : Bool) → b ≢ 13 → HasNoReturn (cond special (92 ∷ b ∷ []) (b ∷ []))
escape_plain b true apart = All-cons (λ c. c ≢ 13) 92 (b ∷ []) (λ e. absurd (omega (arith, e))) (All-cons (λ c. c ≢ 13) b [] apart (All-nil (λ c. c ≢ 13)))
escape_plain b false apart = All-cons (λ c. c ≢ 13) b [] apart (All-nil (λ c. c ≢ 13))

escaped_plain : (text : List ℕ) → HasNoReturn text → HasNoReturn (escaped text)
escaped_plain [] h = h
escaped_plain (b ∷ text) h =
    both (escape b) (flat_map escape text) (escape_plain b (is_special b) (h 0 b (omega arith))) (escaped_plain text (λ k d less. h (suc k) d (omega (arith, less))))

hex_apart : (d : ℕ) (small : Bool) → nat_lt d 10 ≡ small → hex_digit d ≢ 13
hex_apart d true is = λ e. let digit : hex_digit d ≡ 48 + d = ap (λ t. cond t (48 + d) (55 + d)) is in absurd (omega (arith, sym digit ∙ e))
hex_apart d false is = λ e. let letter : hex_digit d ≡ 55 + d = ap (λ t. cond t (48 + d) (55 + d)) is in absurd (omega (arith, sym letter ∙ e))

hex_plain : (h l : ℕ) → HasNoReturn (92 ∷ 120 ∷ hex_digit h ∷ hex_digit l ∷ [])
hex_plain h l =
    both (92 ∷ 120 ∷ []) (hex_digit h ∷ hex_digit l ∷ []) (no_return (92 ∷ 120 ∷ []) refl)
    (All-cons (λ c. c ≢ 13) (hex_digit h) (hex_digit l ∷ []) (hex_apart h (nat_lt h 10) refl)
    (All-cons (λ c. c ≢ 13) (hex_digit l) [] (hex_apart l (nat_lt l 10) refl) (All-nil (λ c. c ≢ 13))))

first_plain : (b : ℕ) (kept : Bool) → b ≢ 13 → HasNoReturn (cond kept (b ∷ []) (hex_text b))
first_plain b true apart = All-cons (λ c. c ≢ 13) b [] apart (All-nil (λ c. c ≢ 13))
first_plain b false apart = hex_plain (b / 16) (b % 16)

shown_plain : (more : ℕ) (name : List ℕ) → HasNoReturn name → HasNoReturn (shown_from more name)
unfolding shown_from
shown_plain more [] h = All-nil (λ b. b ≢ 13)
shown_plain zero (b ∷ name) h =
    let n = character_len (b ∷ name) in
    both (first_shown b n) (shown_from (n - 1) name) (first_plain b (nat_lt 0 n && is_printable b) (h 0 b (omega arith))) (shown_plain (n - 1) name (λ k d less. h (suc k) d (omega (arith, less))))
shown_plain (suc more) (b ∷ name) h =
    All-cons (λ c. c ≢ 13) b (shown_from more name) (h 0 b (omega arith)) (shown_plain more name (λ k d less. h (suc k) d (omega (arith, less))))

unbroken_apart : (b : ℕ) → breaks_name b ≡ false → b ≢ 13
unbroken_apart b h e = let yes : breaks_name b ≡ true = ap breaks_name e in absurd (cc)

name_plain : (rows : List ShiftRow) (n : ℕ) → All (λ row. IsShiftName row.name) rows → HasNoReturn (name_among rows n)
name_plain rows zero names = no_return (45 ∷ []) refl
name_plain rows (suc k) names =
    elim (slice_get_cases rows k).1 [
      | inl found ↦
          let row = found.0 in
          let here : IsShiftName row.name = subst (λ (r : ShiftRow). IsShiftName r.name) found.3 (names k row found.1) in
          let is : slice_get rows k ≡ Some row = found.2 in
          rw is (All-weaker (λ b. breaks_name b ≡ false) (λ b. b ≢ 13) unbroken_apart row.name here.unbroken)
      | inr past ↦ let none : slice_get rows k ≡ None = past.1 in rw none (All-nil (λ b. b ≢ 13))
    ]

summary_plain : (P : Instance) (x : Symbol) → KeepsLimits P → IsPlain (summary_line (name_of P x))
summary_plain P x limits = record {
  whole =
      both (codes "SUMMARY:") (escaped (shown (name_of P x))) (no_return (codes "SUMMARY:") refl)
      (escaped_plain (shown (name_of P x)) (shown_plain 0 (name_of P x) (name_plain P.shifts x.number limits.names)));
  first = refl;
}

word_plain : (line : List ℕ) → list_all (λ b. not (b == 13)) line ≡ true → begins_blank line ≡ false → IsPlain line
word_plain line h other = record { whole = no_return line h; first = other }

then : (line : List ℕ) (lines : List (List ℕ)) → IsPlain line → All IsPlain lines → All IsPlain (line ∷ lines)
then line lines h k = All-cons IsPlain line lines h k

times_plain : (on : ℕ → Date) (start length : ℕ) (lines : List (List ℕ)) → All IsPlain lines → All IsPlain (time_lines on start length ++ lines)
times_plain on start zero lines h = then (start_line on start) lines (start_plain on start) h
times_plain on start (suc length) lines h =
    let end = end_line on (start + suc length) in
    then (start_line on start) (end ∷ lines) (start_plain on start) (then end lines (end_plain on (start + suc length)) h)

closing_plain : (P : Instance) (x : Symbol) (lines : List (List ℕ)) → KeepsLimits P → All IsPlain lines → All IsPlain (closing_lines (name_of P x) ++ lines)
closing_plain P x lines limits h =
    then (summary_line (name_of P x)) (codes "END:VEVENT" ∷ lines) (summary_plain P x limits)
    (then (codes "END:VEVENT") lines (word_plain (codes "END:VEVENT") refl refl) h)

opening_plain : (first date : Date) (e : ℕ) (lines : List (List ℕ)) → e < 2 ^ 64 → All IsPlain lines → All IsPlain (opening_lines first date e ++ lines)
opening_plain first date e lines small h =
    then (codes "BEGIN:VEVENT") (uid_line e date ∷ stamp_line first ∷ lines) (word_plain (codes "BEGIN:VEVENT") refl refl)
    (then (uid_line e date) (stamp_line first ∷ lines) (uid_plain e date small) (then (stamp_line first) lines (stamp_plain first) h))

event_plain : (P : Instance) (first : Date) (on : ℕ → Date) (e t : ℕ) (x : Symbol) (lines : List (List ℕ)) → KeepsLimits P → e < 2 ^ 64 → All IsPlain lines → All IsPlain (event_lines P first on e t x ++ lines)
event_plain P first on e t x lines limits small h =
    let start = t * day_minutes + start_of P x in
    let times = time_lines on start (length_of P x) in
    let last = closing_lines (name_of P x) in
    let behind : (times ++ last) ++ lines ≡ times ++ (last ++ lines) = append_assoc times last lines in
    opening_plain first (on t) e ((times ++ last) ++ lines) small
    (subst (All IsPlain) (sym behind) (times_plain on start (length_of P x) (last ++ lines) (closing_plain P x lines limits h)))

duty_plain : (P : Instance) (first : Date) (on : ℕ → Date) (e t number : ℕ) (lines : List (List ℕ)) → KeepsLimits P → e < 2 ^ 64 → All IsPlain lines → All IsPlain (duty_events P first on e t number ++ lines)
duty_plain P first on e t zero lines limits small h = h
duty_plain P first on e t (suc x) lines limits small h = event_plain P first on e t (symbol_numbered (suc x)) lines limits small h

days_plain : (P : Instance) (s : List Symbol) (first : Date) (on : ℕ → Date) (e from n : ℕ) (lines : List (List ℕ)) → KeepsLimits P → e < 2 ^ 64 → All IsPlain lines → All IsPlain (flat_map (events_on P s first on e) (range_with_len from n) ++ lines)
days_plain P s first on e from zero lines limits small h = h
days_plain P s first on e from (suc n) lines limits small h =
    let here = events_on P s first on e from in
    let later = flat_map (events_on P s first on e) (range_with_len (from + 1) n) in
    subst (All IsPlain) (sym (append_assoc here later lines))
    (duty_plain P first on e from (symbol_on P s e from).number (later ++ lines) limits small (days_plain P s first on e (from + 1) n lines limits small h))

head_plain : (lines : List (List ℕ)) → All IsPlain lines → All IsPlain (first_lines ++ lines)
head_plain lines h =
    let product = codes "PRODID:-//rwsp//crew calendar//EN" in
    then (codes "BEGIN:VCALENDAR") (codes "VERSION:2.0" ∷ product ∷ lines) (word_plain (codes "BEGIN:VCALENDAR") refl refl)
    (then (codes "VERSION:2.0") (product ∷ lines) (word_plain (codes "VERSION:2.0") refl refl) (then product lines (word_plain product refl refl) h))

calendar_plain : (P : Instance) (s : List Symbol) (first : Date) (on : ℕ → Date) (e days : ℕ) → KeepsLimits P → e < 2 ^ 64 → All IsPlain (calendar_lines P s first on e days)
calendar_plain P s first on e days limits small =
    head_plain (flat_map (events_on P s first on e) (range_with_len 0 days) ++ last_lines)
    (days_plain P s first on e 0 days last_lines limits small (then (codes "END:VCALENDAR") [] (word_plain (codes "END:VCALENDAR") refl refl) (All-nil IsPlain)))

-- Moments.

digit_is : (d : ℕ) → d < 10 → is_ascii_digit (48 + d) ≡ true
digit_is d small = grind (arith, nat_tests)

all_two : (a b : ℕ) (rest : List ℕ) → is_ascii_digit a ≡ true → is_ascii_digit b ≡ true → list_all is_ascii_digit rest ≡ true → list_all is_ascii_digit (a ∷ b ∷ rest) ≡ true
all_two a b rest h k more = rw (h, k) more

two_are : (n : ℕ) (rest : List ℕ) → n < 100 → list_all is_ascii_digit rest ≡ true → list_all is_ascii_digit (two_digits n ++ rest) ≡ true
two_are n rest small more = all_two (48 + n / 10) (48 + n % 10) rest (digit_is (n / 10) (omega (arith, small))) (digit_is (n % 10) (omega arith)) more

two_value : (n : ℕ) → value_of (two_digits n) ≡ n
two_value n = omega arith

four_value : (n : ℕ) → value_of (two_digits (n / 100) ++ two_digits (n % 100)) ≡ n
four_value n = omega arith

year_small : (y : ℤ) → y ≤ℤ pos 9999 → (negsuc 9998) ≤ℤ y → unsigned_abs y < 10000
year_small (pos n) h low = omega (arith, ints, h)
year_small (negsuc n) h low = omega (arith, ints, low)

day_small : (y : ℤ) (m d : ℕ) → d ≤ days_in_month y m → d < 100
day_small y m d le = let bounds = days_in_month_bounds y m in omega (arith, le, bounds.0, bounds.1)

four : (a t b z : Bool) → a ≡ true → t ≡ true → b ≡ true → z ≡ true → (a && t && b && z) ≡ true
four a t b z e f g h = rw (e, f, g, h) refl

same_said : (y m d h n a b c i o : ℕ) → y ≡ a → m ≡ b → d ≡ c → h ≡ i → n ≡ o → At y m d h n ≡ At a b c i o
same_said y m d h n a b c i o e1 e2 e3 e4 e5 = rw (e1, e2, e3, e4, e5) refl

moment_read : (date : Date) (minutes : ℕ) → minutes < day_minutes → moment_in (compact_moment date minutes) ≡ At (unsigned_abs date.year) date.month date.day (minutes / 60) (minutes % 60)
moment_read date minutes within =
    let y = unsigned_abs date.year in
    let word = compact_moment date minutes in
    let small : y < 10000 = year_small date.year date.year_in.1 date.year_in.0 in
    let month : date.month < 100 = omega (arith, date.month_in.1) in
    let day : date.day < 100 = day_small date.year date.month date.day date.day_in.1 in
    let days : list_all is_ascii_digit (take 8 word) ≡ true =
    two_are (y / 100) (two_digits (y % 100) ++ two_digits date.month ++ two_digits date.day ++ []) (omega (arith, small))
    (two_are (y % 100) (two_digits date.month ++ two_digits date.day ++ []) (omega arith)
    (two_are date.month (two_digits date.day ++ []) month (two_are date.day [] day refl))) in
    let times : list_all is_ascii_digit (take 4 (drop 9 word)) ≡ true =
    two_are (minutes / 60) (two_digits (minutes % 60) ++ []) (omega (arith, within)) (two_are (minutes % 60) [] (omega arith) refl) in
    let whole : is_moment word ≡ true = four (list_all is_ascii_digit (take 8 word)) (bytes_eq (take 1 (drop 8 word)) (codes "T")) (list_all is_ascii_digit (take 4 (drop 9 word))) (bytes_eq (drop 13 word) (codes "00")) days refl times refl in
    ap (λ k. cond k (At (value_of (take 4 word)) (value_of (take 2 (drop 4 word))) (value_of (take 2 (drop 6 word))) (value_of (take 2 (drop 9 word))) (value_of (take 2 (drop 11 word)))) NoMoment) whole
    ∙ same_said _ _ _ _ _ y date.month date.day (minutes / 60) (minutes % 60) (four_value y) (two_value date.month) (two_value date.day) (two_value (minutes / 60)) (two_value (minutes % 60))

moment_said : (on : ℕ → Date) (minutes : ℕ) → moment_in (moment_at on minutes) ≡ said_at on minutes
moment_said on minutes = moment_read (on (minutes / day_minutes)) (minutes % day_minutes) (omega arith)

-- Events.

uid_skipped : (event : Event) (e : ℕ) (date : Date) (lines : List (List ℕ)) → events_from event (uid_line e date ∷ lines) ≡ events_from event lines
unfolding events_from
uid_skipped event e date lines = refl

stamp_skipped : (event : Event) (date : Date) (lines : List (List ℕ)) → events_from event (stamp_line date ∷ lines) ≡ events_from event lines
unfolding events_from
stamp_skipped event date lines = refl

start_taken : (event : Event) (word : List ℕ) (lines : List (List ℕ)) → events_from event ((codes "DTSTART:" ++ word) ∷ lines) ≡ events_from (record event { start = moment_in word }) lines
unfolding events_from
start_taken event word lines = refl

end_taken : (event : Event) (word : List ℕ) (lines : List (List ℕ)) → events_from event ((codes "DTEND:" ++ word) ∷ lines) ≡ events_from (record event { end = moment_in word }) lines
unfolding events_from
end_taken event word lines = refl

name_taken : (event : Event) (word : List ℕ) (lines : List (List ℕ)) → events_from event ((codes "SUMMARY:" ++ word) ∷ lines) ≡ events_from (record event { name = Some (unescaped word) }) lines
unfolding events_from
name_taken event word lines = refl

begin_read : (event : Event) (lines : List (List ℕ)) → events_from event (codes "BEGIN:VEVENT" ∷ lines) ≡ events_from untold lines
unfolding events_from
begin_read event lines = refl

end_read : (event : Event) (lines : List (List ℕ)) → events_from event (codes "END:VEVENT" ∷ lines) ≡ event ∷ events_from untold lines
unfolding events_from
end_read event lines = refl

head_read : (lines : List (List ℕ)) → events_from untold (first_lines ++ lines) ≡ events_from untold lines
unfolding events_from
head_read lines = refl

last_read : events_from untold last_lines ≡ []
unfolding events_from
last_read = refl

with_times : Said → Said → Event
with_times start end = record { start = start; end = end; name = None }

times_read : (on : ℕ → Date) (start length : ℕ) (lines : List (List ℕ)) → events_from untold (time_lines on start length ++ lines) ≡ events_from (with_times (said_at on start) (end_said on start length)) lines
unfolding with_times
times_read on start zero lines =
    start_taken untold (moment_at on start) lines
    ∙ ap (λ a. events_from (with_times a Nothing) lines) (moment_said on start)
times_read on start (suc length) lines =
    start_taken untold (moment_at on start) (end_line on (start + suc length) ∷ lines)
    ∙ end_taken (with_times (moment_in (moment_at on start)) Nothing) (moment_at on (start + suc length)) lines
    ∙ ap (λ a. events_from (with_times a (moment_in (moment_at on (start + suc length)))) lines) (moment_said on start)
    ∙ ap (λ b. events_from (with_times (said_at on start) b) lines) (moment_said on (start + suc length))

closing_read : (start end : Said) (name : List ℕ) (lines : List (List ℕ)) → events_from (with_times start end) (closing_lines name ++ lines) ≡ record { start = start; end = end; name = Some (shown name) } ∷ events_from untold lines
unfolding with_times
closing_read start end name lines =
    name_taken (with_times start end) (escaped (shown name)) (codes "END:VEVENT" ∷ lines)
    ∙ end_read (record { start = start; end = end; name = Some (unescaped (escaped (shown name))) }) lines
    ∙ ap (λ n. record { start = start; end = end; name = Some n } ∷ events_from untold lines) (texts_read (shown name))

event_read : (P : Instance) (first : Date) (on : ℕ → Date) (e t : ℕ) (x : Symbol) (lines : List (List ℕ)) → events_from untold (event_lines P first on e t x ++ lines) ≡ event_of P on (record { day = t; shift = x }) ∷ events_from untold lines
event_read P first on e t x lines =
    let start = t * day_minutes + start_of P x in
    let times = time_lines on start (length_of P x) in
    let last = closing_lines (name_of P x) in
    begin_read untold (uid_line e (on t) ∷ stamp_line first ∷ ((times ++ last) ++ lines))
    ∙ uid_skipped untold e (on t) (stamp_line first ∷ ((times ++ last) ++ lines))
    ∙ stamp_skipped untold first ((times ++ last) ++ lines)
    ∙ ap (events_from untold) (append_assoc times last lines)
    ∙ times_read on start (length_of P x) (last ++ lines)
    ∙ closing_read (said_at on start) (end_said on start (length_of P x)) (name_of P x) lines

duty_read : (P : Instance) (first : Date) (on : ℕ → Date) (e t number : ℕ) (lines : List (List ℕ)) → events_from untold (duty_events P first on e t number ++ lines) ≡ map (event_of P on) (duties_with t number) ++ events_from untold lines
duty_read P first on e t zero lines = refl
duty_read P first on e t (suc x) lines = event_read P first on e t (symbol_numbered (suc x)) lines

days_read : (P : Instance) (s : List Symbol) (first : Date) (on : ℕ → Date) (e from n : ℕ) (lines : List (List ℕ)) → events_from untold (flat_map (events_on P s first on e) (range_with_len from n) ++ lines) ≡ map (event_of P on) (flat_map (λ t. duties_with t (symbol_on P s e t).number) (range_with_len from n)) ++ events_from untold lines
days_read P s first on e from zero lines = refl
days_read P s first on e from (suc n) lines =
    let here = events_on P s first on e from in
    let later = flat_map (events_on P s first on e) (range_with_len (from + 1) n) in
    let duty = duties_with from (symbol_on P s e from).number in
    let duties = flat_map (λ t. duties_with t (symbol_on P s e t).number) (range_with_len (from + 1) n) in
    ap (events_from untold) (append_assoc here later lines)
    ∙ duty_read P first on e from (symbol_on P s e from).number (later ++ lines)
    ∙ ap (λ es. map (event_of P on) duty ++ es) (days_read P s first on e (from + 1) n lines)
    ∙ sym (append_assoc (map (event_of P on) duty) (map (event_of P on) duties) (events_from untold lines))
    ∙ ap (λ es. es ++ events_from untold lines) (sym (map-append (event_of P on) duty duties))

calendar_read : (P : Instance) (s : List Symbol) (first : Date) (on : ℕ → Date) (e days : ℕ) → events_from untold (calendar_lines P s first on e days) ≡ map (event_of P on) (duties_of P s e days)
calendar_read P s first on e days =
    head_read (flat_map (events_on P s first on e) (range_with_len 0 days) ++ last_lines)
    ∙ days_read P s first on e 0 days last_lines
    ∙ ap (λ es. map (event_of P on) (duties_of P s e days) ++ es) last_read
    ∙ append-nil (map (event_of P on) (duties_of P s e days))

pub events_read : EventsAreReadBack
events_read P s date days e text limits employee h on calendar =
    let small : e < 2 ^ 64 = omega (arith, employee.1, limits.few_weeks) in
    let lines = calendar_lines P s date on e days in
    let is : text ≡ content_text lines = one_events P s date days e text (content_text lines) limits h (record { on = on; calendar = calendar; is = refl }) in
    ap events_in is ∙ ap (events_from untold) (text_lines lines (calendar_plain P s date on e days limits small)) ∙ calendar_read P s date on e days

-- Duties.

line_listed : (P : Instance) (on : ℕ → Date) (t number : ℕ) → duty_line_of P on t number ≡ flat_map (λ duty. shift_line P on duty.day duty.shift) (duties_with t number)
line_listed P on t zero = refl
line_listed P on t (suc x) = sym (append-nil (shift_line P on t (symbol_numbered (suc x))))

lines_listed : (P : Instance) (s : List Symbol) (on : ℕ → Date) (e from n : ℕ) → flat_map (duty_line P s on e) (range_with_len from n) ≡ flat_map (λ duty. shift_line P on duty.day duty.shift) (flat_map (λ t. duties_with t (symbol_on P s e t).number) (range_with_len from n))
lines_listed P s on e from zero = refl
lines_listed P s on e from (suc n) =
    let line = λ (duty : Duty). shift_line P on duty.day duty.shift in
    let duty = duties_with from (symbol_on P s e from).number in
    let duties = flat_map (λ t. duties_with t (symbol_on P s e t).number) (range_with_len (from + 1) n) in
    ap (λ l. l ++ flat_map (duty_line P s on e) (range_with_len (from + 1) n)) (line_listed P on from (symbol_on P s e from).number)
    ∙ ap (λ l. flat_map line duty ++ l) (lines_listed P s on e (from + 1) n)
    ∙ sym (flat_map-append line duty duties)

pub duties_listed : DutiesAreListed
duties_listed P s on e days = lines_listed P s on e 0 days
