-- How an iCalendar (RFC 5545) is read: its lines, the events among them, and what each event says of when it is and what
-- it is called. And the duties of an employee, which a calendar that is read is to have.
use Rattle.std.specs.Prelude.{◌≡◌, ℕ, zero, suc, ◌+◌, ◌*◌, ◌/◌, ◌%◌, List, [], ◌∷◌, take, drop, map, Bool, ◌&&◌, nat_eq, Option, Some, None, codes, unsigned_abs, if◌then◌else◌}
use Rattle.std.specs.List.{flat_map, range_with_len, list_all, starts_with}
use Rattle.std.specs.Char.{is_ascii_digit}
use Rattle.std.specs.Str.{bytes_eq}
use Rattle.rwsp_text.specs.Numbers.{value_of}
use Rattle.rwsp_terms.specs.Instance.{Instance, name_of, symbol_numbered}
use Rattle.rwsp_terms.specs.declared.data.Symbol.{Symbol}
use Rattle.rwsp_model.specs.Validity.{KeepsLimits}
use Rattle.crew_calendar.specs.declared.dates.TheConstants.{MOST_DAYS_LATER}
use Rattle.crew_calendar.specs.Crew.{IsEmployee, symbol_on}
use Rattle.crew_calendar.specs.Calendar.{Date, OnCalendar}
use Rattle.crew_calendar.specs.Texts.{day_minutes, start_of, length_of, shift_line, duties_text}
use Rattle.shown_names.specs.ShownNames.{shown}
use Rattle.crew_calendar.specs.ContentLines.{unfolded, unescaped}
use Rattle.crew_calendar.specs.Events.{AreEvents}

-- Lines.

-- CR LF stands here
abbrev pub begins_with_end : List ℕ → Bool
begins_with_end bytes = bytes_eq (take 2 bytes) (13 ∷ 10 ∷ [])

-- a byte in front of the first line
abbrev pub onto_first : ℕ → List (List ℕ) → List (List ℕ)
onto_first b [] = (b ∷ []) ∷ []
onto_first b (line ∷ lines) = (b ∷ line) ∷ lines

-- the lines that CR LF ends, without it, where some bytes are skipped first
unfoldable pub lines_from : (skip : ℕ) → List ℕ → List (List ℕ)
lines_from skip [] = []
lines_from zero (b ∷ bytes) =
    if begins_with_end (b ∷ bytes) then [] ∷ lines_from 1 bytes else onto_first b (lines_from 0 bytes)
lines_from (suc skip) (b ∷ bytes) = lines_from skip bytes

-- the lines of a calendar, each whole
abbrev pub lines_in : List ℕ → List (List ℕ)
lines_in text = lines_from 0 (unfolded text)

-- Events.

-- what is said of a moment: nothing, something that is no moment, or its date and time of day
pub data Said : Type 0 where
  Nothing : Said
  NoMoment : Said
  At : (year month day hour minute : ℕ) → Said

-- the word is `YYYYMMDDTHHMM00`
abbrev pub is_moment : List ℕ → Bool
is_moment word =
    list_all is_ascii_digit (take 8 word) && bytes_eq (take 1 (drop 8 word)) (codes "T")
    && list_all is_ascii_digit (take 4 (drop 9 word)) && bytes_eq (drop 13 word) (codes "00")

-- what a word says
abbrev pub moment_in : List ℕ → Said
moment_in word =
    if is_moment word
    then At (value_of (take 4 word)) (value_of (take 2 (drop 4 word))) (value_of (take 2 (drop 6 word)))
    (value_of (take 2 (drop 9 word))) (value_of (take 2 (drop 11 word)))
    else NoMoment

-- what is said of an event: when it starts and ends, and what it is called
pub record Event : Type 0 where
  pub start : Said
  pub end : Said
  pub name : Option (List ℕ)

abbrev pub untold : Event
untold = record { start = Nothing; end = Nothing; name = None }

-- with what a line says of it
abbrev pub with_line : Event → List ℕ → Event
with_line event line =
    if starts_with nat_eq line (codes "DTSTART:") then record event { start = moment_in (drop 8 line) }
    else (if starts_with nat_eq line (codes "DTEND:") then record event { end = moment_in (drop 6 line) }
    else (if starts_with nat_eq line (codes "SUMMARY:") then record event { name = Some (unescaped (drop 8 line)) }
    else event))

-- the events among some lines, where this was said of the one that is open
unfoldable pub events_from : Event → List (List ℕ) → List Event
events_from event [] = []
events_from event (line ∷ lines) =
    if bytes_eq line (codes "BEGIN:VEVENT") then events_from untold lines
    else (if bytes_eq line (codes "END:VEVENT") then event ∷ events_from untold lines
    else events_from (with_line event line) lines)

-- the events of a calendar
abbrev pub events_in : List ℕ → List Event
events_in text = events_from untold (lines_in text)

-- Duties.

-- a shift of an employee, and the day after the first date on which it begins
pub record Duty : Type 0 where
  pub day : ℕ
  pub shift : Symbol

-- a day off is none
abbrev pub duties_with : (t number : ℕ) → List Duty
duties_with t zero = []
duties_with t (suc x) = record { day = t; shift = symbol_numbered (suc x) } ∷ []

-- those of an employee
abbrev pub duties_of : Instance → List Symbol → (e days : ℕ) → List Duty
duties_of P s e days = flat_map (λ t. duties_with t (symbol_on P s e t).number) (range_with_len 0 days)

-- when a duty starts, in minutes after the first date's midnight
abbrev pub start_minutes : Instance → Duty → ℕ
start_minutes P duty = duty.day * day_minutes + start_of P duty.shift

-- the moment that is this many minutes after the first date's midnight
abbrev pub said_at : (ℕ → Date) → ℕ → Said
said_at on minutes =
    let date = on (minutes / day_minutes) in
    let rest = minutes % day_minutes in
    At (unsigned_abs date.year) date.month date.day (rest / 60) (rest % 60)

-- a duty without a length has no end
abbrev pub end_said : (ℕ → Date) → (start length : ℕ) → Said
end_said on start zero = Nothing
end_said on start (suc length) = said_at on (start + suc length)

-- the event that a duty is
abbrev pub event_of : Instance → (ℕ → Date) → Duty → Event
event_of P on duty =
    record {
      start = said_at on (start_minutes P duty);
      end = end_said on (start_minutes P duty) (length_of P duty.shift);
      name = Some (shown (name_of P duty.shift));
    }

-- read back from its whole text, a calendar has the employee's duties, each with its moments and its name
abbrev pub EventsAreReadBack : Type 0
EventsAreReadBack =
    (P : Instance) (s : List Symbol) (date : Date) (days employee : ℕ) (text : List ℕ)
    → KeepsLimits P → IsEmployee P employee → AreEvents P s date days employee text
    → OnCalendar date (days + MOST_DAYS_LATER) (λ on. events_in text ≡ map (event_of P on) (duties_of P s employee days))

-- and the text of an employee's duties is a line for each of them
abbrev pub DutiesAreListed : Type 0
DutiesAreListed =
    (P : Instance) (s : List Symbol) (on : ℕ → Date) (employee days : ℕ)
    → duties_text P s on employee days ≡ flat_map (λ duty. shift_line P on duty.day duty.shift) (duties_of P s employee days)
