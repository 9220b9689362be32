-- The lines of events, put one behind the other.
use Rattle.std.proofs.Common.{◌≡◌, ℕ, zero, suc, ◌+◌, ◌<◌, List, [], ◌∷◌, ◌++◌, codes, refl, ap, sym, ◌∙◌, arith, append_assoc}
use Rattle.std.specs.Prelude.{Result, Ok, Err, OnOk}
use Rattle.std.specs.List.{flat_map, range_with_len}
use Rattle.std.specs.declared.alloc.AllocError.{AllocError}
use Rattle.std.proofs.lemmas.Grind.{flat_map-append}
use Rattle.std.proofs.lemmas.List.{append-nil, flat_map_more}
use Rattle.rwsp_terms.specs.Instance.{Instance, symbol_numbered}
use Rattle.rwsp_terms.specs.declared.data.Symbol.{Symbol}
use Rattle.jiff_core.proofs.DateLemmas.{epoch_day_injective}
use Rattle.crew_calendar.specs.Calendar.{Date, epoch_day, OnCalendar}
use Rattle.crew_calendar.specs.Crew.{symbol_on}
use Rattle.crew_calendar.specs.ContentLines.{content_line, content_text}
use Rattle.std.specs.Fmt.{decimal}
use Rattle.crew_calendar.specs.Events.{compact_date, stamp_line, opening_lines, end_line, end_lines, event_lines, duty_events, events_on}
use Rattle.rwsp_terms.proofs.Counting.{range_more}

-- two dates of one day are written alike
pub one_compact : (a b : Date) → epoch_day a ≡ epoch_day b → compact_date a ≡ compact_date b
one_compact a b same =
    let parts = epoch_day_injective a b same in
    rw (parts.0, parts.1, parts.2)

pub moment_put : (old a b c d new date hours minutes zeros : List ℕ) → a ≡ old ++ date → b ≡ a ++ 84 ∷ [] → c ≡ b ++ hours → d ≡ c ++ minutes → new ≡ d ++ zeros → new ≡ old ++ (date ++ 84 ∷ hours ++ minutes ++ zeros)
moment_put old a b c d new date hours minutes zeros e1 e2 e3 e4 e5 =
    e5 ∙ ap (λ t. t ++ zeros) (e4 ∙ ap (λ t. t ++ minutes) (e3 ∙ ap (λ t. t ++ hours) (e2 ∙ ap (λ t. t ++ 84 ∷ []) e1)))
    ∙ simp append_assoc

-- one line, and three
pub one_line : (old new line : List ℕ) → new ≡ old ++ content_line line → new ≡ old ++ content_text (line ∷ [])
one_line old new line put = put ∙ ap (λ t. old ++ t) (sym (append-nil (content_line line)))

joined : (old a b c : List ℕ) → ((old ++ a) ++ b) ++ c ≡ old ++ (a ++ (b ++ c))
joined old a b c = simp append_assoc

pub three_lines : (old one two new a b c : List ℕ) → one ≡ old ++ content_line a → two ≡ one ++ content_line b → new ≡ two ++ content_line c → new ≡ old ++ content_text (a ∷ b ∷ c ∷ [])
three_lines old one two new a b c e1 e2 e3 =
    e3 ∙ ap (λ t. t ++ content_line c) (e2 ∙ ap (λ t. t ++ content_line b) e1)
    ∙ joined old (content_line a) (content_line b) (content_line c)
    ∙ ap (λ t. old ++ (content_line a ++ (content_line b ++ t))) (sym (append-nil (content_line c)))

-- lines behind lines
pub text-append : (these those : List (List ℕ)) → content_text (these ++ those) ≡ content_text these ++ content_text those
text-append these those = flat_map-append content_line these those

pub lines_put : (old mid new : List ℕ) (these those : List (List ℕ)) → mid ≡ old ++ content_text these → new ≡ mid ++ content_text those → new ≡ old ++ content_text (these ++ those)
lines_put old mid new these those e1 e2 =
    e2 ∙ ap (λ t. t ++ content_text those) e1 ∙ append_assoc old (content_text these) (content_text those)
    ∙ ap (λ t. old ++ t) (sym (text-append these those))

pub parts_put : (old one two new : List ℕ) (these those last : List (List ℕ)) → one ≡ old ++ content_text these → two ≡ one ++ content_text those → new ≡ two ++ content_text last → new ≡ old ++ content_text (these ++ those ++ last)
parts_put old one two new these those last e1 e2 e3 = lines_put old two new (these ++ those) last (lines_put old one two these those e1 e2) e3

-- the moment of a line
pub moment_line_put : (old new line made label at on : List ℕ) → made ≡ label → line ≡ made ++ at → at ≡ on → new ≡ old ++ content_line line → new ≡ old ++ content_text ((label ++ on) ∷ [])
moment_line_put old new line made label at on e1 e2 e3 put =
    one_line old new (label ++ on) (put ∙ ap (λ l. old ++ content_line l) (e2 ∙ ap (λ t. t ++ at) e1 ∙ ap (λ t. label ++ t) e3))

-- the end, where there is a length
pub no_end : (on : ℕ → Date) (start length : ℕ) → length ≡ 0 → end_lines on start length ≡ []
no_end on start zero is = refl
no_end on start (suc length) is = absurd (omega (arith, is))

pub some_end : (on : ℕ → Date) (start length : ℕ) → 0 < length → end_lines on start length ≡ end_line on (start + length) ∷ []
some_end on start zero some = absurd (omega (arith, some))
some_end on start (suc length) some = refl

-- a symbol that is a shift has the shift's event
shift_events : (P : Instance) (first : Date) (on : ℕ → Date) (e t n : ℕ) → 0 < n → event_lines P first on e t (symbol_numbered n) ≡ duty_events P first on e t n
shift_events P first on e t zero some = absurd (omega (arith, some))
shift_events P first on e t (suc n) some = refl

pub event_put : (P : Instance) (s : List Symbol) (e t days : ℕ) (first : Date) (x : Symbol) (old new : List ℕ) (r : Result (Unit {0}) AllocError) → x ≡ symbol_on P s e t → 0 < x.number → OnOk r (OnCalendar first days (λ on. new ≡ old ++ content_text (event_lines P first on e t x))) → OnOk r (OnCalendar first days (λ on. new ≡ old ++ content_text (events_on P s first on e t)))
event_put P s e t days first x old new (Err why) is some h = tt
event_put P s e t days first x old new (Ok u) is some h = λ on calendar.
    h on calendar ∙ ap (λ ls. old ++ content_text ls) (shift_events P first on e t x.number some ∙ ap (λ (y : Symbol). duty_events P first on e t y.number) is)

-- one day more
pub days_more : (f : ℕ → List (List ℕ)) (head : List (List ℕ)) (t : ℕ) (out new : List ℕ) → out ≡ content_text (head ++ flat_map f (range_with_len 0 t)) → new ≡ out ++ content_text (f t) → new ≡ content_text (head ++ flat_map f (range_with_len 0 (t + 1)))
days_more f head t out new before step =
    step ∙ ap (λ o. o ++ content_text (f t)) before
    ∙ sym (text-append (head ++ flat_map f (range_with_len 0 t)) (f t))
    ∙ ap content_text (append_assoc head (flat_map f (range_with_len 0 t)) (f t) ∙ ap (λ l. head ++ l) (days_of f t))
  where
    days_of : (f : ℕ → List (List ℕ)) (t : ℕ) → flat_map f (range_with_len 0 t) ++ f t ≡ flat_map f (range_with_len 0 (t + 1))
    days_of f t =
        let here : t ≡ 0 + t = omega arith in
        ap (λ k. flat_map f (range_with_len 0 t) ++ f k) here
        ∙ flat_map_more f [] (range_with_len 0 t) (0 + t)
        ∙ ap (λ ks. flat_map f ks) (sym (range_more 0 t))

-- events of one day are opened alike
pub opening_same : (first a b : Date) (e : ℕ) → epoch_day a ≡ epoch_day b → opening_lines first a e ≡ opening_lines first b e
opening_same first a b e same = ap (λ d. codes "BEGIN:VEVENT" ∷ (codes "UID:" ++ decimal e ++ 45 ∷ d ++ codes "@rwsp") ∷ stamp_line first ∷ []) (one_compact a b same)

-- the last line
pub last_line : (out new : List ℕ) (lines : List (List ℕ)) (line : List ℕ) → out ≡ content_text lines → new ≡ out ++ content_line line → new ≡ content_text (lines ++ line ∷ [])
last_line out new lines line before put = lines_put [] out new lines (line ∷ []) before (one_line out new line put)
