-- What is appended, piece by piece.
use Rattle.std.proofs.Common.{◌≡◌, ℕ, zero, suc, ◌+◌, ◌-◌, ◌<◌, ◌≤◌, List, [], ◌∷◌, ◌++◌, refl, ap, sym, ◌∙◌, arith, append_assoc}
use Rattle.std.specs.Prelude.{Result, Ok, Err, OnOk}
use Rattle.std.specs.List.{flat_map, range_with_len}
use Rattle.std.proofs.lemmas.List.{flat_map_more}
use Rattle.std.specs.declared.alloc.AllocError.{AllocError}
use Rattle.rwsp_terms.specs.Instance.{Instance}
use Rattle.rwsp_terms.specs.declared.data.Symbol.{Symbol}
use Rattle.rwsp_terms.proofs.Counting.{range_more}
use Rattle.crew_calendar.specs.Calendar.{Date, OnCalendar}
use Rattle.crew_calendar.specs.Crew.{symbol_on}
use Rattle.crew_calendar.specs.Texts.{shift_line, duty_line_of, duty_line}

-- one piece more
pub piece_more : (f : ℕ → List ℕ) (a n : ℕ) (old out new : List ℕ) → out ≡ old ++ flat_map f (range_with_len a n) → new ≡ out ++ f (a + n) → new ≡ old ++ flat_map f (range_with_len a (n + 1))
piece_more f a n old out new before step =
    step
    ∙ ap (λ t. t ++ f (a + n)) before
    ∙ flat_map_more f old (range_with_len a n) (a + n)
    ∙ ap (λ ks. old ++ flat_map f ks) (sym (range_more a n))

-- one employee more
pub employee_more : (f : ℕ → List ℕ) (e : ℕ) (old out new : List ℕ) → 1 ≤ e → out ≡ old ++ flat_map f (range_with_len 1 (e - 1)) → new ≡ out ++ f e → new ≡ old ++ flat_map f (range_with_len 1 (e + 1 - 1))
employee_more f e old out new some before step =
    let here : e ≡ 1 + (e - 1) = omega (arith, some) in
    let count : e - 1 + 1 ≡ e + 1 - 1 = omega (arith, some) in
    piece_more f 1 (e - 1) old out new before (step ∙ ap (λ k. out ++ f k) here) ∙ ap (λ n. old ++ flat_map f (range_with_len 1 n)) count

-- one day more
pub day_more : (f : ℕ → List ℕ) (t : ℕ) (out new : List ℕ) → out ≡ flat_map f (range_with_len 0 t) → new ≡ out ++ f t → new ≡ flat_map f (range_with_len 0 (t + 1))
day_more f t out new before step =
    let here : t ≡ 0 + t = omega arith in
    piece_more f 0 t [] out new before (step ∙ ap (λ k. out ++ f k) here)

-- a date, a blank and a time of day are a moment
pub moment_joined : (old date out mid clock new : List ℕ) → out ≡ old ++ date → mid ≡ out ++ 32 ∷ [] → new ≡ mid ++ clock → new ≡ old ++ (date ++ 32 ∷ clock)
moment_joined old date out mid clock new first second third =
    third
    ∙ ap (λ t. t ++ clock) (second ∙ ap (λ t. t ++ 32 ∷ []) first)
    ∙ append_assoc (old ++ date) (32 ∷ []) clock
    ∙ append_assoc old date (32 ∷ clock)

-- the parts of a shift's line
pub shift_joined : (old from to end name a b c d new : List ℕ) → a ≡ old ++ from → b ≡ a ++ to → c ≡ b ++ end → d ≡ c ++ 32 ∷ name → new ≡ d ++ 10 ∷ [] → new ≡ old ++ (from ++ to ++ end ++ 32 ∷ name ++ 10 ∷ [])
shift_joined old from to end name a b c d new e1 e2 e3 e4 e5 =
    e5 ∙ ap (λ t. t ++ 10 ∷ []) (e4 ∙ ap (λ t. t ++ 32 ∷ name) (e3 ∙ ap (λ t. t ++ end) (e2 ∙ ap (λ t. t ++ to) e1)))
    ∙ simp append_assoc

-- a symbol that is a shift has the shift's line
shift_duty : (P : Instance) (on : ℕ → Date) (t n : ℕ) → 0 < n → shift_line P on t (record { number = n }) ≡ duty_line_of P on t n
shift_duty P on t zero some = absurd (omega (arith, some))
shift_duty P on t (suc n) some = refl

pub duty_put : (P : Instance) (s : List Symbol) (e t days : ℕ) (date : Date) (x : Symbol) (old new : List ℕ) (r : Result (Unit {0}) AllocError) → x ≡ symbol_on P s e t → 0 < x.number → OnOk r (OnCalendar date days (λ on. new ≡ old ++ shift_line P on t x)) → OnOk r (OnCalendar date days (λ on. new ≡ old ++ duty_line P s on e t))
duty_put P s e t days date x old new (Err why) is some h = tt
duty_put P s e t days date x old new (Ok u) is some h = λ on calendar. h on calendar ∙ ap (λ l. old ++ l) (shift_duty P on t x.number some ∙ ap (λ (y : Symbol). duty_line_of P on t y.number) is)
