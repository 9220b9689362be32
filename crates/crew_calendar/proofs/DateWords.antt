-- Words that name dates.
use Rattle.std.proofs.Common.{◌≡◌, ℕ, ℤ, pos, negsuc, neg_ℤ, ◌+◌, ◌-◌, List, Result, Ok, Err, Option, Some, None, Bool, true, false, cond, refl, ap, sym, subst, ◌∙◌, arith, rules}
use Rattle.std.specs.Prelude.{◌<ℤ◌, ◌≤ℤ◌, ◌&&◌}
use Rattle.std.proofs.lemmas.Int.{ints}
use Rattle.std.proofs.lemmas.Slice.Eq.{bytes_eq-Decides}
use borrow.Author.Differences.{up, down}
use Rattle.std.specs.Str.{bytes_eq}
use Rattle.rwsp_text.proofs.Words.{bytes_same}
use Rattle.jiff_core.specs.declared.error.Error.{Error}
use Rattle.jiff_core.proofs.SignedLemmas.{signed_arith}
use Rattle.jiff_core.proofs.DateLemmas.{epoch_day_same}
use Rattle.jiff_fmt.specs.Temporal.{parse_date, date_parts}
use Rattle.jiff_fmt.proofs.RoundTrip.{parse_date-date_text}
use Rattle.jiff.proofs.Family.{same_date}
use Rattle.jiff_core.specs.Calendar.{days_from_civil, IsEpochDay}
use Rattle.jiff_core.proofs.DateLemmas.{epoch_day_range, days_from_civil-min}
use Rattle.jiff_fmt.specs.Temporal.{DateParts}
use Rattle.crew_calendar.specs.Calendar.{Date, epoch_day, date_text, IsDateWord}
use Rattle.crew_calendar.proofs.Calendars.{later_or_same}

-- dates of the same parts are one
pub same_parts : (a b : Date) → a.year ≡ b.year → a.month ≡ b.month → a.day ≡ b.day → a ≡ b
same_parts a b years months days = same_date a b (epoch_day_same a b years months days)

-- a word that names a date is read as a date
pub word_is_read : (word : List ℕ) (why : Error) (date : Date) → Err why ≡ parse_date word → IsDateWord word date → ⊥
word_is_read word why date read names =
    let good : parse_date word ≡ Ok (date_parts date) = ap parse_date names.1 ∙ parse_date-date_text date in
    cc

-- and the date that is read has the same parts
pub word_read_as : (word : List ℕ) (d date : Date) → Ok (date_parts d) ≡ parse_date word → IsDateWord word date → date_parts d ≡ date_parts date
word_read_as word d date read names =
    let good : parse_date word ≡ Ok (date_parts date) = ap parse_date names.1 ∙ parse_date-date_text date in
    cc

pub not_negative : (word : List ℕ) (d date : Date) → Ok (date_parts d) ≡ parse_date word → IsDateWord word date → d.year <ℤ pos 0 → ⊥
not_negative word d date read names below =
    let same : d.year ≡ date.year = ap (λ p. p.year) (word_read_as word d date read names) in
    omega (arith, signed_arith, names.0.0)

pub text_is_word : (word : List ℕ) (d date : Date) → Ok (date_parts d) ≡ parse_date word → IsDateWord word date → date_text d ≡ word
text_is_word word d date read names =
    let same = word_read_as word d date read names in
    let year : d.year ≡ date.year = ap (λ p. p.year) same in
    let month : d.month ≡ date.month = ap (λ p. p.month) same in
    let day : d.day ≡ date.day = ap (λ p. p.day) same in
    let text : date_text d ≡ date_text date = rw (year, month, day) in
    text ∙ sym names.1

-- a word names one date
pub one_date : (word : List ℕ) (date other : Date) → IsDateWord word date → IsDateWord word other → date ≡ other
one_date word date other a b =
    let good : parse_date word ≡ Ok (date_parts date) = ap parse_date a.1 ∙ parse_date-date_text date in
    let also : parse_date word ≡ Ok (date_parts other) = ap parse_date b.1 ∙ parse_date-date_text other in
    let same : date_parts date ≡ date_parts other = cc in
    same_parts date other (ap (λ p. p.year) same) (ap (λ p. p.month) same) (ap (λ p. p.day) same)

-- The date that a word names, as a function of the word.

first_date : Date
first_date = record { year = neg_ℤ (pos 9999); month = 1; day = 1; year_in = search rules; month_in = search rules; day_in = search rules }

-- the date of a day
date_on : (z : ℤ) → (d : Date) × (IsEpochDay z → epoch_day d ≡ z)
unfolding first_date
date_on z =
    let days = up z + 4_371_587 - down z in
    let found = later_or_same first_date days in
    (found.0, λ within. omega (arith, signed_arith, within.0, within.1, days_from_civil-min, found.1 (omega (arith, signed_arith, within.0, within.1, days_from_civil-min))))

-- the date of what a word wrote, which is another where the parts are those of none
abbrev date_of_parts : Result DateParts Error → Date
date_of_parts (Ok p) = (date_on (days_from_civil p.year p.month p.day)).0
date_of_parts (Err e) = first_date

abbrev is_civil : ℤ → Bool
is_civil (pos n) = true
is_civil (negsuc n) = false

abbrev named_by : List ℕ → Date → Option Date
named_by word d = cond (is_civil d.year && bytes_eq word (date_text d)) (Some d) None

pub date_in : List ℕ → Option Date
date_in word = named_by word (date_of_parts (parse_date word))

civil_is : (y : ℤ) → is_civil y ≡ true → pos 0 ≤ℤ y
civil_is (pos n) e = omega (arith, ints)
civil_is (negsuc n) e = absurd (cc)

civil_only : (y : ℤ) → pos 0 ≤ℤ y → is_civil y ≡ true
civil_only (pos n) h = refl
civil_only (negsuc n) h = absurd (omega (arith, ints, h))

names_found : (word : List ℕ) (d date : Date) (civil same : Bool) → is_civil d.year ≡ civil → bytes_eq word (date_text d) ≡ same → cond (civil && same) (Some d) None ≡ Some date → IsDateWord word date
names_found word d date true true c t e =
    let is : d ≡ date = cc in
    subst (IsDateWord word) is ((civil_is d.year c, d.year_in.1), (bytes_eq-Decides word (date_text d)).0 t)
names_found word d date true false c t e = absurd (cc)
names_found word d date false same c t e = absurd (cc)

pub date_found : (word : List ℕ) (date : Date) → date_in word ≡ Some date → IsDateWord word date
unfolding date_in
date_found word date e = let d = date_of_parts (parse_date word) in names_found word d date _ _ refl refl e

pub date_only : (word : List ℕ) (date : Date) → IsDateWord word date → date_in word ≡ Some date
unfolding date_in
date_only word date names =
    let parts : parse_date word ≡ Ok (date_parts date) = ap parse_date names.1 ∙ parse_date-date_text date in
    let here = date_on (epoch_day date) in
    let one : here.0 ≡ date = same_date here.0 date (here.1 (epoch_day_range date)) in
    let same : bytes_eq word (date_text date) ≡ true = ap (λ w. bytes_eq w (date_text date)) names.1 ∙ bytes_same (date_text date) in
    ap (λ r. named_by word (date_of_parts r)) parts ∙ ap (named_by word) one
    ∙ ap (λ b. cond (b && bytes_eq word (date_text date)) (Some date) None) (civil_only date.year names.0.0)
    ∙ ap (λ b. cond b (Some date) None) same
