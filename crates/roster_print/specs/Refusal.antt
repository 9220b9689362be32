-- Why a text is refused as a roster.
use Rattle.std.specs.Prelude.{ℕ, List, [], ◌∷◌, length, Option, Some, None, is_none, ◌==◌, map, filter, if◌then◌else◌}
use Rattle.std.specs.List.{list_any, enumerate_from}
use Rattle.std.specs.Option.{option_or}
use Rattle.rwsp_text.specs.Lexemes.{lines_of, words_of_line, has_some}
use Rattle.rwsp_terms.specs.Instance.{Instance, symbol_of}
use Rattle.roster_print.specs.RosterText.{weeks_of}
use Rattle.roster_print.specs.declared.refusal.RosterRefusal.{RosterRefusal}
use Rattle.roster_print.specs.declared.refusal.RosterRefusal.TheVariants.{Unknown, Width, Weeks}

-- the weeks of a text, each with the number of its line
abbrev pub numbered_weeks : List ℕ → List (ℕ × List (List ℕ))
numbered_weeks bytes = filter (λ week. has_some week.1) (enumerate_from 1 (map words_of_line (lines_of bytes)))

-- a word says nothing, or else the number of words isn't that of the days
abbrev pub week_refusal : {A : Type 0} → Instance → (List ℕ → Option A) → ℕ × List (List ℕ) → Option RosterRefusal
week_refusal P said week =
    if list_any (λ word. is_none (said word)) week.1 then Some (Unknown week.0)
    else (if length week.1 == P.days then None else Some (Width week.0))

-- the refusal of the first week that is refused
abbrev pub first_refusal : {A : Type 0} → Instance → (List ℕ → Option A) → List (ℕ × List (List ℕ)) → Option RosterRefusal
first_refusal P said [] = None
first_refusal P said (week ∷ weeks) = option_or (week_refusal P said week) (first_refusal P said weeks)

-- the number of weeks isn't that of the problem
abbrev pub count_refusal : Instance → ℕ → Option RosterRefusal
count_refusal P n = if n == P.weeks then None else Some (Weeks n)

-- why a text is refused, where the function gives what a word says
abbrev pub refusal_of_weeks : {A : Type 0} → Instance → (List ℕ → Option A) → List ℕ → Option RosterRefusal
refusal_of_weeks P said bytes =
    option_or (first_refusal P said (numbered_weeks bytes)) (count_refusal P (length (weeks_of bytes)))

-- why a text spells no roster: there a word says its symbol
abbrev pub refusal_of_roster : Instance → List ℕ → Option RosterRefusal
refusal_of_roster P = refusal_of_weeks P (symbol_of P)
