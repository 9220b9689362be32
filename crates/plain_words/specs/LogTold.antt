-- Which statements are told of logs: with a goal, with given cells or with neither, and of numbers of weeks.
use Rattle.std.specs.Prelude.{ℕ, zero, suc, ◌+◌, ◌-◌, ◌==◌, ◌&&◌, ◌||◌, List, [], ◌∷◌, ◌++◌, map, length, slice_get, Bool, true, false, Option, Some, None, count_by, nat_lt, if◌then◌else◌}
use Rattle.std.specs.List.{list_any, flat_map, range_with_len}
use Rattle.rwsp_terms.specs.declared.data.Bounds.{Bounds}
use Rattle.rwsp_terms.specs.declared.data.Symbol.{Symbol}
use Rattle.rwsp_terms.specs.declared.data.Weight.{Weight}
use Rattle.rwsp_terms.specs.declared.data.Rule.TheVariants.{Day}
use Rattle.rwsp_terms.specs.Instance.{Instance, shift_count, symbol_numbered}
use Rattle.rwsp_model.specs.RuleNumbers.{place_of}
use Rattle.refutation_terms.specs.declared.lines.Turn.{Turn}
use Rattle.refutation_terms.specs.declared.lines.Opening.{Opening}
use Rattle.refutation_terms.specs.declared.lines.Opening.TheVariants.{Turned}
use Rattle.refutation_terms.specs.declared.lines.Opening.TheVariants as Openings
use Rattle.refutation_terms.specs.declared.lines.Line.{Line}
use Rattle.refutation_terms.specs.declared.lines.Line.TheVariants.{Closing, Unfinished}
use Rattle.refutation_terms.specs.declared.lines.Leaf.TheVariants as Leaves
use Rattle.refutation_terms.specs.declared.lines.Leaf.TheVariants.{Blocks, Words}
use Rattle.refutation_terms.specs.declared.lines.WordClaim.{WordClaim}
use Rattle.refutation_terms.specs.declared.lines.WordClaim.TheVariants.{Light}
use Rattle.refutation_terms.specs.Log.{Log}
use Rattle.crew_size.specs.Sizes.{with_weeks}
use Rattle.crew_size.specs.Texts.{Staff, next_size}
use Rattle.crew_size.specs.declared.run.StaffEnd.{StaffEnd}
use Rattle.crew_size.specs.declared.run.StaffEnd.TheVariants as Ends
use Rattle.plain_words.specs.declared.reason.Rosters.{Rosters}
use Rattle.plain_words.specs.declared.reason.Rosters.TheVariants.{Every, Free, Weeks, Given}
use Rattle.plain_words.specs.Counting.{is_misfit}
use Rattle.plain_words.specs.declared.part.Part.TheVariants as Part
use Rattle.plain_words.specs.declared.part.Part.TheVariants.{Length, Range, Closed, Open, Of, Unknown}
use Rattle.plain_words.specs.Statements.{Statement, Says, Named, OnlyTurn, Counted, ByNumbers, Cells, OfSize, plain, said_if, rules_text}
use Rattle.plain_words.specs.declared.pieces.TheConstants.{AT_ONCE, BY_A_COUNT, BY_CASES, BY_WEIGHTS, COUNTING, FIRST_ENOUGH, LEAST_ENOUGH, LEAVES, LOG_PASSES, NONE_ENOUGH, SPENT, TOGETHER}

-- the number of the rule of a day
abbrev pub day_number : Instance → ℕ → ℕ
day_number P j = place_of P (Day j) + 1

-- a weight on the day
abbrev pub is_on : (j : ℕ) → Weight → Bool
is_on j e = e.day == j

-- the claim weighs a symbol on the day
abbrev pub weighs_on : (j : ℕ) → WordClaim → Bool
weighs_on j (Light turns reward y) = list_any (is_on j) y
weighs_on j claim = false

-- the line rests on the rule of this number, which is that of this day
abbrev pub cites_day : (k j : ℕ) → Line → Bool
cites_day k j (Closing (Leaves.Window number p len)) = number == k
cites_day k j (Closing (Leaves.Day i x over)) = i == j
cites_day k j (Closing (Words p R claim)) = list_any (λ n. n == k) R || weighs_on j claim
cites_day k j (Closing (Blocks x)) = true
cites_day k j line = false

-- the turn, where no line rests on the rule of its day; so of that rule it is enough that somebody has the symbol then
abbrev pub lone_turn : Instance → Opening → List Line → Option Turn
lone_turn P (Turned t) lines = if list_any (cites_day (day_number P t.day) t.day) lines then None else Some t
lone_turn P o lines = None

-- what is said of a named rule, where of the rule of this turn's day no more than the turn is needed
abbrev pub rule_statement : Instance → Option Turn → ℕ → Statement
rule_statement P None k = Named k
rule_statement P (Some t) k = if k == day_number P t.day then OnlyTurn k t else Named k

-- a line that counts the blocks of the symbol
abbrev pub counts_blocks : Symbol → Line → Bool
counts_blocks x (Closing (Blocks y)) = y.number == x.number
counts_blocks x line = false

-- a line counts the blocks of the symbol, and no number of blocks is right
abbrev pub is_counted : Instance → List Line → Symbol → Bool
is_counted P lines x = list_any (counts_blocks x) lines && is_misfit P x

abbrev pub counted_at : Instance → List Line → (x : ℕ) → List Statement
counted_at P lines x =
    said_if (is_counted P lines (symbol_numbered x)) (Counted COUNTING.now (symbol_numbered x))

-- the symbols whose blocks the lines count rightly, the day off first
abbrev pub counted_statements : Instance → List Line → List Statement
counted_statements P lines = flat_map (counted_at P lines) (range_with_len 0 (shift_count P + 1))

-- said before the rules that are named
abbrev pub first_statement : Rosters → List ℕ → Statement
first_statement w R = Says (rules_text TOGETHER.now R) (Of w ∷ [])

-- and where the log gives cells, they are said with the rules
abbrev pub begin_statement : Opening → Rosters → List ℕ → Statement
begin_statement (Openings.Given given) w R = Cells given R
begin_statement o w R = first_statement w R

-- what is said of rules that no roster meets together behind this opening, where of the rule of this turn's day no more
-- than the turn is needed
abbrev pub rules_statements : Instance → Opening → Rosters → Option Turn → List ℕ → List Statement
rules_statements P o w lone R = begin_statement o w R ∷ map (rule_statement P lone) R

-- what is said of a log with no open line, as one about these rosters: the rules that it names, and each symbol whose
-- blocks it counts rightly
abbrev pub reason_statements : Instance → Rosters → Log → List Statement
reason_statements P w g =
    rules_statements P g.opening w (lone_turn P g.opening g.lines) g.named ++ counted_statements P g.lines

abbrev pub is_open : Line → Bool
is_open Unfinished = true
is_open line = false

abbrev pub is_closed : Line → Bool
is_closed (Closing leaf) = true
is_closed line = false

-- how far a log came: how many cases are closed, how many were left open, and of which rosters nothing is known
abbrev pub spent_statement : Rosters → List Line → Statement
spent_statement w lines =
    Says SPENT.now (Closed (count_by is_closed lines) ∷ Open (count_by is_open lines) ∷ Unknown w ∷ [])

-- what is said of a log as one about these rosters: a reason where no line is open, else how far it came
abbrev pub log_statements : Instance → Rosters → Log → List Statement
log_statements P w g =
    if count_by is_open g.lines == 0 then reason_statements P w g else spent_statement w g.lines ∷ []

-- the rosters that a log with this goal or none is about
abbrev pub rosters_by : Option ℕ → Rosters
rosters_by None = Every
rosters_by (Some zero) = Every
rosters_by (Some (suc n)) = Free (suc n)

-- and one that gives cells is about those that hold them
abbrev pub rosters_from : Opening → Option ℕ → Rosters
rosters_from (Openings.Given given) goal = Given
rosters_from o goal = rosters_by goal

abbrev pub rosters_of : Log → Rosters
rosters_of g = rosters_from g.opening g.goal

-- what is said of a log that was judged, has this opening and this goal or none, and names these rules
abbrev pub accepted_statements : Instance → Opening → Option ℕ → List ℕ → List Statement
accepted_statements P o goal R = plain LOG_PASSES.now ∷ rules_statements P o (rosters_by goal) None R

-- how a search without a roster ended, by the lines of its log
abbrev pub end_text : List Line → List ℕ
end_text (Closing (Blocks x) ∷ []) = BY_A_COUNT.now
end_text (Closing (Words p R (Light turns reward y)) ∷ []) = BY_WEIGHTS.now
end_text (line ∷ []) = AT_ONCE.now
end_text lines = BY_CASES.now

abbrev pub end_statement : List Line → Statement
end_statement lines = Says (end_text lines) (Length (length lines) ∷ [])

-- what is said of a log that is left of one which names so many rules: how many are left, where they are fewer
abbrev pub reduced_statements : Instance → (before : ℕ) → Log → List Statement
reduced_statements P before g =
    said_if (nat_lt (length g.named) before) (Says LEAVES.now (Length before ∷ Length (length g.named) ∷ []))
    ++ log_statements P Every g

-- Numbers of weeks.

-- from a least number to a greatest
abbrev pub span : (least greatest : ℕ) → Bounds
span least greatest = record { least = least; greatest = greatest }

-- this number of weeks is enough, and none from `low` on below it is
abbrev pub enough_statement : (low m : ℕ) → Statement
enough_statement low m =
    if low == m then Says FIRST_ENOUGH.now (Part.Weeks m ∷ [])
    else Says LEAST_ENOUGH.now (Part.Weeks m ∷ Range (span low (m - 1)) ∷ [])

-- none of these numbers of weeks is enough
abbrev pub none_statement : (low last : ℕ) → Statement
none_statement low last = Says NONE_ENOUGH.now (Range (span low last) ∷ [])

-- of a log for m weeks: the rules that it names, by their numbers, or how far it came
abbrev pub size_statement : (m : ℕ) → Log → Statement
size_statement m g =
    if count_by is_open g.lines == 0 then ByNumbers (Weeks m) g.named else spent_statement (Weeks m) g.lines

-- and of the one at a place among logs for `low` weeks, one more and so on
abbrev pub size_at : (low k : ℕ) → Option Log → List Statement
size_at low k None = []
size_at low k (Some g) = size_statement (low + k) g ∷ []

abbrev pub size_in : (low : ℕ) → List Log → (k : ℕ) → List Statement
size_in low logs k = size_at low k (slice_get logs k)

-- what is said of a log for m weeks
abbrev pub sized_statements : Instance → (m : ℕ) → Log → List Statement
sized_statements P m g = map (λ s. OfSize m s) (log_statements (with_weeks P m) (Weeks m) g)

-- what is said of the last of the logs, behind n others, and then of these
abbrev pub logs_behind : Instance → (low : ℕ) → List Log → (n : ℕ) → Option Log → List Statement
logs_behind P low logs n None = []
logs_behind P low logs n (Some last) =
    sized_statements P (low + n) last ++ flat_map (size_in low logs) (range_with_len 0 n)

abbrev pub logs_statements : Instance → (low : ℕ) → List Log → List Statement
logs_statements P low logs =
    logs_behind P low logs (length logs - 1) (slice_get logs (length logs - 1))

-- that the numbers of weeks from `low` on and below m have no roster, where there are some
abbrev pub none_below : (low m : ℕ) → List Statement
none_below low m = if low == m then [] else none_statement low (m - 1) ∷ []

-- what is said of the end, where the next number of weeks is m
abbrev pub end_statements : Instance → (low m : ℕ) → StaffEnd → List Statement
end_statements P low m (Ends.Least s) = enough_statement low m ∷ []
end_statements P low m Ends.NoneTo = none_below low m
end_statements P low m (Ends.Undecided g) = none_below low m ++ sized_statements P m g

-- what is said of a search by numbers of weeks: of its end, and then of its logs
abbrev pub staff_statements : Instance → Staff → List Statement
staff_statements P run =
    end_statements P run.low (next_size run) run.end ++ logs_statements P run.low run.logs
