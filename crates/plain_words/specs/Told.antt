-- Which statements are told of refusals, of rosters that break a rule, of verdicts on numbers of weeks and of changes.
use Rattle.std.specs.Prelude.{ℕ, ◌+◌, ◌-◌, ◌*◌, ◌&&◌, ◌==◌, not, List, [], ◌∷◌, ◌++◌, Bool, Option, Some, None, count_by, length, slice_get, nat_le, pos, if◌then◌else◌}
use Rattle.std.specs.Int.Signed.{le_z}
use Rattle.std.specs.List.{list_any, find, flat_map, range_with_len}
use Rattle.rwsp_terms.specs.declared.limits.TheConstants.{MOST_WEEKS, MOST_CELLS}
use Rattle.rwsp_terms.specs.declared.data.Bounds.{Bounds}
use Rattle.rwsp_terms.specs.declared.data.Class.{Class}
use Rattle.rwsp_terms.specs.declared.data.Class.TheVariants.{Shift, Off}
use Rattle.rwsp_terms.specs.declared.data.Symbol.{Symbol}
use Rattle.rwsp_terms.specs.declared.data.Rule.{Rule}
use Rattle.rwsp_terms.specs.declared.data.Rule.TheVariants.{Most, Least, Never, Day}
use Rattle.rwsp_terms.specs.Instance.{Instance, bounds, shift_count, shift_demand, symbol_numbered, least, greatest}
use Rattle.rwsp_terms.specs.Rules.{rule_of}
use Rattle.rwsp_terms.specs.Roster.{weeks_with}
use Rattle.rwsp_model.specs.RuleNumbers.{place_of}
use Rattle.refutation_terms.specs.declared.lines.LogRefusal.{LogRefusal}
use Rattle.refutation_terms.specs.declared.lines.LogRefusal.TheVariants as Logs
use Rattle.roster_print.specs.declared.refusal.RosterRefusal.{RosterRefusal}
use Rattle.roster_print.specs.declared.refusal.RosterRefusal.TheVariants as Rosters
use Rattle.roster_checker.specs.declared.broken.Broken.{Broken}
use Rattle.crew_size.specs.Sizes.{with_weeks}
use Rattle.crew_size.specs.declared.verdict.Staffed.{Staffed}
use Rattle.crew_size.specs.declared.verdict.Staffed.TheVariants as Verdicts
use Rattle.crew_size.specs.declared.verdict.StaffRefusal.{StaffRefusal}
use Rattle.crew_size.specs.declared.verdict.StaffRefusal.TheVariants as Staffs
use Rattle.ways_out.specs.declared.change.Change.{Change}
use Rattle.ways_out.specs.declared.change.Change.TheVariants.{LongerBlocks, ShorterBlocks, LowerDemand, HigherDemand, Dropped}
use Rattle.ways_out.specs.declared.change.Outcome.{Outcome}
use Rattle.ways_out.specs.declared.change.Outcome.TheVariants.{Helps}
use Rattle.ways_out.specs.Loosened.{raised, lowered, changed_rule}
use Rattle.ways_out.specs.Changes.{changes}
use Rattle.ways_out.specs.Texts.{is_open, is_way}
use Rattle.plain_words.specs.RuleWords.{first_crossed, off_range}
use Rattle.plain_words.specs.declared.part.Part.TheVariants as Part
use Rattle.plain_words.specs.declared.part.Part.TheVariants.{Number, Days, Range, Name, OfClass, BlockOf, Left, Nearest}
use Rattle.plain_words.specs.Statements.{Statement, Says, Escapes, ForSize, plain, said_if}
use Rattle.plain_words.specs.LogTold.{enough_statement, none_statement}
use Rattle.plain_words.specs.declared.pieces.TheConstants.{BREAKS, DROPPED, FORBIDDEN, LOG_ENDS, LOG_EXTRA, LOG_FAILS, LOG_FORM, LOG_IDLE, LOG_NAME, LOG_OPEN, LOG_TURN, LONGER, LONG_RULE, MISCOUNTED, NO_CHANGE, NO_OTHER_CHANGE, ROSTER_UNKNOWN, ROSTER_WEEKS, ROSTER_WIDTH, SHORTER, STAFF_ENDS, STAFF_FORM, STAFF_PASSES, TOO_LONG, TOO_SHORT, UNNAMED, WAYS_FRONT, WIDENED}

-- why a line of a text is refused, or another sentence with one number
abbrev pub at_line : (text : List ℕ) → (n : ℕ) → Statement
at_line text n = Says text (Number n ∷ [])

-- why a line of a log is refused that rests on a rule, or lists one
abbrev pub at_rule : (text : List ℕ) → (n k : ℕ) → Statement
at_rule text n k = Says text (Number n ∷ Number k ∷ Part.Rule k ∷ [])

-- why a log is refused
abbrev pub log_refusal_statement : LogRefusal → Statement
log_refusal_statement (Logs.Form n) = at_line LOG_FORM.now n
log_refusal_statement (Logs.Name n) = at_line LOG_NAME.now n
log_refusal_statement (Logs.Unnamed n k) = at_rule UNNAMED.now n k
log_refusal_statement (Logs.Idle n) = at_line LOG_IDLE.now n
log_refusal_statement (Logs.Long n k) = at_rule LONG_RULE.now n k
log_refusal_statement (Logs.Fails n) = at_line LOG_FAILS.now n
log_refusal_statement (Logs.Escape n word) = Escapes n word
log_refusal_statement (Logs.Unfinished n) = at_line LOG_OPEN.now n
log_refusal_statement Logs.Ends = plain LOG_ENDS.now
log_refusal_statement (Logs.Extra n) = at_line LOG_EXTRA.now n
log_refusal_statement (Logs.Turn n) = at_line LOG_TURN.now n

-- why a roster is refused
abbrev pub roster_refusal_statement : RosterRefusal → Statement
roster_refusal_statement (Rosters.Unknown n) = at_line ROSTER_UNKNOWN.now n
roster_refusal_statement (Rosters.Width n) = at_line ROSTER_WIDTH.now n
roster_refusal_statement (Rosters.Weeks n) = at_line ROSTER_WEEKS.now n

-- Rules that a roster breaks.

-- that it breaks one, from a week and a day on, with so many days there; a text may say less
abbrev pub breaks : (text : List ℕ) → Broken → (days : ℕ) → Statement
breaks text b n = Says text (Number b.rule ∷ Part.Rule b.rule ∷ Number b.week ∷ Number b.day ∷ Days n ∷ [])

-- how: `.., but the block from week 1, day 1 on has 5 days or more`; `.., but the block behind week 1, day 1 has 1 day`,
-- of the days between the first and the last of the bad ones; `.., but so it is from week 3, day 2 on`
abbrev pub rule_broken : Broken → Rule → Statement
rule_broken b (Most c) = breaks TOO_LONG.now b b.length
rule_broken b (Least c) = breaks TOO_SHORT.now b (b.length - 2)
rule_broken b (Never k) = breaks FORBIDDEN.now b b.length
rule_broken b (Day j) = breaks BREAKS.now b b.length

abbrev pub some_broken : Broken → Option Rule → Statement
some_broken b None = breaks BREAKS.now b b.length
some_broken b (Some r) = rule_broken b r

-- in which range the number of a symbol on a day has to be
abbrev pub wanted_range : Instance → (x j : ℕ) → Bounds
wanted_range P x j = if x == 0 then off_range P j else shift_demand P x j

-- the class of one symbol
abbrev pub class_of : (x : ℕ) → Class
class_of x = if x == 0 then Off else Shift (symbol_numbered x)

-- the number of weeks with the symbol on the day is not in the range that is demanded
abbrev pub is_outside : Instance → List Symbol → (j x : ℕ) → Bool
is_outside P s j x =
    not (le_z (least P x j) (pos (weeks_with P s x j)) && le_z (pos (weeks_with P s x j)) (greatest P x j))

-- this shift, or else the day off, if it is outside
abbrev pub or_off : (is_off : Bool) → Option ℕ → Option ℕ
or_off is_off (Some x) = Some x
or_off is_off None = if is_off then Some 0 else None

-- the first shift for which it isn't, or else the day off
abbrev pub first_outside : Instance → List Symbol → (j : ℕ) → Option ℕ
first_outside P s j =
    or_off (is_outside P s j 0) (find (is_outside P s j) (range_with_len 1 (shift_count P)))

-- the rule of a day is broken: `.. on day 1 there are 3 of Early, and 4 to 5 are wanted`; or its demand can't be met
abbrev pub broken_day : Instance → List Symbol → Broken → (j : ℕ) → (crossed outside : Option ℕ) → Statement
broken_day P s b j None (Some x) =
    Says MISCOUNTED.now
    (Number b.rule ∷ Number j ∷ Number (weeks_with P s x j) ∷ OfClass (class_of x) ∷ Range (wanted_range P x j) ∷ [])
broken_day P s b j crossed outside = rule_broken b (Day j)

abbrev pub broken_by : Instance → List Symbol → Broken → Option Rule → Statement
broken_by P s b (Some (Day j)) = broken_day P s b j (first_crossed P j) (first_outside P s j)
broken_by P s b r = some_broken b r

-- which rule a roster breaks, and where
abbrev pub broken_statement : Instance → List Symbol → Broken → Statement
broken_statement P s b = broken_by P s b (rule_of P b.rule)

-- Verdicts on numbers of weeks.

-- the problem may have so many weeks
abbrev pub is_size : Instance → (m : ℕ) → Bool
is_size P m = nat_le 1 m && nat_le m MOST_WEEKS && nat_le (m * P.days) MOST_CELLS

-- why a staff text fails, or its log or roster of the problem with some number of weeks
abbrev pub failure_statement : Instance → StaffRefusal → Statement
failure_statement P (Staffs.Form n) = at_line STAFF_FORM.now n
failure_statement P (Staffs.Log m why) = log_refusal_statement why
failure_statement P (Staffs.Roster m why) = roster_refusal_statement why
failure_statement P (Staffs.Breaks m b) = some_broken b (rule_of P b.rule)
failure_statement P Staffs.Ends = plain STAFF_ENDS.now

-- this number of weeks
abbrev pub failed_size : StaffRefusal → Option ℕ
failed_size (Staffs.Log m why) = Some m
failed_size (Staffs.Roster m why) = Some m
failed_size (Staffs.Breaks m b) = Some m
failed_size why = None

-- what is said of the problem with so many weeks, if it may have them
abbrev pub for_size : Instance → StaffRefusal → Option ℕ → List Statement
for_size P why None = failure_statement P why ∷ []
for_size P why (Some m) = if is_size P m then ForSize m (failure_statement (with_weeks P m) why) ∷ [] else []

-- why a staff text is refused
abbrev pub staff_refusal_statements : Instance → StaffRefusal → List Statement
staff_refusal_statements P why = for_size P why (failed_size why)

-- what an accepted staff text decides
abbrev pub staffed_statements : Staffed → List Statement
staffed_statements (Verdicts.Least low m) = plain STAFF_PASSES.now ∷ enough_statement low m ∷ []
staffed_statements (Verdicts.NoneTo low last) = plain STAFF_PASSES.now ∷ none_statement low last ∷ []

-- Changes.

-- `5: change the greatest block of work from 4 to 5 days`
abbrev pub of_length : (text : List ℕ) → (k : ℕ) → Class → (from to : ℕ) → (is_nearest : Bool) → Statement
of_length text k c from to is_nearest =
    Says text (Number k ∷ BlockOf c ∷ Number from ∷ Days to ∷ Nearest is_nearest ∷ [])

-- `12: let day 1 have 0 to 2 D in place of 2`
abbrev pub widened : (k j x : ℕ) → (from to : Bounds) → (is_nearest : Bool) → Statement
widened k j x from to is_nearest =
    Says WIDENED.now (Number k ∷ Number j ∷ Range to ∷ Name x ∷ Range from ∷ Nearest is_nearest ∷ [])

abbrev pub dropped : (k : ℕ) → (is_nearest : Bool) → Statement
dropped k is_nearest = Says DROPPED.now (Number k ∷ Part.Rule k ∷ Nearest is_nearest ∷ [])

-- what so many steps of a change of the rule of this number make of it, or that a sequence is dropped
abbrev pub changed : Instance → (k : ℕ) → Change → (steps : ℕ) → (is_nearest : Bool) → Statement
changed P k (LongerBlocks c) n = of_length LONGER.now k c (bounds P c).greatest ((bounds P c).greatest + n)
changed P k (ShorterBlocks c) n = of_length SHORTER.now k c (bounds P c).least ((bounds P c).least - n)
changed P k (LowerDemand j x) n =
    widened k j x.number (shift_demand P x.number j) (lowered n (shift_demand P x.number j))
changed P k (HigherDemand j x) n =
    widened k j x.number (shift_demand P x.number j) (raised n (shift_demand P x.number j))
changed P k (Dropped i) n = dropped k

-- a change that helps
abbrev pub way_statement : Instance → Change → Outcome → List Statement
way_statement P change (Helps n is_nearest) =
    changed P (place_of P (changed_rule change) + 1) change n is_nearest ∷ []
way_statement P change outcome = []

-- that of the change at a place, of which this is known
abbrev pub way_at : Instance → Option Change → Option Outcome → List Statement
way_at P (Some change) (Some outcome) = way_statement P change outcome
way_at P change outcome = []

abbrev pub way_in : Instance → List Outcome → (k : ℕ) → List Statement
way_in P outcomes k = way_at P (slice_get (changes P) k) (slice_get outcomes k)

-- that no other change helps, but for so many that were left open; no change, where none does and none was
abbrev pub other_ways : (has_way : Bool) → (left : ℕ) → Statement
other_ways has_way n =
    if not has_way && (n == 0) then plain NO_CHANGE.now else Says NO_OTHER_CHANGE.now (Left n ∷ [])

-- what is said of the changes of a problem without a roster, and before those that help, where there are some
abbrev pub ways_statements : Instance → List Outcome → List Statement
ways_statements P outcomes =
    said_if (list_any is_way outcomes) (plain WAYS_FRONT.now)
    ++ flat_map (way_in P outcomes) (range_with_len 0 (length outcomes))
    ++ other_ways (list_any is_way outcomes) (count_by is_open outcomes) ∷ []
