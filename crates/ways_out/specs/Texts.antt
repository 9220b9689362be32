-- The text of the ways out of a problem.
use Rattle.std.specs.Prelude.{ℕ, ◌+◌, ◌-◌, List, [], ◌∷◌, ◌++◌, Bool, true, false, ◌==◌, if◌then◌else◌, codes, count_by}
use Rattle.std.specs.List.{list_any}
use Rattle.std.specs.Fmt.{decimal}
use Rattle.rwsp_terms.specs.declared.data.Bounds.{Bounds}
use Rattle.rwsp_terms.specs.declared.data.Rule.{Rule}
use Rattle.rwsp_terms.specs.Instance.{Instance, bounds, shift_demand, name_of}
use Rattle.rwsp_model.specs.RuleNumbers.{place_of}
use Rattle.roster_print.specs.RuleText.{rule_text}
use Rattle.roster_print.specs.RosterText.{roster_text}
use Rattle.refutation_terms.specs.LogText.{log_text}
use Rattle.ways_out.specs.declared.change.Change.{Change}
use Rattle.ways_out.specs.declared.change.Change.TheVariants.{LongerBlocks, ShorterBlocks, LowerDemand, HigherDemand, Dropped}
use Rattle.ways_out.specs.declared.change.Outcome.{Outcome}
use Rattle.ways_out.specs.declared.change.Outcome.TheVariants.{Helps, Open}
use Rattle.ways_out.specs.declared.answer.WaysOut.{WaysOut}
use Rattle.ways_out.specs.declared.answer.WaysOut.TheVariants.{NoNeed, Undecided, Changes}
use Rattle.ways_out.specs.Loosened.{raised, lowered, changed_rule}
use Rattle.ways_out.specs.Changes.{changes}

-- from one number to another
abbrev pub number_change : ℕ → ℕ → List ℕ
number_change from to = codes ": " ++ decimal from ++ codes " to " ++ decimal to

-- a demand: one number where the least and the greatest are equal
abbrev pub range_text : Bounds → List ℕ
range_text b = if b.least == b.greatest then decimal b.least else decimal b.least ++ codes ".." ++ decimal b.greatest

-- from one demand of a shift to another
abbrev pub demand_change : List ℕ → Bounds → Bounds → List ℕ
demand_change name from to = codes " " ++ name ++ codes ": " ++ range_text from ++ codes " to " ++ range_text to

-- what is changed by n steps
abbrev pub change_text : Instance → Change → ℕ → List ℕ
change_text P (LongerBlocks c) n = number_change (bounds P c).greatest ((bounds P c).greatest + n)
change_text P (ShorterBlocks c) n = number_change (bounds P c).least ((bounds P c).least - n)
change_text P (LowerDemand j x) n =
    demand_change (name_of P x) (shift_demand P x.number j) (lowered n (shift_demand P x.number j))
change_text P (HigherDemand j x) n =
    demand_change (name_of P x) (shift_demand P x.number j) (raised n (shift_demand P x.number j))
change_text P (Dropped k) n = codes ": dropped"

-- said where fewer steps were left open
abbrev pub nearer_text : Bool → List ℕ
nearer_text true = []
nearer_text false = codes " or nearer"

-- the number and the text of a rule
abbrev pub rule_label : Instance → Rule → List ℕ
rule_label P r = codes "rule " ++ decimal (place_of P r + 1) ++ codes " " ++ rule_text P r

-- the end of the line of a change
abbrev pub way_end : Bool → List ℕ
way_end is_nearest = nearer_text is_nearest ++ 10 ∷ []

-- the rule, and what is changed of it
abbrev pub way_line : Instance → Change → ℕ → Bool → List ℕ
way_line P change n is_nearest =
    rule_label P (changed_rule change) ++ change_text P change n ++ way_end is_nearest

-- the line of a change that helps
abbrev pub outcome_text : Instance → Change → Outcome → List ℕ
outcome_text P change (Helps n is_nearest) = way_line P change n is_nearest
outcome_text P change outcome = []

-- and those of all
abbrev pub outcomes_text : Instance → List Change → List Outcome → List ℕ
outcomes_text P [] outcomes = []
outcomes_text P changes [] = []
outcomes_text P (change ∷ changes) (outcome ∷ outcomes) =
    outcome_text P change outcome ++ outcomes_text P changes outcomes

abbrev pub is_open : Outcome → Bool
is_open Open = true
is_open outcome = false

abbrev pub is_way : Outcome → Bool
is_way (Helps n is_nearest) = true
is_way outcome = false

-- the last line: how many changes without a line were left open
abbrev pub others_line : ℕ → List ℕ
others_line n = (if n == 0 then codes "no other" else codes "open " ++ decimal n) ++ 10 ∷ []

abbrev pub ways_text : Instance → WaysOut → List ℕ
ways_text P (NoNeed s) = codes "no change is needed" ++ 10 ∷ [] ++ roster_text P s.cells
ways_text P (Undecided g) = log_text P g
ways_text P (Changes outcomes) =
    outcomes_text P (changes P) outcomes.items ++ others_line (count_by is_open outcomes.items)

-- 0 where there is a line of a change, 1 where no change helps, 4 where that was left open
abbrev pub outcomes_status : List Outcome → ℕ
outcomes_status outcomes =
    if list_any is_way outcomes then 0 else (if count_by is_open outcomes == 0 then 1 else 4)

abbrev pub ways_status : WaysOut → ℕ
ways_status (NoNeed s) = 0
ways_status (Undecided g) = 4
ways_status (Changes outcomes) = outcomes_status outcomes.items
