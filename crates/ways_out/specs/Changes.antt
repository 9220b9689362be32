-- All changes of a problem, in order.
use Rattle.std.specs.Prelude.{ℕ, List, [], ◌∷◌}
use Rattle.std.specs.List.{flat_map, range_with_len}
use Rattle.rwsp_terms.specs.declared.data.Rule.{Rule}
use Rattle.rwsp_terms.specs.declared.data.Rule.TheVariants.{Most, Least, Never, Day}
use Rattle.rwsp_terms.specs.Instance.{Instance, shift_count, symbol_numbered}
use Rattle.rwsp_terms.specs.Rules.{rules}
use Rattle.ways_out.specs.declared.change.Change.{Change}
use Rattle.ways_out.specs.declared.change.Change.TheVariants.{LongerBlocks, ShorterBlocks, LowerDemand, HigherDemand, Dropped}

-- the two changes of a shift's demand on a day
abbrev pub demand_changes : (j x : ℕ) → List Change
demand_changes j x = LowerDemand j (symbol_numbered x) ∷ HigherDemand j (symbol_numbered x) ∷ []

-- the changes of a rule; those of a day by shift
abbrev pub changes_of : Instance → Rule → List Change
changes_of P (Most c) = LongerBlocks c ∷ []
changes_of P (Least c) = ShorterBlocks c ∷ []
changes_of P (Never k) = Dropped k ∷ []
changes_of P (Day j) = flat_map (demand_changes j) (range_with_len 1 (shift_count P))

-- the changes of all rules, by the rules' numbers
abbrev pub changes : Instance → List Change
changes P = flat_map (changes_of P) (rules P)
