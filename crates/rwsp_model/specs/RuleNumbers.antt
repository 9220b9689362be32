-- The places of rules in the list of all rules, and the numbers of the short rules.
use Rattle.std.specs.Prelude.{◌≡◌, ℕ, ◌+◌, ◌-◌, ◌*◌, length, Some}
use Rattle.rwsp_terms.specs.Instance.{Instance, shift_count}
use Rattle.rwsp_terms.specs.Rules.{rule_of, IsShort}
use Rattle.rwsp_terms.specs.declared.data.Class.{Class}
use Rattle.rwsp_terms.specs.declared.data.Class.TheVariants.{Shift, Off, Work}
use Rattle.rwsp_terms.specs.declared.data.Rule.{Rule}
use Rattle.rwsp_terms.specs.declared.data.Rule.TheVariants.{Most, Least, Never, Day}

-- the place of a class among those whose blocks have rules, counted from 0
abbrev pub class_place : Instance → Class → ℕ
class_place P (Shift x) = x.number - 1
class_place P Off = shift_count P
class_place P Work = shift_count P + 1

-- the place of a rule in the list, counted from 0
abbrev pub place_of : Instance → Rule → ℕ
place_of P (Most c) = 2 * class_place P c
place_of P (Least c) = 2 * class_place P c + 1
place_of P (Never k) = 2 * (shift_count P + 2) + k
place_of P (Day j) = 2 * (shift_count P + 2) + length P.sequences + (j - 1)

-- the number of a short rule
abbrev pub IsShortNumber : Instance → ℕ → Type 0
IsShortNumber P k = (r : Rule) × (rule_of P k ≡ Some r) × IsShort P r
