-- The first rule that a roster breaks, and where it does so first.
use Rattle.std.specs.Prelude.{◌≡◌, ℕ, ◌+◌, ◌-◌, ◌*◌, ◌<◌, ◌≤◌, List, Some, length}
use Rattle.rwsp_terms.specs.Instance.{Instance}
use Rattle.rwsp_terms.specs.Window.{window, Bad}
use Rattle.rwsp_terms.specs.Roster.{MeetsDay, MeetsRule}
use Rattle.rwsp_terms.specs.Rules.{rule_of}
use Rattle.rwsp_terms.specs.declared.data.Symbol.{Symbol}
use Rattle.rwsp_terms.specs.declared.data.Rule.{Rule}
use Rattle.rwsp_terms.specs.declared.data.Rule.TheVariants.{Day}
use Rattle.roster_checker.specs.declared.broken.Broken.{Broken}

-- the window of this length from p on is of the kind, which may ask for the position where it begins; none that begins
-- earlier is, and none that begins there and is shorter
pub record IsFirstWindow (IsKind : ℕ → List Symbol → Type 0) (s : List Symbol) (p days : ℕ) : Type 0 where
  pub within : p < length s
  pub here : IsKind p (window s p days)
  pub earliest : (q len : ℕ) → q < p → IsKind q (window s q len) → ⊥
  pub shortest : (len : ℕ) → len < days → IsKind p (window s p len) → ⊥

-- the position of a day in a week, both counted from 1; positions are counted from 0
abbrev pub position_of : Instance → ℕ → ℕ → ℕ
position_of P week day = (week - 1) * P.days + (day - 1)

-- the first window that breaks the rule begins on the day of the week and has the length
pub record BeginsFirstBadWindow (P : Instance) (r : Rule) (s : List Symbol) (b : Broken) : Type 0 where
  pub week : (1 ≤ b.week) × (b.week ≤ P.weeks)
  pub day : (1 ≤ b.day) × (b.day ≤ P.days)
  pub first : IsFirstWindow (Bad P r) s (position_of P b.week b.day) b.length

-- the demand of the day isn't met. The place that is named is the day in the first week, without a length
pub record FailsDay (P : Instance) (j : ℕ) (s : List Symbol) (b : Broken) : Type 0 where
  pub fails : MeetsDay P j s → ⊥
  pub week : b.week ≡ 1
  pub day : b.day ≡ j
  pub length : b.length ≡ 0

-- where the rule is broken first
abbrev pub BreaksFirst : Instance → Rule → List Symbol → Broken → Type 0
BreaksFirst P (Day j) s b = FailsDay P j s b
BreaksFirst P r s b = BeginsFirstBadWindow P r s b

-- each rule with a number below this one is met
abbrev pub MeetsBelow : Instance → List Symbol → ℕ → Type 0
MeetsBelow P s number = (k : ℕ) (r : Rule) → k < number → rule_of P k ≡ Some r → MeetsRule P r s

-- each rule with a lower number is met, and this one is broken there
pub record IsFirstBroken (P : Instance) (s : List Symbol) (b : Broken) : Type 0 where
  pub rule : Rule
  pub number : rule_of P b.rule ≡ Some rule
  pub lower : MeetsBelow P s b.rule
  pub breaks : BreaksFirst P rule s b
