-- What holds of every problem with something loosened.
use Rattle.std.specs.Prelude.{◌≢◌, ◌↔◌, ℕ, ◌≤◌, List, Contains}
use Rattle.rwsp_terms.specs.declared.data.Symbol.{Symbol}
use Rattle.rwsp_terms.specs.declared.data.Rule.{Rule}
use Rattle.rwsp_terms.specs.Instance.{Instance}
use Rattle.rwsp_terms.specs.Roster.{MeetsAll, MeetsRule, IsRule}
use Rattle.ways_out.specs.declared.change.Change.{Change}
use Rattle.ways_out.specs.Loosened.{loosened, changed_rule, IsChange}
use Rattle.ways_out.specs.Changes.{changes}

-- a roster of an instance is one of it loosened
abbrev pub RostersStay : Type 0
RostersStay =
    (P : Instance) (change : Change) (n : ℕ) (s : List Symbol) → IsChange P change → MeetsAll P s
    → MeetsAll (loosened P change n) s

-- a roster of an instance loosened is one of it loosened further
abbrev pub RostersStayFurther : Type 0
RostersStayFurther =
    (P : Instance) (change : Change) (m n : ℕ) (s : List Symbol) → IsChange P change → m ≤ n
    → MeetsAll (loosened P change m) s → MeetsAll (loosened P change n) s

-- a roster of an instance loosened meets each other rule as it was
abbrev pub OtherRulesStay : Type 0
OtherRulesStay =
    (P : Instance) (change : Change) (n : ℕ) (r : Rule) (s : List Symbol) → IsChange P change
    → MeetsAll (loosened P change n) s → IsRule P r → r ≢ changed_rule change → MeetsRule P r s

-- the list of changes has each change of the instance and no other
abbrev pub ChangesAreListed : Type 0
ChangesAreListed = (P : Instance) (change : Change) → Contains (changes P) change ↔ IsChange P change
