-- The text of the first rule that a roster breaks.
use Rattle.std.specs.Prelude.{◌≡◌, ℕ, List, [], ◌++◌, codes, Option, Some, None}
use Rattle.std.specs.Fmt.{decimal}
use Rattle.rwsp_terms.specs.Instance.{Instance}
use Rattle.rwsp_terms.specs.Rules.{rule_of}
use Rattle.rwsp_terms.specs.declared.data.Rule.{Rule}
use Rattle.rwsp_terms.specs.declared.data.Rule.TheVariants.{Day}
use Rattle.roster_print.specs.RuleText.{rule_text}
use Rattle.roster_checker.specs.declared.broken.Broken.{Broken}

-- where a window begins and how long it is; the rule of a day has no such place
abbrev pub place_text : Rule → Broken → List ℕ
place_text (Day day) broken = []
place_text rule broken =
    codes " week " ++ decimal broken.week ++ codes " day " ++ decimal broken.day ++ codes " length "
    ++ decimal broken.length

abbrev pub broken_text : Instance → Option Rule → Broken → List ℕ
broken_text P None broken = []
broken_text P (Some rule) broken = rule_text P rule ++ place_text rule broken

abbrev pub breaks_text : Instance → Broken → List ℕ
breaks_text P broken =
    codes "breaks rule " ++ decimal broken.rule ++ codes " " ++ broken_text P (rule_of P broken.rule) broken

-- a rule that is broken is one of the instance's
abbrev pub HasBroken : Instance → Broken → Type 0
HasBroken P broken = (r : Rule) × (rule_of P broken.rule ≡ Some r)
