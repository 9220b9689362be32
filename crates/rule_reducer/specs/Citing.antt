-- Which rules the lines of a log cite, and which of them no strip takes out.
use Rattle.std.specs.Prelude.{◌≡◌, ◌↔◌, ◌⊎◌, ℕ, List, slice_get, Some, Bool, true, false}
use Rattle.rwsp_terms.specs.declared.data.Rule.{Rule}
use Rattle.rwsp_terms.specs.Instance.{Instance}
use Rattle.rwsp_terms.specs.Rules.{Names}
use Rattle.refutation_terms.specs.declared.lines.Line.{Line}
use Rattle.refutation_terms.specs.declared.lines.Line.TheVariants.{Closing}
use Rattle.refutation_terms.specs.declared.lines.Leaf.TheVariants.{Words}
use Rattle.refutation_terms.specs.Log.{Log, Cites, OpeningCites}

-- a leaf that isn't one of words: what it rests on is in no list, and a strip leaves it as it is
abbrev pub is_plain : Line → Bool
is_plain (Closing (Words p R claim)) = false
is_plain (Closing leaf) = true
is_plain line = false

-- one of the lines, a plain leaf or another line, cites the rule
abbrev pub OneCites : Instance → Bool → List Line → Rule → Type 0
OneCites P plain lines r =
    (k : ℕ) × (line : Line) × (slice_get lines k ≡ Some line) × (is_plain line ≡ plain) × Cites P line r

-- a plain leaf or the turn cites the rule, and no strip takes it out there
abbrev pub CitesForGood : Instance → Log → Rule → Type 0
CitesForGood P g r = OpeningCites g.opening r ⊎ OneCites P true g.lines r

-- the first list names the rules that are cited for good; the second names each rule that another line cites, and maybe
-- rules that lines cited once
pub record AreCited (P : Instance) (g : Log) (for_good in_lists : List ℕ) : Type 0 where
  pub lasting : (r : Rule) → Names P for_good r ↔ CitesForGood P g r
  pub listed : (r : Rule) → OneCites P false g.lines r → Names P in_lists r

-- a leaf of words, which rests on a list of rules
abbrev pub HasList : Line → Type 0
HasList (Closing (Words p R claim)) = Unit {0}
HasList line = ⊥
