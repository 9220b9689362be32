-- The kinds of leaves, side by side: when each fits, what it cites and lists, when it holds, and what word escapes it.
use Rattle.std.specs.Prelude.{◌≡◌, ℕ, Bool, List, Contains, Option, Some}
use Rattle.rwsp_terms.specs.declared.data.Symbol.{Symbol}
use Rattle.rwsp_terms.specs.declared.data.Rule.{Rule}
use Rattle.rwsp_terms.specs.Instance.{Instance}
use Rattle.rwsp_terms.specs.Rules.{rule_of, IsShort, NamesShortOnly}
use Rattle.refutation_terms.specs.declared.lines.Leaf.{Leaf}
use Rattle.refutation_terms.specs.declared.lines.Leaf.TheVariants.{Window, Day, Few, Words, Blocks}
use Rattle.refutation_terms.specs.Word.{Domains}
use Rattle.refutation_terms.specs.WindowLeaf.{WindowFits, WindowCites, IsBlocked}
use Rattle.refutation_terms.specs.DayLeaf.{DayFits, DayCites, DayHolds}
use Rattle.refutation_terms.specs.WordsLeaf.{WordsFit, WordsCite, WordsHold, WordsEscape}
use Rattle.refutation_terms.specs.FewLeaf.{FewFits, FewHolds}
use Rattle.refutation_terms.specs.BlocksLeaf.{BlocksFit, BlocksCite, BlocksHold}

-- the numbers of a leaf are in their ranges, and its symbols are the problem's, in a log with this goal or none, which
-- may count or not
abbrev pub LeafFits : Instance → Option ℕ → Bool → Leaf → Type 0
LeafFits P goal counts (Window number p len) = WindowFits P number p len
LeafFits P goal counts (Day j x over) = DayFits P j x
LeafFits P goal counts (Words p R claim) = WordsFit P goal p R claim
LeafFits P goal counts Few = FewFits goal
LeafFits P goal counts (Blocks x) = BlocksFit P counts x

-- the rules that a leaf rests on
abbrev pub LeafCites : Instance → Leaf → Rule → Type 0
LeafCites P (Window number p len) r = WindowCites P number r
LeafCites P (Day j x over) r = DayCites j r
LeafCites P (Words p R claim) r = WordsCite P R claim r
LeafCites P Few r = ⊥
LeafCites P (Blocks x) r = BlocksCite P x r

-- a leaf holds under domains, in a log with this goal or none
abbrev pub LeafHolds : Instance → Option ℕ → Domains → Leaf → Type 0
LeafHolds P goal D (Window number p len) = IsBlocked P D number p len
LeafHolds P goal D (Day j x over) = DayHolds P D j x over
LeafHolds P goal D (Words p R claim) = WordsHold P goal D p R claim
LeafHolds P goal D Few = FewHolds P goal D
LeafHolds P goal D (Blocks x) = BlocksHold P x

-- a leaf of words lists short rules only. No other leaf lists rules
abbrev pub LeafListsShort : Instance → Leaf → Type 0
LeafListsShort P (Words p R claim) = NamesShortOnly P R
LeafListsShort P leaf = Unit {0}

-- the number of a rule of a list that isn't short
abbrev pub IsLongIn : Instance → List ℕ → ℕ → Type 0
IsLongIn P R k = (r : Rule) × (rule_of P k ≡ Some r) × Contains R k × (IsShort P r → ⊥)

-- the list of the leaf has such a number
abbrev pub LeafListsLong : Instance → Leaf → ℕ → Type 0
LeafListsLong P (Words p R claim) k = IsLongIn P R k
LeafListsLong P leaf k = ⊥

-- the leaf speaks of no words, so it either holds or fails
abbrev pub IsWordless : Leaf → Type 0
IsWordless (Words p R claim) = ⊥
IsWordless leaf = Unit {0}

-- the word shows that a leaf of words doesn't hold
abbrev pub LeafEscapes : Instance → Option ℕ → Domains → Leaf → List Symbol → Type 0
LeafEscapes P goal D (Words p R claim) w = WordsEscape P goal D p R claim w
LeafEscapes P goal D leaf w = ⊥
