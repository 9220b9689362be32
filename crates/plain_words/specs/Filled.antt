-- Sentences with holes, and what stands for each.
use Rattle.std.specs.Prelude.{ℕ, zero, suc, ◌-◌, List, [], ◌∷◌, ◌++◌, ◌==◌, true, false, nat_lt, if◌then◌else◌}
use Rattle.std.specs.Fmt.{decimal}
use Rattle.std.specs.List.{flat_map, range_with_len}
use Rattle.rwsp_terms.specs.declared.data.Bounds.{Bounds}
use Rattle.rwsp_terms.specs.declared.data.Symbol.{Symbol}
use Rattle.rwsp_terms.specs.declared.data.Class.TheVariants as Classes
use Rattle.rwsp_terms.specs.Instance.{Instance, shift_count}
use Rattle.rwsp_terms.specs.Rules.{rule_of}
use Rattle.plain_words.specs.declared.part.Part.{Part}
use Rattle.plain_words.specs.declared.part.Part.TheVariants as Parts
use Rattle.plain_words.specs.declared.reason.Rosters.{Rosters}
use Rattle.plain_words.specs.declared.reason.Rosters.TheVariants as TheRosters
use Rattle.plain_words.specs.Words.{count_words, days_words, weeks_words, range_words, shift_words, symbol_words}
use Rattle.plain_words.specs.RuleWords.{class_words, crossed_words, rule_in_words}
use Rattle.plain_words.specs.Fixed.{fixed}
use Rattle.plain_words.specs.declared.pieces.TheConstants.{AND_AT_MOST, AT_LEAST, BLOCK, BLOCKS, BLOCKS_HAVE, BLOCK_HAS, CASES_CLOSED, CASE_CLOSED, CHANGES_LEFT, CHANGE_LEFT, COMMA, GIVEN, HOLE, IS_OFF, LEFT_OPEN, LEFT_OPEN_MANY, MAYBE_NEARER, OF, OFF, OF_DAYS_OFF, OR_MORE, PAIR, PAIRS, ROUNDS_HAVE, ROUND_HAS, SHIFT, SHIFTS, TO, TRIPLE, TRIPLES, WEEKEND, WEEKENDS, WHOLE, WITH, WORKS}

-- the number of the shifts and their names, with commas between them: `2 shifts: D, N`
abbrev pub next_shift_words : Instance → (x : ℕ) → List ℕ
next_shift_words P x = fixed COMMA.now ++ shift_words P x

abbrev pub other_shifts_words : Instance → List ℕ
other_shifts_words P = flat_map (next_shift_words P) (range_with_len 2 (shift_count P - 1))

unfoldable pub shifts_words : Instance → List ℕ
shifts_words P = count_words (shift_count P) SHIFT.now SHIFTS.now ++ shift_words P 1 ++ other_shifts_words P

-- so many days, from a least number to a greatest, which may be below it
unfoldable pub span_words : Bounds → List ℕ
span_words b =
    if b.least == b.greatest then days_words b.least
    else if nat_lt b.least b.greatest then decimal b.least ++ fixed TO.now ++ days_words b.greatest
    else fixed AT_LEAST.now ++ decimal b.least ++ fixed AND_AT_MOST.now ++ days_words b.greatest

-- a range of numbers of blocks
unfoldable pub block_range_words : Bounds → List ℕ
block_range_words k =
    if k.least == k.greatest then count_words k.least BLOCK.now BLOCKS.now
    else decimal k.least ++ fixed TO.now ++ count_words k.greatest BLOCK.now BLOCKS.now

-- what somebody does who has the symbol
unfoldable pub works_words : Instance → Symbol → List ℕ
works_words P x = if x.number == 0 then fixed IS_OFF.now else fixed WORKS.now ++ shift_words P x.number

-- which rosters something is said of
unfoldable pub rosters_words : Rosters → List ℕ
rosters_words TheRosters.Every = []
rosters_words (TheRosters.Free n) = fixed WITH.now ++ count_words n WEEKEND.now WEEKENDS.now ++ fixed OR_MORE.now
rosters_words (TheRosters.Weeks n) = fixed OF.now ++ weeks_words n
rosters_words TheRosters.Given = fixed GIVEN.now

-- the words of a part
unfoldable pub part_words : Instance → Part → List ℕ
part_words P (Parts.Number n) = decimal n
part_words P (Parts.Length n) = decimal n
part_words P (Parts.Days n) = days_words n
part_words P (Parts.Weeks n) = weeks_words n
part_words P (Parts.Weekends n) = count_words n WEEKEND.now WEEKENDS.now
part_words P Parts.AllShifts = shifts_words P
part_words P (Parts.Pairs n) = count_words n PAIR.now PAIRS.now
part_words P (Parts.Triples n) = count_words n TRIPLE.now TRIPLES.now
part_words P (Parts.BlocksHave n) = count_words n BLOCK_HAS.now BLOCKS_HAVE.now
part_words P (Parts.RoundsHave n) = count_words n ROUND_HAS.now ROUNDS_HAVE.now
part_words P (Parts.Closed n) = count_words n CASE_CLOSED.now CASES_CLOSED.now
part_words P (Parts.Open n) = count_words n LEFT_OPEN.now LEFT_OPEN_MANY.now
part_words P (Parts.Left zero) = []
part_words P (Parts.Left (suc n)) = count_words (suc n) CHANGE_LEFT.now CHANGES_LEFT.now
part_words P (Parts.Range b) = range_words b
part_words P (Parts.DayRange b) = span_words b
part_words P (Parts.BlockRange b) = block_range_words b
part_words P (Parts.Name x) = shift_words P x
part_words P (Parts.Crossed x b) = crossed_words P x b
part_words P (Parts.Works x) = works_words P x
part_words P (Parts.Held x) = symbol_words P x OFF.now
part_words P (Parts.OfClass c) = class_words P c
part_words P (Parts.BlockOf Classes.Off) = fixed OF_DAYS_OFF.now
part_words P (Parts.BlockOf c) = class_words P c
part_words P (Parts.Rule k) = rule_in_words P (rule_of P k)
part_words P (Parts.Of w) = rosters_words w
part_words P (Parts.Unknown TheRosters.Every) = fixed WHOLE.now
part_words P (Parts.Unknown w) = rosters_words w
part_words P (Parts.Nearest true) = []
part_words P (Parts.Nearest false) = fixed MAYBE_NEARER.now

-- the words of a sentence: each hole stands for the next of the parts, and where none is left for itself
unfoldable pub filled : Instance → (text : List ℕ) → List Part → List ℕ
filled P [] parts = []
filled P (b ∷ text) [] = b ∷ filled P text []
filled P (b ∷ text) (part ∷ parts) =
    if b == HOLE then part_words P part ++ filled P text parts else b ∷ filled P text (part ∷ parts)
