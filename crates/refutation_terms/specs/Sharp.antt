-- When a log is sharp: it splits only where no leaf is at hand, and splits on what is forced where something is.
use Rattle.std.specs.Prelude.{◌≡◌, ◌⊎◌, ℕ, zero, suc, ◌*◌, ◌<◌, ◌≤◌, List, [], ◌∷◌, ◌++◌, length, slice_get, map, Bool, false, Some, None, ℤ, pos, negsuc, ◌+ℤ◌, ◌-ℤ◌, ◌≤ℤ◌, ◌<ℤ◌, int_lt, if◌then◌else◌}
use Rattle.std.specs.List.{range_with_len, flat_map}
use Rattle.rwsp_terms.specs.declared.data.Symbol.{Symbol}
use Rattle.rwsp_terms.specs.declared.data.Weight.{Weight}
use Rattle.rwsp_terms.specs.declared.limits.TheConstants.{SEARCHED_ROUNDS}
use Rattle.rwsp_terms.specs.Instance.{Instance, cells, shift_count, least, greatest, IsShift, IsDay, symbol_numbered}
use Rattle.rwsp_terms.specs.Roster.{weeks_with}
use Rattle.rwsp_terms.specs.Rules.{NamesShortRules}
use Rattle.rwsp_terms.specs.Weights.{weight_at}
use Rattle.refutation_terms.specs.declared.lines.Line.{Line}
use Rattle.refutation_terms.specs.declared.lines.Line.TheVariants.{Split, Closing, Unfinished}
use Rattle.refutation_terms.specs.declared.lines.Leaf.TheVariants.{Window, Day}
use Rattle.refutation_terms.specs.declared.lines.Opening.{Opening}
use Rattle.refutation_terms.specs.declared.lines.Opening.TheVariants.{Full, Turned, Given}
use Rattle.refutation_terms.specs.declared.lines.Turn.{Turn}
use Rattle.refutation_terms.specs.Word.{Domains, Over, Clean}
use Rattle.refutation_terms.specs.Ranges.{AreWeightsOf}
use Rattle.refutation_terms.specs.WordsLeaf.{IsDead, IsTooLight}
use Rattle.refutation_terms.specs.Tree.{First, narrowed, opening, domains_at, is_idle}
use Rattle.refutation_terms.specs.Log.{Log, Holds, LineFits}
use Rattle.refutation_terms.specs.Escape.{IsLeastHeaviest}

-- some window leaf of the problem holds
abbrev pub SomeWindowHolds : Instance → Domains → Type 0
SomeWindowHolds P D =
    (number : ℕ) × (p : ℕ) × (len : ℕ) × LineFits P None false (Closing (Window number p len)) × Holds P None D (Closing (Window number p len))

-- some day leaf of the problem holds
abbrev pub SomeDayHolds : Instance → Domains → Type 0
SomeDayHolds P D = (j : ℕ) × (x : Symbol) × (over : Bool) × LineFits P None false (Closing (Day j x over)) × Holds P None D (Closing (Day j x over))

-- no word of two turns that is clean for the list has the symbol at the position
abbrev pub NoWordHas : Instance → Domains → List ℕ → ℕ → Symbol → Type 0
NoWordHas P D R p x =
    (u : List Symbol) → length u ≡ 2 * cells P → Over P D 0 u → Clean P R 0 u → slice_get u p ≡ Some x → ⊥

-- a symbol is spent at a position where another is left there too, and a day leaf holds once it is alone there, or no
-- word has it there
pub record IsSpentAt (P : Instance) (D : Domains) (R : List ℕ) (p : ℕ) (x : Symbol) : Type 0 where
  pub position : p < cells P
  pub left : is_idle P D p x.number ≡ false
  pub spent : SomeDayHolds P (narrowed D (Split p x) First) ⊎ NoWordHas P D R p x

-- the weights that are v for each of some shifts on every day
abbrev pub weights_on : Instance → List ℕ → ℤ → List Weight
weights_on P xs v =
    flat_map (λ j. map (λ x. record { day = j; symbol = symbol_numbered x; value = v }) xs) (range_with_len 1 P.days)

-- first +1, then -1
abbrev pub both_signs : Instance → List ℕ → List (List Weight)
both_signs P xs = weights_on P xs (pos 1) ∷ weights_on P xs (negsuc 0) ∷ []

-- the plain bounds: +1 and -1 on all shifts, then on each shift alone
abbrev pub plain_bounds : Instance → List (List Weight)
plain_bounds P =
    both_signs P (range_with_len 1 (shift_count P))
    ++ flat_map (λ x. both_signs P (x ∷ [])) (range_with_len 1 (shift_count P))

-- a weight goes down by one where a word has the symbol on the day above its greatest demand, and up by one where
-- below its least
abbrev pub step : Instance → List Weight → List Symbol → ℕ → ℕ → ℤ
step P y h j x =
    if int_lt (greatest P x j) (pos (weeks_with P h x j)) then weight_at y j x -ℤ pos 1
    else (if int_lt (pos (weeks_with P h x j)) (least P x j) then weight_at y j x +ℤ pos 1 else weight_at y j x)

-- each weight went by one step, by a word
pub record AreStepped (P : Instance) (y : List Weight) (word : List Symbol) (next : List Weight) : Type 0 where
  pub are_weights : AreWeightsOf P next
  pub values : (j x : ℕ) → IsDay P j → x ≤ shift_count P → weight_at next j x ≡ step P y word j x

-- the weights that follow others in the search, by the least of the heaviest clean words of one turn
pub record IsNext (P : Instance) (D : Domains) (R : List ℕ) (y next : List Weight) : Type 0 where
  pub word : List Symbol
  pub is_heaviest : IsLeastHeaviest P D 0 (cells P) R y word
  pub stepped : AreStepped P y word next

-- the weights searched in round k, counted from 0: at first 0 everywhere. The rounds end where no clean word is left
abbrev pub IsSearched : Instance → Domains → List ℕ → ℕ → List Weight → Type 0
IsSearched P D R zero y = y ≡ []
IsSearched P D R (suc k) y = (before : List Weight) × IsSearched P D R k before × IsNext P D R before y

-- the bound of one turn from position 0 on holds
abbrev pub HoldsAtTop : Instance → Domains → List ℕ → List Weight → Type 0
HoldsAtTop P D R y = IsTooLight P None D 0 1 0 R y

-- no plain bound holds, nor that of searched weights
pub record NoBoundHolds (P : Instance) (D : Domains) (R : List ℕ) : Type 0 where
  pub plain : (k : ℕ) (y : List Weight) → slice_get (plain_bounds P) k ≡ Some y → HoldsAtTop P D R y → ⊥
  pub searched : (k : ℕ) (y : List Weight) → k < SEARCHED_ROUNDS → IsSearched P D R k y → HoldsAtTop P D R y → ⊥

-- a line that is a split or unfinished
abbrev pub IsUnclosed : Line → Type 0
IsUnclosed (Split p x) = Unit {0}
IsUnclosed Unfinished = Unit {0}
IsUnclosed line = ⊥

-- some week must hold the shift on the day
abbrev pub IsDemanded : Instance → ℕ → Symbol → Type 0
IsDemanded P j x = IsDay P j × IsShift P x × (pos 1 ≤ℤ least P x.number j)

-- another demanded shift is no scarcer than that of the turn: it has a greater least demand on its day, or an equal one
-- and comes no earlier, by the days and on one day by the numbers of the shifts
abbrev pub IsNoScarcer : Instance → Turn → ℕ → Symbol → Type 0
IsNoScarcer P t j x =
    (least P t.x.number t.day <ℤ least P x.number j)
    ⊎ ((least P t.x.number t.day ≡ least P x.number j) × ((t.day < j) ⊎ ((t.day ≡ j) × (t.x.number ≤ x.number))))

-- no shift is demanded, or the turn is to one that is, on a day, and to the scarcest: the first of those with the
-- smallest least demand; or cells are given, with which no week is like another
abbrev pub IsScarcestTurn : Instance → Opening → Type 0
IsScarcestTurn P Full = (j : ℕ) (x : Symbol) → IsDemanded P j x → ⊥
IsScarcestTurn P (Given given) = Unit {0}
IsScarcestTurn P (Turned t) = IsDemanded P t.day t.x × ((j : ℕ) (x : Symbol) → IsDemanded P j x → IsNoScarcer P t j x)

-- what holds at each split of a sharp log: no window or day leaf holds, two turns aren't dead, and it splits on a
-- spent symbol where there is one
pub record IsSharpSplit (P : Instance) (D : Domains) (R : List ℕ) (p : ℕ) (x : Symbol) : Type 0 where
  pub no_window : SomeWindowHolds P D → ⊥
  pub no_day : SomeDayHolds P D → ⊥
  pub not_dead : IsDead P D 0 (2 * cells P) R → ⊥
  pub forced : (q : ℕ) (z : Symbol) → IsSpentAt P D R q z → IsSpentAt P D R p x

-- a sharp log, by the list of all short rules
pub record IsSharp (P : Instance) (g : Log) : Type 0 where
  pub short : List ℕ
  pub all_short : NamesShortRules P short
  pub splits : (k p : ℕ) (x : Symbol) → slice_get g.lines k ≡ Some (Split p x)
      → IsSharpSplit P (domains_at P g.opening g.lines k) short p x
  pub top : (line : Line) → slice_get g.lines 0 ≡ Some line → IsUnclosed line → NoBoundHolds P (opening P g.opening) short
  pub turn : IsScarcestTurn P g.opening
