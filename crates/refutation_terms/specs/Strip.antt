-- Taking rules and given cells out of a log.
use Rattle.std.specs.Prelude.{◌≡◌, ◌≢◌, ◌⊎◌, ℕ, zero, suc, List, [], ◌∷◌, map, filter, reverse, not, ◌==◌, Option, Some, Contains}
use Rattle.rwsp_terms.specs.declared.data.Weight.{Weight}
use Rattle.rwsp_terms.specs.declared.data.Rule.{Rule}
use Rattle.rwsp_terms.specs.declared.data.Rule.TheVariants as TheRules
use Rattle.rwsp_terms.specs.Instance.{Instance}
use Rattle.rwsp_terms.specs.Rules.{rule_of}
use Rattle.refutation_terms.specs.declared.lines.Line.{Line}
use Rattle.refutation_terms.specs.declared.lines.Line.TheVariants.{Closing}
use Rattle.refutation_terms.specs.declared.lines.Leaf.TheVariants.{Words}
use Rattle.refutation_terms.specs.declared.lines.WordClaim.{WordClaim}
use Rattle.refutation_terms.specs.declared.lines.WordClaim.TheVariants.{Dead, Light}
use Rattle.refutation_terms.specs.declared.cells.GivenCell.{GivenCell}
use Rattle.refutation_terms.specs.declared.lines.Opening.{Opening}
use Rattle.refutation_terms.specs.declared.lines.Opening.TheVariants.{Given}
use Rattle.refutation_terms.specs.Log.{Log, Passes}

-- the list without the number
abbrev pub without_rule : ℕ → List ℕ → List ℕ
without_rule number R = filter (λ k. not (k == number)) R

-- the weights of a day set to 0 where the rule is that day's
abbrev pub without_day : Option Rule → List Weight → List Weight
without_day (Some (TheRules.Day j)) y = filter (λ e. not (e.day == j)) y
without_day rule y = y

-- a claim without what rests on the rule besides the list
abbrev pub strip_claim : Instance → ℕ → WordClaim → WordClaim
strip_claim P number (Dead len) = Dead len
strip_claim P number (Light turns reward y) = Light turns reward (without_day (rule_of P number) y)

-- a line without the rule in its list. A leaf of another kind that cites it stays
abbrev pub strip_line : Instance → ℕ → Line → Line
strip_line P number (Closing (Words p R claim)) = Closing (Words p (without_rule number R) (strip_claim P number claim))
strip_line P number line = line

-- the log without the rule of this number. Its turn and its goal stay, and whether it may count
abbrev pub strip : Instance → ℕ → Log → Log
strip P number g = record {
  named = without_rule number g.named;
  opening = g.opening;
  goal = g.goal;
  counts = g.counts;
  lines = map (strip_line P number) g.lines;
}

-- going through some rules in turn, each is stripped exactly where the log then passes
abbrev pub StripsTo : Instance → List ℕ → Log → Log → Type 0
StripsTo P [] g h = g ≡ h
StripsTo P (number ∷ rest) g h =
    (Passes P (strip P number g) × StripsTo P rest (strip P number g) h)
    ⊎ ((Passes P (strip P number g) → ⊥) × StripsTo P rest g h)

-- a descent goes through the rules that are named at its start, from the highest number down
abbrev pub DescendsTo : Instance → Log → Log → Type 0
DescendsTo P g h = StripsTo P (reverse g.named) g h

-- this number of descents that drop a rule, and then one that drops none
abbrev pub ReducesIn : Instance → ℕ → Log → Log → Type 0
ReducesIn P zero g h = DescendsTo P g g × (g ≡ h)
ReducesIn P (suc n) g h = (next : Log) × DescendsTo P g next × (next ≢ g) × ReducesIn P n next h

-- what descents give, repeated until one drops nothing
abbrev pub IsReduced : Instance → Log → Log → Type 0
IsReduced P g h = (n : ℕ) × ReducesIn P n g h

-- it no longer passes once any one of its rules is taken out
abbrev pub NeedsEachRule : Instance → Log → Type 0
NeedsEachRule P g = (number : ℕ) → Contains g.named number → Passes P (strip P number g) → ⊥

-- the cells that an opening gives
abbrev pub cells_given : Opening → List GivenCell
cells_given (Given given) = given
cells_given o = []

-- the given cells without the one at this position
abbrev pub cells_without : ℕ → List GivenCell → List GivenCell
cells_without p given = filter (λ c. not (c.p == p)) given

abbrev pub opening_without : ℕ → Opening → Opening
opening_without p (Given given) = Given (cells_without p given)
opening_without p o = o

-- the log without the given cell at this position
abbrev pub without_cell : ℕ → Log → Log
without_cell p g = record {
  named = g.named;
  opening = opening_without p g.opening;
  goal = g.goal;
  counts = g.counts;
  lines = g.lines;
}

-- it no longer passes once any one of its given cells is left out
abbrev pub NeedsEachCell : Instance → Log → Type 0
NeedsEachCell P g = (c : GivenCell) → Contains (cells_given g.opening) c → Passes P (without_cell c.p g) → ⊥
