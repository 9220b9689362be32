-- A problem with one thing loosened.
use Rattle.std.specs.Prelude.{ℕ, zero, suc, ◌+◌, ◌-◌, ◌<◌, ◌≤◌, min, max, List, [], ◌∷◌, length, remove}
use Rattle.rwsp_terms.specs.declared.limits.TheConstants.{GREATEST_SHORT_BOUND}
use Rattle.rwsp_terms.specs.declared.data.Bounds.{Bounds}
use Rattle.rwsp_terms.specs.declared.data.Class.{Class}
use Rattle.rwsp_terms.specs.declared.data.Class.TheVariants.{Shift, Off, Work}
use Rattle.rwsp_terms.specs.declared.data.Rule.{Rule}
use Rattle.rwsp_terms.specs.declared.data.Rule.TheVariants.{Most, Least, Never, Day}
use Rattle.rwsp_terms.specs.Instance.{Instance, cells, bounds, shift_demand, IsClass, IsDay, IsShift}
use Rattle.ways_out.specs.declared.change.Change.{Change}
use Rattle.ways_out.specs.declared.change.Change.TheVariants.{LongerBlocks, ShorterBlocks, LowerDemand, HigherDemand, Dropped}

-- the list with f of the element at place k where that element was
abbrev pub edited : {X : Type 0} → ℕ → (X → X) → List X → List X
edited k f [] = []
edited zero f (x ∷ xs) = f x ∷ xs
edited (suc k) f (x ∷ xs) = x ∷ edited k f xs

abbrev pub raised : ℕ → Bounds → Bounds
raised n b = record b { greatest = b.greatest + n }

abbrev pub lowered : ℕ → Bounds → Bounds
lowered n b = record b { least = b.least - n }

-- the bounds of the blocks of a class changed
abbrev pub with_bounds : Instance → Class → (Bounds → Bounds) → Instance
with_bounds P (Shift x) f =
    record P { shifts = edited (x.number - 1) (λ row. record row { bounds = f row.bounds }) P.shifts }
with_bounds P Off f = record P { off = f P.off }
with_bounds P Work f = record P { work = f P.work }

-- the demand of shift x on day j changed
abbrev pub with_demand : Instance → (x j : ℕ) → (Bounds → Bounds) → Instance
with_demand P x j f = record P { demand = edited (x - 1) (edited (j - 1) f) P.demand }

-- the instance without the forbidden sequence at a place
abbrev pub without_sequence : Instance → ℕ → Instance
without_sequence P k = record P { sequences = remove P.sequences k }

-- the instance with so many steps of a change, and all else as it was
abbrev pub loosened : Instance → Change → ℕ → Instance
loosened P (LongerBlocks c) n = with_bounds P c (raised n)
loosened P (ShorterBlocks c) n = with_bounds P c (lowered n)
loosened P (LowerDemand j x) n = with_demand P x.number j (lowered n)
loosened P (HigherDemand j x) n = with_demand P x.number j (raised n)
loosened P (Dropped k) n = without_sequence P k

-- the least number of a demand alone, and the greatest alone. A demand that has none, since its least number is above
-- its greatest, stays so
abbrev pub lowest : Bounds → Bounds
lowest b = record b { greatest = min b.least b.greatest }

abbrev pub highest : Bounds → Bounds
highest b = record b { least = max b.greatest b.least }

-- the instance with so many steps of a change of a demand, at the last number that they let in, alone. A change of
-- anything else is as above
abbrev pub exact : Instance → Change → ℕ → Instance
exact P (LowerDemand j x) n = with_demand P x.number j (λ b. lowest (lowered n b))
exact P (HigherDemand j x) n = with_demand P x.number j (λ b. highest (raised n b))
exact P change n = loosened P change n

-- a change of something that the instance has
abbrev pub IsChange : Instance → Change → Type 0
IsChange P (LongerBlocks c) = IsClass P c
IsChange P (ShorterBlocks c) = IsClass P c
IsChange P (LowerDemand j x) = IsDay P j × IsShift P x
IsChange P (HigherDemand j x) = IsDay P j × IsShift P x
IsChange P (Dropped k) = k < length P.sequences

-- how many steps it has: blocks get no longer than the roster or, if that is more, than a short rule allows, and no
-- shorter than one day; the demand falls to 0 and rises to the number of weeks
abbrev pub most_steps : Instance → Change → ℕ
most_steps P (LongerBlocks c) = max (cells P) GREATEST_SHORT_BOUND - (bounds P c).greatest
most_steps P (ShorterBlocks c) = (bounds P c).least - 1
most_steps P (LowerDemand j x) = (shift_demand P x.number j).least
most_steps P (HigherDemand j x) = P.weeks - (shift_demand P x.number j).greatest
most_steps P (Dropped k) = 1

-- a number of steps of the change
abbrev pub IsStep : Instance → Change → ℕ → Type 0
IsStep P change n = (1 ≤ n) × (n ≤ most_steps P change)

-- the rule that is loosened by a change
abbrev pub changed_rule : Change → Rule
changed_rule (LongerBlocks c) = Most c
changed_rule (ShorterBlocks c) = Least c
changed_rule (LowerDemand j x) = Day j
changed_rule (HigherDemand j x) = Day j
changed_rule (Dropped k) = Never k
