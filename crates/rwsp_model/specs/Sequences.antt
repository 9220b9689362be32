-- The forbidden sequences of an instance.
use Rattle.std.specs.Prelude.{◌≡◌, ℕ, ◌≤◌, List, length, None, All, AllPairs, count_by, ◌==◌}
use Rattle.rwsp_terms.specs.declared.limits.TheConstants.{MOST_SEQUENCES}
use Rattle.rwsp_terms.specs.declared.data.Sequence.{Sequence}
use Rattle.rwsp_terms.specs.Instance.{Instance, IsSymbol}
use Rattle.rwsp_terms.specs.Window.{symbols_of}

-- a sequence of symbols of the instance, forbidden on every day
abbrev pub IsSequenceOf : Instance → Sequence → Type 0
IsSequenceOf P q = All (IsSymbol P) (symbols_of q) × (q.day ≡ None)

-- the part of the list in which a sequence stands: that of its number of symbols
abbrev pub part_of : Sequence → ℕ
part_of q = length (symbols_of q)

-- how many of the sequences stand in a part
abbrev pub count_in : ℕ → List Sequence → ℕ
count_in part qs = count_by (λ q. part_of q == part) qs

-- how many of the instance's sequences have two symbols, and how many three
abbrev pub pair_count : Instance → ℕ
pair_count P = count_in 2 P.sequences

abbrev pub triple_count : Instance → ℕ
triple_count P = count_in 3 P.sequences

-- one part stands behind the other, and neither is too long
pub record AreListed (qs : List Sequence) : Type 0 where
  pub ordered : AllPairs (λ a b. part_of a ≤ part_of b) qs
  pub few_pairs : count_in 2 qs ≤ MOST_SEQUENCES
  pub few_triples : count_in 3 qs ≤ MOST_SEQUENCES
