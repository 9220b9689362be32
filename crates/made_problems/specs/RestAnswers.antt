-- What a problem with a least rest is, or why there is none.
use Rattle.std.specs.Prelude.{◌≡◌, ℕ, ◌<◌, ◌≤◌, List, length}
use Rattle.rwsp_terms.specs.declared.limits.TheConstants.{MOST_SEQUENCES}
use Rattle.rwsp_terms.specs.declared.data.Sequence.{Sequence}
use Rattle.rwsp_terms.specs.Instance.{Instance}
use Rattle.made_problems.specs.Rested.{rested, rested_pairs, rested_triples}
use Rattle.made_problems.specs.declared.rested.LeastRest.{LeastRest}
use Rattle.made_problems.specs.declared.rested.LeastRest.TheVariants.{Rested, Pairs, Triples}

-- the sequences are too many, and this is their number
abbrev pub AreTooMany : List Sequence → ℕ → Type 0
AreTooMany qs n = (n ≡ length qs) × (MOST_SEQUENCES < n)

-- the instance with the rest, where its pairs and its triples are few enough; else the number of the pairs, or, where
-- they are few enough, of the triples
abbrev pub IsRestOf : Instance → ℕ → LeastRest → Type 0
IsRestOf P minutes (Rested Q) =
    (length (rested_pairs P minutes) ≤ MOST_SEQUENCES) × (length (rested_triples P minutes) ≤ MOST_SEQUENCES)
    × (Q ≡ rested P minutes)
IsRestOf P minutes (Pairs n) = AreTooMany (rested_pairs P minutes) n
IsRestOf P minutes (Triples n) =
    (length (rested_pairs P minutes) ≤ MOST_SEQUENCES) × AreTooMany (rested_triples P minutes) n
