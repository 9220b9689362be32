-- The lines below a header, cut into chunks.
use Rattle.std.specs.Prelude.{◌≡◌, ◌≢◌, ◌⊎◌, ℕ, ◌+◌, ◌-◌, ◌*◌, ◌^◌, ◌<◌, ◌==◌, List, [], ◌∷◌, ◌++◌, length, take, Option, Some, None, count_by, cond, slice_index, Bool}
use Rattle.rwsp_terms.specs.Instance.{Instance}
use Rattle.refutation_terms.specs.declared.lines.Line.{Line}
use Rattle.refutation_terms.specs.declared.lines.Opening.{Opening}
use Rattle.refutation_terms.specs.LogText.{lines_text}
use Rattle.refutation_log.specs.Printing.{EachFits}
use Rattle.domain_store.specs.States.{State, IsStateOf}
use Rattle.refutation_checker.specs.Starts.{Start, StandsBehind}
use Rattle.refutation_checker.specs.UnreadSplits.{UnreadSplit, EndInside, IsEndedOrIdle, IsInto}

-- how many LF the bytes hold
abbrev pub feeds : List ℕ → ℕ
feeds bytes = count_by (λ b. b == 10) bytes

-- how many lines they hold, of which the last one may have no LF
abbrev pub line_count : List ℕ → ℕ
line_count bytes = feeds bytes + cond (slice_index bytes (length bytes - 1) == 10) 0 1

-- the first n bytes are `size` lines, or all bytes, which hold fewer LF
abbrev pub EndsLines : List ℕ → ℕ → ℕ → Type 0
EndsLines bytes size n = ((feeds (take n bytes) ≡ size) × (slice_index bytes (n - 1) ≡ 10))
    ⊎ ((n ≡ length bytes) × (feeds bytes < size))

-- no chunk is needed behind the first n bytes: they are all bytes, or whatever lines they are the text of, a line
-- behind these isn't the first that is refused
abbrev pub IsLastChunkEnd : Instance → Option ℕ → Bool → Opening → List Line → List ℕ → ℕ → Type 0
IsLastChunkEnd P goal counts o earlier bytes n =
    (n ≡ length bytes) ⊎ ((lines : List Line) → EachFits P goal counts lines → take n bytes ≡ lines_text P goal lines
    → IsEndedOrIdle P o (earlier ++ lines))

-- the chunk has the first `size` lines of the bytes, or all bytes where no further chunk is needed
pub record HasFirstLines (P : Instance) (goal : Option ℕ) (counts : Bool) (o : Opening) (earlier : List Line) (size : ℕ)
    (bytes : List ℕ) (chunk : Start) : Type 0 where
  pub end : ℕ
  pub lines : EndsLines bytes size end
  pub cut : (chunk.bytes ≡ take end bytes) ⊎ ((chunk.bytes ≡ bytes) × IsLastChunkEnd P goal counts o earlier bytes end)

-- the bytes end with LF
abbrev pub EndWithFeed : List ℕ → Type 0
EndWithFeed bytes = (body : List ℕ) × (bytes ≡ body ++ 10 ∷ [])

-- some lines lead to the walk of the chunk, and it is short enough for its lines to be numbered
abbrev pub IsJudgeable : Instance → Start → Type 0
IsJudgeable P s = ((o : Opening) × (earlier : List Line) × IsStateOf P o earlier s.walk)
    × (s.first + length s.bytes < 2 ^ 31)

-- behind the lines of the chunk, whatever they are, as many lines more were counted and other splits are open, and the
-- walk of the rest is the one there
pub record LeadsTo (P : Instance) (goal : Option ℕ) (counts : Bool) (start : State) (before after : List UnreadSplit)
    (chunk rest : Start) : Type 0 where
  pub passed : (done lines : List Line) → EndInside P goal counts before done → EachFits P goal counts lines
      → chunk.bytes ≡ lines_text P goal lines
      → (rest.first ≡ chunk.first + length lines) × EndInside P goal counts after (done ++ lines)
  pub walk : IsInto P goal counts start after (Some rest.walk)

-- the chunk is cut off the front of the bytes: it has `size` lines, and the rest has what is left; or it has all
-- bytes, and no further chunk is needed
abbrev pub IsCutOff : Instance → Option ℕ → Bool → ℕ → State → List UnreadSplit → List UnreadSplit → Start → Start
    → Option Start → Type 0
IsCutOff P goal counts size start before after all chunk None =
    (chunk ≡ all)
    × ((end : ℕ) × EndsLines all.bytes size end × ((o : Opening) (done : List Line) → IsStateOf P o [] start
    → EndInside P goal counts before done → IsLastChunkEnd P goal counts o done all.bytes end))
IsCutOff P goal counts size start before after all chunk (Some rest) =
    (chunk.walk ≡ all.walk) × (chunk.first ≡ all.first) × (all.bytes ≡ chunk.bytes ++ rest.bytes) × (chunk.bytes ≢ [])
    × (rest.bytes ≢ []) × EndWithFeed chunk.bytes
    × ((end : ℕ) × EndsLines all.bytes size end × (chunk.bytes ≡ take end all.bytes)) × IsJudgeable P rest
    × LeadsTo P goal counts start before after chunk rest

-- the chunks, of `size` lines each, hold the bytes behind the earlier lines, one after another. Each begins behind the
-- lines of those before it, whatever these are: where they are none, nothing is said of it
abbrev pub AreChunks : Instance → Option ℕ → Bool → Opening → ℕ → List Line → List ℕ → List Start → Type 0
AreChunks P goal counts o size earlier bytes [] = bytes ≡ []
AreChunks P goal counts o size earlier bytes (chunk ∷ chunks) =
    StandsBehind P goal counts o earlier chunk
    × HasFirstLines P goal counts o earlier size bytes chunk
    × (below : List ℕ) × (bytes ≡ chunk.bytes ++ below)
    × (((below ≡ []) × (chunks ≡ [])) ⊎ (EndWithFeed chunk.bytes
    × ((lines : List Line) → EachFits P goal counts lines → chunk.bytes ≡ lines_text P goal lines
    → AreChunks P goal counts o size (earlier ++ lines) below chunks)))

-- that is so of all lines of a text, which have this start
abbrev pub AreAllChunks : Instance → Option ℕ → Bool → ℕ → Start → List Start → Type 0
AreAllChunks P goal counts size all chunks =
    (o : Opening) → StandsBehind P goal counts o [] all → AreChunks P goal counts o size [] all.bytes chunks

-- no more chunks than the bytes need at `size` lines each, where the last chunk may have fewer
abbrev pub IsFew : ℕ → ℕ → List ℕ → Type 0
IsFew chunks size bytes = chunks * size < line_count bytes + size
