-- The answers of chunks, put together.
use Rattle.std.proofs.Common.{◌≡◌, ◌≢◌, ◌⊎◌, ℕ, suc, ◌<◌, List, [], ◌∷◌, ◌++◌, length, get_or, ap, sym, ◌∙◌, append_assoc, subst, arith, Option, inl, inr, Bool, IsTrue}
use Rattle.std.specs.Prelude.{Result, Ok, Err, ◌↔◌}
use Rattle.std.proofs.lemmas.List.{append-nil}
use Rattle.rwsp_terms.specs.Instance.{Instance}
use Rattle.rwsp_model.specs.declared.fail.Fail.{Fail}
use Rattle.rwsp_model.specs.declared.fail.Fail.TheVariants.{Refused, Memory}
use Rattle.refutation_terms.specs.LogText.{lines_text}
use Rattle.refutation_terms.specs.declared.lines.Line.{Line}
use Rattle.refutation_terms.specs.declared.lines.Opening.{Opening}
use Rattle.refutation_terms.specs.declared.lines.LogRefusal.{LogRefusal}
use Rattle.refutation_terms.specs.Tree.{IsTree}
use Rattle.rwsp_text.specs.Lines.{IsNextLine}
use Rattle.refutation_terms.specs.Verdict.{CauseBehind}
use Rattle.refutation_log.specs.Printing.{EachFits}
use Rattle.refutation_checker.specs.LineTexts.{Judging, log_of}
use Rattle.refutation_checker.specs.Starts.{Start}
use Rattle.refutation_checker.specs.Chunks.{AreChunks, EndWithFeed}
use Rattle.refutation_checker.proofs.LastFeed.{no_feed_at_end}
use Rattle.refutation_checker.specs.ChunkVerdicts.{AreSoundBehind, AreAllSound, IsChunkRefused, IsJudged, IsAnswerTo, joined_from}
use Rattle.refutation_checker.proofs.SoundLines.{lines_joined, sound_joined}

abbrev pub Answer : Type 0
Answer = Result Bool (Fail LogRefusal)

abbrev pub AreAnswersTo : Judging → List Start → List Answer → Type 0
AreAnswersTo J [] [] = Unit {0}
AreAnswersTo J [] (a ∷ answers) = ⊥
AreAnswersTo J (c ∷ chunks) [] = ⊥
AreAnswersTo J (c ∷ chunks) (a ∷ answers) = IsAnswerTo J c a × AreAnswersTo J chunks answers

pub answers_to : (J : Judging) (chunks : List Start) (answers : List Answer) (s : Start) (d : Answer) → length answers ≡ length chunks → ((i : ℕ) → i < length chunks → IsAnswerTo J (get_or chunks i s) (get_or answers i d)) → AreAnswersTo J chunks answers
answers_to J [] [] s d e h = tt
answers_to J [] (a ∷ answers) s d e h = absurd (omega (arith, e))
answers_to J (c ∷ chunks) [] s d e h = absurd (omega (arith, e))
answers_to J (c ∷ chunks) (a ∷ answers) s d e h = (h 0 (omega arith), answers_to J chunks answers s d (omega (arith, e)) (λ i less. h (suc i) (omega (arith, less))))

-- lines that are sound fit
fit_from_sound : (J : Judging) (o : Opening) (earlier lines : List Line) → AreSoundBehind J o earlier lines → EachFits J.problem J.goal J.counts lines
fit_from_sound J o earlier [] h = tt
fit_from_sound J o earlier (l ∷ lines) h = (h.0.fits, fit_from_sound J o (earlier ++ l ∷ []) lines h.1)

-- what follows a chunk: nothing, or chunks behind its lines, whatever they are
abbrev pub IsFollowed : Judging → Opening → ℕ → List Line → Start → List ℕ → List Start → Type 0
IsFollowed J o size earlier c below chunks =
    ((below ≡ []) × (chunks ≡ [])) ⊎ (EndWithFeed c.bytes × ((lines : List Line) → EachFits J.problem J.goal J.counts lines → c.bytes ≡ lines_text J.problem J.goal lines → AreChunks J.problem J.goal J.counts o size (earlier ++ lines) below chunks))

-- a line of a chunk is one of the whole text
next_in_all : (J : Judging) (o : Opening) (size : ℕ) (earlier : List Line) (c : Start) (below : List ℕ) (chunks : List Start) (front line rest : List ℕ) → IsFollowed J o size earlier c below chunks → c.bytes ≡ front ++ line ++ rest → IsNextLine line rest → IsNextLine line (rest ++ below)
next_in_all J o size earlier c below chunks front line rest followed e next =
    elim next [
      | inl fed ↦ inl fed
      | inr last ↦ elim followed [
        | inl none ↦ inr (last.0, last.1, ap (λ r. r ++ below) last.2 ∙ none.0)
        | inr goes ↦
            let here : c.bytes ≡ front ++ line = e ∙ ap (λ r. (front ++ line) ++ r) last.2 ∙ append-nil (front ++ line) in
            absurd (no_feed_at_end front line goes.0.0 last.0 last.1 (sym here ∙ goes.0.1))
      ]
    ]

refused_in_front : (J : Judging) (o : Opening) (size : ℕ) (earlier : List Line) (c : Start) (below bytes : List ℕ) (chunks : List Start) (why : LogRefusal) → IsFollowed J o size earlier c below chunks → bytes ≡ c.bytes ++ below → IsChunkRefused J o earlier c.bytes why → IsChunkRefused J o earlier bytes why
refused_in_front J o size earlier c below bytes chunks why followed e r = record {
  lines = r.lines;
  line = r.line;
  rest = r.rest ++ below;
  sound = r.sound;
  text = e ∙ ap (λ t. t ++ below) r.text ∙ append_assoc (lines_text J.problem J.goal r.lines ++ r.line) r.rest below;
  is_line = next_in_all J o size earlier c below chunks (lines_text J.problem J.goal r.lines) r.line r.rest followed r.text r.is_line;
  cause = r.cause;
}

-- sound lines in front of what was judged
text_through : (P : Instance) (goal : Option ℕ) (front more : List Line) (bytes here below left : List ℕ) → bytes ≡ here ++ below → here ≡ lines_text P goal front → below ≡ lines_text P goal more ++ left → bytes ≡ lines_text P goal (front ++ more) ++ left
text_through P goal front more bytes here below left e f g =
    e ∙ ap (λ t. t ++ below) f ∙ ap (λ t. lines_text P goal front ++ t) g ∙ sym (append_assoc (lines_text P goal front) (lines_text P goal more) left) ∙ ap (λ t. t ++ left) (sym (lines_joined P goal front more))

judged_through : (J : Judging) (o : Opening) (earlier front : List Line) (bytes here below : List ℕ) (a : Answer) → AreSoundBehind J o earlier front → here ≡ lines_text J.problem J.goal front → bytes ≡ here ++ below → IsJudged J o (earlier ++ front) below a → IsJudged J o earlier bytes a
judged_through J o earlier front bytes here below (Ok whole) sound f e k = record {
  lines = front ++ k.lines;
  sound = sound_joined J o earlier front k.lines sound k.sound;
  text = e ∙ ap (λ t. t ++ below) f ∙ ap (λ t. lines_text J.problem J.goal front ++ t) k.text ∙ sym (lines_joined J.problem J.goal front k.lines);
  tree = subst (λ ls. IsTrue whole ↔ IsTree ls) (append_assoc earlier front k.lines) k.tree;
}
judged_through J o earlier front bytes here below (Err Memory) sound f e k = tt
judged_through J o earlier front bytes here below (Err (Refused why)) sound f e k = record {
  lines = front ++ k.lines;
  line = k.line;
  rest = k.rest;
  sound = sound_joined J o earlier front k.lines sound k.sound;
  text =
      text_through J.problem J.goal front k.lines bytes here below (k.line ++ k.rest) e f (k.text ∙ append_assoc (lines_text J.problem J.goal k.lines) k.line k.rest)
      ∙ sym (append_assoc (lines_text J.problem J.goal (front ++ k.lines)) k.line k.rest);
  is_line = k.is_line;
  cause = subst (λ ls. CauseBehind J.problem (log_of J o ls) k.line why) (append_assoc earlier front k.lines) k.cause;
}

nothing_below : (J : Judging) (o : Opening) (size : ℕ) (earlier : List Line) (c : Start) (below : List ℕ) (whole : Bool) → IsFollowed J o size earlier c below [] → AreAllSound J o earlier c.bytes whole → below ≡ []
nothing_below J o size earlier c below whole followed all =
    elim followed [ inl none ↦ none.0 | inr goes ↦ goes.1 all.lines (fit_from_sound J o earlier all.lines all.sound) all.text ]

-- the next chunk begins behind the lines that were judged
goes_below : (J : Judging) (o : Opening) (size : ℕ) (earlier : List Line) (c d : Start) (below : List ℕ) (chunks : List Start) (whole : Bool) → IsFollowed J o size earlier c below (d ∷ chunks) → (all : AreAllSound J o earlier c.bytes whole) → AreChunks J.problem J.goal J.counts o size (earlier ++ all.lines) below (d ∷ chunks)
goes_below J o size earlier c d below chunks whole followed all =
    elim followed [
      | inl none ↦ absurd (let no : d ∷ chunks ≡ [] = none.1 in cc)
      | inr goes ↦ goes.1 all.lines (fit_from_sound J o earlier all.lines all.sound) all.text
    ]

joined_behind : (J : Judging) (o : Opening) (size : ℕ) (c : Start) (cs : List Start) (answers : List Answer) (earlier : List Line) (bytes : List ℕ) (before : Bool) → AreAnswersTo J (c ∷ cs) answers → AreChunks J.problem J.goal J.counts o size earlier bytes (c ∷ cs) → IsJudged J o earlier bytes (joined_from before answers)
joined_behind J o size c cs [] earlier bytes before are chunks = absurd are
joined_behind J o size c cs (Err Memory ∷ answers) earlier bytes before are chunks = tt
joined_behind J o size c cs (Err (Refused why) ∷ answers) earlier bytes before are chunks =
    refused_in_front J o size earlier c chunks.2 bytes cs why chunks.4 chunks.3 (are.0 o earlier chunks.0)
joined_behind J o size c [] (Ok whole ∷ a ∷ answers) earlier bytes before are chunks = absurd are.1
joined_behind J o size c [] (Ok whole ∷ []) earlier bytes before are chunks =
    let all : AreAllSound J o earlier c.bytes whole = are.0 o earlier chunks.0 in
    let same : bytes ≡ c.bytes = chunks.3 ∙ ap (λ t. c.bytes ++ t) (nothing_below J o size earlier c chunks.2 whole chunks.4 all) ∙ append-nil c.bytes in
    subst (λ t. AreAllSound J o earlier t whole) (sym same) all
joined_behind J o size c (d ∷ cs) (Ok whole ∷ answers) earlier bytes before are chunks =
    let all : AreAllSound J o earlier c.bytes whole = are.0 o earlier chunks.0 in
    let below : AreChunks J.problem J.goal J.counts o size (earlier ++ all.lines) chunks.2 (d ∷ cs) = goes_below J o size earlier c d chunks.2 cs whole chunks.4 all in
    judged_through J o earlier all.lines bytes c.bytes chunks.2 (joined_from whole answers) all.sound all.text chunks.3
    (joined_behind J o size d cs answers (earlier ++ all.lines) chunks.2 whole are.1 below)

pub joined : (J : Judging) (o : Opening) (size : ℕ) (chunks : List Start) (answers : List Answer) (earlier : List Line) (bytes : List ℕ) (before : Bool) → AreAnswersTo J chunks answers → AreChunks J.problem J.goal J.counts o size earlier bytes chunks → bytes ≢ [] → IsJudged J o earlier bytes (joined_from before answers)
joined J o size [] answers earlier bytes before are chunks some = absurd (some chunks)
joined J o size (c ∷ cs) answers earlier bytes before are chunks some = joined_behind J o size c cs answers earlier bytes before are chunks
