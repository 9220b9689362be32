-- Cutting the lines of a text into chunks.
use Rattle.std.proofs.Common.{◌≡◌, ◌≢◌, ◌⊎◌, ℕ, ◌+◌, ◌*◌, ◌<◌, ◌≤◌, List, [], ◌∷◌, ◌++◌, length, take, refl, ap, sym, ◌∙◌, append_assoc, length-append, subst, arith, Option, Some, None, inl, inr, Bool}
use Rattle.std.specs.Prelude.{All, IfSome}
use Rattle.std.proofs.lemmas.List.{append-nil, take_all}
use Rattle.std.proofs.lemmas.List.Elements.{All-nil, All-cons, All-append}
use Rattle.rwsp_terms.specs.Instance.{Instance}
use Rattle.refutation_terms.specs.declared.lines.Line.{Line}
use Rattle.refutation_terms.specs.declared.lines.Opening.{Opening}
use Rattle.refutation_terms.specs.LogText.{lines_text}
use Rattle.refutation_log.specs.Printing.{EachFits}
use Rattle.domain_store.specs.States.{State, IsStateOf}
use Rattle.refutation_checker.specs.Starts.{Start, StandsBehind}
use Rattle.refutation_checker.specs.UnreadSplits.{UnreadSplit, EndInside}
use Rattle.refutation_checker.specs.Chunks.{feeds, line_count, EndsLines, IsCutOff, AreChunks, IsJudgeable, IsFew}
use Rattle.refutation_checker.proofs.Feeds.{lines_of_both, some_line}
use Rattle.refutation_log.proofs.LogLines.{some_bytes}

-- the lines of chunks, one chunk after another
abbrev pub AreLinesOf : Instance → Option ℕ → Bool → List Start → List Line → Type 0
AreLinesOf P goal counts [] lines = lines ≡ []
AreLinesOf P goal counts (c ∷ chunks) lines =
    (front : List Line) × (rest : List Line) × (lines ≡ front ++ rest) × EachFits P goal counts front × (c.bytes ≡ lines_text P goal front) × AreLinesOf P goal counts chunks rest

lines_added : (P : Instance) (goal : Option ℕ) (counts : Bool) (chunks : List Start) (c : Start) (front more : List Line) → AreLinesOf P goal counts chunks front → EachFits P goal counts more → c.bytes ≡ lines_text P goal more → AreLinesOf P goal counts (chunks ++ c ∷ []) (front ++ more)
lines_added P goal counts [] c front more none fit text = (more, [], ap (λ ls. ls ++ more) none ∙ sym (append-nil more), fit, text, refl)
lines_added P goal counts (d ∷ chunks) c front more are fit text =
    (are.0, are.1 ++ more, ap (λ ls. ls ++ more) are.2 ∙ append_assoc are.0 are.1 more, are.3, are.4, lines_added P goal counts chunks c are.1 more are.5 fit text)

record LastLines (P : Instance) (goal : Option ℕ) (counts : Bool) (chunks : List Start) (c : Start) (lines : List Line) : Type 0 where
  pub front : List Line
  pub more : List Line
  pub both : lines ≡ front ++ more
  pub are : AreLinesOf P goal counts chunks front
  pub fit : EachFits P goal counts more
  pub text : c.bytes ≡ lines_text P goal more

last_lines : (P : Instance) (goal : Option ℕ) (counts : Bool) (chunks : List Start) (c : Start) (lines : List Line) → AreLinesOf P goal counts (chunks ++ c ∷ []) lines → LastLines P goal counts chunks c lines
last_lines P goal counts [] c lines are = record {
  front = [];
  more = are.0;
  both = are.2 ∙ ap (λ ls. are.0 ++ ls) are.5 ∙ append-nil are.0;
  are = refl;
  fit = are.3;
  text = are.4;
}
last_lines P goal counts (d ∷ chunks) c lines are =
    let last = last_lines P goal counts chunks c are.1 are.5 in
    record {
      front = are.0 ++ last.front;
      more = last.more;
      both = are.2 ∙ ap (λ ls. are.0 ++ ls) last.both ∙ sym (append_assoc are.0 last.front last.more);
      are = (are.0, last.front, refl, are.3, are.4, last.are);
      fit = last.fit;
      text = last.text;
    }

-- the chunks so far, and the splits that are open behind them, where the rest begins
pub record IsOpen (P : Instance) (goal : Option ℕ) (counts : Bool) (size : ℕ) (o : Opening) (bytes : List ℕ) (before : List UnreadSplit) (chunks : List Start) (rest : Start) : Type 0 where
  pub inside : (lines : List Line) → AreLinesOf P goal counts chunks lines → EndInside P goal counts before lines × StandsBehind P goal counts o lines rest
  pub goes_on : (more : List Start) → ((lines : List Line) → AreLinesOf P goal counts chunks lines → AreChunks P goal counts o size lines rest.bytes more) → AreChunks P goal counts o size [] bytes (chunks ++ more)

abbrev pub IsOpenOrDone : Instance → Option ℕ → Bool → ℕ → Opening → List ℕ → List UnreadSplit → List Start → Option Start → Type 0
IsOpenOrDone P goal counts size o bytes before chunks None = AreChunks P goal counts o size [] bytes chunks
IsOpenOrDone P goal counts size o bytes before chunks (Some rest) = IsOpen P goal counts size o bytes before chunks rest

abbrev pub bytes_left : Option Start → List ℕ
bytes_left None = []
bytes_left (Some rest) = rest.bytes

-- the chunks so far are few enough
abbrev pub AreFewSoFar : ℕ → List ℕ → ℕ → List ℕ → Type 0
AreFewSoFar size bytes count rest =
    ((rest ≡ []) × IsFew count size bytes) ⊎ (count * size + line_count rest ≤ line_count bytes)

pub record CutSoFar (P : Instance) (goal : Option ℕ) (counts : Bool) (size : ℕ) (all : Start) (before : List UnreadSplit) (chunks : List Start) (rest : Option Start) : Type 0 where
  pub next : IfSome rest (λ r. IsJudgeable P r × (r.bytes ≢ []))
  pub short : length chunks + length (bytes_left rest) ≤ length all.bytes
  pub count : AreFewSoFar size all.bytes (length chunks) (bytes_left rest)
  pub each : All (IsJudgeable P) chunks
  pub parts : (o : Opening) → StandsBehind P goal counts o [] all → IsOpenOrDone P goal counts size o all.bytes before chunks rest

-- a chunk begins where what it was cut off began
same_place : (P : Instance) (goal : Option ℕ) (counts : Bool) (o : Opening) (earlier : List Line) (old chunk : Start) → chunk.walk ≡ old.walk → chunk.first ≡ old.first → StandsBehind P goal counts o earlier old → StandsBehind P goal counts o earlier chunk
same_place P goal counts o earlier old chunk e f h = record { state = subst (IsStateOf P o earlier) (sym e) h.state; counted = f ∙ h.counted }

cut_last : (P : Instance) (goal : Option ℕ) (counts : Bool) (size : ℕ) (o : Opening) (bytes : List ℕ) (start : State) (before after : List UnreadSplit) (chunks : List Start) (old chunk : Start) → IsStateOf P o [] start → IsOpen P goal counts size o bytes before chunks old → IsCutOff P goal counts size start before after old chunk None → AreChunks P goal counts o size [] bytes (chunks ++ chunk ∷ [])
cut_last P goal counts size o bytes start before after chunks old chunk st opened c =
    opened.goes_on (chunk ∷ []) (λ lines are.
    let i = opened.inside lines are in
    let same : chunk.bytes ≡ old.bytes = ap (λ (s : Start). s.bytes) c.0 in (
      subst (StandsBehind P goal counts o lines) (sym c.0) i.1,
      record { end = c.1.0; lines = c.1.1; cut = inr (same, c.1.2 o lines st i.0) },
      [],
      sym same ∙ sym (append-nil chunk.bytes),
      inl (refl, refl),
    ))

cut_on : (P : Instance) (goal : Option ℕ) (counts : Bool) (size : ℕ) (o : Opening) (bytes : List ℕ) (start : State) (before after : List UnreadSplit) (chunks : List Start) (old chunk rest : Start) → IsStateOf P o [] start → IsOpen P goal counts size o bytes before chunks old → IsCutOff P goal counts size start before after old chunk (Some rest) → IsOpen P goal counts size o bytes after (chunks ++ chunk ∷ []) rest
cut_on P goal counts size o bytes start before after chunks old chunk rest st opened c = record {
  inside = λ lines are.
      let last = last_lines P goal counts chunks chunk lines are in
      let i = opened.inside last.front last.are in
      let to = c.8.passed last.front last.more i.0 last.fit last.text in
      let size_now : length (last.front ++ last.more) ≡ length last.front + length last.more = length-append last.front last.more in
      subst (λ ls. EndInside P goal counts after ls × StandsBehind P goal counts o ls rest) (sym last.both) (
        to.1,
        record { state = c.8.walk o (last.front ++ last.more) st to.1; counted = omega (arith, to.0, c.1, i.1.counted, size_now) },
      );
  goes_on = λ more f.
      subst (AreChunks P goal counts o size [] bytes) (sym (append_assoc chunks (chunk ∷ []) more))
      (opened.goes_on (chunk ∷ more) (λ lines are. (
        same_place P goal counts o lines old chunk c.0 c.1 (opened.inside lines are).1,
        record { end = c.6.0; lines = c.6.1; cut = inl c.6.2 },
        rest.bytes,
        c.2,
        inr (c.5, λ further fit text. f (lines ++ further) (lines_added P goal counts chunks chunk lines further are fit text)),
      )));
}

all_of_both : (a b bytes : List ℕ) → bytes ≡ a ++ b → a ≡ bytes → b ≢ [] → ⊥
all_of_both a b bytes e f some =
    let long : length bytes ≡ length a + length b = ap length e ∙ length-append a b in
    let same : length a ≡ length bytes = ap length f in
    let one = some_bytes b some in
    omega (arith, long, same, one)

-- a chunk that isn't the last has `size` LF
full : (size end : ℕ) (old chunk rest : List ℕ) → old ≡ chunk ++ rest → rest ≢ [] → EndsLines old size end → chunk ≡ take end old → feeds chunk ≡ size
full size end old chunk rest e some ends is =
    elim ends [
      | inl lines ↦ ap feeds is ∙ lines.0
      | inr last ↦ absurd (all_of_both chunk rest old e (is ∙ take_all end old (omega (arith, last.0))) some)
    ]

few_on : (P : Instance) (goal : Option ℕ) (counts : Bool) (size count : ℕ) (bytes : List ℕ) (start : State) (before after : List UnreadSplit) (old chunk : Start) (rest : Option Start) → AreFewSoFar size bytes count old.bytes → old.bytes ≢ [] → IsCutOff P goal counts size start before after old chunk rest → AreFewSoFar size bytes (count + 1) (bytes_left rest)
few_on P goal counts size count bytes start before after old chunk None few some c =
    elim few [
      | inl done ↦ absurd (some done.0)
      | inr le ↦ let one = some_line old.bytes some in inl (refl, omega (arith, le, one))
    ]
few_on P goal counts size count bytes start before after old chunk (Some rest) few some c =
    elim few [
      | inl done ↦ absurd (some done.0)
      | inr le ↦
          let fed = full size c.6.0 old.bytes chunk.bytes rest.bytes c.2 c.4 c.6.1 c.6.2 in
          let lines : line_count old.bytes ≡ feeds chunk.bytes + line_count rest.bytes = ap line_count c.2 ∙ lines_of_both chunk.bytes rest.bytes c.4 in
          inr (omega (arith, le, fed, lines))
    ]

short_on : (P : Instance) (goal : Option ℕ) (counts : Bool) (size count : ℕ) (bytes : List ℕ) (start : State) (before after : List UnreadSplit) (old chunk : Start) (rest : Option Start) → count + length old.bytes ≤ length bytes → old.bytes ≢ [] → IsCutOff P goal counts size start before after old chunk rest → count + 1 + length (bytes_left rest) ≤ length bytes
short_on P goal counts size count bytes start before after old chunk None le some c = let one = some_bytes old.bytes some in omega (arith, le, one)
short_on P goal counts size count bytes start before after old chunk (Some rest) le some c =
    let long : length old.bytes ≡ length chunk.bytes + length rest.bytes = ap length c.2 ∙ length-append chunk.bytes rest.bytes in
    let one = some_bytes chunk.bytes c.3 in
    omega (arith, le, long, one)

chunk_judgeable : (P : Instance) (goal : Option ℕ) (counts : Bool) (size : ℕ) (start : State) (before after : List UnreadSplit) (old chunk : Start) (rest : Option Start) → IsJudgeable P old → IsCutOff P goal counts size start before after old chunk rest → IsJudgeable P chunk
chunk_judgeable P goal counts size start before after old chunk None h c = subst (IsJudgeable P) (sym c.0) h
chunk_judgeable P goal counts size start before after old chunk (Some rest) h c =
    let long : length old.bytes ≡ length chunk.bytes + length rest.bytes = ap length c.2 ∙ length-append chunk.bytes rest.bytes in
    ((h.0.0, h.0.1, subst (IsStateOf P h.0.0 h.0.1) (sym c.0) h.0.2), omega (arith, h.1, long, c.1))

next_on : (P : Instance) (goal : Option ℕ) (counts : Bool) (size : ℕ) (start : State) (before after : List UnreadSplit) (old chunk : Start) (rest : Option Start) → IsCutOff P goal counts size start before after old chunk rest → IfSome rest (λ r. IsJudgeable P r × (r.bytes ≢ []))
next_on P goal counts size start before after old chunk None c = tt
next_on P goal counts size start before after old chunk (Some rest) c = (c.7, c.4)

part_on : (P : Instance) (goal : Option ℕ) (counts : Bool) (size : ℕ) (o : Opening) (bytes : List ℕ) (start : State) (before after : List UnreadSplit) (chunks : List Start) (old chunk : Start) (rest : Option Start) → IsStateOf P o [] start → IsOpen P goal counts size o bytes before chunks old → IsCutOff P goal counts size start before after old chunk rest → IsOpenOrDone P goal counts size o bytes after (chunks ++ chunk ∷ []) rest
part_on P goal counts size o bytes start before after chunks old chunk None st opened c = cut_last P goal counts size o bytes start before after chunks old chunk st opened c
part_on P goal counts size o bytes start before after chunks old chunk (Some rest) st opened c = cut_on P goal counts size o bytes start before after chunks old chunk rest st opened c

pub cut_more : (P : Instance) (goal : Option ℕ) (counts : Bool) (size : ℕ) (all : Start) (start : State) (before after : List UnreadSplit) (chunks more : List Start) (old chunk : Start) (rest : Option Start) → start ≡ all.walk → CutSoFar P goal counts size all before chunks (Some old) → IsCutOff P goal counts size start before after old chunk rest → more ≡ chunks ++ chunk ∷ [] → CutSoFar P goal counts size all after more rest
cut_more P goal counts size all start before after chunks more old chunk rest begun so c is =
    let count : length (chunks ++ chunk ∷ []) ≡ length chunks + 1 = length-append chunks (chunk ∷ []) in
    let short = short_on P goal counts size (length chunks) all.bytes start before after old chunk rest so.short so.next.1 c in
    let this : IsJudgeable P chunk = chunk_judgeable P goal counts size start before after old chunk rest so.next.0 c in
    subst (λ cs. CutSoFar P goal counts size all after cs rest) (sym is)
    (record {
      next = next_on P goal counts size start before after old chunk rest c;
      short = omega (arith, short, count);
      count =
          subst (λ n. AreFewSoFar size all.bytes n (bytes_left rest)) (sym count)
          (few_on P goal counts size (length chunks) all.bytes start before after old chunk rest so.count so.next.1 c);
      each = All-append (IsJudgeable P) chunks (chunk ∷ []) so.each (All-cons (IsJudgeable P) chunk [] this (All-nil (IsJudgeable P)));
      parts = λ o st. part_on P goal counts size o all.bytes start before after chunks old chunk rest (subst (IsStateOf P o []) (sym begun) st.state) (so.parts o st) c;
    })

pub cut_smaller : (P : Instance) (goal : Option ℕ) (counts : Bool) (size : ℕ) (start : State) (before after : List UnreadSplit) (left : Option Start) (old chunk : Start) (rest : Option Start) → left ≡ Some old → old.bytes ≢ [] → IsCutOff P goal counts size start before after old chunk rest → length (bytes_left rest) < length (bytes_left left)
cut_smaller P goal counts size start before after left old chunk None is some c =
    let one = some_bytes old.bytes some in
    let same : length (bytes_left left) ≡ length old.bytes = ap (λ opened. length (bytes_left opened)) is in
    omega (arith, one, same)
cut_smaller P goal counts size start before after left old chunk (Some rest) is some c =
    let long : length old.bytes ≡ length chunk.bytes + length rest.bytes = ap length c.2 ∙ length-append chunk.bytes rest.bytes in
    let one = some_bytes chunk.bytes c.3 in
    let same : length (bytes_left left) ≡ length old.bytes = ap (λ opened. length (bytes_left opened)) is in
    omega (arith, one, same, long)

-- where a chunk is still to be cut off
pub next_some : (P : Instance) (goal : Option ℕ) (counts : Bool) (size : ℕ) (all : Start) (before : List UnreadSplit) (chunks : List Start) (left : Option Start) (old : Start) → left ≡ Some old → CutSoFar P goal counts size all before chunks left → CutSoFar P goal counts size all before chunks (Some old)
next_some P goal counts size all before chunks left old is so = subst (CutSoFar P goal counts size all before chunks) is so
