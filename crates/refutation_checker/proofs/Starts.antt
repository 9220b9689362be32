-- Walks to where chunks start.
use Rattle.std.proofs.Common.{◌≡◌, ◌≢◌, ℕ, suc, ◌+◌, ◌-◌, ◌^◌, ◌<◌, ◌≤◌, List, [], ◌∷◌, ◌++◌, length, drop, take, get_or, refl, ap, sym, ◌∙◌, append_assoc, subst, arith, Option, Some, None, inl, inr, Bool, true, false}
use Rattle.std.specs.Prelude.{MatchBool}
use Rattle.std.proofs.Math.Seq.{drop-cons}
use Rattle.std.proofs.lemmas.List.{append-nil, drop_all, take_more, take-append-drop, length-take-le, length-drop}
use Rattle.rwsp_terms.specs.declared.data.Symbol.{Symbol}
use Rattle.rwsp_terms.specs.Instance.{Instance}
use Rattle.rwsp_model.specs.Validity.{KeepsLimits}
use Rattle.refutation_terms.specs.declared.lines.Line.{Line}
use Rattle.refutation_terms.specs.declared.lines.Line.TheVariants.{Split, Unfinished}
use Rattle.refutation_terms.specs.declared.lines.Opening.{Opening}
use Rattle.refutation_terms.specs.Tree.{IsTree, domains_at, is_idle}
use Rattle.refutation_terms.specs.LogText.{raw, line_text, lines_text}
use Rattle.rwsp_text.specs.Lines.{IsNextLine}
use Rattle.refutation_terms.specs.Verdict.{Spells}
use Rattle.refutation_terms.proofs.Causes.{not_unknown}
use Rattle.refutation_log.specs.Refusals.{IsLineRefused}
use Rattle.refutation_log.specs.declared.refusal.LineRefusal.{LineRefusal}
use Rattle.refutation_log.specs.declared.refusal.LineRefusal.TheVariants.{Form, Name}
use Rattle.refutation_log.proofs.LogLines.{some_bytes}
use Rattle.refutation_log.proofs.LineTexts.{is_writable}
use Rattle.refutation_log.proofs.OneText.{has_names, one_list}
use Rattle.refutation_terms.proofs.LineTables.{fitting_lines_are_spelled, spelled_lines_fit}
use Rattle.domain_store.specs.Splits.{IsFirstSide}
use Rattle.domain_store.specs.States.{State, IsStateOf}
use Rattle.domain_store.proofs.Moves.{leaf_is_tree}
use Rattle.refutation_checker.specs.Starts.{Start}
use Rattle.refutation_checker.specs.Chunks.{EndsLines, IsCutOff}
use Rattle.refutation_checker.specs.UnreadSplits.{UnreadSplit, IsLineText, EndInside, HasIdleSplit, IsEntered, IsInto, ArePassed}
use Rattle.refutation_checker.proofs.Unread.{PassedSoFar, tree_passed}

-- lines that are spelled

-- the text of a split spells it
spelled : (P : Instance) (goal : Option ℕ) (counts : Bool) (bytes : List ℕ) (p : ℕ) (x : Symbol) → KeepsLimits P → IsLineText P goal counts bytes (Split p x) → Spells P goal counts bytes (Split p x)
spelled P goal counts bytes p x limits h =
    subst (λ b. Spells P goal counts b (Split p x)) (sym h.text) (fitting_lines_are_spelled P goal counts (Split p x) (has_names P limits) h.fits)

same_text : (P : Instance) (goal : Option ℕ) (counts : Bool) (bytes : List ℕ) (line : Line) (p : ℕ) (x : Symbol) → KeepsLimits P → Spells P goal counts bytes line → IsLineText P goal counts bytes (Split p x) → line ≡ Split p x
same_text P goal counts bytes line p x limits spells g =
    let f = spelled_lines_fit P goal counts bytes line spells in
    let one : lines_text P goal (line ∷ []) ≡ lines_text P goal (Split p x ∷ []) =
    append-nil (line_text P (raw P goal line)) ∙ sym f.1 ∙ g.text ∙ sym (append-nil (line_text P (raw P goal (Split p x)))) in
    let same : line ∷ [] ≡ Split p x ∷ [] = one_list P goal counts (line ∷ []) (Split p x ∷ []) limits (f.0, tt) (g.fits, tt) one in
    cc

not_refused : (P : Instance) (goal : Option ℕ) (counts : Bool) (bytes : List ℕ) (p : ℕ) (x : Symbol) (why : LineRefusal) → KeepsLimits P → IsLineText P goal counts bytes (Split p x) → IsLineRefused P goal counts bytes why → ⊥
not_refused P goal counts bytes p x Form limits h refused = let s = spelled P goal counts bytes p x limits h in refused s.0 s.1
not_refused P goal counts bytes p x Name limits h refused = not_unknown P goal counts bytes (Split p x) (is_writable P limits) (spelled P goal counts bytes p x limits h) refused

-- entering splits

pub refused_entry : (P : Instance) (goal : Option ℕ) (counts : Bool) (u : UnreadSplit) (old new : State) (bytes : List ℕ) (why : LineRefusal) → KeepsLimits P → bytes ≡ u.line → IsLineRefused P goal counts bytes why → IsEntered P goal counts u old new false
refused_entry P goal counts u old new bytes why limits is refused o lines first p x state text side =
    absurd (not_refused P goal counts bytes p x why limits (subst (λ b. IsLineText P goal counts b (Split p x)) (sym is) text) refused)

pub no_entry : (P : Instance) (goal : Option ℕ) (counts : Bool) (u : UnreadSplit) (old new : State) (bytes : List ℕ) (line : Line) → KeepsLimits P → bytes ≡ u.line → Spells P goal counts bytes line → ((p : ℕ) (x : Symbol) → line ≡ Split p x → ⊥) → IsEntered P goal counts u old new false
no_entry P goal counts u old new bytes line limits is spells other o lines first p x state text side =
    absurd (other p x (same_text P goal counts bytes line p x limits spells (subst (λ b. IsLineText P goal counts b (Split p x)) (sym is) text)))

same_split : (p q : ℕ) (x y : Symbol) → Split p x ≡ Split q y → (p ≡ q) × (x ≡ y)
same_split p q x y e = (let f : p ≡ q = cc in f, let g : x ≡ y = cc in g)

pub entry : (P : Instance) (goal : Option ℕ) (counts : Bool) (u : UnreadSplit) (old new : State) (bytes : List ℕ) (line : Line) (q : ℕ) (y : Symbol) (in_second entered : Bool) → KeepsLimits P → bytes ≡ u.line → in_second ≡ u.in_second → Spells P goal counts bytes line → line ≡ Split q y
    → ((R : Instance) (o : Opening) (lines first : List Line) → IsStateOf R o lines old → IsFirstSide in_second first → MatchBool entered (IsStateOf R o (lines ++ Split q y ∷ first) new) (is_idle R (domains_at R o lines (length lines)) q y.number ≡ true))
    → IsEntered P goal counts u old new entered
entry P goal counts u old new bytes line q y in_second entered limits is side_is spells split goes o lines first p x state text side =
    let same : line ≡ Split p x = same_text P goal counts bytes line p x limits spells (subst (λ b. IsLineText P goal counts b (Split p x)) (sym is) text) in
    let parts = same_split q p y x (sym split ∙ same) in
    subst (λ r. MatchBool entered (IsStateOf P o (lines ++ Split r x ∷ first) new) (is_idle P (domains_at P o lines (length lines)) r x.number ≡ true)) parts.0
    (subst (λ (z : Symbol). MatchBool entered (IsStateOf P o (lines ++ Split q z ∷ first) new) (is_idle P (domains_at P o lines (length lines)) q z.number ≡ true)) parts.1
    (goes P o lines first state (subst (λ b. IsFirstSide b first) (sym side_is) side)))

pub entered_state : (b : Bool) (A B : Type 0) → b ≡ true → MatchBool b A B → A
entered_state true A B e h = h
entered_state false A B e h = absurd (cc)

pub entered_not : (b : Bool) (A B : Type 0) → b ≡ false → MatchBool b A B → B
entered_not true A B e h = absurd (cc)
entered_not false A B e h = h

-- there are lines for either kind of side
some_side : (b : Bool) → (first : List Line) × IsFirstSide b first
some_side true = (Unfinished ∷ [], leaf_is_tree Unfinished tt)
some_side false = ([], refl)

pub entered_somewhere : (P : Instance) (old new : State) (q : ℕ) (y : Symbol) (in_second entered : Bool) → (o : Opening) × (lines : List Line) × IsStateOf P o lines old
    → ((R : Instance) (o : Opening) (lines first : List Line) → IsStateOf R o lines old → IsFirstSide in_second first → MatchBool entered (IsStateOf R o (lines ++ Split q y ∷ first) new) (is_idle R (domains_at R o lines (length lines)) q y.number ≡ true))
    → entered ≡ true → (o : Opening) × (lines : List Line) × IsStateOf P o lines new
entered_somewhere P old new q y in_second entered state goes is =
    let side = some_side in_second in
    (state.0, state.1 ++ Split q y ∷ side.0, entered_state entered _ _ is (goes P state.0 state.1 side.0 state.2 side.1))

-- the first splits were entered

pub record IntoUpTo (P : Instance) (goal : Option ℕ) (counts : Bool) (o : Opening) (lines : List Line) (left : List UnreadSplit) (w : State) : Type 0 where
  pub front : List Line
  pub rest : List Line
  pub both : lines ≡ front ++ rest
  pub inside : EndInside P goal counts left rest
  pub state : IsStateOf P o front w

pub record IntoSoFar (P : Instance) (goal : Option ℕ) (counts : Bool) (start : State) (before : List UnreadSplit) (i : ℕ) (w : State) : Type 0 where
  pub state : (o : Opening) × (lines : List Line) × IsStateOf P o lines w
  pub part : w.whole ≡ false
  pub leads : (o : Opening) (lines : List Line) → IsStateOf P o [] start → EndInside P goal counts before lines → IntoUpTo P goal counts o lines (drop i before) w

left_from : (before : List UnreadSplit) (i : ℕ) (u : UnreadSplit) → i < length before → u ≡ get_or before i u → drop i before ≡ u ∷ drop (i + 1) before
left_from before i u less is =
    let next : suc i ≡ i + 1 = omega arith in
    drop-cons before i u less ∙ ap (λ v. v ∷ drop (suc i) before) (sym is) ∙ ap (λ n. u ∷ drop n before) next

pub into_more : (P : Instance) (goal : Option ℕ) (counts : Bool) (start w w' : State) (before : List UnreadSplit) (i : ℕ) (u : UnreadSplit) → i < length before → u ≡ get_or before i u → IntoSoFar P goal counts start before i w → (o : Opening) × (lines : List Line) × IsStateOf P o lines w' → w'.whole ≡ false
    → IsEntered P goal counts u w w' true → IntoSoFar P goal counts start before (i + 1) w'
into_more P goal counts start w w' before i u less is so state part enters = record {
  state = state;
  part = part;
  leads = λ o lines st h.
      let up = so.leads o lines st h in
      let inside : EndInside P goal counts (u ∷ drop (i + 1) before) up.rest = subst (λ o. EndInside P goal counts o up.rest) (left_from before i u less is) up.inside in
      record {
        front = up.front ++ Split inside.0 inside.1 ∷ inside.2;
        rest = inside.3;
        both = up.both ∙ ap (λ ls. up.front ++ ls) inside.4 ∙ sym (append_assoc up.front (Split inside.0 inside.1 ∷ inside.2) inside.3);
        inside = inside.7;
        state = enters o up.front inside.2 inside.0 inside.1 up.state inside.5 inside.6;
      };
}

pub into_idle : (P : Instance) (goal : Option ℕ) (counts : Bool) (start w w' : State) (before : List UnreadSplit) (i : ℕ) (u : UnreadSplit) → i < length before → u ≡ get_or before i u → IntoSoFar P goal counts start before i w → IsEntered P goal counts u w w' false → IsInto P goal counts start before None
into_idle P goal counts start w w' before i u less is so enters o lines st h =
    let up = so.leads o lines st h in
    let inside : EndInside P goal counts (u ∷ drop (i + 1) before) up.rest = subst (λ o. EndInside P goal counts o up.rest) (left_from before i u less is) up.inside in
    record {
      front = up.front;
      p = inside.0;
      x = inside.1;
      rest = inside.2 ++ inside.3;
      here = up.both ∙ ap (λ ls. up.front ++ ls) inside.4;
      idle = enters o up.front inside.2 inside.0 inside.1 up.state inside.5 inside.6;
    }

pub into_all : (P : Instance) (goal : Option ℕ) (counts : Bool) (start w : State) (before : List UnreadSplit) (i : ℕ) → length before ≤ i → IntoSoFar P goal counts start before i w → IsInto P goal counts start before (Some w)
into_all P goal counts start w before i all so o lines st h =
    let up = so.leads o lines st h in
    let none : up.rest ≡ [] = subst (λ o. EndInside P goal counts o up.rest) (drop_all i before all) up.inside in
    let whole : up.front ≡ lines = sym (up.both ∙ ap (λ ls. up.front ++ ls) none ∙ append-nil up.front) in
    subst (λ ls. IsStateOf P o ls w) whole up.state

-- passing lines

-- an idle split is one of all lines
idle_in_all : (P : Instance) (o : Opening) (a b : List Line) → HasIdleSplit P o a → HasIdleSplit P o (a ++ b)
idle_in_all P o a b h = record {
  front = h.front;
  p = h.p;
  x = h.x;
  rest = h.rest ++ b;
  here = ap (λ ls. ls ++ b) h.here ∙ append_assoc h.front (Split h.p h.x ∷ h.rest) b;
  idle = h.idle;
}

pub passed_tree : (P : Instance) (goal : Option ℕ) (counts : Bool) (start : State) (before splits after : List UnreadSplit) (all left bytes rest : List ℕ) (count : ℕ) → KeepsLimits P → PassedSoFar P goal counts before splits all left count → bytes ≢ [] → left ≡ bytes ++ rest → IsNextLine bytes rest
    → ((earlier : List Line) (l : Line) → EndInside P goal counts splits earlier → IsLineText P goal counts bytes l → IsTree (earlier ++ l ∷ [])) → ArePassed P goal counts start before after all None
passed_tree P goal counts start before splits after all left bytes rest count limits so some e next ends o done lines st h fit text =
    inl (tree_passed P goal counts before splits all left bytes rest count limits so some e next ends done lines h fit text)

pub passed_idle : (P : Instance) (goal : Option ℕ) (counts : Bool) (start : State) (before splits after : List UnreadSplit) (all left : List ℕ) (count : ℕ) → PassedSoFar P goal counts before splits all left count → IsInto P goal counts start splits None → ArePassed P goal counts start before after all None
passed_idle P goal counts start before splits after all left count so idle o done lines st h fit text =
    let up = so.each done lines h fit text in
    let here = idle_in_all P o (done ++ up.done) up.rest (idle o (done ++ up.done) st up.inside) in
    inr (subst (HasIdleSplit P o) (append_assoc done up.done up.rest ∙ ap (λ ls. done ++ ls) (sym up.both)) here)

-- a chunk was cut off at an end of lines
pub cut_here : (P : Instance) (goal : Option ℕ) (counts : Bool) (size : ℕ) (start : State) (before after : List UnreadSplit) (all : Start) (w walk : State) (bytes front back : List ℕ) (first end count : ℕ) → record { walk = w; bytes = bytes; first = first } ≡ all
    → front ≡ take end bytes → back ≡ drop end bytes → end ≢ length bytes → end ≤ length bytes → (0 < length bytes → 0 < end) → EndsLines bytes size end → all.bytes ≢ [] → all.first + length all.bytes < 2 ^ 31 → count ≤ length (take end bytes)
    → (o : Opening) × (lines : List Line) × IsStateOf P o lines walk → ArePassed P goal counts start before after (take end bytes) (Some count) → IsInto P goal counts start after (Some walk)
    → IsCutOff P goal counts size start before after all (record { walk = w; bytes = front; first = first }) (Some (record { walk = walk; bytes = back; first = first + count }))
cut_here P goal counts size start before after all w walk bytes front back first end count view is_front is_back other within some ends more few counted state passed into =
    let same : bytes ≡ all.bytes = ap (λ (s : Start). s.bytes) view in
    let begin : first ≡ all.first = ap (λ (s : Start). s.first) view in
    let one = some_bytes bytes (λ none. more (sym same ∙ none)) in
    let least = some one in
    let front_long : length front ≡ end = ap length is_front ∙ length-take-le end bytes within in
    let count_long : length (take end bytes) ≡ end = length-take-le end bytes within in
    let back_long : length back ≡ length bytes - end = ap length is_back ∙ length-drop end bytes in
    let all_long : length bytes ≡ length all.bytes = ap length same in (
      ap (λ (s : Start). s.walk) view,
      begin,
      sym same ∙ sym (take-append-drop end bytes) ∙ ap (λ t. t ++ drop end bytes) (sym is_front) ∙ ap (λ t. front ++ t) (sym is_back),
      λ none. (let zero_long : length front ≡ 0 = ap length none in omega (arith, zero_long, front_long, least)),
      λ none. (let zero_long : length back ≡ 0 = ap length none in omega (arith, zero_long, back_long, within, other)),
      elim ends [
        | inl lines ↦
            let less : end - 1 < length bytes = omega (arith, least, within) in
            let next : end ≡ end - 1 + 1 = omega (arith, least) in
            (take (end - 1) bytes, is_front ∙ ap (λ n. take n bytes) next ∙ take_more bytes (end - 1) 0 less ∙ ap (λ b. take (end - 1) bytes ++ b ∷ []) lines.1)
        | inr last ↦ absurd (other last.0)
      ],
      (end, subst (λ b. EndsLines b size end) same ends, is_front ∙ ap (take end) same),
      (state, omega (arith, few, counted, count_long, back_long, all_long, within, begin)),
      record {
        passed = λ done lines h fit text. (let p = passed done lines h fit (sym is_front ∙ text) in (ap (λ n. first + n) p.0, p.1));
        walk = into;
      },
    )
