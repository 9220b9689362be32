-- The words of a line and the lines of a text, found again in their bytes; and the first line of a text that has a
-- cause.
use Rattle.std.proofs.Common.{◌≡◌, ◌≢◌, ◌⊎◌, ℕ, ◌+◌, ◌<◌, List, [], ◌∷◌, ◌++◌, length, refl, ap, sym, ◌∙◌, subst, append_assoc, arith, inl, inr, length-append, true, false}
use Rattle.std.specs.Prelude.{All}
use Rattle.std.specs.List.{join_with_byte}
use Rattle.std.proofs.lemmas.List.{append-nil}
use Rattle.std.proofs.lemmas.List.Splits.{slice_split_none, slice_split_at, join_with_byte-slice_split}
use Rattle.std.proofs.lemmas.List.Elements.{All-nil, All-cons, All-head, All-tail, All-weaker, All-append}
use Rattle.std.proofs.lemmas.Bool.{ne_eqb}
use Rattle.rwsp_text.specs.Fields.{Words, text_of, is_visible}
use Rattle.rwsp_text.specs.Kinds.{IsBlankless, AreBlankless}
use Rattle.rwsp_text.specs.Lines.{is_blank, words_of, HasNoFeed, IsNextLine, text_of_lines, AreWords, AreLines, IsRefusedBehind, AreFronts}
use Rattle.rwsp_text.proofs.Words.{seen_found}

-- the words of joined words are the words

no_blank_in : (w : List ℕ) → IsBlankless w → All (λ b. is_blank b ≡ false) w
no_blank_in w h = All-weaker (λ b. is_visible b ≡ true) (λ b. is_blank b ≡ false) (λ b t. ne_eqb b 32 (seen_found b t).0) w h

pub words_joined : (w : List ℕ) (ws : Words) → AreBlankless (w ∷ ws) → words_of (join_with_byte 32 (w ∷ ws)) ≡ w ∷ ws
words_joined w [] h = slice_split_none is_blank w (no_blank_in w h.0)
words_joined w (v ∷ ws) h =
    slice_split_at is_blank w 32 (join_with_byte 32 (v ∷ ws)) (no_blank_in w h.0) refl ∙ ap (λ us. w ∷ us) (words_joined v ws h.1)

pub words_again : (ws : Words) → AreWords ws → words_of (join_with_byte 32 ws) ≡ ws
words_again [] h = absurd (omega (arith, h.0))
words_again (w ∷ ws) h = words_joined w ws h.1

-- a line is cut at its LF

word_no_feed : (w : List ℕ) → IsBlankless w → HasNoFeed w
word_no_feed w h = All-weaker (λ b. is_visible b ≡ true) (λ b. b ≢ 10) (λ b t. (seen_found b t).3) w h

pub join_no_feed : (ws : Words) → AreBlankless ws → HasNoFeed (join_with_byte 32 ws)
join_no_feed [] h = All-nil (λ b. b ≢ 10)
join_no_feed (w ∷ []) h = word_no_feed w h.0
join_no_feed (w ∷ v ∷ ws) h =
    All-append (λ b. b ≢ 10) w (32 ∷ join_with_byte 32 (v ∷ ws)) (word_no_feed w h.0)
    (All-cons (λ b. b ≢ 10) 32 (join_with_byte 32 (v ∷ ws)) (λ e. omega (arith, e)) (join_no_feed (v ∷ ws) h.1))

pub cut : (a b r s : List ℕ) → HasNoFeed a → HasNoFeed b → (a ++ 10 ∷ []) ++ r ≡ (b ++ 10 ∷ []) ++ s → (a ≡ b) × (r ≡ s)
cut [] [] r s f g e = (refl, let t : r ≡ s = cc in t)
cut [] (y ∷ b) r s f g e = let h : 10 ≡ y = cc in absurd (All-head (λ b. b ≢ 10) y b g (sym h))
cut (x ∷ a) [] r s f g e = let h : x ≡ 10 = cc in absurd (All-head (λ b. b ≢ 10) x a f h)
cut (x ∷ a) (y ∷ b) r s f g e =
    let h : x ≡ y = cc in
    let t : (a ++ 10 ∷ []) ++ r ≡ (b ++ 10 ∷ []) ++ s = cc in
    let c = cut a b r s (All-tail (λ b. b ≢ 10) x a f) (All-tail (λ b. b ≢ 10) y b g) t in
    (ap (λ z. z ∷ a) h ∙ ap (λ w. y ∷ w) c.0, c.1)

feed_inside : (a r v : List ℕ) → HasNoFeed v → (a ++ 10 ∷ []) ++ r ≡ v → ⊥
feed_inside [] r [] f e = cc
feed_inside [] r (y ∷ v) f e = let h : 10 ≡ y = cc in All-head (λ b. b ≢ 10) y v f (sym h)
feed_inside (x ∷ a) r [] f e = cc
feed_inside (x ∷ a) r (y ∷ v) f e = let h : (a ++ 10 ∷ []) ++ r ≡ v = cc in feed_inside a r v (All-tail (λ b. b ≢ 10) y v f) h

pub next_same : (u v r q : List ℕ) → IsNextLine u r → IsNextLine v q → u ++ r ≡ v ++ q → (u ≡ v) × (r ≡ q)
next_same u v r q (inl a) (inl b) e =
    let c = cut a.0 b.0 r q a.1 b.1 (ap (λ t. t ++ r) (sym a.2) ∙ e ∙ ap (λ t. t ++ q) b.2) in
    (a.2 ∙ ap (λ t. t ++ 10 ∷ []) c.0 ∙ sym b.2, c.1)
next_same u v r q (inl a) (inr b) e =
    absurd (feed_inside a.0 r v b.1 (ap (λ t. t ++ r) (sym a.2) ∙ e ∙ ap (λ t. v ++ t) b.2 ∙ append-nil v))
next_same u v r q (inr a) (inl b) e =
    absurd (feed_inside b.0 q u a.1 (ap (λ t. t ++ q) (sym b.2) ∙ sym e ∙ ap (λ t. u ++ t) a.2 ∙ append-nil u))
next_same u v r q (inr a) (inr b) e = (sym (append-nil u) ∙ ap (λ t. u ++ t) (sym a.2) ∙ e ∙ ap (λ t. v ++ t) b.2 ∙ append-nil v, a.2 ∙ sym b.2)

pub line_some : (line rest : List ℕ) → IsNextLine line rest → 0 < length line
line_some line rest (inl a) = let e : length line ≡ length a.0 + 1 = ap (λ t. length t) a.2 ∙ length-append a.0 (10 ∷ []) in omega (arith, e)
line_some [] rest (inr a) = absurd (a.0 refl)
line_some (b ∷ line) rest (inr a) = omega arith

pub text_is_line : (ws : Words) (r : List ℕ) → AreBlankless ws → IsNextLine (text_of ws) r
text_is_line ws r h = inl (join_with_byte 32 ws, join_no_feed ws h, refl)

-- a line of text has one list of words
pub same_words : (ws vs : Words) (r q : List ℕ) → AreWords ws → AreWords vs → text_of ws ++ r ≡ text_of vs ++ q → (ws ≡ vs) × (r ≡ q)
same_words ws vs r q h k e =
    let c = cut (join_with_byte 32 ws) (join_with_byte 32 vs) r q (join_no_feed ws h.1) (join_no_feed vs k.1) e in
    (sym (words_again ws h) ∙ ap words_of c.0 ∙ words_again vs k, c.1)

-- the words of a line without its LF
pub text_words : (bytes body : List ℕ) (ws : Words) → AreWords ws → bytes ≡ body ++ 10 ∷ [] → bytes ≡ text_of ws → words_of body ≡ ws
text_words bytes body ws h e f =
    ap words_of (same_front body (join_with_byte 32 ws) (sym e ∙ f)) ∙ words_again ws h
  where
    same_front : (a b : List ℕ) → a ++ 10 ∷ [] ≡ b ++ 10 ∷ [] → a ≡ b
    same_front [] [] e = refl
    same_front [] (c ∷ []) e = absurd (cc)
    same_front [] (c ∷ d ∷ b) e = absurd (cc)
    same_front (c ∷ []) [] e = absurd (cc)
    same_front (c ∷ d ∷ a) [] e = absurd (cc)
    same_front (c ∷ a) (d ∷ b) e =
        let h : c ≡ d = cc in
        let t : a ++ 10 ∷ [] ≡ b ++ 10 ∷ [] = cc in
        ap (λ z. z ∷ a) h ∙ ap (λ z. d ∷ z) (same_front a b t)

pub words_text : (bytes body : List ℕ) (ws : Words) → bytes ≡ body ++ 10 ∷ [] → words_of body ≡ ws → bytes ≡ text_of ws
words_text bytes body ws e f = e ∙ ap (λ b. b ++ 10 ∷ []) (sym (join_with_byte-slice_split 32 body) ∙ ap (join_with_byte 32) f)

-- texts of lines

pub lines_append : (xs ys : List Words) → text_of_lines (xs ++ ys) ≡ text_of_lines xs ++ text_of_lines ys
lines_append [] ys = refl
lines_append (ws ∷ xs) ys = ap (λ t. text_of ws ++ t) (lines_append xs ys) ∙ sym (append_assoc (text_of ws) (text_of_lines xs) (text_of_lines ys))

pub are_lines_append : (xs ys : List Words) → AreLines xs → AreLines ys → AreLines (xs ++ ys)
are_lines_append [] ys h k = k
are_lines_append (x ∷ xs) ys h k = (h.0, are_lines_append xs ys h.1 k)

lines_after : (xs zs : List Words) → AreLines (xs ++ zs) → AreLines zs
lines_after [] zs h = h
lines_after (x ∷ xs) zs h = lines_after xs zs h.1

-- one text begins with the lines of another: what follows in the longer
abbrev pub Longer : List Words → List ℕ → List Words → List ℕ → Type 0
Longer xs r ys q = (zs : List Words) × (ys ≡ xs ++ zs) × (r ≡ text_of_lines zs ++ q)

-- of two beginnings of a text one continues where the other ends
pub one_is_longer : (xs ys : List Words) (r q : List ℕ) → AreLines xs → AreLines ys → text_of_lines xs ++ r ≡ text_of_lines ys ++ q → Longer xs r ys q ⊎ Longer ys q xs r
one_is_longer [] ys r q fx fy e = inl (ys, refl, e)
one_is_longer (ws ∷ xs) [] r q fx fy e = inr (ws ∷ xs, refl, sym e)
one_is_longer (ws ∷ xs) (vs ∷ ys) r q fx fy e =
    let moved : text_of ws ++ (text_of_lines xs ++ r) ≡ text_of vs ++ (text_of_lines ys ++ q) = sym (append_assoc (text_of ws) (text_of_lines xs) r) ∙ e ∙ append_assoc (text_of vs) (text_of_lines ys) q in
    let s = same_words ws vs (text_of_lines xs ++ r) (text_of_lines ys ++ q) fx.0 fy.0 moved in
    elim (one_is_longer xs ys r q fx.1 fy.1 s.1) [
      | inl a ↦ inl (a.0, (let first : ws ≡ vs = s.0 in let rest : ys ≡ xs ++ a.0 = a.1 in let whole : vs ∷ ys ≡ ws ∷ xs ++ a.0 = cc in whole), a.2)
      | inr b ↦ inr (b.0, (let first : ws ≡ vs = s.0 in let rest : xs ≡ ys ++ b.0 = b.1 in let whole : ws ∷ xs ≡ vs ∷ ys ++ b.0 = cc in whole), b.2)
    ]

text_some : (ws : Words) (r : List ℕ) → 0 < length (text_of ws ++ r)
text_some ws r = omega (arith, length-append (text_of ws) r, length-append (join_with_byte 32 ws) (10 ∷ []))

no_lines : (zs : List Words) (q : List ℕ) → [] ≡ text_of_lines zs ++ q → zs ≡ []
no_lines [] q e = refl
no_lines (ws ∷ zs) q e =
    let n : 0 ≡ length ((text_of ws ++ text_of_lines zs) ++ q) = ap (λ t. length t) e in
    absurd (omega (arith, n, text_some ws (text_of_lines zs), length-append (text_of ws ++ text_of_lines zs) q))

-- equal texts have equal lines
pub same_lines : (xs ys : List Words) → AreLines xs → AreLines ys → text_of_lines xs ≡ text_of_lines ys → xs ≡ ys
same_lines xs ys fx fy e =
    elim (one_is_longer xs ys [] [] fx fy (append-nil (text_of_lines xs) ∙ e ∙ sym (append-nil (text_of_lines ys)))) [
      | inl a ↦ (let none : a.0 ≡ [] = no_lines a.0 [] a.2 in sym (append-nil xs) ∙ ap (λ z. xs ++ z) (sym none) ∙ sym a.1)
      | inr b ↦ (let none : b.0 ≡ [] = no_lines b.0 [] b.2 in b.1 ∙ ap (λ z. ys ++ z) none ∙ append-nil ys)
    ]

-- the first line that has a cause

module _ {F R : Type 0} (lines : F → List Words) (Good : F → Type 0) (Cause : F → List ℕ → R → Type 0) (fronts : AreFronts lines Good Cause) where
  -- a line that continues where another front of the text has further lines has no cause
  not_within : (f g : F) (line rest r : List ℕ) (z : Words) (zs : List Words) (why : R) → Good f → Good g → IsNextLine line rest → lines g ≡ lines f ++ z ∷ zs → line ++ rest ≡ (text_of z ++ text_of_lines zs) ++ r → Cause f line why → ⊥
  not_within f g line rest r z zs why hf hg next e same cause =
      let words : AreLines (z ∷ zs) = lines_after (lines f) (z ∷ zs) (subst AreLines e (fronts.written g hg)) in
      let moved : line ++ rest ≡ text_of z ++ (text_of_lines zs ++ r) = same ∙ append_assoc (text_of z) (text_of_lines zs) r in
      let first = next_same line (text_of z) rest (text_of_lines zs ++ r) next (text_is_line z (text_of_lines zs ++ r) words.0.1) moved in
      fronts.fine f g z zs why hf hg e (subst (λ l. Cause f l why) first.0 cause)

  -- a text that is a good front is refused at no line
  pub whole_not_refused : (text : List ℕ) (g : F) (why : R) → Good g → text ≡ text_of_lines (lines g) → IsRefusedBehind lines Good Cause text why → ⊥
  whole_not_refused text g why hg e r =
      by (one_is_longer (lines r.front) (lines g) (r.line ++ r.rest) [] (fronts.written r.front r.good) (fronts.written g hg) (sym r.whole ∙ e ∙ sym (append-nil (text_of_lines (lines g)))))
    where
      some : 0 < length (r.line ++ r.rest)
      some = let a : 0 < length r.line = line_some r.line r.rest r.is_line in omega (arith, a, length-append r.line r.rest)

      by : Longer (lines r.front) (r.line ++ r.rest) (lines g) [] ⊎ Longer (lines g) [] (lines r.front) (r.line ++ r.rest) → ⊥
      by (inl ([], a, b)) = let none : length (r.line ++ r.rest) ≡ 0 = ap (λ t. length t) b in let s = some in omega (arith, s, none)
      by (inl (z ∷ zs, a, b)) = not_within r.front g r.line r.rest [] z zs why r.good hg r.is_line a b r.cause
      by (inr (zs, a, b)) =
          let none : 0 ≡ length (text_of_lines zs ++ (r.line ++ r.rest)) = ap (λ t. length t) b in
          let s = some in omega (arith, s, none, length-append (text_of_lines zs) (r.line ++ r.rest))

  -- two refusals where the first front is no longer than the second
  earlier_same : (text : List ℕ) (why other : R) (a : IsRefusedBehind lines Good Cause text why) (b : IsRefusedBehind lines Good Cause text other) → Longer (lines a.front) (a.line ++ a.rest) (lines b.front) (b.line ++ b.rest) → why ≡ other
  earlier_same text why other a b ([], e, r) =
      let same : a.front ≡ b.front = fronts.same a.front b.front a.good b.good (e ∙ append-nil (lines a.front)) in
      let line = next_same a.line b.line a.rest b.rest a.is_line b.is_line r in
      fronts.one a.front a.line why other a.cause (subst (λ f. Cause f a.line other) (sym same) (subst (λ l. Cause b.front l other) (sym line.0) b.cause))
  earlier_same text why other a b (z ∷ zs, e, r) =
      absurd (not_within a.front b.front a.line a.rest (b.line ++ b.rest) z zs why a.good b.good a.is_line e r a.cause)

  pub refused_same : (text : List ℕ) (why other : R) → IsRefusedBehind lines Good Cause text why → IsRefusedBehind lines Good Cause text other → why ≡ other
  refused_same text why other a b =
      elim (one_is_longer (lines a.front) (lines b.front) (a.line ++ a.rest) (b.line ++ b.rest) (fronts.written a.front a.good) (fronts.written b.front b.good) (sym a.whole ∙ b.whole)) [
        | inl l ↦ earlier_same text why other a b l
        | inr l ↦ sym (earlier_same text other why b a l)
      ]
