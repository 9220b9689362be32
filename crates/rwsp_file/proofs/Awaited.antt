-- What is awaited of a text, place by place: how it is read, and which fields it spells.
use Rattle.std.proofs.Common.{◌≡◌, ℕ, zero, suc, ◌+◌, ◌≤◌, List, [], ◌∷◌, ◌++◌, length, Result, Ok, refl, ap, sym, ◌∙◌, subst, append_assoc, append-nil}
use Rattle.std.specs.List.{flat_map}
use Rattle.rwsp_text.specs.Lexemes.{Lexeme}
use Rattle.rwsp_terms.specs.Instance.{Instance}
use Rattle.rwsp_terms.specs.declared.data.ShiftRow.{ShiftRow}
use Rattle.rwsp_file.specs.Spelling.{FileField, Spell}
use Rattle.rwsp_file.specs.Spelling.FileField.{ShiftField}
use Rattle.rwsp_file.specs.Reading.{Unread, ◌>>=◌, shift_at, many, nothing_of}
use Rattle.rwsp_file.specs.declared.misfit.Misfit.{Misfit}
use Rattle.rwsp_file.proofs.Readers.{AllAfter, one_word, bind_ok, bind_assoc, bind_same, then_ok, ok_same, given}
use Rattle.rwsp_file.proofs.ManySteps.{many_suc, many_zero}
use Rattle.rwsp_file.proofs.RowReader.{IsGoodRow, row_found, row_only}
use Rattle.rwsp_file.proofs.Forms.{WordForm, word_found, word_only, IsGoodWord}

-- what is awaited from a place of a text on: its end, or a word that gives a value, or the row of a shift, and then
-- what the value or the shift makes of the rest
pub data Awaited : Type 1 where
  End : (P : Instance) → Awaited
  Word : (form : WordForm) → (next : form.X → Awaited) → Awaited
  Row : (earlier : List ShiftRow) → (next : ShiftRow → Awaited) → Awaited

-- the instance that the rest of a text spells, or the first failure in it
unfoldable pub read_on : Awaited → Unread → Result Instance Misfit
read_on (End P) u = nothing_of u.lexemes >>= (λ _. Ok P)
read_on (Word form next) u = one_word form.awaited form.give u >>= (λ p. read_on (next p.0) p.1)
read_on (Row earlier next) u = shift_at earlier u >>= (λ p. read_on (next p.0) p.1)

-- the fields that may be awaited, with which the text is that of the instance
abbrev pub Makes : Awaited → List FileField → Instance → Type 0
Makes (End Q) fs P = (fs ≡ []) × (P ≡ Q)
Makes (Word form next) fs P = (x : form.X) × (gs : List FileField) × form.V x × (fs ≡ form.field x ∷ gs) × Makes (next x) gs P
Makes (Row earlier next) fs P = (row : ShiftRow) × (gs : List FileField) × IsGoodRow earlier row × (fs ≡ ShiftField row ∷ gs) × Makes (next row) gs P

-- each word that is awaited can be written, and what it goes by is so of the instance; at most 7 shifts come before one
abbrev pub IsSound : Awaited → Type 0
IsSound (End P) = Unit {0}
IsSound (Word form next) =
    IsGoodWord form.give
    × ((P : Instance) (fs : List FileField) → Makes (Word form next) fs P → form.Here P)
    × ((w : Lexeme) (x : form.X) → form.give w ≡ Ok x → IsSound (next x))
IsSound (Row earlier next) =
    (length earlier ≤ 7)
    × ((P : Instance) (fs : List FileField) → Makes (Row earlier next) fs P → (rest : List ShiftRow) × (P.shifts ≡ earlier ++ rest))
    × ((row : ShiftRow) → IsSound (next row))

-- what is read is spelled, and nothing else

nothing_left : (ls : List Lexeme) (t : Unit {0}) → nothing_of ls ≡ Ok t → Spell [] ls
nothing_left [] t e = tt
nothing_left (w ∷ ws) t e = absurd (cc)

nothing_more : (ls : List Lexeme) → Spell [] ls → nothing_of ls ≡ Ok tt
nothing_more [] s = refl
nothing_more (w ∷ ws) s = absurd s

pub read_makes : (p : Awaited) (u : Unread) (P : Instance) → read_on p u ≡ Ok P → (fs : List FileField) × Makes p fs P × Spell fs u.lexemes
unfolding read_on
read_makes (End Q) u P e =
    let a : (t : Unit {0}) × (nothing_of u.lexemes ≡ Ok t) × (Ok Q ≡ Ok P) = bind_ok (nothing_of u.lexemes) (λ _. Ok Q) P e in
    ([], (refl, sym (ok_same Q P a.2)), nothing_left u.lexemes a.0 a.1)
read_makes (Word form next) u P e =
    let a : (x : form.X × Unread) × (one_word form.awaited form.give u ≡ Ok x) × (read_on (next x.0) x.1 ≡ Ok P) = bind_ok (one_word form.awaited form.give u) (λ p. read_on (next p.0) p.1) P e in
    let f : form.V a.0.0 × ((fs : List FileField) → Spell fs a.0.1.lexemes → Spell (form.field a.0.0 ∷ fs) u.lexemes) = word_found form u a.0.1 a.0.0 a.1 in
    let more : (fs : List FileField) × Makes (next a.0.0) fs P × Spell fs a.0.1.lexemes = read_makes (next a.0.0) a.0.1 P a.2 in
    (form.field a.0.0 ∷ more.0, (a.0.0, more.0, f.0, refl, more.1), f.1 more.0 more.2)
read_makes (Row earlier next) u P e =
    let a : (x : ShiftRow × Unread) × (shift_at earlier u ≡ Ok x) × (read_on (next x.0) x.1 ≡ Ok P) = bind_ok (shift_at earlier u) (λ p. read_on (next p.0) p.1) P e in
    let f : IsGoodRow earlier a.0.0 × ((fs : List FileField) → Spell fs a.0.1.lexemes → Spell (ShiftField a.0.0 ∷ fs) u.lexemes) = row_found earlier u a.0.1 a.0.0 a.1 in
    let more : (fs : List FileField) × Makes (next a.0.0) fs P × Spell fs a.0.1.lexemes = read_makes (next a.0.0) a.0.1 P a.2 in
    (ShiftField a.0.0 ∷ more.0, (a.0.0, more.0, f.0, refl, more.1), f.1 more.0 more.2)

pub makes_read : (p : Awaited) (u : Unread) (fs : List FileField) (P : Instance) → Makes p fs P → Spell fs u.lexemes → read_on p u ≡ Ok P
unfolding read_on
makes_read (End Q) u fs P m s =
    then_ok (nothing_of u.lexemes) (λ _. Ok Q) tt P (nothing_more u.lexemes (subst (λ (gs : List FileField). Spell gs u.lexemes) m.0 s)) (ap given (sym m.1))
makes_read (Word form next) u fs P (x, gs, valid, e, m) s =
    let a : (v : Unread) × (one_word form.awaited form.give u ≡ Ok (x, v)) × Spell gs v.lexemes = word_only form u x gs u.lexemes refl valid (subst (λ (zs : List FileField). Spell zs u.lexemes) e s) in
    then_ok (one_word form.awaited form.give u) (λ p. read_on (next p.0) p.1) (x, a.0) P a.1 (makes_read (next x) a.0 gs P m a.2)
makes_read (Row earlier next) u fs P (row, gs, good, e, m) s =
    let a : (v : Unread) × (shift_at earlier u ≡ Ok (row, v)) × Spell gs v.lexemes = row_only earlier u row gs good (subst (λ (zs : List FileField). Spell zs u.lexemes) e s) in
    then_ok (shift_at earlier u) (λ p. read_on (next p.0) p.1) (row, a.0) P a.1 (makes_read (next row) a.0 gs P m a.2)

-- a part of a text, which gives what has V by the fields F: a reader goes on as the part, and these fields are awaited
-- in front of those of the rest
pub record IsPart {X : Type 0} (V : X → Type 0) (F : X → List FileField) (read : Unread → Result (X × Unread) Misfit) (part : (X → Awaited) → Awaited) : Type 1 where
  pub goes : (next : X → Awaited) (u : Unread) → read_on (part next) u ≡ (read u >>= (λ p. read_on (next p.0) p.1))
  pub found : (next : X → Awaited) (fs : List FileField) (P : Instance) → Makes (part next) fs P → (x : X) × (gs : List FileField) × V x × (fs ≡ F x ++ gs) × Makes (next x) gs P
  pub only : (next : X → Awaited) (x : X) (gs : List FileField) (P : Instance) → V x → Makes (next x) gs P → Makes (part next) (F x ++ gs) P

pub word_part : (form : WordForm) → IsPart form.V (λ x. form.field x ∷ []) (one_word form.awaited form.give) (Word form)
unfolding read_on
word_part form = record {
  goes = λ next u. refl;
  found = λ next fs P m. m;
  only = λ next x gs P valid m. (x, gs, valid, refl, m);
}

pub row_part : (earlier : List ShiftRow) → IsPart (IsGoodRow earlier) (λ row. ShiftField row ∷ []) (shift_at earlier) (Row earlier)
unfolding read_on
row_part earlier = record {
  goes = λ next u. refl;
  found = λ next fs P m. m;
  only = λ next row gs P good m. (row, gs, good, refl, m);
}

-- nothing more is read
pub no_part : {X : Type 0} (x : X) → IsPart (λ y. y ≡ x) (λ y. []) (λ u. Ok (x, u)) (λ next. next x)
no_part x = record {
  goes = λ next u. refl;
  found = λ next fs P m. (x, fs, refl, refl, m);
  only = λ next y gs P e m. subst (λ z. Makes (next z) gs P) e m;
}

-- in other words
pub part_like : {X : Type 0} {V W : X → Type 0} {F G : X → List FileField} {read : Unread → Result (X × Unread) Misfit} {part : (X → Awaited) → Awaited} →
    ((x : X) → V x → W x) → ((x : X) → W x → V x) → ((x : X) → F x ≡ G x) → IsPart V F read part → IsPart W G read part
part_like {part = part} to from same r = record {
  goes = r.goes;
  found = λ next fs P m. let f = r.found next fs P m in (f.0, f.1, to f.0 f.2, f.3 ∙ ap (λ (zs : List FileField). zs ++ f.1) (same f.0), f.4);
  only = λ next x gs P w m. subst (λ (zs : List FileField). Makes (part next) (zs ++ gs) P) (same x) (r.only next x gs P (from x w) m);
}

-- one part, of which the whole has what it gives, and then another
module _ {X Y : Type 0} {V : X → Type 0} {F : X → List FileField} {read : Unread → Result (X × Unread) Misfit} {part : (X → Awaited) → Awaited} {W : X → Y → Type 0} {G : X → Y → List FileField}
    {rest : X → Unread → Result (Y × Unread) Misfit} {more : X → (Y → Awaited) → Awaited} (get : Y → X) (one : IsPart V F read part) where
  pub then_part : ((x : X) → IsPart (W x) (G x) (rest x) (more x)) → ((x : X) (y : Y) → W x y → get y ≡ x) →
      IsPart (λ y. V (get y) × W (get y) y) (λ y. F (get y) ++ G (get y) y) (λ u. read u >>= (λ p. rest p.0 p.1)) (λ next. part (λ x. more x next))
  then_part two same = record {
    goes = λ next u.
        one.goes (λ x. more x next) u
        ∙ bind_same (read u) (λ p. read_on (more p.0 next) p.1) (λ p. rest p.0 p.1 >>= (λ q. read_on (next q.0) q.1)) (λ p. (two p.0).goes next p.1)
        ∙ sym (bind_assoc (read u) (λ p. rest p.0 p.1) (λ q. read_on (next q.0) q.1));
    found = λ next fs P m.
        let a = one.found (λ x. more x next) fs P m in
        let b = (two a.0).found next a.1 P a.4 in
        let here : get b.0 ≡ a.0 = same a.0 b.0 b.2 in (
          b.0,
          b.1,
          subst (λ x. V x × W x b.0) (sym here) (a.2, b.2),
          a.3 ∙ ap (λ (zs : List FileField). F a.0 ++ zs) b.3 ∙ sym (append_assoc (F a.0) (G a.0 b.0) b.1) ∙ ap (λ x. (F x ++ G x b.0) ++ b.1) (sym here),
          b.4,
        );
    only = λ next y gs P valid m.
        subst (λ (zs : List FileField). Makes (part (λ x. more x next)) zs P) (sym (append_assoc (F (get y)) (G (get y) y) gs))
        (one.only (λ x. more x next) (get y) (G (get y) y ++ gs) P valid.0 ((two (get y)).only next y gs P valid.1 m));
  }

-- n parts, one behind another
unfoldable pub many_part : {X : Type 0} → (List X → (X → Awaited) → Awaited) → ℕ → List X → (List X → Awaited) → Awaited
many_part part zero earlier next = next earlier
many_part part (suc n) earlier next = part earlier (λ x. many_part part n (earlier ++ x ∷ []) next)

-- parts of one kind, by their numbers from 1 on
abbrev pub each_part : {X : Type 0} → (ℕ → (X → Awaited) → Awaited) → List X → (X → Awaited) → Awaited
each_part part earlier = part (length earlier + 1)

module _ {X : Type 0} {V : List X → X → Type 0} {F : X → List FileField} {read : List X → Unread → Result (X × Unread) Misfit} {part : List X → (X → Awaited) → Awaited} (one : (earlier : List X) → IsPart (V earlier) F (read earlier) (part earlier)) where
  many_goes : (n : ℕ) (earlier : List X) (next : List X → Awaited) (u : Unread) → read_on (many_part part n earlier next) u ≡ (many read n earlier u >>= (λ p. read_on (next p.0) p.1))
  unfolding many_part
  many_goes zero earlier next u = ap (λ r. r >>= (λ p. read_on (next p.0) p.1)) (sym (many_zero read earlier u))
  many_goes (suc n) earlier next u =
      (one earlier).goes (λ x. many_part part n (earlier ++ x ∷ []) next) u
      ∙ bind_same (read earlier u) (λ p. read_on (many_part part n (earlier ++ p.0 ∷ []) next) p.1) (λ p. many read n (earlier ++ p.0 ∷ []) p.1 >>= (λ q. read_on (next q.0) q.1)) (λ p. many_goes n (earlier ++ p.0 ∷ []) next p.1)
      ∙ sym (bind_assoc (read earlier u) (λ p. many read n (earlier ++ p.0 ∷ []) p.1) (λ q. read_on (next q.0) q.1))
      ∙ ap (λ r. r >>= (λ p. read_on (next p.0) p.1)) (sym (many_suc read n earlier u))

  pub many_found : (n : ℕ) (earlier : List X) (next : List X → Awaited) (fs : List FileField) (P : Instance) → Makes (many_part part n earlier next) fs P →
      (xs : List X) × (gs : List FileField) × (length xs ≡ n) × AllAfter V earlier xs × (fs ≡ flat_map F xs ++ gs) × Makes (next (earlier ++ xs)) gs P
  unfolding many_part
  many_found zero earlier next fs P m = ([], fs, refl, tt, refl, subst (λ (ys : List X). Makes (next ys) fs P) (sym (append-nil earlier)) m)
  many_found (suc n) earlier next fs P m =
      let a = (one earlier).found (λ x. many_part part n (earlier ++ x ∷ []) next) fs P m in
      let b : (xs : List X) × (gs : List FileField) × (length xs ≡ n) × AllAfter V (earlier ++ a.0 ∷ []) xs × (a.1 ≡ flat_map F xs ++ gs) × Makes (next ((earlier ++ a.0 ∷ []) ++ xs)) gs P = many_found n (earlier ++ a.0 ∷ []) next a.1 P a.4 in (
        a.0 ∷ b.0,
        b.1,
        ap suc b.2,
        (a.2, b.3),
        a.3 ∙ ap (λ (zs : List FileField). F a.0 ++ zs) b.4 ∙ sym (append_assoc (F a.0) (flat_map F b.0) b.1),
        subst (λ (ys : List X). Makes (next ys) b.1 P) (append_assoc earlier (a.0 ∷ []) b.0) b.5,
      )

  many_only : (xs earlier : List X) (next : List X → Awaited) (gs : List FileField) (P : Instance) → AllAfter V earlier xs → Makes (next (earlier ++ xs)) gs P → Makes (many_part part (length xs) earlier next) (flat_map F xs ++ gs) P
  unfolding many_part
  many_only [] earlier next gs P valid m = subst (λ (ys : List X). Makes (next ys) gs P) (append-nil earlier) m
  many_only (x ∷ xs) earlier next gs P valid m =
      subst (λ (zs : List FileField). Makes (part earlier (λ y. many_part part (length xs) (earlier ++ y ∷ []) next)) zs P) (sym (append_assoc (F x) (flat_map F xs) gs))
      ((one earlier).only (λ y. many_part part (length xs) (earlier ++ y ∷ []) next) x (flat_map F xs ++ gs) P valid.0
      (many_only xs (earlier ++ x ∷ []) next gs P valid.1 (subst (λ (ys : List X). Makes (next ys) gs P) (sym (append_assoc earlier (x ∷ []) xs)) m)))

  -- as many as are wanted
  pub many_is : (n : ℕ) → IsPart (λ xs. (length xs ≡ n) × AllAfter V [] xs) (flat_map F) (many read n []) (many_part part n [])
  many_is n = record {
    goes = many_goes n [];
    found = λ next fs P m. let f = many_found n [] next fs P m in (f.0, f.1, (f.2, f.3), f.4, f.5);
    only = λ next xs gs P valid m. subst (λ k. Makes (many_part part k [] next) (flat_map F xs ++ gs) P) valid.0 (many_only xs [] next gs P valid.1 m);
  }
