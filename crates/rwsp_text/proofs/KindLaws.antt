-- Lines of a table are read where they are spelled, and as what they say.
use Rattle.std.proofs.Common.{◌≡◌, ◌≢◌, ℕ, suc, ◌+◌, ◌*◌, ◌/◌, ◌%◌, ◌^◌, ◌<◌, ◌≤◌, List, [], ◌∷◌, ◌++◌, refl, ap, sym, ◌∙◌, subst, arith, inl, inr, Some, None, Bool, true, false, cond}
use Rattle.std.specs.Prelude.{All, ℤ, pos, negsuc}
use Rattle.std.specs.List.{flat_map, list_all}
use Rattle.std.specs.Str.{bytes_eq}
use Rattle.std.specs.Char.{is_ascii_digit}
use Rattle.std.specs.Fmt.{decimal, signed_decimal}
use Rattle.std.proofs.lemmas.Fmt.{digits_decimal}
use Rattle.std.proofs.lemmas.Int.{ints}
use Rattle.std.proofs.lemmas.Bool.{and_parts}
use Rattle.std.proofs.lemmas.List.{append-nil}
use Rattle.std.proofs.lemmas.List.Elements.{All-nil, All-cons, All-head, All-tail, All-weaker}
use Rattle.rwsp_text.specs.Fields.{Words, Field, Word, Number, Name, Choice, Place, Rules, Weights, Cells, Values, AreInRange, spell, Says, read, ◌>>=◌, IsName, IsValue, NamedWeight, IsNamedWeight, NamedCell, numbers, week_and_day, either_word, weight_fields, cell_fields, is_visible, is_name, number_at, name_at, word_at, choice_at, place_at, rules_at, weights_at, cells_at}
use Rattle.rwsp_text.specs.Kinds.{Kind, IsLine, read_by, read_line, ClosesNumbers, ClosesLine, AreReadable, IsFree, IsReadable, IsBlankless, AreBlankless, LinesAreRead, LinesSayOne, LinesAreBlankless}
use Rattle.rwsp_text.specs.Lines.{AreWords}
use Rattle.rwsp_text.proofs.Printed.{ascii_digits_model}
use Rattle.rwsp_text.proofs.Numerals.{bind_found, bind_only, no_number, if_true}
use Rattle.rwsp_text.proofs.Cells.{IsNamedCell, cells_found, cells_only}
use Rattle.rwsp_text.proofs.Words.{Stops, Ascend, ascend, number_at_found, number_at_only, seen_only, name_found, name_at_found, name_at_only, word_at_found, word_at_only, same_bytes, bytes_same, choice_found, choice_only, done_found, place_within, place_found, place_only, rules_found, rules_only, weights_found, weights_only}

-- fields that are read are spelled
pub fields_found : {X : Type 0} (fields : List Field) (make : Values fields → X) (ws : Words) (x : X) → read fields make ws ≡ Some x → Says fields make ws x
fields_found [] make ws x e = let d = done_found (make tt) x ws e in record { values = tt; keeps = tt; spelled = d.0; made = d.1 }
fields_found (Word word ∷ fields) make ws x e =
    let b = bind_found (word_at word ws) (λ rest. read fields make rest) x e in
    let f = fields_found fields make b.0 x b.2 in
    record { values = f.values; keeps = f.keeps; spelled = word_at_found word ws b.0 b.1 ∙ ap (λ us. word ∷ us) f.spelled; made = f.made }
fields_found (Number least greatest ∷ fields) make ws x e =
    let b = bind_found (number_at least greatest ws) (λ n. read fields (λ v. make (n.0, v)) n.1) x e in
    let f = fields_found fields (λ v. make (b.0.0, v)) b.0.1 x b.2 in
    let n = number_at_found least greatest b.0.0 ws b.0.1 b.1 in
    record { values = (b.0.0, f.values); keeps = ((n.0, n.1), f.keeps); spelled = n.2 ∙ ap (λ us. decimal b.0.0 ∷ us) f.spelled; made = f.made }
fields_found (Name ∷ fields) make ws x e =
    let b = bind_found (name_at ws) (λ n. read fields (λ v. make (n.0, v)) n.1) x e in
    let f = fields_found fields (λ v. make (b.0.0, v)) b.0.1 x b.2 in
    let n = name_at_found b.0.0 ws b.0.1 b.1 in
    record { values = (b.0.0, f.values); keeps = (n.0, f.keeps); spelled = n.1 ∙ ap (λ us. b.0.0 ∷ us) f.spelled; made = f.made }
fields_found (Choice one other ∷ fields) make ws x e =
    let b = bind_found (choice_at one other ws) (λ n. read fields (λ v. make (n.0, v)) n.1) x e in
    let f = fields_found fields (λ v. make (b.0.0, v)) b.0.1 x b.2 in
    record { values = (b.0.0, f.values); keeps = f.keeps; spelled = choice_found one other b.0.0 ws b.0.1 b.1 ∙ ap (λ us. either_word one other b.0.0 ∷ us) f.spelled; made = f.made }
fields_found (Place weeks days ∷ fields) make ws x e =
    let b = bind_found (place_at weeks days ws) (λ n. read fields (λ v. make (n.0, v)) n.1) x e in
    let f = fields_found fields (λ v. make (b.0.0, v)) b.0.1 x b.2 in
    let n = place_found weeks days b.0.0 ws b.0.1 b.1 in
    record { values = (b.0.0, f.values); keeps = (n.0, f.keeps); spelled = n.1 ∙ ap (λ us. week_and_day days b.0.0 ++ us) f.spelled; made = f.made }
fields_found (Rules greatest ∷ fields) make ws x e =
    let r = rules_found greatest ws in
    let f = fields_found fields (λ v. make ((rules_at greatest ws).0, v)) (rules_at greatest ws).1 x e in
    record { values = ((rules_at greatest ws).0, f.values); keeps = (r.1, f.keeps); spelled = r.0 ∙ ap (λ us. numbers (rules_at greatest ws).0 ++ us) f.spelled; made = f.made }
fields_found (Weights days greatest ∷ fields) make ws x e =
    let b = bind_found (weights_at days greatest ws) (λ y. read fields (λ v. make (y, v)) []) x e in
    let f = fields_found fields (λ v. make (b.0, v)) [] x b.2 in
    let y = weights_found days greatest ws b.0 b.1 in
    record { values = (b.0, f.values); keeps = (y.1, f.keeps); spelled = y.0 ∙ sym (append-nil (flat_map weight_fields b.0)) ∙ ap (λ us. flat_map weight_fields b.0 ++ us) f.spelled; made = f.made }
fields_found (Cells weeks days ∷ fields) make ws x e =
    let b = bind_found (cells_at weeks days ws) (λ c. read fields (λ v. make (c, v)) []) x e in
    let f = fields_found fields (λ v. make (b.0, v)) [] x b.2 in
    let c = cells_found weeks days ws b.0 b.1 in
    record { values = (b.0, f.values); keeps = (c.1, f.keeps); spelled = c.0 ∙ sym (append-nil (flat_map (cell_fields days) b.0)) ∙ ap (λ us. flat_map (cell_fields days) b.0 ++ us) f.spelled; made = f.made }

stops : (fields : List Field) (v : Values fields) → ClosesNumbers fields → Stops (spell fields v)
stops [] v h = tt
stops (Word word ∷ fields) v h = λ low high. no_number low high word h
stops (Number least greatest ∷ fields) v h = absurd h
stops (Name ∷ fields) v h = absurd h
stops (Choice one other ∷ fields) v h = absurd h
stops (Place weeks days ∷ fields) v h = absurd h
stops (Rules greatest ∷ fields) v h = absurd h
stops (Weights days greatest ∷ fields) v h = absurd h
stops (Cells weeks days ∷ fields) v h = absurd h

closed : (fields : List Field) (v : Values fields) → ClosesLine fields → spell fields v ≡ []
closed [] v h = refl
closed (f ∷ fields) v h = absurd h

-- fields that are spelled are read
pub fields_only : {X : Type 0} (fields : List Field) (make : Values fields → X) (v : Values fields) → AreReadable fields → AreInRange fields v → read fields make (spell fields v) ≡ Some (make v)
fields_only [] make v s k = refl
fields_only (Word word ∷ fields) make v s k =
    bind_only (word_at word (word ∷ spell fields v)) (λ rest. read fields make rest) (spell fields v) (Some (make v)) (word_at_only word (spell fields v)) (fields_only fields make v s.1 k)
fields_only (Number least greatest ∷ fields) make v s k =
    bind_only (number_at least greatest (decimal v.0 ∷ spell fields v.1)) (λ n. read fields (λ u. make (n.0, u)) n.1) (v.0, spell fields v.1) (Some (make v))
    (number_at_only least greatest v.0 (spell fields v.1) k.0.0 k.0.1 s.0) (fields_only fields (λ u. make (v.0, u)) v.1 s.1 k.1)
fields_only (Name ∷ fields) make v s k =
    bind_only (name_at (v.0 ∷ spell fields v.1)) (λ n. read fields (λ u. make (n.0, u)) n.1) (v.0, spell fields v.1) (Some (make v))
    (name_at_only v.0 (spell fields v.1) k.0) (fields_only fields (λ u. make (v.0, u)) v.1 s k.1)
fields_only (Choice one other ∷ fields) make v s k =
    bind_only (choice_at one other (either_word one other v.0 ∷ spell fields v.1)) (λ n. read fields (λ u. make (n.0, u)) n.1) (v.0, spell fields v.1) (Some (make v))
    (choice_only one other v.0 (spell fields v.1) s.0.2) (fields_only fields (λ u. make (v.0, u)) v.1 s.1 k)
fields_only (Place weeks days ∷ fields) make v s k =
    bind_only (place_at weeks days (week_and_day days v.0 ++ spell fields v.1)) (λ n. read fields (λ u. make (n.0, u)) n.1) (v.0, spell fields v.1) (Some (make v))
    (place_only weeks days v.0 (spell fields v.1) s.0.0 s.0.1 k.0) (fields_only fields (λ u. make (v.0, u)) v.1 s.1 k.1)
fields_only (Rules greatest ∷ fields) make v s k =
    ap (λ r. read fields (λ u. make (r.0, u)) r.1) (rules_only greatest v.0 (spell fields v.1) s.0.0 k.0 (stops fields v.1 s.0.1))
    ∙ fields_only fields (λ u. make (v.0, u)) v.1 s.1 k.1
fields_only (Weights days greatest ∷ fields) make v s k =
    let none = closed fields v.1 s.0.2 in
    bind_only (weights_at days greatest (flat_map weight_fields v.0 ++ spell fields v.1)) (λ y. read fields (λ u. make (y, u)) []) v.0 (Some (make v))
    (ap (λ us. weights_at days greatest (flat_map weight_fields v.0 ++ us)) none ∙ ap (weights_at days greatest) (append-nil (flat_map weight_fields v.0)) ∙ weights_only days greatest v.0 s.0.0 s.0.1 k.0)
    (ap (read fields (λ u. make (v.0, u))) (sym none) ∙ fields_only fields (λ u. make (v.0, u)) v.1 s.1 k.1)
fields_only (Cells weeks days ∷ fields) make v s k =
    let none = closed fields v.1 s.0.2 in
    bind_only (cells_at weeks days (flat_map (cell_fields days) v.0 ++ spell fields v.1)) (λ c. read fields (λ u. make (c, u)) []) v.0 (Some (make v))
    (ap (λ us. cells_at weeks days (flat_map (cell_fields days) v.0 ++ us)) none ∙ ap (cells_at weeks days) (append-nil (flat_map (cell_fields days) v.0)) ∙ cells_only weeks days v.0 s.0.0 s.0.1 k.0)
    (ap (read fields (λ u. make (v.0, u))) (sym none) ∙ fields_only fields (λ u. make (v.0, u)) v.1 s.1 k.1)

-- no blank within

digit_not : (b c : ℕ) → is_ascii_digit b ≡ true → is_ascii_digit c ≡ false → b ≢ c
digit_not b c h off = λ e. let on : is_ascii_digit c ≡ true = subst (λ z. is_ascii_digit z ≡ true) e h in cc

digit_blankless : (b : ℕ) → is_ascii_digit b ≡ true → is_visible b ≡ true
digit_blankless b h = seen_only b (digit_not b 32 h refl, digit_not b 9 h refl, digit_not b 13 h refl, digit_not b 10 h refl)

digits_blankless : (w : List ℕ) → list_all is_ascii_digit w ≡ true → IsBlankless w
digits_blankless [] h = All-nil (λ b. is_visible b ≡ true)
digits_blankless (b ∷ w) h =
    let p = and_parts (is_ascii_digit b) (list_all is_ascii_digit w) h in
    All-cons (λ b. is_visible b ≡ true) b w (digit_blankless b p.0) (digits_blankless w p.1)

pub decimal_blankless : (n : ℕ) → n < 2 ^ 64 → IsBlankless (decimal n)
decimal_blankless n small = digits_blankless (decimal n) (digits_decimal ascii_digits_model n small)

pub name_blankless : (w : List ℕ) → IsName w → IsBlankless w
name_blankless w h = All-weaker (λ b. (b ≢ 32) × (b ≢ 9) × (b ≢ 13) × (b ≢ 10)) (λ b. is_visible b ≡ true) (λ b s. seen_only b s) w h.visible

pub word_blankless : (w : List ℕ) → is_name w ≡ true → IsBlankless w
word_blankless w h = name_blankless w (name_found w h)

value_blankless : (g : ℕ) (v : ℤ) → 1 ≤ g → g < 10 ^ 19 → IsValue g v → IsBlankless (signed_decimal v)
value_blankless g (pos n) some small h = decimal_blankless n (omega (arith, ints, h.1, small))
value_blankless g (negsuc m) some small h = All-cons (λ b. is_visible b ≡ true) 45 (decimal (suc m)) refl (decimal_blankless (suc m) (omega (arith, ints, h.0, small, some)))

numbers_blankless : (last high : ℕ) (R : List ℕ) (ws : Words) → high < 10 ^ 19 → Ascend last high R → AreBlankless ws → AreBlankless (numbers R ++ ws)
numbers_blankless last high [] ws small a h = h
numbers_blankless last high (n ∷ R) ws small a h = (decimal_blankless n (omega (arith, a.1, small)), numbers_blankless n high R ws small a.2 h)

weights_blankless : (j g : ℕ) (y : List NamedWeight) (ws : Words) → j < 10 ^ 19 → (1 ≤ g) × (g < 10 ^ 19) → All (IsNamedWeight j g) y → AreBlankless ws → AreBlankless (flat_map weight_fields y ++ ws)
weights_blankless j g [] ws few some h rest = rest
weights_blankless j g (e ∷ y) ws few some h rest =
    let here : IsNamedWeight j g e = All-head (IsNamedWeight j g) e y h in (
      decimal_blankless e.day (omega (arith, here.0.1, few)),
      (name_blankless e.name here.1, (value_blankless g e.value some.0 some.1 here.2, weights_blankless j g y ws few some (All-tail (IsNamedWeight j g) e y h) rest)),
    )

place_blankless : (weeks days p : ℕ) (ws : Words) → weeks < 10 ^ 19 → days < 10 ^ 19 → p < weeks * days → AreBlankless ws → AreBlankless (week_and_day days p ++ ws)
place_blankless weeks days p ws some few less rest =
    let in' = place_within weeks days p less in
    (decimal_blankless (p / days + 1) (omega (arith, in'.0, some)), (decimal_blankless (p % days + 1) (omega (arith, in'.1, few)), rest))

cells_blankless : (weeks days : ℕ) (cells : List NamedCell) (ws : Words) → weeks < 10 ^ 19 → days < 10 ^ 19 → All (IsNamedCell (weeks * days)) cells → AreBlankless ws → AreBlankless (flat_map (cell_fields days) cells ++ ws)
cells_blankless weeks days [] ws some few h rest = rest
cells_blankless weeks days (c ∷ cells) ws some few h rest =
    let here = All-head (IsNamedCell (weeks * days)) c cells h in
    place_blankless weeks days c.p (c.name ∷ (flat_map (cell_fields days) cells ++ ws)) some few here.0
    (name_blankless c.name here.1, cells_blankless weeks days cells ws some few (All-tail (IsNamedCell (weeks * days)) c cells h) rest)

chosen_blankless : (one other : List ℕ) (c : Bool) → is_name one ≡ true → is_name other ≡ true → IsBlankless (either_word one other c)
chosen_blankless one other true a b = word_blankless one a
chosen_blankless one other false a b = word_blankless other b

pub fields_blankless : (fields : List Field) (v : Values fields) → AreReadable fields → AreInRange fields v → AreBlankless (spell fields v)
fields_blankless [] v s k = tt
fields_blankless (Word word ∷ fields) v s k = (word_blankless word s.0, fields_blankless fields v s.1 k)
fields_blankless (Number least greatest ∷ fields) v s k = (decimal_blankless v.0 (omega (arith, k.0.1, s.0)), fields_blankless fields v.1 s.1 k.1)
fields_blankless (Name ∷ fields) v s k = (name_blankless v.0 k.0, fields_blankless fields v.1 s k.1)
fields_blankless (Choice one other ∷ fields) v s k = (chosen_blankless one other v.0 s.0.0 s.0.1, fields_blankless fields v.1 s.1 k)
fields_blankless (Place weeks days ∷ fields) v s k = place_blankless weeks days v.0 (spell fields v.1) s.0.0 s.0.1 k.0 (fields_blankless fields v.1 s.1 k.1)
fields_blankless (Rules greatest ∷ fields) v s k = numbers_blankless 0 greatest v.0 (spell fields v.1) s.0.0 (ascend greatest v.0 k.0) (fields_blankless fields v.1 s.1 k.1)
fields_blankless (Weights days greatest ∷ fields) v s k = weights_blankless days greatest v.0 (spell fields v.1) s.0.0 s.0.1 k.0 (fields_blankless fields v.1 s.1 k.1)
fields_blankless (Cells weeks days ∷ fields) v s k = cells_blankless weeks days v.0 (spell fields v.1) s.0.0 s.0.1 k.0.1 (fields_blankless fields v.1 s.1 k.1)

-- tables

first_or : {X : Type 0} (kind : Kind X) (table : List (Kind X)) (w : List ℕ) (ws : Words) (x : X) (b : Bool) → bytes_eq w kind.word ≡ b → (read_by table w ws ≡ Some x → IsLine table (w ∷ ws) x) → cond b (read kind.fields kind.make ws) (read_by table w ws) ≡ Some x → IsLine (kind ∷ table) (w ∷ ws) x
first_or kind table w ws x true t rest h = inl (same_bytes w kind.word t, fields_found kind.fields kind.make ws x h)
first_or kind table w ws x false t rest h = inr (rest h)

by_found : {X : Type 0} (table : List (Kind X)) (w : List ℕ) (ws : Words) (x : X) → read_by table w ws ≡ Some x → IsLine table (w ∷ ws) x
by_found [] w ws x e = absurd (cc)
by_found (kind ∷ table) w ws x e = first_or kind table w ws x (bytes_eq w kind.word) refl (by_found table w ws x) e

-- the word of a later kind is none of an earlier one
later : {X : Type 0} (table : List (Kind X)) (w v : List ℕ) (ws : Words) (x : X) → IsFree w table → IsLine table (v ∷ ws) x → bytes_eq v w ≡ false
later [] w v ws x h l = absurd l
later (kind ∷ table) w v ws x h (inl l) = ap (λ z. bytes_eq z w) l.0 ∙ h.0
later (kind ∷ table) w v ws x h (inr l) = later table w v ws x h.1 l

by_only : {X : Type 0} (table : List (Kind X)) (w : List ℕ) (ws : Words) (x : X) → IsReadable table → IsLine table (w ∷ ws) x → read_by table w ws ≡ Some x
by_only [] w ws x s l = absurd l
by_only (kind ∷ table) w ws x s (inl l) =
    let says = l.1 in
    if_true (bytes_eq w kind.word) (read kind.fields kind.make ws) (read_by table w ws) (ap (λ z. bytes_eq z kind.word) l.0 ∙ bytes_same kind.word)
    ∙ ap (read kind.fields kind.make) says.spelled ∙ fields_only kind.fields kind.make says.values s.0.0 says.keeps ∙ ap Some says.made
by_only (kind ∷ table) w ws x s (inr l) =
    ap (λ b. cond b (read kind.fields kind.make ws) (read_by table w ws)) (later table kind.word w ws x s.0.2 l) ∙ by_only table w ws x s.1 l

pub no_words : {X : Type 0} (table : List (Kind X)) (x : X) → IsLine table [] x → ⊥
no_words [] x l = l
no_words (kind ∷ table) x (inl l) = l
no_words (kind ∷ table) x (inr l) = no_words table x l

pub line_found : {X : Type 0} (table : List (Kind X)) (ws : Words) (x : X) → read_line table ws ≡ Some x → IsLine table ws x
unfolding read_line
line_found table [] x e = absurd (cc)
line_found table (w ∷ ws) x e = by_found table w ws x e

pub line_only : {X : Type 0} (table : List (Kind X)) (ws : Words) (x : X) → IsReadable table → IsLine table ws x → read_line table ws ≡ Some x
unfolding read_line
line_only table [] x s l = absurd (no_words table x l)
line_only table (w ∷ ws) x s l = by_only table w ws x s l

pub lines_are_read : {X : Type 0} → LinesAreRead X
lines_are_read table ws x s = (line_only table ws x s, line_found table ws x)

pub lines_say_one : {X : Type 0} → LinesSayOne X
lines_say_one table ws x y s a b = let e : Some x ≡ Some y = sym (line_only table ws x s a) ∙ line_only table ws y s b in let same : x ≡ y = cc in same

pub lines_are_blankless : {X : Type 0} → LinesAreBlankless X
lines_are_blankless [] ws x s l = absurd l
lines_are_blankless (kind ∷ table) [] x s (inl l) = absurd l
lines_are_blankless (kind ∷ table) (w ∷ ws) x s (inl l) =
    let says = l.1 in
    (subst IsBlankless (sym l.0) (word_blankless kind.word s.0.1), subst AreBlankless (sym says.spelled) (fields_blankless kind.fields says.values s.0.0 says.keeps))
lines_are_blankless (kind ∷ table) ws x s (inr l) = lines_are_blankless table ws x s.1 l

-- a line has a word
pub lines_are_words : {X : Type 0} (table : List (Kind X)) (ws : Words) (x : X) → IsReadable table → IsLine table ws x → AreWords ws
lines_are_words table [] x s l = absurd (no_words table x l)
lines_are_words table (w ∷ ws) x s l = (omega arith, lines_are_blankless table (w ∷ ws) x s l)

-- a table of one kind
pub one_kind : {X : Type 0} (kind : Kind X) (ws : Words) → read_line (kind ∷ []) ws ≡ (word_at kind.word ws >>= read kind.fields kind.make)
unfolding read_line word_at
one_kind kind [] = refl
one_kind kind (w ∷ ws) = by (bytes_eq w kind.word)
  where
    by : (b : Bool) → cond b (read kind.fields kind.make ws) None ≡ (cond b (Some ws) None >>= read kind.fields kind.make)
    by true = refl
    by false = refl
