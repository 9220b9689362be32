-- Why the row of a shift is refused, and that the refused word is the first of the row that fails.
use Rattle.std.proofs.Common.{◌≡◌, ◌≢◌, ℕ, ◌+◌, List, [], ◌∷◌, ◌++◌, length, true, Option, Some, None, Result, Ok, Err, refl, ap, sym, ◌∙◌, subst, arith, inl, inr, ◌⊎◌, append_assoc, append-nil}
use Rattle.std.specs.List.{AllByRecursion}
use Rattle.std.proofs.lemmas.Option.{same_Some}
use Rattle.rwsp_text.specs.Lexemes.{Lexeme}
use Rattle.rwsp_text.specs.Numbers.{number_of}
use Rattle.rwsp_terms.specs.Instance.{Instance}
use Rattle.rwsp_terms.specs.declared.data.Bounds.{Bounds}
use Rattle.rwsp_terms.specs.declared.data.ShiftRow.{ShiftRow}
use Rattle.rwsp_terms.proofs.Elements.{all_joined}
use Rattle.rwsp_model.proofs.Names.{IsWord}
use Rattle.rwsp_file.specs.Spelling.{FileField, Spell, IsRow, on_line, past_line}
use Rattle.rwsp_file.specs.Reading.{Unread, ◌>>=◌, or_refuse, next_at, limit_of, limited, words_of_row, row_words, row_words_at, is_new_name, new_name, numbers_of_row, shift_of, shift_at}
use Rattle.rwsp_file.specs.FirstFailures.{IsNoLongName, RestsOn, HasFault}
use Rattle.rwsp_file.specs.declared.row.RowWords.{RowWords}
use Rattle.rwsp_file.specs.declared.misfit.Misfit.{Misfit}
use Rattle.rwsp_file.specs.declared.misfit.Misfit.TheVariants.{TextEnds, BadWord}
use Rattle.rwsp_file.specs.declared.misfit.Fault.{Fault}
use Rattle.rwsp_file.specs.declared.misfit.Fault.TheVariants.{WordCount}
use Rattle.rwsp_file.specs.declared.misfit.Place.{Place}
use Rattle.rwsp_file.specs.declared.misfit.Place.TheVariants.{ShiftLine, ShiftName, Start, Minutes, LeastBlock, GreatestBlock}
use Rattle.rwsp_file.proofs.Readers.{bind_ok, bind_err, err_same}
use Rattle.rwsp_file.proofs.FieldReaders.{limited_gives}
use Rattle.rwsp_file.proofs.Lines.{unread}
use Rattle.rwsp_file.proofs.RowReader.{IsGoodRow, name_gives, odd_row, row_step, row_gives}
use Rattle.rwsp_file.proofs.WordForms.{all_front, first_word}
use Rattle.rwsp_file.proofs.Awaited.{Awaited, read_on, Makes, IsSound, read_makes}
use Rattle.rwsp_file.proofs.Awaited.Awaited.{Row}
use Rattle.rwsp_file.proofs.Forms.{lexeme_on, IsRefused, IsNumberPlace, IsRefusedAt, limited_refused, zero_word, zero_is_word}
use Rattle.rwsp_file.proofs.RowLines.{AllOn, Off, cut_line, off_line, joined_line, first_joined, row_in_front}
use Rattle.rwsp_file.proofs.Completions.{on_one, on_fresh, starts_fresh, off_later, on_one_line, Numbered, zero_numbered, GoodRow, five_words, six_words, fresh_row, fresh_row_words, fresh_row_good, Completion, complete}
use Rattle.rwsp_file.proofs.Reached.{read_row}
use Rattle.rwsp_file.proofs.LexemeFailures.{GoesOn, FailsAt, Fails, ends_clash}
use Rattle.rwsp_file.proofs.NameFailures.{BeginsWith, name_refused}

-- what the words of a row are

second : (row : ShiftRow) (a b : Lexeme) (ys : List Lexeme) → IsRow row (a ∷ b ∷ ys) → number_of b.text ≡ Some row.start
second row a b [] h = absurd h
second row a b (c ∷ []) h = absurd h
second row a b (c ∷ d ∷ []) h = absurd h
second row a b (c ∷ d ∷ f ∷ []) h = h.starts
second row a b (c ∷ d ∷ f ∷ g ∷ []) h = h.starts
second row a b (c ∷ d ∷ f ∷ g ∷ i ∷ ys) h = absurd h

third : (row : ShiftRow) (a b c : Lexeme) (ys : List Lexeme) → IsRow row (a ∷ b ∷ c ∷ ys) → number_of c.text ≡ Some row.length
third row a b c [] h = absurd h
third row a b c (d ∷ []) h = absurd h
third row a b c (d ∷ f ∷ []) h = h.long
third row a b c (d ∷ f ∷ g ∷ []) h = h.long
third row a b c (d ∷ f ∷ g ∷ i ∷ ys) h = absurd h

fourth : (row : ShiftRow) (a b c d : Lexeme) (ys : List Lexeme) → length ys ≢ 2 → IsRow row (a ∷ b ∷ c ∷ d ∷ ys) → number_of d.text ≡ Some row.bounds.least
fourth row a b c d [] ne h = absurd h
fourth row a b c d (f ∷ []) ne h = h.from
fourth row a b c d (f ∷ g ∷ []) ne h = absurd (ne refl)
fourth row a b c d (f ∷ g ∷ i ∷ ys) ne h = absurd h

fifth : (row : ShiftRow) (a b c d f : Lexeme) (ys : List Lexeme) → IsRow row (a ∷ b ∷ c ∷ d ∷ f ∷ ys) → (number_of f.text ≡ Some row.bounds.greatest) ⊎ (number_of f.text ≡ Some row.bounds.least)
fifth row a b c d f [] h = inl h.to
fifth row a b c d f (g ∷ []) h = inr h.from
fifth row a b c d f (g ∷ i ∷ ys) h = absurd h

sixth : (row : ShiftRow) (a b c d f g : Lexeme) (ys : List Lexeme) → IsRow row (a ∷ b ∷ c ∷ d ∷ f ∷ g ∷ ys) → number_of g.text ≡ Some row.bounds.greatest
sixth row a b c d f g [] h = h.to
sixth row a b c d f g (i ∷ ys) h = absurd h

pub row_length : (row : ShiftRow) (words : List Lexeme) → IsRow row words → (length words ≡ 5) ⊎ (length words ≡ 6)
row_length row [] h = absurd h
row_length row (a ∷ []) h = absurd h
row_length row (a ∷ b ∷ []) h = absurd h
row_length row (a ∷ b ∷ c ∷ []) h = absurd h
row_length row (a ∷ b ∷ c ∷ d ∷ []) h = absurd h
row_length row (a ∷ b ∷ c ∷ d ∷ f ∷ []) h = inl refl
row_length row (a ∷ b ∷ c ∷ d ∷ f ∷ g ∷ []) h = inr refl
row_length row (a ∷ b ∷ c ∷ d ∷ f ∷ g ∷ i ∷ ys) h = absurd h

words_none : (words : List Lexeme) → words_of_row words ≡ None → (length words ≢ 5) × (length words ≢ 6)
words_none [] e = (λ n. omega (arith, n), λ n. omega (arith, n))
words_none (a ∷ []) e = (λ n. omega (arith, n), λ n. omega (arith, n))
words_none (a ∷ b ∷ []) e = (λ n. omega (arith, n), λ n. omega (arith, n))
words_none (a ∷ b ∷ c ∷ []) e = (λ n. omega (arith, n), λ n. omega (arith, n))
words_none (a ∷ b ∷ c ∷ d ∷ []) e = (λ n. omega (arith, n), λ n. omega (arith, n))
words_none (a ∷ b ∷ c ∷ d ∷ f ∷ []) e = absurd (cc)
words_none (a ∷ b ∷ c ∷ d ∷ f ∷ g ∷ []) e = absurd (cc)
words_none (a ∷ b ∷ c ∷ d ∷ f ∷ g ∷ i ∷ ys) e = (λ n. omega (arith, n), λ n. omega (arith, n))

-- the words are five
abbrev IsFive : List Lexeme → RowWords → Type 0
IsFive words r = words ≡ r.name ∷ r.start ∷ r.minutes ∷ r.least ∷ r.greatest ∷ []

-- the words are six, of which the fourth is the long name
abbrev IsSix : List Lexeme → RowWords → Type 0
IsSix words r = (long_name : Lexeme) × (words ≡ r.name ∷ r.start ∷ r.minutes ∷ long_name ∷ r.least ∷ r.greatest ∷ [])

words_are : (words : List Lexeme) (r : RowWords) → words_of_row words ≡ Some r → IsFive words r ⊎ IsSix words r
words_are [] r e = absurd (cc)
words_are (a ∷ []) r e = absurd (cc)
words_are (a ∷ b ∷ []) r e = absurd (cc)
words_are (a ∷ b ∷ c ∷ []) r e = absurd (cc)
words_are (a ∷ b ∷ c ∷ d ∷ []) r e = absurd (cc)
words_are (a ∷ b ∷ c ∷ d ∷ f ∷ []) r e = inl (ap (λ (q : RowWords). q.name ∷ q.start ∷ q.minutes ∷ q.least ∷ q.greatest ∷ []) (same_Some (row_words a b c None d f) r e))
words_are (a ∷ b ∷ c ∷ d ∷ f ∷ g ∷ []) r e = inr (d, ap (λ (q : RowWords). q.name ∷ q.start ∷ q.minutes ∷ d ∷ q.least ∷ q.greatest ∷ []) (same_Some (row_words a b c (Some d) f g) r e))
words_are (a ∷ b ∷ c ∷ d ∷ f ∷ g ∷ i ∷ ys) r e = absurd (cc)

-- a number that keeps the limits of a row is taken
number_bad : (awaited : Place) (k : ℕ) (w : Lexeme) (why : Misfit) → limited awaited (limit_of k 0 10000) w ≡ Err why → Numbered w → ⊥
number_bad awaited k w why e n = ends_clash ℕ n.0 why (sym e ∙ (limited_gives awaited (limit_of k 0 10000) w).only n.0 ((omega arith, n.1), n.2))

numbered : (awaited : Place) (k : ℕ) (w : Lexeme) (n : ℕ) → limited awaited (limit_of k 0 10000) w ≡ Ok n → Numbered w
numbered awaited k w n e = let f = (limited_gives awaited (limit_of k 0 10000) w).found n e in (n, f.0.1, f.1)

-- what is wrong with a row: its count of words, or one of its words
abbrev RowStuck : List ShiftRow → Lexeme → List Lexeme → Misfit → Type 0
RowStuck earlier v vs why =
    ((words_of_row (v ∷ on_line v.line vs) ≡ None) × (why ≡ odd_row earlier v vs)) ⊎ ((r : RowWords) × (words_of_row (v ∷ on_line v.line vs) ≡ Some r) × (shift_of earlier r ≡ Err why))

-- a row, with what is left behind its line
abbrev with_left : Lexeme → List Lexeme → ℕ → ShiftRow → Result (ShiftRow × Unread) Misfit
with_left v vs end row = Ok (row, unread (past_line v.line vs) end)

row_stuck : (earlier : List ShiftRow) (v : Lexeme) (vs : List Lexeme) (end : ℕ) (why : Misfit) → shift_at earlier (unread (v ∷ vs) end) ≡ Err why → RowStuck earlier v vs why
row_stuck earlier v vs end why e = at (words_of_row (v ∷ on_line v.line vs)) refl (sym (row_step earlier v vs end) ∙ e) where
  of_row : (r : RowWords) → words_of_row (v ∷ on_line v.line vs) ≡ Some r → (shift_of earlier r ≡ Err why) ⊎ ((row : ShiftRow) × (shift_of earlier r ≡ Ok row) × (with_left v vs end row ≡ Err why)) → RowStuck earlier v vs why
  of_row r h (inl f) = inr (r, h, f)
  of_row r h (inr f) = absurd (ends_clash (ShiftRow × Unread) (f.0, unread (past_line v.line vs) end) why (sym f.2))

  at : (o : Option RowWords) → words_of_row (v ∷ on_line v.line vs) ≡ o → (or_refuse o (odd_row earlier v vs) >>= (λ words. shift_of earlier words >>= with_left v vs end)) ≡ Err why → RowStuck earlier v vs why
  at None h g = inl (h, sym (err_same {X = ShiftRow × Unread} (odd_row earlier v vs) why g))
  at (Some r) h g = of_row r h (bind_err (shift_of earlier r) (with_left v vs end) why g)

-- the numbers of a row: its start, its length and the bounds of its blocks
abbrev Numbers : Type 0
Numbers = ℕ × ℕ × Bounds

-- these numbers
abbrev numbers : ℕ → ℕ → ℕ → ℕ → Numbers
numbers start minutes least greatest = (start, minutes, record { least = least; greatest = greatest })

-- the numbers from the greatest length of blocks on
abbrev after_least : ℕ → RowWords → ℕ → ℕ → ℕ → Result Numbers Misfit
after_least shift r start minutes least = limited (GreatestBlock shift) (limit_of 7 0 10000) r.greatest >>= (λ greatest. Ok (numbers start minutes least greatest))

-- the numbers from the least length of blocks on
abbrev after_minutes : ℕ → RowWords → ℕ → ℕ → Result Numbers Misfit
after_minutes shift r start minutes = limited (LeastBlock shift) (limit_of 7 0 10000) r.least >>= (λ least. after_least shift r start minutes least)

-- the numbers from the length on
abbrev after_start : ℕ → RowWords → ℕ → Result Numbers Misfit
after_start shift r start = limited (Minutes shift) (limit_of 6 0 10000) r.minutes >>= (λ minutes. after_minutes shift r start minutes)

-- the row with the name and the numbers
abbrev row_of : List ℕ → Numbers → ShiftRow
row_of name n = record { name = name; start = n.0; length = n.1; bounds = n.2 }

module _ (earlier : List ShiftRow) (next : ShiftRow → Awaited) (v : Lexeme) (vs : List Lexeme) (sound : IsSound (Row earlier next)) where
  -- a word of the row fails, where all in front of it can be gone on with
  row_part : (pre : List Lexeme) (w : Lexeme) (post : List Lexeme) (awaited : Place) (fault : Fault) → v ∷ on_line v.line vs ≡ pre ++ w ∷ post → RestsOn awaited fault (length post) →
      (words : List (List ℕ)) → AllByRecursion IsWord words → GoodRow earlier (pre ++ on_one v.line words) →
      ((ys : List Lexeme) → RestsOn awaited fault (length ys) → (row : ShiftRow) → IsGoodRow earlier row → IsRow row (pre ++ w ∷ ys) → ⊥) →
      ((front : List ℕ) (P : Instance) → BeginsWith earlier P → HasFault front P awaited w.text fault) → FailsAt (Row earlier next) (v ∷ vs) awaited w fault
  unfolding read_on
  row_part pre w post awaited fault split rests words are_words good bad broken =
      let cut : AllOn v.line (on_line v.line vs) × Off v.line (past_line v.line vs) × (vs ≡ on_line v.line vs ++ past_line v.line vs) = cut_line v.line vs in
      let parts : AllOn v.line pre × AllOn v.line (w ∷ post) = all_front (λ (x : Lexeme). x.line ≡ v.line) pre (w ∷ post) (subst (AllOn v.line) split (refl, cut.0)) in
      let same_line : w.line ≡ v.line = parts.1.0 in
      let line : on_line v.line (post ++ past_line v.line vs) ≡ post = (joined_line v.line post (past_line v.line vs) parts.1.1).0 ∙ ap (λ (zs : List Lexeme). post ++ zs) (off_line v.line (past_line v.line vs) cut.1).0 ∙ append-nil post in
      let c : Completion (next good.0) v.line = complete (next good.0) (sound.2 good.0) v.line in
      let can : GoesOn (Row earlier next) pre v.line = record {
        words = words;
        lines = c.lines;
        are_words = are_words;
        are_lines = c.words;
        P = c.P;
        reads = λ g.
            ap (λ (zs : List Lexeme). read_on (Row earlier next) (unread zs g)) (sym (append_assoc pre (on_one v.line words) (on_fresh v.line c.lines)))
            ∙ read_row earlier next ((pre ++ on_one v.line words) ++ on_fresh v.line c.lines) g good.0 (unread (on_fresh v.line c.lines) g)
            (row_in_front earlier v.line (pre ++ on_one v.line words) (on_fresh v.line c.lines) g good.0 (all_joined (λ (x : Lexeme). x.line ≡ v.line) pre (on_one v.line words) parts.0 (on_one_line v.line words))
            (off_later v.line (v.line + 1) (on_fresh v.line c.lines) (omega arith) (starts_fresh (v.line + 1) v.line c.lines (omega arith))) good.1 good.2)
            ∙ c.reads g;
      } in
      record {
        before = pre;
        after = post ++ past_line v.line vs;
        whole = ap (λ (zs : List Lexeme). v ∷ zs) cut.2 ∙ ap (λ (zs : List Lexeme). zs ++ past_line v.line vs) split ∙ append_assoc pre (w ∷ post) (past_line v.line vs);
        rests = subst (λ l. RestsOn awaited fault (length (on_line l (post ++ past_line v.line vs)))) (sym same_line) (subst (λ (zs : List Lexeme). RestsOn awaited fault (length zs)) (sym line) rests);
        can = subst (GoesOn (Row earlier next) pre) (sym same_line) can;
        cannot = λ more g P on h.
            let a : (p : ShiftRow × Unread) × (shift_at earlier (unread (pre ++ w ∷ more) g) ≡ Ok p) × (read_on (next p.0) p.1 ≡ Ok P) = bind_ok (shift_at earlier (unread (pre ++ w ∷ more) g)) (λ p. read_on (next p.0) p.1) P h in
            let r = ((row_gives earlier (pre ++ w ∷ more) g).found a.0 a.1).0 in
            bad (on_line v.line more) (subst (λ l. RestsOn awaited fault (length (on_line l more))) same_line on) a.0.0 r.0
            (subst (IsRow a.0.0) (first_joined v.line pre w more parts.0 same_line) r.1);
        broken = λ more g P _ h front _. let m : (fs : List FileField) × Makes (Row earlier next) fs P × Spell fs (pre ++ more) = read_makes (Row earlier next) (unread (pre ++ more) g) P h in broken front P (sound.1 P m.0 m.1);
      }

  -- a number of the row fails
  number_fails : (end : ℕ) (why : Misfit) (pre : List Lexeme) (w : Lexeme) (post : List Lexeme) (awaited : Place) (k : ℕ) → v ∷ on_line v.line vs ≡ pre ++ w ∷ post → IsNumberPlace awaited (limit_of k 0 10000) → limited awaited (limit_of k 0 10000) w ≡ Err why →
      IsNoLongName awaited (length post) → (words : List (List ℕ)) → AllByRecursion IsWord words → GoodRow earlier (pre ++ on_one v.line words) →
      ((ys : List Lexeme) → IsNoLongName awaited (length ys) → (row : ShiftRow) → IsGoodRow earlier row → IsRow row (pre ++ w ∷ ys) → Numbered w) → Fails (Row earlier next) (v ∷ vs) end why
  number_fails end why pre w post awaited k split place e alone words are_words good takes =
      let r : IsRefusedAt awaited w why = limited_refused awaited (limit_of k 0 10000) w why place e in
      subst (Fails (Row earlier next) (v ∷ vs) end) (sym r.same)
      (row_part pre w post awaited r.fault split (r.rests (length post) alone) words are_words good
      (λ ys on row is text. number_bad awaited k w why e (takes ys (r.alone (length ys) on) row is text)) (λ front P _. r.broken front P))

  -- the row has another count of words
  count_fails : (end : ℕ) (why : Misfit) → words_of_row (v ∷ on_line v.line vs) ≡ None → why ≡ BadWord (ShiftLine (length earlier + 1)) v (WordCount (length (on_line v.line vs) + 1)) → Fails (Row earlier next) (v ∷ vs) end why
  count_fails end why none same =
      let not_so : (length (v ∷ on_line v.line vs) ≢ 5) × (length (v ∷ on_line v.line vs) ≢ 6) = words_none (v ∷ on_line v.line vs) none in
      subst (Fails (Row earlier next) (v ∷ vs) end) (sym same)
      (row_part [] v (on_line v.line vs) (ShiftLine (length earlier + 1)) (WordCount (length (on_line v.line vs) + 1)) refl refl (fresh_row earlier) (fresh_row_words earlier) (fresh_row_good earlier v.line sound.0)
      (λ ys long row is text. counted ys long not_so (row_length row (v ∷ ys) text))
      (λ front P _. (λ five. not_so.0 (omega (arith, five)), λ six. not_so.1 (omega (arith, six))))) where
        counted : (ys : List Lexeme) → length ys + 1 ≡ length (on_line v.line vs) + 1 → (length (v ∷ on_line v.line vs) ≢ 5) × (length (v ∷ on_line v.line vs) ≢ 6) → (length (v ∷ ys) ≡ 5) ⊎ (length (v ∷ ys) ≡ 6) → ⊥
        counted ys long not_so (inl five) = not_so.0 (omega (arith, long, five))
        counted ys long not_so (inr six) = not_so.1 (omega (arith, long, six))

  -- the first three words of a row
  begins_row : (r : RowWords) → IsFive (v ∷ on_line v.line vs) r ⊎ IsSix (v ∷ on_line v.line vs) r → (post : List Lexeme) × (v ∷ on_line v.line vs ≡ r.name ∷ r.start ∷ r.minutes ∷ post)
  begins_row r (inl five) = (r.least ∷ r.greatest ∷ [], five)
  begins_row r (inr six) = (six.0 ∷ r.least ∷ r.greatest ∷ [], six.1)

  name_fails : (end : ℕ) (why : Misfit) (r : RowWords) (post : List Lexeme) → v ∷ on_line v.line vs ≡ r.name ∷ post → new_name earlier r.name ≡ Err why → Fails (Row earlier next) (v ∷ vs) end why
  name_fails end why r post split e =
      let f : IsRefused (ShiftName (length earlier + 1)) r.name why (BeginsWith earlier) = name_refused earlier r.name why e in
      subst (Fails (Row earlier next) (v ∷ vs) end) (sym f.same)
      (row_part [] r.name post (ShiftName (length earlier + 1)) f.fault split (f.rests (length post)) (fresh_row earlier) (fresh_row_words earlier) (fresh_row_good earlier v.line sound.0)
      (λ ys _ row is text.
      ends_clash (List ℕ) row.name why (sym e ∙ (name_gives earlier r.name).only row.name (is.name, first_word row r.name ys text)))
      f.broken)

  start_fails : (end : ℕ) (why : Misfit) (r : RowWords) (post : List Lexeme) → v ∷ on_line v.line vs ≡ r.name ∷ r.start ∷ post → is_new_name earlier r.name.text ≡ true → limited (Start (length earlier + 1)) (limit_of 6 0 10000) r.start ≡ Err why →
      Fails (Row earlier next) (v ∷ vs) end why
  start_fails end why r post split name e =
      number_fails end why (r.name ∷ []) r.start post (Start (length earlier + 1)) 6 split (record { right = refl; none = λ text n. n; beyond = λ text n h out. (n, h, out) }) e tt
      (zero_word ∷ zero_word ∷ zero_word ∷ zero_word ∷ []) (zero_is_word, (zero_is_word, (zero_is_word, (zero_is_word, tt))))
      (five_words earlier r.name (lexeme_on v.line zero_word) (lexeme_on v.line zero_word) (lexeme_on v.line zero_word) (lexeme_on v.line zero_word) name (zero_numbered v.line) (zero_numbered v.line) (zero_numbered v.line) (zero_numbered v.line))
      (λ ys _ row is text. (row.start, is.times.0, second row r.name r.start ys text))

  minutes_fails : (end : ℕ) (why : Misfit) (r : RowWords) (post : List Lexeme) → v ∷ on_line v.line vs ≡ r.name ∷ r.start ∷ r.minutes ∷ post → is_new_name earlier r.name.text ≡ true → Numbered r.start →
      limited (Minutes (length earlier + 1)) (limit_of 6 0 10000) r.minutes ≡ Err why → Fails (Row earlier next) (v ∷ vs) end why
  minutes_fails end why r post split name start e =
      number_fails end why (r.name ∷ r.start ∷ []) r.minutes post (Minutes (length earlier + 1)) 6 split (record { right = refl; none = λ text n. n; beyond = λ text n h out. (n, h, out) }) e tt
      (zero_word ∷ zero_word ∷ zero_word ∷ []) (zero_is_word, (zero_is_word, (zero_is_word, tt)))
      (five_words earlier r.name r.start (lexeme_on v.line zero_word) (lexeme_on v.line zero_word) (lexeme_on v.line zero_word) name start (zero_numbered v.line) (zero_numbered v.line) (zero_numbered v.line))
      (λ ys _ row is text. (row.length, is.times.1, third row r.name r.start r.minutes ys text))

  either_bound : (row : ShiftRow) (w : Lexeme) → IsGoodRow earlier row → (number_of w.text ≡ Some row.bounds.greatest) ⊎ (number_of w.text ≡ Some row.bounds.least) → Numbered w
  either_bound row w is (inl g) = (row.bounds.greatest, is.blocks.1, g)
  either_bound row w is (inr l) = (row.bounds.least, is.blocks.0, l)

  least_fails : (end : ℕ) (why : Misfit) (r : RowWords) → IsFive (v ∷ on_line v.line vs) r ⊎ IsSix (v ∷ on_line v.line vs) r → is_new_name earlier r.name.text ≡ true → Numbered r.start → Numbered r.minutes →
      limited (LeastBlock (length earlier + 1)) (limit_of 7 0 10000) r.least ≡ Err why → Fails (Row earlier next) (v ∷ vs) end why
  least_fails end why r (inl five) name start minutes e =
      number_fails end why (r.name ∷ r.start ∷ r.minutes ∷ []) r.least (r.greatest ∷ []) (LeastBlock (length earlier + 1)) 7 five (record { right = refl; none = λ text n. n; beyond = λ text n h out. (n, h, out) }) e (λ two. omega (arith, two))
      (zero_word ∷ zero_word ∷ []) (zero_is_word, (zero_is_word, tt))
      (five_words earlier r.name r.start r.minutes (lexeme_on v.line zero_word) (lexeme_on v.line zero_word) name start minutes (zero_numbered v.line) (zero_numbered v.line))
      (λ ys alone row is text. (row.bounds.least, is.blocks.0, fourth row r.name r.start r.minutes r.least ys alone text))
  least_fails end why r (inr six) name start minutes e =
      number_fails end why (r.name ∷ r.start ∷ r.minutes ∷ six.0 ∷ []) r.least (r.greatest ∷ []) (LeastBlock (length earlier + 1)) 7 six.1 (record { right = refl; none = λ text n. n; beyond = λ text n h out. (n, h, out) }) e (λ two. omega (arith, two))
      (zero_word ∷ zero_word ∷ []) (zero_is_word, (zero_is_word, tt))
      (six_words earlier r.name r.start r.minutes (lexeme_on v.line zero_word) (lexeme_on v.line zero_word) name start minutes (zero_numbered v.line) (zero_numbered v.line) six.0)
      (λ ys _ row is text. either_bound row r.least is (fifth row r.name r.start r.minutes six.0 r.least ys text))

  greatest_fails : (end : ℕ) (why : Misfit) (r : RowWords) → IsFive (v ∷ on_line v.line vs) r ⊎ IsSix (v ∷ on_line v.line vs) r → is_new_name earlier r.name.text ≡ true → Numbered r.start → Numbered r.minutes → Numbered r.least →
      limited (GreatestBlock (length earlier + 1)) (limit_of 7 0 10000) r.greatest ≡ Err why → Fails (Row earlier next) (v ∷ vs) end why
  greatest_fails end why r (inl five) name start minutes least e =
      number_fails end why (r.name ∷ r.start ∷ r.minutes ∷ r.least ∷ []) r.greatest [] (GreatestBlock (length earlier + 1)) 7 five (record { right = refl; none = λ text n. n; beyond = λ text n h out. (n, h, out) }) e tt
      (zero_word ∷ []) (zero_is_word, tt)
      (five_words earlier r.name r.start r.minutes r.least (lexeme_on v.line zero_word) name start minutes least (zero_numbered v.line))
      (λ ys _ row is text. either_bound row r.greatest is (fifth row r.name r.start r.minutes r.least r.greatest ys text))
  greatest_fails end why r (inr six) name start minutes least e =
      number_fails end why (r.name ∷ r.start ∷ r.minutes ∷ six.0 ∷ r.least ∷ []) r.greatest [] (GreatestBlock (length earlier + 1)) 7 six.1 (record { right = refl; none = λ text n. n; beyond = λ text n h out. (n, h, out) }) e tt
      (zero_word ∷ []) (zero_is_word, tt)
      (six_words earlier r.name r.start r.minutes r.least (lexeme_on v.line zero_word) name start minutes least (zero_numbered v.line) six.0)
      (λ ys _ row is text. (row.bounds.greatest, is.blocks.1, sixth row r.name r.start r.minutes six.0 r.least r.greatest ys text))

  module _ (end : ℕ) (why : Misfit) (r : RowWords) (shape : IsFive (v ∷ on_line v.line vs) r ⊎ IsSix (v ∷ on_line v.line vs) r) where
    abbrev shift : ℕ
    shift = length earlier + 1

    abbrev Fail : Type 0
    Fail = Fails (Row earlier next) (v ∷ vs) end why

    -- the first number that fails
    numbers_fail : is_new_name earlier r.name.text ≡ true → numbers_of_row (length earlier + 1) r ≡ Err why → Fail
    unfolding numbers_of_row
    numbers_fail name e = of_start (bind_err (limited (Start shift) (limit_of 6 0 10000) r.start) (after_start shift r) why e) where
      of_greatest : (start minutes least : ℕ) → Numbered r.start → Numbered r.minutes → Numbered r.least → (limited (GreatestBlock shift) (limit_of 7 0 10000) r.greatest ≡ Err why) ⊎ ((n : ℕ) × (limited (GreatestBlock shift) (limit_of 7 0 10000) r.greatest ≡ Ok n) × (Ok (numbers start minutes least n) ≡ Err why)) → Fail
      of_greatest start minutes least h i j (inl f) = greatest_fails end why r shape name h i j f
      of_greatest start minutes least h i j (inr f) = absurd (ends_clash Numbers (numbers start minutes least f.0) why (sym f.2))

      of_least : (start minutes : ℕ) → Numbered r.start → Numbered r.minutes → (limited (LeastBlock shift) (limit_of 7 0 10000) r.least ≡ Err why) ⊎ ((n : ℕ) × (limited (LeastBlock shift) (limit_of 7 0 10000) r.least ≡ Ok n) × (after_least shift r start minutes n ≡ Err why)) → Fail
      of_least start minutes h i (inl f) = least_fails end why r shape name h i f
      of_least start minutes h i (inr f) =
          of_greatest start minutes f.0 h i (numbered (LeastBlock shift) 7 r.least f.0 f.1) (bind_err (limited (GreatestBlock shift) (limit_of 7 0 10000) r.greatest) (λ greatest. Ok (numbers start minutes f.0 greatest)) why f.2)

      of_minutes : (start : ℕ) → Numbered r.start → (limited (Minutes shift) (limit_of 6 0 10000) r.minutes ≡ Err why) ⊎ ((n : ℕ) × (limited (Minutes shift) (limit_of 6 0 10000) r.minutes ≡ Ok n) × (after_minutes shift r start n ≡ Err why)) → Fail
      of_minutes start h (inl f) = let front = begins_row r shape in minutes_fails end why r front.0 front.1 name h f
      of_minutes start h (inr f) = of_least start f.0 h (numbered (Minutes shift) 6 r.minutes f.0 f.1) (bind_err (limited (LeastBlock shift) (limit_of 7 0 10000) r.least) (λ least. after_least shift r start f.0 least) why f.2)

      of_start : (limited (Start shift) (limit_of 6 0 10000) r.start ≡ Err why) ⊎ ((n : ℕ) × (limited (Start shift) (limit_of 6 0 10000) r.start ≡ Ok n) × (after_start shift r n ≡ Err why)) → Fail
      of_start (inl f) = let front = begins_row r shape in start_fails end why r (r.minutes ∷ front.0) front.1 name f
      of_start (inr f) = of_minutes f.0 (numbered (Start shift) 6 r.start f.0 f.1) (bind_err (limited (Minutes shift) (limit_of 6 0 10000) r.minutes) (λ minutes. after_minutes shift r f.0 minutes) why f.2)

    -- a shift is refused for its name, or for one of its numbers
    shift_fails : shift_of earlier r ≡ Err why → Fail
    unfolding shift_of
    shift_fails e = of_name (bind_err (new_name earlier r.name) (λ name. numbers_of_row (length earlier + 1) r >>= (λ n. Ok (row_of name n))) why e) where
      of_numbers : (name : List ℕ) → is_new_name earlier r.name.text ≡ true → (numbers_of_row (length earlier + 1) r ≡ Err why) ⊎ ((n : Numbers) × (numbers_of_row (length earlier + 1) r ≡ Ok n) × (Ok (row_of name n) ≡ Err why)) → Fail
      of_numbers name new (inl f) = numbers_fail new f
      of_numbers name new (inr f) = absurd (ends_clash ShiftRow (row_of name f.0) why (sym f.2))

      of_name : (new_name earlier r.name ≡ Err why) ⊎ ((name : List ℕ) × (new_name earlier r.name ≡ Ok name) × ((numbers_of_row (length earlier + 1) r >>= (λ n. Ok (row_of name n))) ≡ Err why)) → Fail
      of_name (inl f) = let front = begins_row r shape in name_fails end why r (r.start ∷ r.minutes ∷ front.0) front.1 f
      of_name (inr f) =
          let is : (is_new_name earlier f.0 ≡ true) × (r.name.text ≡ f.0) = (name_gives earlier r.name).found f.0 f.1 in
          of_numbers f.0 (ap (is_new_name earlier) is.1 ∙ is.0) (bind_err (numbers_of_row (length earlier + 1) r) (λ n. Ok (row_of f.0 n)) why f.2)

  line_fails : (end : ℕ) (why : Misfit) → RowStuck earlier v vs why → Fails (Row earlier next) (v ∷ vs) end why
  line_fails end why (inl f) = count_fails end why f.0 f.1
  line_fails end why (inr f) = shift_fails end why f.0 (words_are (v ∷ on_line v.line vs) f.0 f.1) f.2

-- a row that is refused, or is not there
pub row_fails : (earlier : List ShiftRow) (next : ShiftRow → Awaited) (vs : List Lexeme) (end : ℕ) (why : Misfit) → IsSound (Row earlier next) → shift_at earlier (unread vs end) ≡ Err why → Fails (Row earlier next) vs end why
unfolding shift_at row_words_at next_at
row_fails earlier next [] end why sound e =
    let c : Completion (Row earlier next) end = complete (Row earlier next) sound end in
    subst (Fails (Row earlier next) [] end) (err_same {X = ShiftRow × Unread} (TextEnds (ShiftLine (length earlier + 1)) end) why e) (refl, record { lines = c.lines; are_lines = c.words; P = c.P; reads = c.reads })
row_fails earlier next (v ∷ vs) end why sound e = line_fails earlier next v vs sound end why (row_stuck earlier v vs end why e)
