-- Where reading fails: what is read before it is read so whatever stands behind.
use Rattle.std.proofs.Common.{◌≡◌, ℕ, ◌+◌, ◌<◌, ◌≤◌, List, [], ◌∷◌, ◌++◌, false, Result, Ok, Err, refl, ap, sym, ◌∙◌, subst, arith, append_assoc}
use Rattle.std.proofs.lemmas.Bool.Decides.{nat_tests}
use Rattle.rwsp_text.specs.Lexemes.{Lexeme}
use Rattle.rwsp_terms.specs.Instance.{Instance}
use Rattle.rwsp_terms.specs.declared.data.ShiftRow.{ShiftRow}
use Rattle.rwsp_file.specs.Spelling.{IsRow, is_on_line, on_line, past_line}
use Rattle.rwsp_file.specs.Reading.{Unread, ◌>>=◌, next_at, shift_at, nothing_of}
use Rattle.rwsp_file.specs.declared.misfit.Misfit.{Misfit}
use Rattle.rwsp_file.specs.declared.misfit.Misfit.TheVariants.{TextEnds}
use Rattle.rwsp_file.proofs.Readers.{one_word, failed, err_same}
use Rattle.rwsp_file.proofs.Lines.{unread}
use Rattle.rwsp_file.proofs.Awaited.{Awaited, read_on, IsSound}
use Rattle.rwsp_file.proofs.Awaited.Awaited.{End, Word, Row}
use Rattle.rwsp_file.proofs.Forms.{WordForm}
use Rattle.rwsp_file.proofs.RowReader.{IsGoodRow, row_gives}
use Rattle.rwsp_file.proofs.RowLines.{AllOn, Off, cut_line, row_in_front}
use Rattle.rwsp_file.proofs.Completions.{StartsFrom, off_later, word_reads}

-- the lines of the lexemes rise from a first one on up to a last one
abbrev pub Rising : ℕ → ℕ → List Lexeme → Type 0
Rising from end [] = from ≤ end
Rising from end (w ∷ ws) = (from ≤ w.line) × Rising w.line end ws

pub rising_from : (less from end : ℕ) (ws : List Lexeme) → less ≤ from → Rising from end ws → Rising less end ws
rising_from less from end [] le h = omega (arith, le, h)
rising_from less from end (w ∷ ws) le h = (omega (arith, le, h.0), h.1)

rising_end : (from end : ℕ) (ws : List Lexeme) → Rising from end ws → from ≤ end
rising_end from end [] h = h
rising_end from end (w ∷ ws) h = omega (arith, h.0, rising_end w.line end ws h.1)

rising_joined : (from end : ℕ) (xs ys : List Lexeme) → Rising from end (xs ++ ys) → Rising from end ys
rising_joined from end [] ys h = h
rising_joined from end (x ∷ xs) ys h = rising_from from x.line end ys h.0 (rising_joined x.line end xs ys h.1)

rising_past : (line end : ℕ) (ws : List Lexeme) → Rising line end ws → Rising line end (past_line line ws)
rising_past line end ws h = rising_joined line end (on_line line ws) (past_line line ws) (subst (Rising line end) (cut_line line ws).2 h)

-- the line from which on a text may go on: that of the next lexeme, or behind the last line
abbrev pub line_of_next : ℕ → List Lexeme → ℕ
line_of_next end [] = end + 1
line_of_next end (w ∷ ws) = w.line

is_other : (w : Lexeme) (line : ℕ) → is_on_line line w ≡ false → line ≤ w.line → line < w.line
is_other w line other le = grind (arith, nat_tests)

-- what comes behind a line, and may go on otherwise, is off the line
off_joined : (line end : ℕ) (before vs past more : List Lexeme) → past ≡ before ++ vs → Off line past → Rising line end past → StartsFrom (line_of_next end vs) more → Off line (before ++ more)
off_joined line end [] [] past more e off rising starts = off_later line (end + 1) more (omega (arith, rising_end line end past rising)) starts
off_joined line end [] (v ∷ vs) past more e off rising starts =
    let here : is_on_line line v ≡ false = subst (Off line) e off in
    let up : Rising line end (v ∷ vs) = subst (Rising line end) e rising in
    off_later line v.line more (is_other v line here up.0) starts
off_joined line end (b ∷ before) vs past more e off rising starts = subst (Off line) e off

-- reading us as p is reading vs as q, after what is before it, and so it is where other lexemes follow
pub record Reach (p q : Awaited) (us vs : List Lexeme) (from : ℕ) : Type 0 where
  pub before : List Lexeme
  pub whole : us ≡ before ++ vs
  pub same : (more : List Lexeme) (end : ℕ) → StartsFrom from more → read_on p (unread (before ++ more) end) ≡ read_on q (unread more end)

-- what is awaited first is not there
abbrev pub Stuck : Awaited → List Lexeme → ℕ → Misfit → Type 0
Stuck (End P) vs end why = nothing_of vs ≡ Err why
Stuck (Word form next) vs end why = one_word form.awaited form.give (unread vs end) ≡ Err why
Stuck (Row earlier next) vs end why = shift_at earlier (unread vs end) ≡ Err why

-- where reading fails
pub record Found (p : Awaited) (us : List Lexeme) (end : ℕ) (why : Misfit) : Type 1 where
  pub q : Awaited
  pub vs : List Lexeme
  pub sound : IsSound q
  pub reach : Reach p q us vs (line_of_next end vs)
  pub stuck : Stuck q vs end why

here : (p : Awaited) (us : List Lexeme) (end : ℕ) (why : Misfit) → IsSound p → Stuck p us end why → Found p us end why
here p us end why sound stuck = record { q = p; vs = us; sound = sound; reach = record { before = []; whole = refl; same = λ more e from. refl }; stuck = stuck }

read_word : (form : WordForm) (next : form.X → Awaited) (w : Lexeme) (ws : List Lexeme) (end : ℕ) (x : form.X) → form.give w ≡ Ok x → read_on (Word form next) (unread (w ∷ ws) end) ≡ read_on (next x) (unread ws end)
unfolding read_on
read_word form next w ws end x e = ap (λ (r : Result (form.X × Unread) Misfit). r >>= (λ p. read_on (next p.0) p.1)) (word_reads form.awaited form.give w ws end x e)

behind_word : (form : WordForm) (next : form.X → Awaited) (w : Lexeme) (ws : List Lexeme) (end : ℕ) (why : Misfit) (x : form.X) → form.give w ≡ Ok x → Found (next x) ws end why → Found (Word form next) (w ∷ ws) end why
behind_word form next w ws end why x e f = record {
  q = f.q;
  vs = f.vs;
  sound = f.sound;
  reach = record {
    before = w ∷ f.reach.before;
    whole = ap (λ (zs : List Lexeme). w ∷ zs) f.reach.whole;
    same = λ more g from. read_word form next w (f.reach.before ++ more) g x e ∙ f.reach.same more g from;
  };
  stuck = f.stuck;
}

pub read_row : (earlier : List ShiftRow) (next : ShiftRow → Awaited) (us : List Lexeme) (end : ℕ) (row : ShiftRow) (v : Unread) → shift_at earlier (unread us end) ≡ Ok (row, v) → read_on (Row earlier next) (unread us end) ≡ read_on (next row) v
unfolding read_on
read_row earlier next us end row v e = ap (λ (r : Result (ShiftRow × Unread) Misfit). r >>= (λ p. read_on (next p.0) p.1)) e

behind_row : (earlier : List ShiftRow) (next : ShiftRow → Awaited) (w : Lexeme) (ws : List Lexeme) (end : ℕ) (why : Misfit) (row : ShiftRow) → IsGoodRow earlier row × IsRow row (w ∷ on_line w.line ws) → Rising w.line end ws → Found (next row) (past_line w.line ws) end why →
    Found (Row earlier next) (w ∷ ws) end why
behind_row earlier next w ws end why row r rising f =
    let cut : AllOn w.line (on_line w.line ws) × Off w.line (past_line w.line ws) × (ws ≡ on_line w.line ws ++ past_line w.line ws) = cut_line w.line ws in
    let up : Rising w.line end (past_line w.line ws) = rising_past w.line end ws rising in
    record {
      q = f.q;
      vs = f.vs;
      sound = f.sound;
      reach = record {
        before = (w ∷ on_line w.line ws) ++ f.reach.before;
        whole = ap (λ (zs : List Lexeme). w ∷ zs) (cut.2 ∙ ap (λ (zs : List Lexeme). on_line w.line ws ++ zs) f.reach.whole ∙ sym (append_assoc (on_line w.line ws) f.reach.before f.vs));
        same = λ more g from.
            ap (λ (zs : List Lexeme). read_on (Row earlier next) (unread zs g)) (append_assoc (w ∷ on_line w.line ws) f.reach.before more)
            ∙ read_row earlier next ((w ∷ on_line w.line ws) ++ (f.reach.before ++ more)) g row (unread (f.reach.before ++ more) g)
            (row_in_front earlier w.line (w ∷ on_line w.line ws) (f.reach.before ++ more) g row (refl, cut.0) (off_joined w.line end f.reach.before f.vs (past_line w.line ws) more f.reach.whole cut.1 up from) r.0 r.1)
            ∙ f.reach.same more g from;
      };
      stuck = f.stuck;
    }

-- the first failure is found
pub find : (p : Awaited) → IsSound p → (from end : ℕ) (us : List Lexeme) → Rising from end us → (why : Misfit) → read_on p (unread us end) ≡ Err why → Found p us end why
unfolding read_on next_at
find (End P) sound from end us rising why e = at (nothing_of us) refl e where
  at : (r : Result (Unit {0}) Misfit) → nothing_of us ≡ r → (r >>= (λ _. Ok P)) ≡ Err why → Found (End P) us end why
  at (Ok t) h g = absurd (cc)
  at (Err x) h g = here (End P) us end why sound (h ∙ ap failed (err_same {X = Instance} x why g))
find (Word form next) sound from end [] rising why e = here (Word form next) [] end why sound (ap failed (err_same {X = Instance} (TextEnds form.awaited end) why e))
find (Word form next) sound from end (w ∷ ws) rising why e =
    at (λ x g. find (next x) (sound.2 w x g) w.line end ws rising.1 why) (form.give w) refl e where
      at : ((x : form.X) → form.give w ≡ Ok x → read_on (next x) (unread ws end) ≡ Err why → Found (next x) ws end why) → (r : Result form.X Misfit) → form.give w ≡ r →
          (◌>>=◌ {A = form.X × Unread} {B = Instance} (◌>>=◌ {A = form.X} {B = form.X × Unread} r (λ x. Ok (x, unread ws end))) (λ p. read_on (next p.0) p.1)) ≡ Err why → Found (Word form next) (w ∷ ws) end why
      at more (Ok x) g h = behind_word form next w ws end why x g (more x g h)
      at more (Err x) g h = here (Word form next) (w ∷ ws) end why sound
          (ap (λ (r : Result form.X Misfit). ◌>>=◌ {A = form.X} {B = form.X × Unread} r (λ y. Ok (y, unread ws end))) g ∙ ap (failed {X = form.X × Unread}) (err_same {X = Instance} x why h))
find (Row earlier next) sound from end [] rising why e = at (shift_at earlier (unread [] end)) refl e where
  at : (r : Result (ShiftRow × Unread) Misfit) → shift_at earlier (unread [] end) ≡ r → (r >>= (λ p. read_on (next p.0) p.1)) ≡ Err why → Found (Row earlier next) [] end why
  at (Ok p) g h = absurd ((row_gives earlier [] end).found p g).0.1
  at (Err x) g h = here (Row earlier next) [] end why sound (g ∙ ap failed (err_same {X = Instance} x why h))
find (Row earlier next) sound from end (w ∷ ws) rising why e =
    at (λ row. find (next row) (sound.2 row) w.line end (past_line w.line ws) (rising_past w.line end ws rising.1) why) (shift_at earlier (unread (w ∷ ws) end)) refl e where
      at : ((row : ShiftRow) → read_on (next row) (unread (past_line w.line ws) end) ≡ Err why → Found (next row) (past_line w.line ws) end why) → (r : Result (ShiftRow × Unread) Misfit) → shift_at earlier (unread (w ∷ ws) end) ≡ r →
          (r >>= (λ p. read_on (next p.0) p.1)) ≡ Err why → Found (Row earlier next) (w ∷ ws) end why
      at more (Ok (row, v)) g h =
          let r = (row_gives earlier (w ∷ ws) end).found (row, v) g in
          behind_row earlier next w ws end why row r.0 rising.1 (more row (ap (read_on (next row)) (sym r.1) ∙ h))
      at more (Err x) g h = here (Row earlier next) (w ∷ ws) end why sound (g ∙ ap failed (err_same {X = Instance} x why h))
