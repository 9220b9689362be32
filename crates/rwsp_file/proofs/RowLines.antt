-- The row of a shift takes its line, whatever stands on the lines behind it.
use Rattle.std.proofs.Common.{◌≡◌, ℕ, suc, ◌+◌, List, [], ◌∷◌, ◌++◌, Bool, true, false, cond, Ok, refl, ap, sym, ◌∙◌, subst, arith, take, drop, append-nil}
use Rattle.std.specs.List.{prefix_len, AllByRecursion}
use Rattle.std.proofs.lemmas.Bool.{eq-eqb, eqb-true}
use Rattle.rwsp_text.specs.Lexemes.{Lexeme}
use Rattle.rwsp_terms.specs.declared.data.ShiftRow.{ShiftRow}
use Rattle.rwsp_file.specs.Spelling.{IsRow, is_on_line, on_line, past_line}
use Rattle.rwsp_file.specs.Reading.{shift_at}
use Rattle.rwsp_file.proofs.Lines.{unread}
use Rattle.rwsp_file.proofs.RowReader.{IsGoodRow, first_line, row_gives}

-- all lexemes are on the line
abbrev pub AllOn : ℕ → List Lexeme → Type 0
AllOn line ws = AllByRecursion (λ w. w.line ≡ line) ws

-- the first lexeme is not on the line
abbrev pub Off : ℕ → List Lexeme → Type 0
Off line [] = Unit {0}
Off line (w ∷ ws) = is_on_line line w ≡ false

on_yes : (line : ℕ) (w : Lexeme) (ws : List Lexeme) → is_on_line line w ≡ true → (on_line line (w ∷ ws) ≡ w ∷ on_line line ws) × (past_line line (w ∷ ws) ≡ past_line line ws)
on_yes line w ws e =
    let next : 1 + prefix_len (is_on_line line) ws ≡ suc (prefix_len (is_on_line line) ws) = omega arith in (
      ap (λ b. take (cond b (1 + prefix_len (is_on_line line) ws) 0) (w ∷ ws)) e ∙ ap (λ n. take n (w ∷ ws)) next,
      ap (λ b. drop (cond b (1 + prefix_len (is_on_line line) ws) 0) (w ∷ ws)) e ∙ ap (λ n. drop n (w ∷ ws)) next,
    )

on_no : (line : ℕ) (w : Lexeme) (ws : List Lexeme) → is_on_line line w ≡ false → (on_line line (w ∷ ws) ≡ []) × (past_line line (w ∷ ws) ≡ w ∷ ws)
on_no line w ws e = (
  ap (λ b. take (cond b (1 + prefix_len (is_on_line line) ws) 0) (w ∷ ws)) e,
  ap (λ b. drop (cond b (1 + prefix_len (is_on_line line) ws) 0) (w ∷ ws)) e,
)

pub off_line : (line : ℕ) (ws : List Lexeme) → Off line ws → (on_line line ws ≡ []) × (past_line line ws ≡ ws)
off_line line [] h = (refl, refl)
off_line line (w ∷ ws) h = on_no line w ws h

pub joined_line : (line : ℕ) (xs ys : List Lexeme) → AllOn line xs → (on_line line (xs ++ ys) ≡ xs ++ on_line line ys) × (past_line line (xs ++ ys) ≡ past_line line ys)
joined_line line [] ys h = (refl, refl)
joined_line line (x ∷ xs) ys h =
    let here : (on_line line (x ∷ (xs ++ ys)) ≡ x ∷ on_line line (xs ++ ys)) × (past_line line (x ∷ (xs ++ ys)) ≡ past_line line (xs ++ ys)) = on_yes line x (xs ++ ys) (eq-eqb x.line line h.0) in
    let more : (on_line line (xs ++ ys) ≡ xs ++ on_line line ys) × (past_line line (xs ++ ys) ≡ past_line line ys) = joined_line line xs ys h.1 in
    (here.0 ∙ ap (λ (zs : List Lexeme). x ∷ zs) more.0, here.1 ∙ more.1)

-- the lexemes are those of the line and those behind it
pub cut_line : (line : ℕ) (ws : List Lexeme) → AllOn line (on_line line ws) × Off line (past_line line ws) × (ws ≡ on_line line ws ++ past_line line ws)
cut_line line [] = (tt, tt, refl)
cut_line line (w ∷ ws) = at (cut_line line ws) (is_on_line line w) refl where
  at : AllOn line (on_line line ws) × Off line (past_line line ws) × (ws ≡ on_line line ws ++ past_line line ws) → (b : Bool) → is_on_line line w ≡ b → AllOn line (on_line line (w ∷ ws)) × Off line (past_line line (w ∷ ws)) × (w ∷ ws ≡ on_line line (w ∷ ws) ++ past_line line (w ∷ ws))
  at more true e =
      let here : (on_line line (w ∷ ws) ≡ w ∷ on_line line ws) × (past_line line (w ∷ ws) ≡ past_line line ws) = on_yes line w ws e in (
        subst (AllOn line) (sym here.0) (eqb-true w.line line e, more.0),
        subst (Off line) (sym here.1) more.1,
        ap (λ (zs : List Lexeme). w ∷ zs) more.2 ∙ ap (λ (zs : List Lexeme). zs ++ past_line line ws) (sym here.0) ∙ ap (λ (zs : List Lexeme). on_line line (w ∷ ws) ++ zs) (sym here.1),
      )
  at more false e =
      let here : (on_line line (w ∷ ws) ≡ []) × (past_line line (w ∷ ws) ≡ w ∷ ws) = on_no line w ws e in (
        subst (AllOn line) (sym here.0) tt,
        subst (Off line) (sym here.1) e,
        ap (λ (zs : List Lexeme). zs ++ (w ∷ ws)) (sym here.0) ∙ ap (λ (zs : List Lexeme). on_line line (w ∷ ws) ++ zs) (sym here.1),
      )

-- the first line of lexemes that begin with some of one line
pub first_joined : (line : ℕ) (xs : List Lexeme) (w : Lexeme) (ys : List Lexeme) → AllOn line xs → w.line ≡ line → first_line (xs ++ w ∷ ys) ≡ xs ++ w ∷ on_line line ys
first_joined line [] w ys h e = ap (λ l. w ∷ on_line l ys) e
first_joined line (x ∷ xs) w ys h e =
    ap (λ l. x ∷ on_line l (xs ++ w ∷ ys)) h.0
    ∙ ap (λ (zs : List Lexeme). x ∷ zs) ((joined_line line xs (w ∷ ys) h.1).0 ∙ ap (λ (zs : List Lexeme). xs ++ zs) (on_yes line w ys (eq-eqb w.line line e)).0)

-- a row that is the whole of its line, in front of others
pub row_in_front : (earlier : List ShiftRow) (line : ℕ) (ws rest : List Lexeme) (end : ℕ) (row : ShiftRow) → AllOn line ws → Off line rest → IsGoodRow earlier row → IsRow row ws → shift_at earlier (unread (ws ++ rest) end) ≡ Ok (row, unread rest end)
row_in_front earlier line [] rest end row all off good is = absurd is
row_in_front earlier line (w ∷ ws) rest end row all off good is =
    let cut : (on_line w.line (ws ++ rest) ≡ ws) × (past_line w.line (ws ++ rest) ≡ rest) = (
      ap (λ l. on_line l (ws ++ rest)) all.0 ∙ (joined_line line ws rest all.1).0 ∙ ap (λ (zs : List Lexeme). ws ++ zs) (off_line line rest off).0 ∙ append-nil ws,
      ap (λ l. past_line l (ws ++ rest)) all.0 ∙ (joined_line line ws rest all.1).1 ∙ (off_line line rest off).1,
    ) in
    (row_gives earlier (w ∷ (ws ++ rest)) end).only (row, unread rest end) ((good, subst (λ (zs : List Lexeme). IsRow row (w ∷ zs)) (sym cut.0) is), ap (λ (zs : List Lexeme). unread zs end) (sym cut.1))
