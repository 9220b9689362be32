-- Symbols have names, and no two lists of lines have one text.
use Rattle.std.proofs.Common.{◌≡◌, ◌≢◌, ℕ, ◌≤◌, List, [], ◌∷◌, ◌++◌, length, refl, ap, sym, ◌∙◌, subst, append-nil, Option, Bool, false}
use Rattle.std.specs.List.{join_with_byte}
use Rattle.std.proofs.lemmas.List.Elements.{All-weaker}
use Rattle.rwsp_text.specs.Fields.{IsName}
use Rattle.rwsp_text.specs.Lines.{HasNoFeed}
use Rattle.rwsp_text.proofs.LineLaws.{join_no_feed, same_lines}
use Rattle.rwsp_terms.specs.Instance.{Instance, name_numbered}
use Rattle.rwsp_model.proofs.Names.{symbol_named, symbol_word}
use Rattle.rwsp_model.specs.Validity.{KeepsLimits, breaks_name}
use Rattle.refutation_terms.specs.declared.lines.Line.{Line}
use Rattle.refutation_terms.specs.Log.{LineFits}
use Rattle.refutation_terms.specs.LogText.{raw, raw_fields, lines_text}
use Rattle.refutation_terms.specs.TextLaws.{HasNames}
use Rattle.refutation_terms.proofs.Texts.{lines_fields, lines_written, line_words, lines_words, lines_longer}
use Rattle.refutation_log.specs.Printing.{EachFits}
use Rattle.refutation_log.proofs.LineTexts.{is_writable}

-- the symbol of a name

pub name_there : (P : Instance) (n : ℕ) → KeepsLimits P → n ≤ length P.shifts → IsName (name_numbered P n)
name_there P n limits le =
    let word = (symbol_word P n limits le).0 in
    record { some = word.some; visible = All-weaker (λ b. breaks_name b ≡ false) (λ b. (b ≢ 32) × (b ≢ 9) × (b ≢ 13) × (b ≢ 10)) seen (name_numbered P n) word.unbroken }
  where
    seen : (b : ℕ) → breaks_name b ≡ false → (b ≢ 32) × (b ≢ 9) × (b ≢ 13) × (b ≢ 10)
    seen b h = (
      λ e. let no : breaks_name 32 ≡ false = subst (λ z. breaks_name z ≡ false) e h in cc,
      λ e. let no : breaks_name 9 ≡ false = subst (λ z. breaks_name z ≡ false) e h in cc,
      λ e. let no : breaks_name 13 ≡ false = subst (λ z. breaks_name z ≡ false) e h in cc,
      λ e. let no : breaks_name 10 ≡ false = subst (λ z. breaks_name z ≡ false) e h in cc,
    )

pub has_names : (P : Instance) → KeepsLimits P → HasNames P
has_names P limits x is = (name_there P x.number limits is, symbol_named P x limits is)

-- texts of lines

abbrev pub body : Instance → Option ℕ → Line → List ℕ
body P goal line = join_with_byte 32 (raw_fields P (raw P goal line))

pub body_feedless : (P : Instance) (goal : Option ℕ) (counts : Bool) (line : Line) → KeepsLimits P → LineFits P goal counts line → HasNoFeed (body P goal line)
body_feedless P goal counts line limits f = join_no_feed (raw_fields P (raw P goal line)) (line_words P goal counts line (is_writable P limits) (has_names P limits) f).1

pub one_list : (P : Instance) (goal : Option ℕ) (counts : Bool) (ls ms : List Line) → KeepsLimits P → EachFits P goal counts ls → EachFits P goal counts ms → lines_text P goal ls ≡ lines_text P goal ms → ls ≡ ms
one_list P goal counts ls ms limits f g e =
    let w = is_writable P limits in
    let n = has_names P limits in
    let words = same_lines (lines_fields P goal ls) (lines_fields P goal ms) (lines_words P goal counts ls w n f) (lines_words P goal counts ms w n g) (sym (lines_written P goal ls) ∙ e ∙ lines_written P goal ms) in
    let longer = lines_longer P goal counts ms ls [] w n g f (words ∙ sym (append-nil (lines_fields P goal ms))) in
    longer.1 ∙ ap (λ z. ms ++ z) (nothing longer.0 longer.2) ∙ append-nil ms
  where
    nothing : (more : List Line) → [] ≡ lines_fields P goal more → more ≡ []
    nothing [] e = refl
    nothing (l ∷ ls) e = absurd (cc)
