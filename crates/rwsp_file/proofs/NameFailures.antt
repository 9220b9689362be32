-- Why the name of a shift is refused.
use Rattle.std.proofs.Common.{◌≡◌, ℕ, suc, ◌+◌, ◌<◌, ◌≤◌, List, ◌++◌, length, get_or, Bool, true, false, not, ◌&&◌, Option, Some, None, Ok, Err, refl, ap, sym, ◌∙◌, subst, arith, nat_le}
use Rattle.std.specs.Prelude.{if◌then◌else◌, position, unwrap_or, is_some}
use Rattle.std.specs.List.{list_any}
use Rattle.std.specs.Str.{bytes_eq}
use Rattle.std.proofs.lemmas.Bool.Decides.{nat_tests}
use Rattle.std.proofs.lemmas.List.{length-append, get_or_append_left}
use Rattle.std.proofs.lemmas.List.Quantifiers.{position-Some}
use Rattle.std.proofs.lemmas.Slice.Eq.{bytes_eq-Decides}
use Rattle.rwsp_text.specs.Lexemes.{Lexeme}
use Rattle.rwsp_terms.specs.Instance.{Instance, shift_count, name_numbered, off_name}
use Rattle.rwsp_terms.specs.declared.limits.TheConstants.{LONGEST_NAME}
use Rattle.rwsp_terms.specs.declared.data.ShiftRow.{ShiftRow}
use Rattle.rwsp_terms.proofs.SymbolNames.{no_row, in_place}
use Rattle.rwsp_file.specs.Reading.{new_name, holder}
use Rattle.rwsp_file.specs.declared.misfit.Misfit.{Misfit}
use Rattle.rwsp_file.specs.declared.misfit.Misfit.TheVariants.{BadWord}
use Rattle.rwsp_file.specs.declared.misfit.Fault.TheVariants.{LongName, OffName, TakenName}
use Rattle.rwsp_file.specs.declared.misfit.Place.TheVariants.{ShiftName}
use Rattle.rwsp_file.proofs.Lines.{is_some-position}
use Rattle.rwsp_file.proofs.Readers.{failed, err_same}
use Rattle.rwsp_file.proofs.Forms.{IsRefused}

-- the shifts of the instance begin with the earlier ones
abbrev pub BeginsWith : List ShiftRow → Instance → Type 0
BeginsWith earlier P = (rest : List ShiftRow) × (P.shifts ≡ earlier ++ rest)

-- the row has the name
abbrev has_name : List ℕ → ShiftRow → Bool
has_name text row = bytes_eq text row.name

taken : (earlier : List ShiftRow) (text : List ℕ) (P : Instance) → list_any (has_name text) earlier ≡ true → BeginsWith earlier P → ((1 ≤ holder earlier text) × (holder earlier text < length earlier + 1)) × (holder earlier text ≤ shift_count P) × (text ≡ name_numbered P (holder earlier text))
taken earlier text P some begins = at (position (has_name text) earlier) refl where
  none : position (has_name text) earlier ≡ None → ⊥
  none e =
      let no : false ≡ true = ap is_some (sym e) ∙ is_some-position (has_name text) earlier ∙ some in
      absurd (cc)

  at : (o : Option ℕ) → position (has_name text) earlier ≡ o → ((1 ≤ holder earlier text) × (holder earlier text < length earlier + 1)) × (holder earlier text ≤ shift_count P) × (text ≡ name_numbered P (holder earlier text))
  at None e = absurd (none e)
  at (Some i) e =
      let f : (i < length earlier) × (has_name text (get_or earlier i no_row) ≡ true) × ((k : ℕ) → k < i → has_name text (get_or earlier k no_row) ≡ false) = position-Some (has_name text) earlier i no_row e in
      let n : holder earlier text ≡ i + 1 = ap (λ (o : Option ℕ). unwrap_or o 0 + 1) e in
      let next : suc i ≡ i + 1 = omega arith in
      let long : length P.shifts ≡ length earlier + length begins.0 = ap length begins.1 ∙ length-append earlier begins.0 in
      let less : i < length P.shifts = omega (arith, long, f.0) in
      let row : get_or P.shifts i no_row ≡ get_or earlier i no_row = ap (λ (rs : List ShiftRow). get_or rs i no_row) begins.1 ∙ get_or_append_left earlier begins.0 no_row i f.0 in
      let named : text ≡ (get_or earlier i no_row).name = (bytes_eq-Decides text (get_or earlier i no_row).name).0 f.1 in
      subst (λ k. ((1 ≤ k) × (k < length earlier + 1)) × (k ≤ shift_count P) × (text ≡ name_numbered P k)) (sym n)
      ((omega arith, omega (arith, f.0)), omega (arith, less), named ∙ ap (λ (r : ShiftRow). r.name) (sym row) ∙ sym (in_place P i less) ∙ ap (name_numbered P) next)

pub name_refused : (earlier : List ShiftRow) (w : Lexeme) (why : Misfit) → new_name earlier w ≡ Err why → IsRefused (ShiftName (length earlier + 1)) w why (BeginsWith earlier)
unfolding new_name
name_refused earlier w why e = at (nat_le (length w.text) LONGEST_NAME) refl (bytes_eq w.text off_name) refl (list_any (has_name w.text) earlier) refl e where
  at : (short : Bool) → nat_le (length w.text) LONGEST_NAME ≡ short → (off : Bool) → bytes_eq w.text off_name ≡ off → (old : Bool) → list_any (has_name w.text) earlier ≡ old →
      (if short && not off && not old then Ok w.text else failed {X = List ℕ} (BadWord (ShiftName (length earlier + 1)) w (if short then (if off then OffName else TakenName (holder earlier w.text)) else LongName))) ≡ Err why →
      IsRefused (ShiftName (length earlier + 1)) w why (BeginsWith earlier)
  at false h off i old j g = record {
    fault = LongName;
    same = sym (err_same {X = List ℕ} (BadWord (ShiftName (length earlier + 1)) w LongName) why g);
    rests = λ left. tt;
    broken = λ front P begins. grind (arith, nat_tests);
  }
  at true h true i old j g = record {
    fault = OffName;
    same = sym (err_same {X = List ℕ} (BadWord (ShiftName (length earlier + 1)) w OffName) why g);
    rests = λ left. tt;
    broken = λ front P begins. (bytes_eq-Decides w.text off_name).0 i;
  }
  at true h false i true j g = record {
    fault = TakenName (holder earlier w.text);
    same = sym (err_same {X = List ℕ} (BadWord (ShiftName (length earlier + 1)) w (TakenName (holder earlier w.text))) why g);
    rests = λ left. tt;
    broken = λ front P begins. taken earlier w.text P j begins;
  }
  at true h false i false j g = absurd (cc)
