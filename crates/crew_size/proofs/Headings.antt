-- The numbers of headings, written and read, and headings as lines of words.
use Rattle.std.proofs.Common.{◌≡◌, ◌≢◌, ℕ, ◌^◌, ◌<◌, ◌≤◌, List, [], ◌∷◌, ◌++◌, length, get_or, Bool, true, false, cond, ◌&&◌, Option, Some, None, refl, ap, sym, ◌∙◌, subst, arith, lit<}
use Rattle.std.specs.Prelude.{nat_le, codes, MatchOption}
use Rattle.std.specs.List.{list_all}
use Rattle.std.specs.Char.{is_ascii_digit}
use Rattle.std.specs.Fmt.{decimal}
use Rattle.std.proofs.lemmas.Bool.{and_parts, leb-true}
use Rattle.std.proofs.lemmas.Fmt.{decimal_digit, first_decimal, decimal-digits_value, decimal_injective}
use Rattle.std.proofs.lemmas.List.{append-nil, append_assoc, append_cancel_left, append_cancel_right}
use Rattle.std.proofs.lemmas.Str.Parse.{digits_value_short}
use Rattle.rwsp_text.specs.Fields.{Words, text_of}
use Rattle.rwsp_text.specs.Lines.{AreWords, IsNextLine}
use Rattle.rwsp_text.specs.Numbers.{number_of, value_of}
use Rattle.rwsp_text.proofs.KindLaws.{decimal_blankless, word_blankless}
use Rattle.rwsp_text.proofs.LineLaws.{same_words, text_is_line}
use Rattle.rwsp_text.proofs.Printed.{ascii_digits_model, printed_is_read}
use Rattle.crew_size.specs.Places.{heading_line, IsHeadingNumber, HasNumber, HasNoNumber}
use Rattle.crew_size.specs.declared.heading.Heading.{Heading}
use Rattle.crew_size.specs.declared.heading.Heading.TheVariants.{Refuted, Found, NoneTo}

some_of : (b : Bool) (x n : ℕ) → cond b (Some x) None ≡ Some n → (b ≡ true) × (x ≡ n)
some_of true x n e = (refl, let same : x ≡ n = cc in same)
some_of false x n e = absurd (cc)

-- digits with no 0 in front are those of the number that they spell
plain_digits : (w : List ℕ) (n : ℕ) → number_of w ≡ Some n → (get_or w 0 0 ≡ 48 → ⊥) → (1 ≤ n) × (n < 10 ^ 9) × (w ≡ decimal n)
plain_digits w n e first =
    let t = some_of (nat_le 1 (length w) && nat_le (length w) 9 && list_all is_ascii_digit w) (value_of w) n e in
    let tests = and_parts (nat_le 1 (length w) && nat_le (length w) 9) (list_all is_ascii_digit w) t.0 in
    let lens = and_parts (nat_le 1 (length w)) (nat_le (length w) 9) tests.0 in
    let some : 0 < length w = leb-true 1 (length w) lens.0 in
    let short : value_of w < 10 ^ 9 = digits_value_short ascii_digits_model w 9 tests.1 (leb-true (length w) 9 lens.1) in
    let text : decimal (value_of w) ≡ w = decimal-digits_value ascii_digits_model w tests.1 some (λ z. absurd (first z)) (omega (arith, short)) in
    let same : w ≡ decimal n = sym text ∙ ap decimal t.1 in
    let not_zero : n ≢ 0 = λ z. first (ap (λ v. get_or v 0 0) (same ∙ ap decimal z ∙ decimal_digit 0 (lit< tt))) in
    (omega (arith, not_zero), subst (λ k. k < 10 ^ 9) t.1 short, same)

first_is_other : (w : List ℕ) → ((rest : List ℕ) → w ≢ 48 ∷ rest) → get_or w 0 0 ≡ 48 → ⊥
first_is_other [] h e = absurd (cc)
first_is_other (b ∷ w) h e = h w (ap (λ c. c ∷ w) e)

pub number_read : (w : List ℕ) (o : Option ℕ) → ((rest : List ℕ) → w ≢ 48 ∷ rest) → o ≡ number_of w → MatchOption o (HasNoNumber w [] []) (HasNumber w [] [])
number_read w None first e = λ m a b f.
    let read : number_of w ≡ Some m = ap number_of (f ∙ append-nil (decimal m)) ∙ printed_is_read m b in
    absurd (cc)
number_read w (Some n) first e =
    let d = plain_digits w n (sym e) (first_is_other w first) in (d.0, d.1, d.2 ∙ sym (append-nil (decimal n)))

pub zero_in_front : (w rest : List ℕ) → w ≡ 48 ∷ rest → HasNoNumber w [] []
zero_in_front w rest e = λ m a b f.
    let first = first_decimal m a (omega (arith, b)) in
    let same : 48 ≡ get_or (decimal m) 0 0 = ap (λ v. get_or v 0 0) (sym e ∙ f ∙ append-nil (decimal m)) in
    omega (arith, first, same)

-- between a word and what closes the line
pub no_close : (line word close rest : List ℕ) → line ≡ word ++ rest → ((front : List ℕ) → rest ≢ front ++ close) → HasNoNumber line word close
no_close line word close rest e h = λ m a b f. h (decimal m) (append_cancel_left word rest (decimal m ++ close) (sym e ∙ f))

pub between : (line word close rest digits : List ℕ) (o : Option ℕ) → line ≡ word ++ rest → rest ≡ digits ++ close → MatchOption o (HasNoNumber digits [] []) (HasNumber digits [] []) → MatchOption o (HasNoNumber line word close) (HasNumber line word close)
between line word close rest digits None e f h = λ m a b g.
    let same : rest ≡ decimal m ++ close = append_cancel_left word rest (decimal m ++ close) (sym e ∙ g) in
    h m a b (append_cancel_right digits (decimal m) close (sym f ∙ same) ∙ sym (append-nil (decimal m)))
between line word close rest digits (Some n) e f h =
    (h.0, h.1, e ∙ ap (λ t. word ++ t) (f ∙ ap (λ t. t ++ close) (h.2 ∙ append-nil (decimal n))))

-- a line that is none of the three is no heading
pub no_heading : (line : List ℕ) → HasNoNumber line (codes "weeks ") (codes " none" ++ 10 ∷ []) → HasNoNumber line (codes "weeks ") (codes " roster" ++ 10 ∷ []) → HasNoNumber line (codes "none to ") (10 ∷ []) → (h : Heading) → IsHeadingNumber h → line ≢ heading_line h
no_heading line a b c (Refuted m) w = a m w.0 w.1
no_heading line a b c (Found m) w = b m w.0 w.1
no_heading line a b c (NoneTo m) w = c m w.0 w.1

-- a heading is a line of words

abbrev pub heading_fields : Heading → Words
heading_fields (Refuted m) = codes "weeks" ∷ decimal m ∷ codes "none" ∷ []
heading_fields (Found m) = codes "weeks" ∷ decimal m ∷ codes "roster" ∷ []
heading_fields (NoneTo m) = codes "none" ∷ codes "to" ∷ decimal m ∷ []

pub heading_written : (h : Heading) → heading_line h ≡ text_of (heading_fields h)
heading_written (Refuted m) = ap (λ t. codes "weeks " ++ t) (sym (append_assoc (decimal m) (codes " none") (10 ∷ [])))
heading_written (Found m) = ap (λ t. codes "weeks " ++ t) (sym (append_assoc (decimal m) (codes " roster") (10 ∷ [])))
heading_written (NoneTo m) = refl

pub heading_words : (h : Heading) → IsHeadingNumber h → AreWords (heading_fields h)
heading_words (Refuted m) w = (omega arith, (word_blankless (codes "weeks") refl, (decimal_blankless m (omega (arith, w.1)), (word_blankless (codes "none") refl, tt))))
heading_words (Found m) w = (omega arith, (word_blankless (codes "weeks") refl, (decimal_blankless m (omega (arith, w.1)), (word_blankless (codes "roster") refl, tt))))
heading_words (NoneTo m) w = (omega arith, (word_blankless (codes "none") refl, (word_blankless (codes "to") refl, (decimal_blankless m (omega (arith, w.1)), tt))))

pub heading_is_line : (h : Heading) (rest : List ℕ) → IsHeadingNumber h → IsNextLine (heading_line h) rest
heading_is_line h rest w = subst (λ line. IsNextLine line rest) (sym (heading_written h)) (text_is_line (heading_fields h) rest (heading_words h w).1)

-- headings are told apart
fields_once : (h k : Heading) → IsHeadingNumber h → IsHeadingNumber k → heading_fields h ≡ heading_fields k → h ≡ k
fields_once (Refuted m) (Refuted k) w v e = let same : decimal m ≡ decimal k = cc in ap (λ (n : ℕ). Refuted n) (decimal_injective m k (omega (arith, w.1)) (omega (arith, v.1)) same)
fields_once (Found m) (Found k) w v e = let same : decimal m ≡ decimal k = cc in ap (λ (n : ℕ). Found n) (decimal_injective m k (omega (arith, w.1)) (omega (arith, v.1)) same)
fields_once (NoneTo m) (NoneTo k) w v e = let same : decimal m ≡ decimal k = cc in ap (λ (n : ℕ). NoneTo n) (decimal_injective m k (omega (arith, w.1)) (omega (arith, v.1)) same)
fields_once h k w v e = absurd (cc)

pub headings_once : (h k : Heading) (t u : List ℕ) → IsHeadingNumber h → IsHeadingNumber k → heading_line h ++ t ≡ heading_line k ++ u → (h ≡ k) × (t ≡ u)
headings_once h k t u w v e =
    let once = same_words (heading_fields h) (heading_fields k) t u (heading_words h w) (heading_words k v) (ap (λ l. l ++ t) (sym (heading_written h)) ∙ e ∙ ap (λ l. l ++ u) (heading_written k)) in
    (fields_once h k w v once.0, once.1)
