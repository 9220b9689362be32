-- What reading keeps, step by step.
use Rattle.std.proofs.Common.{◌≡◌, ◌≢◌, ℕ, zero, suc, ◌+◌, ◌<◌, ◌≤◌, List, [], ◌∷◌, ◌++◌, length, get_or, drop, refl, ap, sym, ◌∙◌, arith, subst, append_assoc, append-nil, length-append, Option, Some, None, Bool, true, false, cond, eq-eqb, inl, inr}
use Rattle.std.specs.Prelude.{Result, Err, map, filter, All, slice_range, ◌==◌, is_none}
use Rattle.std.specs.List.{flat_map, list_any, enumerate_from}
use Rattle.std.specs.Option.{option_or}
use Rattle.std.proofs.lemmas.Bool.{cond-true, cond-false, or_from, or_right, or_left, ne_eqb}
use Rattle.std.proofs.lemmas.List.{drop_all, map-append, drop_more, length-map}
use Rattle.std.proofs.lemmas.List.Elements.{All-weaker}
use Rattle.std.proofs.lemmas.List.Splits.{slice_split_none, slice_split_at}
use Rattle.rwsp_text.specs.Lexemes.{Lexeme, lines_of, words_of_line, has_some, lexemes}
use Rattle.rwsp_text.specs.Lines.{HasNoFeed, IsNextLine}
use Rattle.rwsp_text.specs.Places.{lexeme_at}
use Rattle.rwsp_text.specs.declared.scan.Token.{Token}
use Rattle.rwsp_terms.specs.Instance.{Instance}
use Rattle.rwsp_model.specs.Refusals.{IfRefused}
use Rattle.rwsp_model.specs.declared.fail.Fail.{Fail}
use Rattle.rwsp_model.specs.declared.fail.Fail.TheVariants.{Refused, Memory}
use Rattle.roster_print.specs.Refusal.{numbered_weeks, week_refusal, first_refusal}
use Rattle.roster_print.specs.Reading.{words_at, words_in}
use Rattle.roster_print.specs.declared.refusal.RosterRefusal.{RosterRefusal}
use Rattle.roster_print.specs.declared.refusal.RosterRefusal.TheVariants.{Unknown, Width}

-- the weeks of a text whose lines have numbers from n on
abbrev pub weeks_left : ℕ → List ℕ → List (ℕ × List (List ℕ))
weeks_left n bytes = filter (λ week. has_some week.1) (enumerate_from n (map words_of_line (lines_of bytes)))

-- the cells that were read, with the weeks that are left, make what the whole makes
pub record ReadsOn {A : Type 0} (P : Instance) (said : List ℕ → Option A) (bytes : List ℕ) (left : List (ℕ × List (List ℕ))) (cells : List A) (weeks : ℕ) : Type 0 where
  pub refusal : first_refusal P said left ≡ first_refusal P said (numbered_weeks bytes)
  pub names : map Some cells ++ map said (flat_map (λ week. week.1) left) ≡ map said (flat_map (λ week. week.1) (numbered_weeks bytes))
  pub count : weeks + length left ≡ length (numbered_weeks bytes)

-- names in the order of words

pub name_read : {A : Type 0} (said : List ℕ → Option A) (text : List ℕ) (words : List Token) (i : ℕ) (d : Token) (x : A) (old cells new : List A) → i < length words → map Some cells ++ map said (words_at text (drop i words)) ≡ map Some old ++ map said (words_at text words) → said (slice_range text (get_or words i d).start (get_or words i d).end) ≡ Some x → new ≡ cells ++ x ∷ [] → map Some new ++ map said (words_at text (drop (i + 1) words)) ≡ map Some old ++ map said (words_at text words)
name_read said text words i d x old cells new h inv e pushed =
    let rest = map said (words_at text (drop (i + 1) words)) in
    ap (λ cs. map Some cs ++ rest) pushed
    ∙ ap (λ w. w ++ rest) (map-append Some cells (x ∷ []))
    ∙ append_assoc (map Some cells) (Some x ∷ []) rest
    ∙ ap (λ o. map Some cells ++ o ∷ rest) (sym e)
    ∙ ap (λ ws. map Some cells ++ map said (words_at text ws)) (sym (drop_more words i d h))
    ∙ inv

pub names_done : {A : Type 0} (said : List ℕ → Option A) (text : List ℕ) (words : List Token) (i : ℕ) (old cells : List A) → length words ≤ i → map Some cells ++ map said (words_at text (drop i words)) ≡ map Some old ++ map said (words_at text words) → map Some cells ≡ map Some old ++ map said (words_at text words)
names_done said text words i old cells h inv =
    sym (append-nil (map Some cells))
    ∙ ap (λ ws. map Some cells ++ map said (words_at text ws)) (sym (drop_all i words h))
    ∙ inv

pub unknown_there : {A : Type 0} (said : List ℕ → Option A) (text : List ℕ) (words : List Token) (i : ℕ) (d : Token) → i < length words → said (slice_range text (get_or words i d).start (get_or words i d).end) ≡ None → list_any (λ word. is_none (said word)) (words_at text words) ≡ true
unknown_there said text [] i d h e = absurd (omega arith)
unknown_there said text (word ∷ words) zero d h e = or_left (is_none (said (slice_range text word.start word.end))) (list_any (λ w. is_none (said w)) (words_at text words)) (ap is_none e)
unknown_there said text (word ∷ words) (suc i) d h e =
    let below : i < length words = omega arith in
    or_right (is_none (said (slice_range text word.start word.end))) (list_any (λ w. is_none (said w)) (words_at text words)) (unknown_there said text words i d below e)

-- what a week's words say of its refusal

pub week_unknown : {A : Type 0} (P : Instance) (said : List ℕ → Option A) (line : ℕ) (words : List (List ℕ)) (why : RosterRefusal) → why ≡ Unknown line → list_any (λ word. is_none (said word)) words ≡ true → week_refusal P said (line, words) ≡ Some why
week_unknown P said line words why e h =
    cond-true (list_any (λ word. is_none (said word)) words) (Some (Unknown line)) (cond (length words == P.days) None (Some (Width line))) h
    ∙ ap Some (sym e)

known : {A : Type 0} (said : List ℕ → Option A) (words : List (List ℕ)) (old new : List A) → map Some new ≡ map Some old ++ map said words → list_any (λ word. is_none (said word)) words ≡ false
known said words (x ∷ old) [] e = absurd (cc)
known said words (x ∷ old) (y ∷ new) e = known said words old new (cc)
known said [] [] new e = refl
known said (word ∷ words) [] [] e = absurd (cc)
known said (word ∷ words) [] (y ∷ new) e =
    let one : said word ≡ Some y = cc in
    or_from (is_none (said word)) (list_any (λ w. is_none (said w)) words) (ap is_none one) (known said words [] new (cc))

pub week_wide : {A : Type 0} (P : Instance) (said : List ℕ → Option A) (line : ℕ) (text : List ℕ) (words : List Token) (old new : List A) → map Some new ≡ map Some old ++ map said (words_at text words) → length words ≢ P.days → week_refusal P said (line, words_at text words) ≡ Some (Width line)
week_wide P said line text words old new e h =
    let ws = words_at text words in
    let long : length ws ≡ length words = length-map words (λ t. slice_range text t.start t.end) in
    cond-false (list_any (λ word. is_none (said word)) ws) (Some (Unknown line)) (cond (length ws == P.days) None (Some (Width line))) (known said ws old new e)
    ∙ cond-false (length ws == P.days) None (Some (Width line)) (ne_eqb (length ws) P.days (λ same. h (sym long ∙ same)))

pub week_accepted : {A : Type 0} (P : Instance) (said : List ℕ → Option A) (line : ℕ) (text : List ℕ) (words : List Token) (old new : List A) → map Some new ≡ map Some old ++ map said (words_at text words) → length words ≡ P.days → week_refusal P said (line, words_at text words) ≡ None
week_accepted P said line text words old new e h =
    let ws = words_at text words in
    let long : length ws ≡ length words = length-map words (λ t. slice_range text t.start t.end) in
    cond-false (list_any (λ word. is_none (said word)) ws) (Some (Unknown line)) (cond (length ws == P.days) None (Some (Width line))) (known said ws old new e)
    ∙ cond-true (length ws == P.days) None (Some (Width line)) (eq-eqb (length ws) P.days (long ∙ h))

-- the words of a text, by its tokens

texts : (text : List ℕ) (words : List Token) → map (λ l. l.text) (map (lexeme_at text) words) ≡ words_at text words
texts text [] = refl
texts text (word ∷ words) = ap (λ ws. slice_range text word.start word.end ∷ ws) (texts text words)

lexeme_texts : (n : ℕ) (words : List (List ℕ)) (rest : List Lexeme) → map (λ (l : Lexeme). l.text) (map (λ word. record { text = word; line = n }) words ++ rest) ≡ words ++ map (λ (l : Lexeme). l.text) rest
lexeme_texts n [] rest = refl
lexeme_texts n (word ∷ words) rest = ap (λ ws. word ∷ ws) (lexeme_texts n words rest)

abbrev line_lexemes : ℕ → List (List ℕ) → List Lexeme
line_lexemes n lines = flat_map (λ l. map (λ word. record { text = word; line = l.0 }) (words_of_line l.1)) (enumerate_from n lines)

lines_words : (n : ℕ) (lines : List (List ℕ)) → map (λ (l : Lexeme). l.text) (line_lexemes n lines) ≡ flat_map words_of_line lines
lines_words n [] = refl
lines_words n (line ∷ lines) = lexeme_texts n (words_of_line line) (line_lexemes (n + 1) lines) ∙ ap (λ ws. words_of_line line ++ ws) (lines_words (n + 1) lines)

pub text_words : (text : List ℕ) (words : List Token) → map (lexeme_at text) words ≡ lexemes text → words_at text words ≡ words_in text
text_words text words e = sym (texts text words) ∙ ap (map (λ l. l.text)) e ∙ lines_words 1 (lines_of text)

-- the first line of a text, and the others

-- the line is the first of a text, of which the rest is left
pub record IsFirst (line rest bytes : List ℕ) : Type 0 where
  pub whole : bytes ≡ line ++ rest
  pub some : line ≢ []
  pub ends : IsNextLine line rest

no_ends : (bytes : List ℕ) → HasNoFeed bytes → All (λ b. (b == 10) ≡ false) bytes
no_ends bytes h = All-weaker (λ b. b ≢ 10) (λ b. (b == 10) ≡ false) (λ b ne. ne_eqb b 10 ne) bytes h

pub left_is : (line rest bytes : List ℕ) (n : ℕ) → IsFirst line rest bytes → weeks_left n bytes ≡ cond (has_some (words_in line)) ((n, words_in line) ∷ weeks_left (n + 1) rest) (weeks_left (n + 1) rest)
left_is line rest bytes n l = ap (weeks_left n) l.whole ∙ by l.ends
  where
    by : IsNextLine line rest → weeks_left n (line ++ rest) ≡ cond (has_some (words_in line)) ((n, words_in line) ∷ weeks_left (n + 1) rest) (weeks_left (n + 1) rest)
    by (inl a) =
        let words : words_in line ≡ words_of_line a.0 =
        ap words_in a.2 ∙ ap (flat_map words_of_line) (slice_split_at (λ b. b == 10) a.0 10 [] (no_ends a.0 a.1) refl) ∙ append-nil (words_of_line a.0) in
        let cut : lines_of (line ++ rest) ≡ a.0 ∷ lines_of rest =
        ap (λ t. lines_of (t ++ rest)) a.2 ∙ ap lines_of (append_assoc a.0 (10 ∷ []) rest) ∙ slice_split_at (λ b. b == 10) a.0 10 rest (no_ends a.0 a.1) refl in
        ap (λ ls. filter (λ week. has_some week.1) (enumerate_from n (map words_of_line ls))) cut
        ∙ ap (λ ws. cond (has_some ws) ((n, ws) ∷ weeks_left (n + 1) rest) (weeks_left (n + 1) rest)) (sym words)
    by (inr a) =
        let one : lines_of line ≡ line ∷ [] = slice_split_none (λ b. b == 10) line (no_ends line a.1) in
        let words : words_in line ≡ words_of_line line = ap (flat_map words_of_line) one ∙ append-nil (words_of_line line) in
        ap (λ r. weeks_left n (line ++ r)) a.2 ∙ ap (weeks_left n) (append-nil line)
        ∙ ap (λ ls. filter (λ week. has_some week.1) (enumerate_from n (map words_of_line ls))) one
        ∙ ap (λ ws. cond (has_some ws) ((n, ws) ∷ []) []) (sym words)
        ∙ ap (λ r. cond (has_some (words_in line)) ((n, words_in line) ∷ weeks_left (n + 1) r) (weeks_left (n + 1) r)) (sym a.2)

-- what is read of a text, and what is left

no_refusal : {A : Type 0} (P : Instance) (said : List ℕ → Option A) (week : ℕ × List (List ℕ)) (weeks : List (ℕ × List (List ℕ))) → week_refusal P said week ≡ None → first_refusal P said (week ∷ weeks) ≡ first_refusal P said weeks
no_refusal P said week weeks h = ap (λ o. option_or o (first_refusal P said weeks)) h

skip : {A : Type 0} (P : Instance) (said : List ℕ → Option A) (bytes : List ℕ) (left rest : List (ℕ × List (List ℕ))) (cells new : List A) (weeks : ℕ) → ReadsOn P said bytes left cells weeks → left ≡ rest → map Some new ≡ map Some cells → ReadsOn P said bytes rest new weeks
skip P said bytes left rest cells new weeks r e same = record {
  refusal = ap (first_refusal P said) (sym e) ∙ r.refusal;
  names = ap (λ c. c ++ map said (flat_map (λ week. week.1) rest)) same ∙ ap (λ w. map Some cells ++ map said (flat_map (λ week. week.1) w)) (sym e) ∙ r.names;
  count = ap (λ w. weeks + length w) (sym e) ∙ r.count;
}

read : {A : Type 0} (P : Instance) (said : List ℕ → Option A) (bytes : List ℕ) (left rest : List (ℕ × List (List ℕ))) (week : ℕ × List (List ℕ)) (cells new : List A) (weeks : ℕ) → ReadsOn P said bytes left cells weeks → left ≡ week ∷ rest → week_refusal P said week ≡ None → map Some new ≡ map Some cells ++ map said week.1 → ReadsOn P said bytes rest new (weeks + 1)
read P said bytes left rest week cells new weeks r e accepted names =
    let rest_names = map said (flat_map (λ w. w.1) rest) in
    let one_more : weeks + 1 + length rest ≡ weeks + suc (length rest) = omega arith in
    record {
      refusal = sym (no_refusal P said week rest accepted) ∙ ap (first_refusal P said) (sym e) ∙ r.refusal;
      names =
          ap (λ c. c ++ rest_names) names
          ∙ append_assoc (map Some cells) (map said week.1) rest_names
          ∙ ap (λ c. map Some cells ++ c) (sym (map-append said week.1 (flat_map (λ w. w.1) rest)))
          ∙ ap (λ w. map Some cells ++ map said (flat_map (λ v. v.1) w)) (sym e)
          ∙ r.names;
      count = one_more ∙ ap (λ w. weeks + length w) (sym e) ∙ r.count;
    }

pub none_of : (words : List (List ℕ)) → has_some words ≡ false → words ≡ []
none_of [] h = refl
none_of (word ∷ words) h = absurd (cc)

-- what is read of a text, of which this is left, from a line with this number on
pub record Progress {A : Type 0} (P : Instance) (said : List ℕ → Option A) (bytes : List ℕ) (cells : List A) (weeks line : ℕ) (left : List ℕ) : Type 0 where
  pub on : ReadsOn P said bytes (weeks_left line left) cells weeks
  pub few_weeks : weeks < line
  pub few_lines : line + length left ≤ length bytes + 1

pub shorter : (line rest bytes : List ℕ) → IsFirst line rest bytes → length rest < length bytes
shorter [] rest bytes l = absurd (l.some refl)
shorter (b ∷ line) rest bytes l = let long : length bytes ≡ length ((b ∷ line) ++ rest) = ap (λ t. length t) l.whole in omega (arith, long, length-append (b ∷ line) rest)

pub week_skipped : {A : Type 0} (P : Instance) (said : List ℕ → Option A) (bytes left text rest : List ℕ) (cells new : List A) (weeks more line : ℕ) (week : Bool) → Progress P said bytes cells weeks line left → IsFirst text rest left → week ≡ has_some (words_in text) → week ≡ false → map Some new ≡ map Some cells ++ map said (words_in text) → more ≡ weeks → Progress P said bytes new more (line + 1) rest
week_skipped P said bytes left text rest cells new weeks more line week r l is absent names same =
    let none : has_some (words_in text) ≡ false = sym is ∙ absent in
    let next = weeks_left (line + 1) rest in
    record {
      on = subst (ReadsOn P said bytes next new) (sym same) (skip P said bytes (weeks_left line left) next cells new weeks r.on
          (left_is text rest left line l ∙ cond-false (has_some (words_in text)) ((line, words_in text) ∷ next) next none)
          (names ∙ ap (λ w. map Some cells ++ map said w) (none_of (words_in text) none) ∙ append-nil (map Some cells)));
      few_weeks = let few = r.few_weeks in omega (arith, same);
      few_lines = let few = r.few_lines in let less = shorter text rest left l in omega arith;
    }

pub week_read : {A : Type 0} (P : Instance) (said : List ℕ → Option A) (bytes left text rest : List ℕ) (cells new : List A) (weeks more line : ℕ) (week : Bool) → Progress P said bytes cells weeks line left → IsFirst text rest left → week ≡ has_some (words_in text) → week ≡ true → (week ≡ true → week_refusal P said (line, words_in text) ≡ None) → map Some new ≡ map Some cells ++ map said (words_in text) → more ≡ weeks + 1 → Progress P said bytes new more (line + 1) rest
week_read P said bytes left text rest cells new weeks more line week r l is present accepted names same =
    let some : has_some (words_in text) ≡ true = sym is ∙ present in
    let next = weeks_left (line + 1) rest in
    record {
      on = subst (ReadsOn P said bytes next new) (sym same) (read P said bytes (weeks_left line left) next (line, words_in text) cells new weeks r.on
          (left_is text rest left line l ∙ cond-true (has_some (words_in text)) ((line, words_in text) ∷ next) next some)
          (accepted present) names);
      few_weeks = let few = r.few_weeks in omega (arith, same);
      few_lines = let few = r.few_lines in let less = shorter text rest left l in omega arith;
    }

pub week_refused : {A : Type 0} (P : Instance) (said : List ℕ → Option A) (bytes left text rest : List ℕ) (cells : List A) (weeks line : ℕ) (why : RosterRefusal) → Progress P said bytes cells weeks line left → IsFirst text rest left → has_some (words_in text) ≡ true → week_refusal P said (line, words_in text) ≡ Some why → first_refusal P said (numbered_weeks bytes) ≡ Some why
week_refused P said bytes left text rest cells weeks line why r l some refused =
    let next = weeks_left (line + 1) rest in
    sym r.on.refusal
    ∙ ap (first_refusal P said) (left_is text rest left line l ∙ cond-true (has_some (words_in text)) ((line, words_in text) ∷ next) next some)
    ∙ ap (λ o. option_or o (first_refusal P said next)) refused

-- a refusal that is handed on
pub refused_again : (T : Type 0) {U : Type 0} (f : Fail RosterRefusal) (r : Result U (Fail RosterRefusal)) (P Q : RosterRefusal → Type 0) → r ≡ Err f → ((why : RosterRefusal) → P why → Q why) → IfRefused {T = T} (Err f) P → IfRefused r Q
refused_again T {U} Memory r P Q e onward h = subst (λ (x : Result U (Fail RosterRefusal)). IfRefused x Q) (sym e) tt
refused_again T {U} (Refused why) r P Q e onward h = subst (λ (x : Result U (Fail RosterRefusal)). IfRefused x Q) (sym e) (onward why h)
