-- That a refusal names the first thing of a text that fails.
use Rattle.std.proofs.Common.{◌≡◌, ◌≢◌, ◌⊎◌, ℕ, zero, suc, ◌+◌, ◌-◌, ◌<◌, ◌≤◌, List, [], ◌∷◌, ◌++◌, length, Option, Some, None, Bool, true, false, cond, refl, ap, sym, ◌∙◌, arith, subst, append_assoc, append-nil, length-append, eq-eqb, eqb-true, inl, inr}
use Rattle.std.specs.Prelude.{map, filter, is_none, ◌==◌, All, count_by, replicate}
use Rattle.std.specs.List.{list_any, flat_map, enumerate_from, onto_first, range_with_len, join_with_byte, AllByRecursion}
use Rattle.std.specs.Option.{option_or}
use Rattle.std.proofs.lemmas.List.{map-append, length-map, length-replicate}
use Rattle.std.proofs.lemmas.List.Folds.{list_any-append, Any-from_list_any, list_any-from_Any}
use Rattle.std.proofs.lemmas.List.Elements.{All-nil, All-cons, All-from_recursion, All-head, All-tail, All-weaker, recursion_from_All, filter-append}
use Rattle.std.proofs.lemmas.List.FromFn.{length-range_with_len}
use Rattle.std.proofs.lemmas.List.Splits.{slice_split-cons_yes, slice_split-cons_no, slice_split_none, slice_split_at, length-slice_split}
use Rattle.std.proofs.lemmas.Bool.{or_parts, ne_eqb, cond-true, cond-false, eqb-false}
use Rattle.rwsp_text.specs.Lexemes.{lines_of, words_of_line, has_some}
use Rattle.rwsp_text.specs.Lines.{HasNoFeed}
use Rattle.rwsp_text.proofs.JoinedWords.{IsPrinted}
use Rattle.rwsp_terms.specs.Instance.{Instance, symbol_of, off_name, off_symbol}
use Rattle.rwsp_terms.specs.declared.data.Symbol.{Symbol}
use Rattle.rwsp_terms.proofs.Elements.{all_joined}
use Rattle.roster_print.specs.RosterText.{weeks_of, SpellsRoster}
use Rattle.roster_print.specs.Refusal.{numbered_weeks, week_refusal, first_refusal, count_refusal, refusal_of_roster}
use Rattle.roster_print.specs.FirstFailures.{IsName, IsWeek, HasUnknown, HasWrongWidth, EndsWithFeed, BeginsWithFeed, CanGoOn, CannotGoOn, LineFails, CountFails, IsFirstFailure}
use Rattle.roster_print.specs.Laws.{RefusalsAreFirst}
use Rattle.roster_print.specs.declared.refusal.RosterRefusal.{RosterRefusal}
use Rattle.roster_print.specs.declared.refusal.RosterRefusal.TheVariants.{Unknown, Width, Weeks}
use Rattle.roster_print.proofs.Spelling.{AllNamed, WeeksNamed, none_unknown, both_none, weeks_are, line_is_refused, count_is_refused}
use Rattle.roster_print.proofs.Printed.{weeks_printed}
use Rattle.roster_print.proofs.Reading.{none_of}

-- ---- lines and weeks of texts, one behind the other

abbrev is_feed : ℕ → Bool
is_feed b = b == 10

onto_joined : (b : ℕ) (ls ms : List (List ℕ)) → 0 < length ls → onto_first b (ls ++ ms) ≡ onto_first b ls ++ ms
onto_joined b [] ms h = absurd (omega (arith, h))
onto_joined b (l ∷ ls) ms h = refl

has_lines : (a : List ℕ) → 0 < length (lines_of a)
has_lines a = omega (arith, length-slice_split is_feed a)

lines_joined_by : (x : ℕ) (a b : List ℕ) → lines_of (a ++ 10 ∷ b) ≡ lines_of a ++ lines_of b → (k : Bool) → is_feed x ≡ k → lines_of (x ∷ (a ++ 10 ∷ b)) ≡ lines_of (x ∷ a) ++ lines_of b
lines_joined_by x a b h true e =
    slice_split-cons_yes is_feed x (a ++ 10 ∷ b) e
    ∙ ap (λ ls. [] ∷ ls) h
    ∙ ap (λ ls. ls ++ lines_of b) (sym (slice_split-cons_yes is_feed x a e))
lines_joined_by x a b h false e =
    slice_split-cons_no is_feed x (a ++ 10 ∷ b) e
    ∙ ap (onto_first x) h
    ∙ onto_joined x (lines_of a) (lines_of b) (has_lines a)
    ∙ ap (λ ls. ls ++ lines_of b) (sym (slice_split-cons_no is_feed x a e))

lines_joined : (a b : List ℕ) → lines_of (a ++ 10 ∷ b) ≡ lines_of a ++ lines_of b
lines_joined [] b = refl
lines_joined (x ∷ a) b = lines_joined_by x a b (lines_joined a b) (is_feed x) refl

weeks_joined : (a b : List ℕ) → weeks_of (a ++ 10 ∷ b) ≡ weeks_of a ++ weeks_of b
weeks_joined a b =
    ap (λ ls. filter has_some (map words_of_line ls)) (lines_joined a b)
    ∙ ap (filter has_some) (map-append words_of_line (lines_of a) (lines_of b))
    ∙ filter-append has_some (map words_of_line (lines_of a)) (map words_of_line (lines_of b))

weeks_fed : (a : List ℕ) → weeks_of (a ++ 10 ∷ []) ≡ weeks_of a
weeks_fed a = weeks_joined a [] ∙ append-nil (weeks_of a)

weeks_behind : (front rest : List ℕ) → EndsWithFeed front → weeks_of (front ++ rest) ≡ weeks_of front ++ weeks_of rest
weeks_behind front rest (inl e) = ap (λ f. weeks_of (f ++ rest)) e ∙ ap (λ f. weeks_of f ++ weeks_of rest) (sym e)
weeks_behind front rest (inr a) =
    let same : weeks_of front ≡ weeks_of a.0 = ap weeks_of a.1 ∙ weeks_fed a.0 in
    ap (λ f. weeks_of (f ++ rest)) a.1
    ∙ ap weeks_of (append_assoc a.0 (10 ∷ []) rest)
    ∙ weeks_joined a.0 rest
    ∙ ap (λ w. w ++ weeks_of rest) (sym same)

no_feeds : (line : List ℕ) → HasNoFeed line → All (λ b. is_feed b ≡ false) line
no_feeds line h = All-weaker (λ b. b ≢ 10) (λ b. is_feed b ≡ false) (λ b ne. ne_eqb b 10 ne) line h

-- the lines of a text that begins with a whole line
line_cut : (line more : List ℕ) → HasNoFeed line → BeginsWithFeed more → (others : List (List ℕ)) × (lines_of (line ++ more) ≡ line ∷ others)
line_cut line more h (inl e) = ([], ap (λ m. lines_of (line ++ m)) e ∙ ap lines_of (append-nil line) ∙ slice_split_none is_feed line (no_feeds line h))
line_cut line more h (inr a) = (lines_of a.0, ap (λ m. lines_of (line ++ m)) a.1 ∙ slice_split_at is_feed line 10 a.0 (no_feeds line h) refl)

-- the weeks of a text that begins with a line that has words
abbrev BeginsWithWeek : List (List (List ℕ)) → List (List ℕ) → Type 0
BeginsWithWeek weeks week = (rest : List (List (List ℕ))) × (weeks ≡ week ∷ rest)

line_first : (line more : List ℕ) → HasNoFeed line → has_some (words_of_line line) ≡ true → BeginsWithFeed more → BeginsWithWeek (weeks_of (line ++ more)) (words_of_line line)
line_first line more h some m =
    let c = line_cut line more h m in
    let rest = filter has_some (map words_of_line c.0) in
    (rest, ap (λ ls. filter has_some (map words_of_line ls)) c.1 ∙ cond-true (has_some (words_of_line line)) (words_of_line line ∷ rest) rest some)

-- ---- what the refusal of a week says of its words

some_words : (words : List (List ℕ)) → has_some words ≡ true → words ≢ []
some_words words h e = let none : has_some words ≡ false = ap has_some e in let both : true ≡ false = sym h ∙ none in cc

abbrev is_unknown : Instance → List ℕ → Bool
is_unknown P word = is_none (symbol_of P word)

name_by : (P : Instance) (word : List ℕ) (o : Option Symbol) → symbol_of P word ≡ o → is_none o ≡ false → IsName P word
name_by P word None e h = absurd (cc)
name_by P word (Some x) e h = (x, e)

names_in : (P : Instance) (words : List (List ℕ)) → list_any (is_unknown P) words ≡ false → AllByRecursion (IsName P) words
names_in P [] h = tt
names_in P (word ∷ words) h =
    let parts = or_parts (is_unknown P word) (list_any (is_unknown P) words) h in
    (name_by P word (symbol_of P word) refl parts.0, names_in P words parts.1)

none_by : {X : Type 0} (o : Option X) → is_none o ≡ true → o ≡ None
none_by None h = refl
none_by (Some x) h = absurd (cc)

unknown_in : (P : Instance) (words : List (List ℕ)) → list_any (is_unknown P) words ≡ true → HasUnknown P words
unknown_in P words h = let m = Any-from_list_any (is_unknown P) words h in (m.0, m.1, m.2, m.3, none_by (symbol_of P m.1) m.4)

abbrev WeekSays : Instance → ℕ → List (List ℕ) → Option RosterRefusal → Type 0
WeekSays P n words None = IsWeek P words
WeekSays P n words (Some (Unknown k)) = (k ≡ n) × HasUnknown P words
WeekSays P n words (Some (Width k)) = (k ≡ n) × All (IsName P) words × (length words ≢ P.days)
WeekSays P n words (Some (Weeks k)) = ⊥

says_by : (P : Instance) (n : ℕ) (words : List (List ℕ)) (unknown wide : Bool) → list_any (is_unknown P) words ≡ unknown → (length words == P.days) ≡ wide → WeekSays P n words (cond unknown (Some (Unknown n)) (cond wide None (Some (Width n))))
says_by P n words true wide e w = (refl, unknown_in P words e)
says_by P n words false true e w = record { days = eqb-true (length words) P.days w; names = All-from_recursion (IsName P) words (names_in P words e) }
says_by P n words false false e w = (refl, All-from_recursion (IsName P) words (names_in P words e), eqb-false (length words) P.days w)

week_says : (P : Instance) (n : ℕ) (words : List (List ℕ)) (o : Option RosterRefusal) → week_refusal P (symbol_of P) (n, words) ≡ o → WeekSays P n words o
week_says P n words o e = subst (WeekSays P n words) e (says_by P n words (list_any (is_unknown P) words) (length words == P.days) refl refl)

-- ---- the first line of a text

abbrev Splits : List ℕ → List ℕ → List (List ℕ) → Type 0
Splits bytes line others = ((bytes ≡ line) × (others ≡ [])) ⊎ ((r : List ℕ) × (bytes ≡ line ++ 10 ∷ r) × (lines_of r ≡ others))

record FirstLine (bytes : List ℕ) : Type 0 where
  line : List ℕ
  others : List (List ℕ)
  cut : lines_of bytes ≡ line ∷ others
  unbroken : HasNoFeed line
  splits : Splits bytes line others

splits_more : (b : ℕ) (bytes line : List ℕ) (others : List (List ℕ)) → Splits bytes line others → Splits (b ∷ bytes) (b ∷ line) others
splits_more b bytes line others (inl a) = inl (ap (λ t. b ∷ t) a.0, a.1)
splits_more b bytes line others (inr a) = inr (a.0, ap (λ t. b ∷ t) a.1, a.2)

first_by : (b : ℕ) (bytes : List ℕ) → FirstLine bytes → (k : Bool) → is_feed b ≡ k → FirstLine (b ∷ bytes)
first_by b bytes f true e = record {
  line = [];
  others = lines_of bytes;
  cut = slice_split-cons_yes is_feed b bytes e;
  unbroken = All-nil (λ b. b ≢ 10);
  splits = inr (bytes, ap (λ x. x ∷ bytes) (eqb-true b 10 e), refl);
}
first_by b bytes f false e = record {
  line = b ∷ f.line;
  others = f.others;
  cut = slice_split-cons_no is_feed b bytes e ∙ ap (onto_first b) f.cut;
  unbroken = All-cons (λ b. b ≢ 10) b f.line (eqb-false b 10 e) f.unbroken;
  splits = splits_more b bytes f.line f.others f.splits;
}

first_of : (bytes : List ℕ) → FirstLine bytes
first_of [] = record { line = []; others = []; cut = refl; unbroken = All-nil (λ b. b ≢ 10); splits = inl (refl, refl) }
first_of (b ∷ bytes) = first_by b bytes (first_of bytes) (is_feed b) refl

-- ---- the first line that is refused

abbrev IsGood : Instance → List ℕ → Type 0
IsGood P line = (words_of_line line ≡ []) ⊎ IsWeek P (words_of_line line)

abbrev weeks_from : ℕ → List (List ℕ) → List (ℕ × List (List ℕ))
weeks_from n lines = filter (λ week. has_some week.1) (enumerate_from n (map words_of_line lines))

record FirstBad (P : Instance) (n : ℕ) (bytes : List ℕ) (why : RosterRefusal) : Type 0 where
  front : List ℕ
  line : List ℕ
  back : List ℕ
  number : ℕ
  whole : bytes ≡ front ++ line ++ back
  begins : EndsWithFeed front
  unbroken : HasNoFeed line
  ends : BeginsWithFeed back
  place : number + 1 ≡ n + length (lines_of front)
  earlier : AllByRecursion (IsGood P) (lines_of front)
  some : has_some (words_of_line line) ≡ true
  refused : week_refusal P (symbol_of P) (number, words_of_line line) ≡ Some why

bad_here : (P : Instance) (n : ℕ) (bytes line : List ℕ) (others : List (List ℕ)) (why : RosterRefusal) → HasNoFeed line → Splits bytes line others → has_some (words_of_line line) ≡ true → week_refusal P (symbol_of P) (n, words_of_line line) ≡ Some why → FirstBad P n bytes why
bad_here P n bytes line others why h (inl a) some refused = record {
  front = [];
  line = line;
  back = [];
  number = n;
  whole = a.0 ∙ sym (append-nil line);
  begins = inl refl;
  unbroken = h;
  ends = inl refl;
  place = refl;
  earlier = (inl refl, tt);
  some = some;
  refused = refused;
}
bad_here P n bytes line others why h (inr a) some refused = record {
  front = [];
  line = line;
  back = 10 ∷ a.0;
  number = n;
  whole = a.1;
  begins = inl refl;
  unbroken = h;
  ends = inr (a.0, refl);
  place = refl;
  earlier = (inl refl, tt);
  some = some;
  refused = refused;
}

ends_more : (line front : List ℕ) → EndsWithFeed front → EndsWithFeed (line ++ 10 ∷ front)
ends_more line front (inl e) = inr (line, ap (λ t. line ++ 10 ∷ t) e)
ends_more line front (inr a) = inr (line ++ 10 ∷ a.0, ap (λ t. line ++ 10 ∷ t) a.1 ∙ sym (append_assoc line (10 ∷ a.0) (10 ∷ [])))

bad_behind : (P : Instance) (n : ℕ) (bytes line r : List ℕ) (why : RosterRefusal) → HasNoFeed line → IsGood P line → bytes ≡ line ++ 10 ∷ r → FirstBad P (n + 1) r why → FirstBad P n bytes why
bad_behind P n bytes line r why h good e f =
    let cut : lines_of (line ++ 10 ∷ f.front) ≡ line ∷ lines_of f.front = slice_split_at is_feed line 10 f.front (no_feeds line h) refl in
    let long : length (lines_of (line ++ 10 ∷ f.front)) ≡ suc (length (lines_of f.front)) = ap (λ ls. length ls) cut in
    let place : f.number + 1 ≡ n + 1 + length (lines_of f.front) = f.place in
    let moved : ((line ++ 10 ∷ f.front) ++ f.line) ++ f.back ≡ line ++ 10 ∷ ((f.front ++ f.line) ++ f.back) = ap (λ t. t ++ f.back) (append_assoc line (10 ∷ f.front) f.line) ∙ append_assoc line (10 ∷ (f.front ++ f.line)) f.back in
    record {
      front = line ++ 10 ∷ f.front;
      line = f.line;
      back = f.back;
      number = f.number;
      whole = e ∙ ap (λ t. line ++ 10 ∷ t) f.whole ∙ sym moved;
      begins = ends_more line f.front f.begins;
      unbroken = f.unbroken;
      ends = f.ends;
      place = omega (arith, long, place);
      earlier = subst (AllByRecursion (IsGood P)) (sym cut) (good, f.earlier);
      some = f.some;
      refused = f.refused;
    }

-- what is found in the lines behind the first
abbrev Later : Instance → ℕ → List (List ℕ) → RosterRefusal → Type 0
Later P n lines why = (r : List ℕ) → lines_of r ≡ lines → FirstBad P (n + 1) r why

bad_later : (P : Instance) (n : ℕ) (bytes line : List ℕ) (lines : List (List ℕ)) (why : RosterRefusal) → HasNoFeed line → Splits bytes line lines → IsGood P line → first_refusal P (symbol_of P) (weeks_from (n + 1) lines) ≡ Some why → Later P n lines why → FirstBad P n bytes why
bad_later P n bytes line lines why h (inl a) good refused later =
    let none : first_refusal P (symbol_of P) (weeks_from (n + 1) lines) ≡ None = ap (λ ls. first_refusal P (symbol_of P) (weeks_from (n + 1) ls)) a.1 in
    let both : None ≡ Some why = sym none ∙ refused in
    absurd (cc)
bad_later P n bytes line lines why h (inr a) good refused later = bad_behind P n bytes line a.0 why h good a.1 (later a.0 a.2)

bad_by : (P : Instance) (n : ℕ) (bytes line : List ℕ) (lines : List (List ℕ)) (why : RosterRefusal) → HasNoFeed line → Splits bytes line lines → (first_refusal P (symbol_of P) (weeks_from (n + 1) lines) ≡ Some why → Later P n lines why) → (b : Bool) → has_some (words_of_line line) ≡ b → (o : Option RosterRefusal) → week_refusal P (symbol_of P) (n, words_of_line line) ≡ o → first_refusal P (symbol_of P) (cond b ((n, words_of_line line) ∷ weeks_from (n + 1) lines) (weeks_from (n + 1) lines)) ≡ Some why → FirstBad P n bytes why
bad_by P n bytes line lines why h splits later false e o w refused = bad_later P n bytes line lines why h splits (inl (none_of (words_of_line line) e)) refused (later refused)
bad_by P n bytes line lines why h splits later true e None w refused =
    let rest : first_refusal P (symbol_of P) (weeks_from (n + 1) lines) ≡ Some why = sym (ap (λ o. option_or o (first_refusal P (symbol_of P) (weeks_from (n + 1) lines))) w) ∙ refused in
    bad_later P n bytes line lines why h splits (inr (week_says P n (words_of_line line) None w)) rest (later rest)
bad_by P n bytes line lines why h splits later true e (Some other) w refused =
    let same : Some other ≡ Some why = sym (ap (λ o. option_or o (first_refusal P (symbol_of P) (weeks_from (n + 1) lines))) w) ∙ refused in
    bad_here P n bytes line lines why h splits e (w ∙ same)

find : (P : Instance) (lines : List (List ℕ)) (n : ℕ) (bytes : List ℕ) (why : RosterRefusal) → lines_of bytes ≡ lines → first_refusal P (symbol_of P) (weeks_from n lines) ≡ Some why → FirstBad P n bytes why
find P [] n bytes why e h = absurd (cc)
find P (line ∷ lines) n bytes why e h =
    let f = first_of bytes in
    let both : f.line ∷ f.others ≡ line ∷ lines = sym f.cut ∙ e in
    let one : f.line ≡ line = cc in
    let rest : f.others ≡ lines = cc in
    bad_by P n bytes line lines why
    (subst HasNoFeed one f.unbroken)
    (subst (λ l. Splits bytes l lines) one (subst (Splits bytes f.line) rest f.splits))
    (λ refused r cut. find P lines (n + 1) r why cut refused)
    (has_some (words_of_line line)) refl (week_refusal P (symbol_of P) (n, words_of_line line)) refl h

-- ---- what the lines of a text have of which no week is refused

good_by : (P : Instance) (n : ℕ) (line : List ℕ) (rest : List (ℕ × List (List ℕ))) (b : Bool) → has_some (words_of_line line) ≡ b → first_refusal P (symbol_of P) (cond b ((n, words_of_line line) ∷ rest) rest) ≡ None → IsGood P line × (first_refusal P (symbol_of P) rest ≡ None)
good_by P n line rest false e h = (inl (none_of (words_of_line line) e), h)
good_by P n line rest true e h =
    let parts = both_none (week_refusal P (symbol_of P) (n, words_of_line line)) (first_refusal P (symbol_of P) rest) h in
    (inr (week_says P n (words_of_line line) None parts.0), parts.1)

all_good : (P : Instance) (n : ℕ) (lines : List (List ℕ)) → first_refusal P (symbol_of P) (weeks_from n lines) ≡ None → AllByRecursion (IsGood P) lines
all_good P n [] h = tt
all_good P n (line ∷ lines) h =
    let parts = good_by P n line (weeks_from (n + 1) lines) (has_some (words_of_line line)) refl h in
    (parts.0, all_good P (n + 1) lines parts.1)

-- ---- where a line is no week, nothing behind it helps

all_inside : {X : Type 0} (Q : X → Type 0) (xs : List X) (x : X) (ys : List X) → All Q (xs ++ x ∷ ys) → Q x
all_inside Q [] x ys h = All-head Q x ys h
all_inside Q (y ∷ xs) x ys h = all_inside Q xs x ys (All-tail Q y (xs ++ x ∷ ys) h)

known_inside : (unknown : List ℕ → Bool) (weeks : List (List (List ℕ))) (week : List (List ℕ)) (others : List (List (List ℕ))) → list_any unknown (flat_map (λ w. w) (weeks ++ week ∷ others)) ≡ false → list_any unknown week ≡ false
known_inside unknown [] week others h =
    let rest = flat_map (λ (w : List (List ℕ)). w) others in
    (or_parts (list_any unknown week) (list_any unknown rest) (sym (list_any-append unknown week rest) ∙ h)).0
known_inside unknown (first ∷ weeks) week others h =
    let rest = flat_map (λ (w : List (List ℕ)). w) (weeks ++ week ∷ others) in
    known_inside unknown weeks week others (or_parts (list_any unknown first) (list_any unknown rest) (sym (list_any-append unknown first rest) ∙ h)).1

-- the words of each week of a text that spells a roster
abbrev SpelledWeek : Instance → List (List ℕ) → Type 0
SpelledWeek P week = (list_any (is_unknown P) week ≡ false) × (length week ≡ P.days)

spelled_week : (P : Instance) (bytes : List ℕ) (s : List Symbol) (weeks : List (List (List ℕ))) (week : List (List ℕ)) (others : List (List (List ℕ))) → weeks_of bytes ≡ weeks ++ week ∷ others → SpellsRoster P bytes s → SpelledWeek P week
spelled_week P bytes s weeks week others e a =
    let known : list_any (is_unknown P) (flat_map (λ w. w) (weeks_of bytes)) ≡ false = none_unknown (symbol_of P) (flat_map (λ w. w) (weeks_of bytes)) s a.names in
    let Known : List (List (List ℕ)) → Type 0 = λ ws. list_any (is_unknown P) (flat_map (λ w. w) ws) ≡ false in
    let Days : List (List (List ℕ)) → Type 0 = λ ws. All (λ w. length w ≡ P.days) ws in
    (known_inside (is_unknown P) weeks week others (subst Known e known), all_inside (λ w. length w ≡ P.days) weeks week others (subst Days e a.days))

cannot_go_on : (P : Instance) (front line : List ℕ) → EndsWithFeed front → HasNoFeed line → has_some (words_of_line line) ≡ true → (SpelledWeek P (words_of_line line) → ⊥) → CannotGoOn P (front ++ line)
cannot_go_on P front line f h some bad more m s a =
    let first = line_first line more h some m in
    let weeks : weeks_of ((front ++ line) ++ more) ≡ weeks_of front ++ words_of_line line ∷ first.0 =
    ap weeks_of (append_assoc front line more) ∙ weeks_behind front (line ++ more) f ∙ ap (λ w. weeks_of front ++ w) first.1 in
    bad (spelled_week P ((front ++ line) ++ more) s (weeks_of front) (words_of_line line) first.0 weeks a)

unknown_not_spelled : (P : Instance) (words : List (List ℕ)) → HasUnknown P words → SpelledWeek P words → ⊥
unknown_not_spelled P words m h =
    let there : list_any (is_unknown P) words ≡ true = list_any-from_Any (is_unknown P) words (m.0, m.1, m.2, m.3, ap is_none m.4) in
    let both : true ≡ false = sym there ∙ h.0 in
    cc

-- ---- with too many weeks nothing behind the text helps

more_weeks : (bytes more : List ℕ) → BeginsWithFeed more → length (weeks_of bytes) ≤ length (weeks_of (bytes ++ more))
more_weeks bytes more (inl e) =
    let same : length (weeks_of (bytes ++ more)) ≡ length (weeks_of bytes) = ap (λ m. length (weeks_of (bytes ++ m))) e ∙ ap (λ b. length (weeks_of b)) (append-nil bytes) in
    omega (arith, same)
more_weeks bytes more (inr a) =
    let same : length (weeks_of (bytes ++ more)) ≡ length (weeks_of bytes ++ weeks_of a.0) = ap (λ m. length (weeks_of (bytes ++ m))) a.1 ∙ ap (λ w. length w) (weeks_joined bytes a.0) in
    omega (arith, same, length-append (weeks_of bytes) (weeks_of a.0))

too_many : (P : Instance) (bytes : List ℕ) → P.weeks < length (weeks_of bytes) → CannotGoOn P bytes
too_many P bytes many more m s a =
    let count : length (weeks_of (bytes ++ more)) ≡ P.weeks = a.weeks in
    omega (arith, many, count, more_weeks bytes more m)

-- ---- a text that can be gone on with

symbols_named : (P : Instance) (words : List (List ℕ)) → All (IsName P) words → AllNamed (symbol_of P) words
symbols_named P [] h = ([], refl)
symbols_named P (word ∷ words) h =
    let here = All-head (IsName P) word words h in
    let rest = symbols_named P words (All-tail (IsName P) word words h) in
    (here.0 ∷ rest.0, let one : symbol_of P word ≡ Some here.0 = here.1 in let others : map (symbol_of P) words ≡ map Some rest.0 = rest.1 in cc)

weeks_named : (P : Instance) (weeks : List (List (List ℕ))) → AllByRecursion (IsWeek P) weeks → WeeksNamed P (symbol_of P) weeks
weeks_named P [] h = record { symbols = []; names = refl; days = tt }
weeks_named P (week ∷ weeks) h =
    let first = h.0 in
    let one = symbols_named P week first.names in
    let rest = weeks_named P weeks h.1 in
    let others = flat_map (λ (w : List (List ℕ)). w) weeks in
    record {
      symbols = one.0 ++ rest.symbols;
      names = map-append (symbol_of P) week others ∙ ap (λ w. w ++ map (symbol_of P) others) one.1 ∙ ap (λ w. map Some one.0 ++ w) rest.names ∙ sym (map-append Some one.0 rest.symbols);
      days = (first.days, rest.days);
    }

are_weeks_by : (P : Instance) (line : List ℕ) (rest : List (List (List ℕ))) → IsGood P line → AllByRecursion (IsWeek P) rest → (b : Bool) → has_some (words_of_line line) ≡ b → AllByRecursion (IsWeek P) (cond b (words_of_line line ∷ rest) rest)
are_weeks_by P line rest good h false e = h
are_weeks_by P line rest (inl none) h true e = absurd (some_words (words_of_line line) e none)
are_weeks_by P line rest (inr week) h true e = (week, h)

are_weeks : (P : Instance) (lines : List (List ℕ)) → AllByRecursion (IsGood P) lines → AllByRecursion (IsWeek P) (filter has_some (map words_of_line lines))
are_weeks P [] h = tt
are_weeks P (line ∷ lines) h = are_weeks_by P line (filter has_some (map words_of_line lines)) h.0 (are_weeks P lines h.1) (has_some (words_of_line line)) refl

-- weeks of days off

abbrev days_off : Instance → List (List ℕ)
days_off P = replicate P.days off_name

abbrev text_off : Instance → ℕ → List ℕ
text_off P n = flat_map (λ k. join_with_byte 32 (days_off P) ++ 10 ∷ []) (range_with_len 0 n)

offs_printed : (n : ℕ) → AllByRecursion IsPrinted (replicate n off_name)
offs_printed zero = tt
offs_printed (suc n) = ((refl, ((refl, refl), tt)), offs_printed n)

offs_named : (P : Instance) (n : ℕ) → AllByRecursion (IsName P) (replicate n off_name)
offs_named P zero = tt
offs_named P (suc n) = ((off_symbol, refl), offs_named P n)

offs_some : (n : ℕ) → 1 ≤ n → has_some (replicate n off_name) ≡ true
offs_some zero h = absurd (omega (arith, h))
offs_some (suc n) h = refl

each : {X : Type 0} (Q : Type 0) (xs : List X) → Q → AllByRecursion (λ x. Q) xs
each Q [] q = tt
each Q (x ∷ xs) q = (q, each Q xs q)

week_off : (P : Instance) → IsWeek P (days_off P)
week_off P = record { days = length-replicate P.days off_name; names = All-from_recursion (IsName P) (days_off P) (offs_named P P.days) }

weeks_off : (P : Instance) (ks : List ℕ) → AllByRecursion (IsWeek P) (map (λ k. days_off P) ks)
weeks_off P [] = tt
weeks_off P (k ∷ ks) = (week_off P, weeks_off P ks)

off_weeks : (P : Instance) (n : ℕ) → 1 ≤ P.days → weeks_of (text_off P n) ≡ map (λ k. days_off P) (range_with_len 0 n)
off_weeks P n days =
    weeks_printed (λ k. days_off P) (range_with_len 0 n)
    (each (AllByRecursion IsPrinted (days_off P) × (has_some (days_off P) ≡ true)) (range_with_len 0 n) (offs_printed P.days, offs_some P.days days))

spelled_by : (P : Instance) (bytes : List ℕ) → WeeksNamed P (symbol_of P) (weeks_of bytes) → length (weeks_of bytes) ≡ P.weeks → (s : List Symbol) × SpellsRoster P bytes s
spelled_by P bytes named count = (named.symbols, record { weeks = count; days = All-from_recursion (λ week. length week ≡ P.days) (weeks_of bytes) named.days; names = named.names })

can_go_on : (P : Instance) (text : List ℕ) → 1 ≤ P.days → EndsWithFeed text → AllByRecursion (IsWeek P) (weeks_of text) → length (weeks_of text) ≤ P.weeks → CanGoOn P text
can_go_on P text days ends good few =
    let n = P.weeks - length (weeks_of text) in
    let off = map (λ (k : ℕ). days_off P) (range_with_len 0 n) in
    let weeks : weeks_of (text ++ text_off P n) ≡ weeks_of text ++ off = weeks_behind text (text_off P n) ends ∙ ap (λ w. weeks_of text ++ w) (off_weeks P n days) in
    let long : length off ≡ P.weeks - length (weeks_of text) = length-map (range_with_len 0 n) (λ k. days_off P) ∙ length-range_with_len 0 n in
    let both : length (weeks_of text ++ off) ≡ length (weeks_of text) + length off = length-append (weeks_of text) off in
    let whole : length (weeks_of (text ++ text_off P n)) ≡ length (weeks_of text ++ off) = ap (λ w. length w) weeks in
    let named = weeks_named P (weeks_of text ++ off) (all_joined (IsWeek P) (weeks_of text) off good (weeks_off P (range_with_len 0 n))) in
    let spelled = spelled_by P (text ++ text_off P n) (subst (WeeksNamed P (symbol_of P)) (sym weeks) named) (omega (arith, few, long, both, whole)) in
    (text_off P n, spelled.0, spelled.1)

-- ---- the law

line_fails : (P : Instance) (Fault : List (List ℕ) → Type 0) (bytes : List ℕ) (number : ℕ) (why : RosterRefusal) (f : FirstBad P 1 bytes why) → 1 ≤ P.days → number ≡ f.number → Fault (words_of_line f.line) → (SpelledWeek P (words_of_line f.line) → ⊥) → LineFails P Fault bytes number
line_fails P Fault bytes number why f days same fault bad =
    let place : f.number + 1 ≡ 1 + length (lines_of f.front) = f.place in
    record {
      front = f.front;
      line = f.line;
      back = f.back;
      whole = f.whole;
      begins = f.begins;
      unbroken = f.unbroken;
      ends = f.ends;
      place = omega (arith, same, place, length-slice_split is_feed f.front);
      earlier = All-from_recursion (IsGood P) (lines_of f.front) f.earlier;
      fault = fault;
      can = λ few. can_go_on P f.front days f.begins (are_weeks P (lines_of f.front) f.earlier) few;
      cannot = cannot_go_on P f.front f.line f.begins f.unbroken f.some bad;
    }

line_is_first : (P : Instance) (bytes : List ℕ) (why : RosterRefusal) (f : FirstBad P 1 bytes why) → 1 ≤ P.days → WeekSays P f.number (words_of_line f.line) (Some why) → IsFirstFailure P bytes why
line_is_first P bytes (Unknown k) f days says = line_fails P (HasUnknown P) bytes k (Unknown k) f days says.0 says.1 (unknown_not_spelled P (words_of_line f.line) says.1)
line_is_first P bytes (Width k) f days says =
    line_fails P (HasWrongWidth P) bytes k (Width k) f days says.0
    (record { some = some_words (words_of_line f.line) f.some; names = says.1; width = says.2 })
    (λ h. says.2 h.1)
line_is_first P bytes (Weeks k) f days says = absurd says

count_fails : (P : Instance) (bytes : List ℕ) (count : ℕ) → 1 ≤ P.days → first_refusal P (symbol_of P) (numbered_weeks bytes) ≡ None → count ≡ length (weeks_of bytes) → count ≢ P.weeks → CountFails P bytes count
count_fails P bytes count days none counted other =
    let good = all_good P 1 (lines_of bytes) none in
    let fed = weeks_fed bytes in
    let same : length (weeks_of (bytes ++ 10 ∷ [])) ≡ length (weeks_of bytes) = ap (λ w. length w) fed in
    record {
      lines = All-from_recursion (IsGood P) (lines_of bytes) good;
      counted = counted;
      other = other;
      few = λ less. can_go_on P (bytes ++ 10 ∷ []) days (inr (bytes, refl)) (subst (AllByRecursion (IsWeek P)) (sym fed) (are_weeks P (lines_of bytes) good)) (omega (arith, same, counted, less));
      many = λ more. too_many P bytes (omega (arith, counted, more));
    }

-- which number of weeks is refused
abbrev CountSays : Instance → ℕ → RosterRefusal → Type 0
CountSays P n (Unknown k) = ⊥
CountSays P n (Width k) = ⊥
CountSays P n (Weeks k) = (k ≡ n) × (n ≢ P.weeks)

count_by_equal : (P : Instance) (n : ℕ) (why : RosterRefusal) (b : Bool) → (n == P.weeks) ≡ b → cond b None (Some (Weeks n)) ≡ Some why → CountSays P n why
count_by_equal P n why true e h = absurd (cc)
count_by_equal P n why false e h =
    let same : Weeks n ≡ why = cc in
    subst (CountSays P n) same (refl, eqb-false n P.weeks e)

count_is_first : (P : Instance) (bytes : List ℕ) (why : RosterRefusal) → 1 ≤ P.days → first_refusal P (symbol_of P) (numbered_weeks bytes) ≡ None → CountSays P (length (weeks_of bytes)) why → IsFirstFailure P bytes why
count_is_first P bytes (Unknown k) days none says = absurd says
count_is_first P bytes (Width k) days none says = absurd says
count_is_first P bytes (Weeks k) days none says = count_fails P bytes k days none says.0 (λ e. says.1 (sym says.0 ∙ e))

first_by_lines : (P : Instance) (bytes : List ℕ) (why : RosterRefusal) → 1 ≤ P.days → (o : Option RosterRefusal) → first_refusal P (symbol_of P) (numbered_weeks bytes) ≡ o → option_or o (count_refusal P (length (weeks_of bytes))) ≡ Some why → IsFirstFailure P bytes why
first_by_lines P bytes why days None e h =
    count_is_first P bytes why days e (count_by_equal P (length (weeks_of bytes)) why (length (weeks_of bytes) == P.weeks) refl h)
first_by_lines P bytes why days (Some other) e h =
    let f = find P (lines_of bytes) 1 bytes why refl (e ∙ h) in
    line_is_first P bytes why f days (week_says P f.number (words_of_line f.line) (Some why) f.refused)

-- ---- the other way: what fails first is why the text is refused

-- the lines in front of a place where a line begins
record LinesInFront (front : List ℕ) : Type 0 where
  lines : List (List ℕ)
  whole : lines_of front ≡ lines ++ [] ∷ []
  behind : (rest : List ℕ) → lines_of (front ++ rest) ≡ lines ++ lines_of rest

lines_in_front : (front : List ℕ) → EndsWithFeed front → LinesInFront front
lines_in_front front (inl e) = record { lines = []; whole = ap lines_of e; behind = λ rest. ap (λ f. lines_of (f ++ rest)) e }
lines_in_front front (inr a) = record {
  lines = lines_of a.0;
  whole = ap lines_of a.1 ∙ lines_joined a.0 [];
  behind = λ rest. ap (λ f. lines_of (f ++ rest)) a.1 ∙ ap lines_of (append_assoc a.0 (10 ∷ []) rest) ∙ lines_joined a.0 rest;
}

all_in_front : {X : Type 0} (Q : X → Type 0) (xs ys : List X) → All Q (xs ++ ys) → AllByRecursion Q xs
all_in_front Q [] ys h = tt
all_in_front Q (x ∷ xs) ys h = (All-head Q x (xs ++ ys) h, all_in_front Q xs ys (All-tail Q x (xs ++ ys) h))

names_known : (P : Instance) (words : List (List ℕ)) → All (IsName P) words → list_any (is_unknown P) words ≡ false
names_known P words h = let s = symbols_named P words h in none_unknown (symbol_of P) words s.0 s.1

week_accepted : (P : Instance) (n : ℕ) (words : List (List ℕ)) → IsWeek P words → week_refusal P (symbol_of P) (n, words) ≡ None
week_accepted P n words h =
    cond-false (list_any (is_unknown P) words) (Some (Unknown n)) (cond (length words == P.days) None (Some (Width n))) (names_known P words h.names)
    ∙ cond-true (length words == P.days) None (Some (Width n)) (eq-eqb (length words) P.days h.days)

unknown_refused : (P : Instance) (n : ℕ) (words : List (List ℕ)) → HasUnknown P words → week_refusal P (symbol_of P) (n, words) ≡ Some (Unknown n)
unknown_refused P n words m =
    cond-true (list_any (is_unknown P) words) (Some (Unknown n)) (cond (length words == P.days) None (Some (Width n)))
    (list_any-from_Any (is_unknown P) words (m.0, m.1, m.2, m.3, ap is_none m.4))

width_refused : (P : Instance) (n : ℕ) (words : List (List ℕ)) → HasWrongWidth P words → week_refusal P (symbol_of P) (n, words) ≡ Some (Width n)
width_refused P n words h =
    cond-false (list_any (is_unknown P) words) (Some (Unknown n)) (cond (length words == P.days) None (Some (Width n))) (names_known P words h.names)
    ∙ cond-false (length words == P.days) None (Some (Width n)) (ne_eqb (length words) P.days h.width)

good_accepted : (P : Instance) (n : ℕ) (line : List ℕ) (rest : List (ℕ × List (List ℕ))) → IsGood P line → (b : Bool) → has_some (words_of_line line) ≡ b → first_refusal P (symbol_of P) (cond b ((n, words_of_line line) ∷ rest) rest) ≡ first_refusal P (symbol_of P) rest
good_accepted P n line rest good false e = refl
good_accepted P n line rest (inl none) true e = absurd (some_words (words_of_line line) e none)
good_accepted P n line rest (inr week) true e = ap (λ o. option_or o (first_refusal P (symbol_of P) rest)) (week_accepted P n (words_of_line line) week)

none_refused : (P : Instance) (n : ℕ) (lines : List (List ℕ)) → AllByRecursion (IsGood P) lines → first_refusal P (symbol_of P) (weeks_from n lines) ≡ None
none_refused P n [] h = refl
none_refused P n (line ∷ lines) h =
    good_accepted P n line (weeks_from (n + 1) lines) h.0 (has_some (words_of_line line)) refl ∙ none_refused P (n + 1) lines h.1

refused_behind : (P : Instance) (lines : List (List ℕ)) (line : List ℕ) (others : List (List ℕ)) (n number : ℕ) (why : RosterRefusal) → AllByRecursion (IsGood P) lines → has_some (words_of_line line) ≡ true → number ≡ n + length lines → week_refusal P (symbol_of P) (number, words_of_line line) ≡ Some why → first_refusal P (symbol_of P) (weeks_from n (lines ++ line ∷ others)) ≡ Some why
refused_behind P [] line others n number why h some place refused =
    let same : number ≡ n = omega (arith, place) in
    let rest = weeks_from (n + 1) others in
    ap (first_refusal P (symbol_of P)) (cond-true (has_some (words_of_line line)) ((n, words_of_line line) ∷ rest) rest some)
    ∙ ap (λ o. option_or o (first_refusal P (symbol_of P) rest)) (subst (λ k. week_refusal P (symbol_of P) (k, words_of_line line) ≡ Some why) same refused)
refused_behind P (first ∷ lines) line others n number why h some place refused =
    good_accepted P n first (weeks_from (n + 1) (lines ++ line ∷ others)) h.0 (has_some (words_of_line first)) refl
    ∙ refused_behind P lines line others (n + 1) number why h.1 some (omega (arith, place)) refused

line_refused : (P : Instance) (Fault : List (List ℕ) → Type 0) (bytes : List ℕ) (number : ℕ) (why : RosterRefusal) (f : LineFails P Fault bytes number) → has_some (words_of_line f.line) ≡ true → week_refusal P (symbol_of P) (number, words_of_line f.line) ≡ Some why → refusal_of_roster P bytes ≡ Some why
line_refused P Fault bytes number why f some refused =
    let b = lines_in_front f.front f.begins in
    let c = line_cut f.line f.back f.unbroken f.ends in
    let lines : lines_of bytes ≡ b.lines ++ f.line ∷ c.0 =
    ap lines_of f.whole ∙ ap lines_of (append_assoc f.front f.line f.back) ∙ b.behind (f.line ++ f.back) ∙ ap (λ ls. b.lines ++ ls) c.1 in
    let place : number ≡ count_by is_feed f.front + 1 = f.place in
    let long : length (lines_of f.front) ≡ length (b.lines ++ [] ∷ []) = ap (λ ls. length ls) b.whole in
    let good = all_in_front (IsGood P) b.lines ([] ∷ []) (subst (All (IsGood P)) b.whole f.earlier) in
    let number_is : number ≡ 1 + length b.lines = omega (arith, place, long, length-append b.lines ([] ∷ []), length-slice_split is_feed f.front) in
    line_is_refused P (symbol_of P) bytes why (ap (λ ls. first_refusal P (symbol_of P) (weeks_from 1 ls)) lines ∙ refused_behind P b.lines f.line c.0 1 number why good some number_is refused)

count_refused : (P : Instance) (bytes : List ℕ) (count : ℕ) → CountFails P bytes count → refusal_of_roster P bytes ≡ Some (Weeks count)
count_refused P bytes count f =
    let good = recursion_from_All (IsGood P) (lines_of bytes) f.lines in
    let long : length (weeks_of bytes) ≡ length (numbered_weeks bytes) = ap (λ w. length w) (sym (weeks_are bytes)) ∙ length-map (numbered_weeks bytes) (λ week. week.1) in
    count_is_refused P (symbol_of P) bytes count (none_refused P 1 (lines_of bytes) good) (f.counted ∙ long) f.other

has_words : (words : List (List ℕ)) → 0 < length words → has_some words ≡ true
has_words [] h = absurd (omega (arith, h))
has_words (word ∷ words) h = refl

words_there : (words : List (List ℕ)) → words ≢ [] → has_some words ≡ true
words_there [] h = absurd (h refl)
words_there (word ∷ words) h = refl

first_is_refused : (P : Instance) (bytes : List ℕ) (why : RosterRefusal) → IsFirstFailure P bytes why → refusal_of_roster P bytes ≡ Some why
first_is_refused P bytes (Unknown k) f =
    let words = words_of_line f.line in
    let m = f.fault in
    let below : m.0 < length words = m.2 in
    line_refused P (HasUnknown P) bytes k (Unknown k) f (has_words words (omega (arith, below))) (unknown_refused P k words m)
first_is_refused P bytes (Width k) f =
    let words = words_of_line f.line in
    let wrong = f.fault in
    line_refused P (HasWrongWidth P) bytes k (Width k) f (words_there words wrong.some) (width_refused P k words wrong)
first_is_refused P bytes (Weeks k) f = count_refused P bytes k f

pub refusals_are_first : RefusalsAreFirst
refusals_are_first P bytes why days = (λ h. first_by_lines P bytes why days (first_refusal P (symbol_of P) (numbered_weeks bytes)) refl h, first_is_refused P bytes why)
