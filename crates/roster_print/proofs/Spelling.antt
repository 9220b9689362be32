-- What texts that spell a roster have, and when they are refused.
use Rattle.std.proofs.Common.{◌≡◌, ◌≢◌, ℕ, ◌+◌, ◌*◌, List, [], ◌∷◌, ◌++◌, length, Option, Some, None, Bool, true, false, cond, refl, ap, sym, ◌∙◌, arith, subst, length-append, eq-eqb, eqb-true}
use Rattle.std.specs.Prelude.{map, filter, is_none, ◌==◌, MatchOption, All}
use Rattle.std.specs.List.{list_any, flat_map, enumerate_from, AllByRecursion}
use Rattle.std.specs.Option.{option_or}
use Rattle.std.proofs.lemmas.List.{map-append, length-map}
use Rattle.std.proofs.lemmas.List.Folds.{list_any-append, flat_map-map}
use Rattle.std.proofs.lemmas.List.Elements.{All-from_recursion, All-head, All-tail}
use Rattle.std.proofs.lemmas.Bool.{or_parts, or_from, ne_eqb, cond-true, cond-false}
use Rattle.rwsp_text.specs.Lexemes.{lines_of, words_of_line, has_some}
use Rattle.rwsp_terms.proofs.SymbolNames.{symbol_found}
use Rattle.rwsp_terms.specs.Instance.{Instance, cells, symbol_of, IsSymbol}
use Rattle.rwsp_terms.specs.declared.data.Symbol.{Symbol}
use Rattle.roster_print.specs.RosterText.{weeks_of, SpellsWeeks}
use Rattle.roster_print.specs.Refusal.{numbered_weeks, week_refusal, first_refusal, count_refusal, refusal_of_weeks}
use Rattle.roster_print.specs.Laws.{TextSpellsOneRoster, RefusalsDecideSpelling, SpelledIsRoster}
use Rattle.roster_print.specs.declared.refusal.RosterRefusal.{RosterRefusal}
use Rattle.roster_print.specs.declared.refusal.RosterRefusal.TheVariants.{Unknown, Width, Weeks}

pub some_same : {X : Type 0} (s t : List X) → map Some s ≡ map Some t → s ≡ t
some_same [] [] e = refl
some_same [] (y ∷ t) e = absurd (cc)
some_same (x ∷ s) [] e = absurd (cc)
some_same (x ∷ s) (y ∷ t) e =
    let one : x ≡ y = cc in
    let rest : s ≡ t = some_same s t (cc) in
    cc

-- a text spells one list at most
pub one_list : {A : Type 0} (P : Instance) (said : List ℕ → Option A) (bytes : List ℕ) (s t : List A) → SpellsWeeks P said bytes s → SpellsWeeks P said bytes t → s ≡ t
one_list P said bytes s t a b = some_same s t (sym a.names ∙ b.names)

pub one_roster : TextSpellsOneRoster
one_roster P bytes s t a b = one_list P (symbol_of P) bytes s t a b

-- the symbol of a name is a symbol

named_is_symbol : (P : Instance) (name : List ℕ) (x : Symbol) → symbol_of P name ≡ Some x → IsSymbol P x
named_is_symbol P name x e = (symbol_found P name x e).0

named_are_symbols : (P : Instance) (names : List (List ℕ)) (s : List Symbol) → map (symbol_of P) names ≡ map Some s → AllByRecursion (IsSymbol P) s
named_are_symbols P names [] e = tt
named_are_symbols P [] (x ∷ s) e = absurd (cc)
named_are_symbols P (name ∷ names) (x ∷ s) e = (named_is_symbol P name x (cc), named_are_symbols P names s (cc))

pub length_joined : {X : Type 0} (d : ℕ) (weeks : List (List X)) → All (λ week. length week ≡ d) weeks → length (flat_map (λ week. week) weeks) ≡ length weeks * d
length_joined d [] h = omega arith
length_joined d (week ∷ weeks) h =
    let here : length week ≡ d = All-head (λ w. length w ≡ d) week weeks h in
    let rest : length (flat_map (λ w. w) weeks) ≡ length weeks * d = length_joined d weeks (All-tail (λ w. length w ≡ d) week weeks h) in
    length-append week (flat_map (λ w. w) weeks) ∙ omega (arith, here, rest)

length_some : {X : Type 0} (names : List (List ℕ)) (f : List ℕ → Option X) (s : List X) → map f names ≡ map Some s → length names ≡ length s
length_some names f s e = sym (length-map names f) ∙ ap length e ∙ length-map s Some

-- with as many elements as there are cells
pub spelled_is_long : {A : Type 0} (P : Instance) (said : List ℕ → Option A) (bytes : List ℕ) (s : List A) → SpellsWeeks P said bytes s → length s ≡ cells P
spelled_is_long P said bytes s a = sym (length_some (flat_map (λ week. week) (weeks_of bytes)) said s a.names) ∙ length_joined P.days (weeks_of bytes) a.days ∙ ap (λ n. n * P.days) a.weeks

pub spelled_is_roster : SpelledIsRoster
spelled_is_roster P bytes s a = record {
  long = spelled_is_long P (symbol_of P) bytes s a;
  symbols = All-from_recursion (IsSymbol P) s (named_are_symbols P (flat_map (λ week. week) (weeks_of bytes)) s a.names);
}

-- the weeks without their numbers

unnumbered_by : (n : ℕ) (line : List (List ℕ)) (lines : List (List (List ℕ))) (b : Bool) → map (λ week. week.1) (filter (λ week. has_some week.1) (enumerate_from (n + 1) lines)) ≡ filter has_some lines → map (λ week. week.1) (cond b ((n, line) ∷ filter (λ week. has_some week.1) (enumerate_from (n + 1) lines)) (filter (λ week. has_some week.1) (enumerate_from (n + 1) lines))) ≡ cond b (line ∷ filter has_some lines) (filter has_some lines)
unnumbered_by n line lines true e = ap (λ rest. line ∷ rest) e
unnumbered_by n line lines false e = e

pub unnumbered : (n : ℕ) (lines : List (List (List ℕ))) → map (λ week. week.1) (filter (λ week. has_some week.1) (enumerate_from n lines)) ≡ filter has_some lines
unnumbered n [] = refl
unnumbered n (line ∷ lines) = unnumbered_by n line lines (has_some line) (unnumbered (n + 1) lines)

-- words that all have a symbol, and their symbols

abbrev pub AllNamed : {X Y : Type 0} → (X → Option Y) → List X → Type 0
AllNamed {X} {Y} f names = (s : List Y) × (map f names ≡ map Some s)

named_first : {X Y : Type 0} (f : X → Option Y) (name : X) (names : List X) → AllNamed f names → (o : Option Y) → f name ≡ o → is_none o ≡ false → AllNamed f (name ∷ names)
named_first f name names all None e h = absurd (cc)
named_first f name names all (Some x) e h = (x ∷ all.0, let one : f name ≡ Some x = e in let rest : map f names ≡ map Some all.0 = all.1 in cc)

pub all_named : {X Y : Type 0} (f : X → Option Y) (names : List X) → list_any (λ name. is_none (f name)) names ≡ false → AllNamed f names
all_named f [] h = ([], refl)
all_named f (name ∷ names) h =
    let parts = or_parts (is_none (f name)) (list_any (λ name. is_none (f name)) names) h in
    named_first f name names (all_named f names parts.1) (f name) refl parts.0

pub none_unknown : {X Y : Type 0} (f : X → Option Y) (names : List X) (s : List Y) → map f names ≡ map Some s → list_any (λ name. is_none (f name)) names ≡ false
none_unknown f [] s e = refl
none_unknown f (name ∷ names) [] e = absurd (cc)
none_unknown f (name ∷ names) (x ∷ s) e =
    let one : f name ≡ Some x = cc in
    or_from (is_none (f name)) (list_any (λ name. is_none (f name)) names) (ap is_none one) (none_unknown f names s (cc))

-- when a week isn't refused

abbrev WeekNamed : {A : Type 0} → Instance → (List ℕ → Option A) → List (List ℕ) → Type 0
WeekNamed P said week = (list_any (λ word. is_none (said word)) week ≡ false) × (length week ≡ P.days)

week_by : {A : Type 0} (P : Instance) (said : List ℕ → Option A) (n : ℕ) (week : List (List ℕ)) (unknown wide : Bool) → list_any (λ word. is_none (said word)) week ≡ unknown → (length week == P.days) ≡ wide → cond unknown (Some (Unknown n)) (cond wide None (Some (Width n))) ≡ None → WeekNamed P said week
week_by P said n week true wide e w h = absurd (cc)
week_by P said n week false true e w h = (e, eqb-true (length week) P.days w)
week_by P said n week false false e w h = absurd (cc)

week_named : {A : Type 0} (P : Instance) (said : List ℕ → Option A) (n : ℕ) (week : List (List ℕ)) → week_refusal P said (n, week) ≡ None → WeekNamed P said week
week_named P said n week h = week_by P said n week (list_any (λ word. is_none (said word)) week) (length week == P.days) refl refl h

week_unrefused : {A : Type 0} (P : Instance) (said : List ℕ → Option A) (n : ℕ) (week : List (List ℕ)) → WeekNamed P said week → week_refusal P said (n, week) ≡ None
week_unrefused P said n week h =
    cond-false (list_any (λ word. is_none (said word)) week) (Some (Unknown n)) (cond (length week == P.days) None (Some (Width n))) h.0
    ∙ cond-true (length week == P.days) None (Some (Width n)) (eq-eqb (length week) P.days h.1)

-- when no week is refused

pub both_none : {X : Type 0} (a b : Option X) → option_or a b ≡ None → (a ≡ None) × (b ≡ None)
both_none None b h = (refl, h)
both_none (Some x) b h = absurd (cc)

pub none_of_both : {X : Type 0} (a b : Option X) → a ≡ None → b ≡ None → option_or a b ≡ None
none_of_both a b h k = ap (λ o. option_or o b) h ∙ k

pub record WeeksNamed {A : Type 0} (P : Instance) (said : List ℕ → Option A) (weeks : List (List (List ℕ))) : Type 0 where
  pub symbols : List A
  pub names : map said (flat_map (λ week. week) weeks) ≡ map Some symbols
  pub days : AllByRecursion (λ week. length week ≡ P.days) weeks

pub weeks_named : {A : Type 0} (P : Instance) (said : List ℕ → Option A) (weeks : List (ℕ × List (List ℕ))) → first_refusal P said weeks ≡ None → WeeksNamed P said (map (λ week. week.1) weeks)
weeks_named P said [] h = record { symbols = []; names = refl; days = tt }
weeks_named P said (week ∷ weeks) h =
    let parts = both_none (week_refusal P said week) (first_refusal P said weeks) h in
    let here = week_named P said week.0 week.1 parts.0 in
    let one = all_named said week.1 here.0 in
    let rest = weeks_named P said weeks parts.1 in
    record {
      symbols = one.0 ++ rest.symbols;
      names = map-append said week.1 (flat_map (λ week. week) (map (λ week. week.1) weeks)) ∙ ap (λ w. w ++ map said (flat_map (λ week. week) (map (λ week. week.1) weeks))) one.1 ∙ ap (λ w. map Some one.0 ++ w) rest.names ∙ sym (map-append Some one.0 rest.symbols);
      days = (here.1, rest.days);
    }

weeks_unrefused : {A : Type 0} (P : Instance) (said : List ℕ → Option A) (weeks : List (ℕ × List (List ℕ))) → list_any (λ word. is_none (said word)) (flat_map (λ week. week) (map (λ week. week.1) weeks)) ≡ false → All (λ week. length week ≡ P.days) (map (λ week. week.1) weeks) → first_refusal P said weeks ≡ None
weeks_unrefused P said [] h d = refl
weeks_unrefused P said (week ∷ weeks) h d =
    let others = flat_map (λ week. week) (map (λ week. week.1) weeks) in
    let unknown : List ℕ → Bool = λ word. is_none (said word) in
    let parts = or_parts (list_any unknown week.1) (list_any unknown others) (sym (list_any-append unknown week.1 others) ∙ h) in
    let here : length week.1 ≡ P.days = All-head (λ w. length w ≡ P.days) week.1 (map (λ week. week.1) weeks) d in
    none_of_both (week_refusal P said week) (first_refusal P said weeks)
    (week_unrefused P said week.0 week.1 (parts.0, here))
    (weeks_unrefused P said weeks parts.1 (All-tail (λ w. length w ≡ P.days) week.1 (map (λ week. week.1) weeks) d))

pub count_by_test : (P : Instance) (n : ℕ) (b : Bool) → (n == P.weeks) ≡ b → cond b None (Some (Weeks n)) ≡ None → n ≡ P.weeks
count_by_test P n true e h = eqb-true n P.weeks e
count_by_test P n false e h = absurd (cc)

-- the weeks of a text, by its numbered weeks
pub weeks_are : (bytes : List ℕ) → map (λ week. week.1) (numbered_weeks bytes) ≡ weeks_of bytes
weeks_are bytes = unnumbered 1 (map words_of_line (lines_of bytes))

spelled_by : {A : Type 0} (P : Instance) (said : List ℕ → Option A) (bytes : List ℕ) → WeeksNamed P said (weeks_of bytes) → length (weeks_of bytes) ≡ P.weeks → (s : List A) × SpellsWeeks P said bytes s
spelled_by P said bytes named count = (named.symbols, record { weeks = count; days = All-from_recursion (λ week. length week ≡ P.days) (weeks_of bytes) named.days; names = named.names })

unrefused_is_spelled : {A : Type 0} (P : Instance) (said : List ℕ → Option A) (bytes : List ℕ) → refusal_of_weeks P said bytes ≡ None → (s : List A) × SpellsWeeks P said bytes s
unrefused_is_spelled P said bytes h =
    let parts = both_none (first_refusal P said (numbered_weeks bytes)) (count_refusal P (length (weeks_of bytes))) h in
    spelled_by P said bytes
    (subst (WeeksNamed P said) (weeks_are bytes) (weeks_named P said (numbered_weeks bytes) parts.0))
    (count_by_test P (length (weeks_of bytes)) (length (weeks_of bytes) == P.weeks) refl parts.1)

spelled_is_unrefused : {A : Type 0} (P : Instance) (said : List ℕ → Option A) (bytes : List ℕ) (s : List A) → SpellsWeeks P said bytes s → refusal_of_weeks P said bytes ≡ None
spelled_is_unrefused P said bytes s a =
    let known : list_any (λ word. is_none (said word)) (flat_map (λ week. week) (weeks_of bytes)) ≡ false = none_unknown said (flat_map (λ week. week) (weeks_of bytes)) s a.names in
    let Known : List (List (List ℕ)) → Type 0 = λ weeks. list_any (λ word. is_none (said word)) (flat_map (λ week. week) weeks) ≡ false in
    let Days : List (List (List ℕ)) → Type 0 = λ weeks. All (λ week. length week ≡ P.days) weeks in
    none_of_both (first_refusal P said (numbered_weeks bytes)) (count_refusal P (length (weeks_of bytes)))
    (weeks_unrefused P said (numbered_weeks bytes) (subst Known (sym (weeks_are bytes)) known) (subst Days (sym (weeks_are bytes)) a.days))
    (cond-true (length (weeks_of bytes) == P.weeks) None (Some (Weeks (length (weeks_of bytes)))) (eq-eqb (length (weeks_of bytes)) P.weeks a.weeks))

decided_by : {A : Type 0} (P : Instance) (said : List ℕ → Option A) (bytes : List ℕ) (o : Option RosterRefusal) → refusal_of_weeks P said bytes ≡ o → MatchOption o ((s : List A) × SpellsWeeks P said bytes s) (λ why. (s : List A) → SpellsWeeks P said bytes s → ⊥)
decided_by P said bytes None e = unrefused_is_spelled P said bytes e
decided_by P said bytes (Some why) e = λ s a. let none : refusal_of_weeks P said bytes ≡ None = spelled_is_unrefused P said bytes s a in let both : Some why ≡ None = sym e ∙ none in cc

pub decides : {A : Type 0} (P : Instance) (said : List ℕ → Option A) (bytes : List ℕ) → MatchOption (refusal_of_weeks P said bytes) ((s : List A) × SpellsWeeks P said bytes s) (λ why. (s : List A) → SpellsWeeks P said bytes s → ⊥)
decides P said bytes = decided_by P said bytes (refusal_of_weeks P said bytes) refl

pub refusals_decide : RefusalsDecideSpelling
refusals_decide P bytes = decides P (symbol_of P) bytes

-- what reading answers

pub read_is_spelled : {A : Type 0} (P : Instance) (said : List ℕ → Option A) (bytes : List ℕ) (s : List A) → map Some s ≡ map said (flat_map (λ week. week.1) (numbered_weeks bytes)) → length (numbered_weeks bytes) ≡ P.weeks → first_refusal P said (numbered_weeks bytes) ≡ None → SpellsWeeks P said bytes s
read_is_spelled P said bytes s names count accepted =
    let named = subst (WeeksNamed P said) (weeks_are bytes) (weeks_named P said (numbered_weeks bytes) accepted) in
    let words : flat_map (λ week. week) (weeks_of bytes) ≡ flat_map (λ week. week.1) (numbered_weeks bytes) = ap (flat_map (λ week. week)) (sym (weeks_are bytes)) ∙ flat_map-map (λ week. week) (λ week. week.1) (numbered_weeks bytes) in
    record {
      weeks = ap length (sym (weeks_are bytes)) ∙ length-map (numbered_weeks bytes) (λ week. week.1) ∙ count;
      days = All-from_recursion (λ week. length week ≡ P.days) (weeks_of bytes) named.days;
      names = ap (map said) words ∙ sym names;
    }

pub line_is_refused : {A : Type 0} (P : Instance) (said : List ℕ → Option A) (bytes : List ℕ) (why : RosterRefusal) → first_refusal P said (numbered_weeks bytes) ≡ Some why → refusal_of_weeks P said bytes ≡ Some why
line_is_refused P said bytes why h = ap (λ o. option_or o (count_refusal P (length (weeks_of bytes)))) h

pub count_is_refused : {A : Type 0} (P : Instance) (said : List ℕ → Option A) (bytes : List ℕ) (n : ℕ) → first_refusal P said (numbered_weeks bytes) ≡ None → n ≡ length (numbered_weeks bytes) → n ≢ P.weeks → refusal_of_weeks P said bytes ≡ Some (Weeks n)
count_is_refused P said bytes n accepted count other =
    let long : length (weeks_of bytes) ≡ n = ap length (sym (weeks_are bytes)) ∙ length-map (numbered_weeks bytes) (λ week. week.1) ∙ sym count in
    ap (λ o. option_or o (count_refusal P (length (weeks_of bytes)))) accepted
    ∙ ap (count_refusal P) long
    ∙ cond-false (n == P.weeks) None (Some (Weeks n)) (ne_eqb n P.weeks other)

-- where there is a refusal, no roster is spelled
pub refused_spells_none : {A : Type 0} (P : Instance) (said : List ℕ → Option A) (bytes : List ℕ) (why : RosterRefusal) → refusal_of_weeks P said bytes ≡ Some why → (s : List A) → SpellsWeeks P said bytes s → ⊥
refused_spells_none P said bytes why e = decided_by P said bytes (Some why) e
