-- That the printed text of a roster spells it.
use Rattle.std.proofs.Common.{◌≡◌, ℕ, zero, suc, ◌+◌, ◌-◌, ◌*◌, ◌<◌, ◌≤◌, List, [], ◌∷◌, ◌++◌, length, take, drop, Some, true, refl, ap, sym, ◌∙◌, arith, subst, length-drop, mul-le-mul_right}
use Rattle.std.specs.Prelude.{map, filter, All}
use Rattle.std.specs.List.{flat_map, range_with_len, join_with_byte, AllByRecursion}
use Rattle.std.proofs.lemmas.List.{map-append, length-map, drop-drop, take_all, length-take-le}
use Rattle.std.proofs.lemmas.List.Elements.{All-from_recursion, All-head, All-tail, All-take, All-drop}
use Rattle.std.proofs.lemmas.Bool.{cond-true}
use Rattle.std.proofs.Math.Seq.{take-add}
use Rattle.std.proofs.lemmas.List.FromFn.{length-range_with_len}
use Rattle.rwsp_text.specs.Lexemes.{lines_of, words_of_line, has_some}
use Rattle.rwsp_text.proofs.JoinedWords.{IsPrinted, printed_word, words_printed, line_printed, length_of_line, length_of_lines}
use Rattle.rwsp_terms.specs.declared.limits.TheConstants.{MOST_CELLS, MOST_WEEKS}
use Rattle.rwsp_terms.specs.Instance.{Instance, symbol_of, name_of, IsSymbol}
use Rattle.rwsp_terms.specs.Roster.{IsRoster}
use Rattle.rwsp_terms.specs.declared.data.Symbol.{Symbol}
use Rattle.rwsp_model.specs.Validity.{KeepsLimits}
use Rattle.rwsp_model.proofs.Limits.{valid_keeps}
use Rattle.rwsp_model.proofs.Names.{symbol_named, symbol_word}
use Rattle.roster_print.specs.RosterText.{weeks_of, week_at, week_text, roster_text, SpellsRoster}
use Rattle.roster_print.specs.Laws.{PrintedIsSpelled, PrintedIsShort}

-- a week that is printed: words, at least one
abbrev IsWeek : List (List ℕ) → Type 0
IsWeek week = AllByRecursion IsPrinted week × (has_some week ≡ true)

pub weeks_printed : (week : ℕ → List (List ℕ)) (ks : List ℕ) → AllByRecursion (λ k. IsWeek (week k)) ks → weeks_of (flat_map (λ k. join_with_byte 32 (week k) ++ 10 ∷ []) ks) ≡ map week ks
weeks_printed week [] h = refl
weeks_printed week (k ∷ ks) h =
    let rest = flat_map (λ i. join_with_byte 32 (week i) ++ 10 ∷ []) ks in
    ap (λ lines. filter has_some (map words_of_line lines)) (line_printed (week k) rest h.0.0)
    ∙ ap (λ words. filter has_some (words ∷ map words_of_line (lines_of rest))) (words_printed (week k) h.0.0)
    ∙ cond-true (has_some (week k)) (week k ∷ weeks_of rest) (weeks_of rest) h.0.1
    ∙ ap (λ weeks. week k ∷ weeks) (weeks_printed week ks h.1)

-- what holds of each number of a range
all_range : (Q : ℕ → Type 0) (a n : ℕ) → ((k : ℕ) → a ≤ k → k < a + n → Q k) → AllByRecursion Q (range_with_len a n)
all_range Q a zero h = tt
all_range Q a (suc n) h = (h a (omega arith) (omega arith), all_range Q (a + 1) n (λ k low high. h k (omega arith) (omega arith)))

-- the weeks, one behind the other, are the cells
weeks_joined : (d : ℕ) (s : List Symbol) (a n : ℕ) → flat_map (λ k. take d (drop (k * d) s)) (range_with_len a n) ≡ take (n * d) (drop (a * d) s)
weeks_joined d s a zero = let none : 0 * d ≡ 0 = omega arith in ap (λ m. take m (drop (a * d) s)) (sym none)
weeks_joined d s a (suc n) =
    let next : a * d + d ≡ (a + 1) * d = omega arith in
    let more : d + n * d ≡ suc n * d = omega arith in
    ap (λ w. take d (drop (a * d) s) ++ w) (weeks_joined d s (a + 1) n ∙ ap (λ m. take (n * d) (drop m s)) (sym next) ∙ ap (take (n * d)) (sym (drop-drop d (a * d) s)))
    ∙ sym (take-add d (n * d) (drop (a * d) s))
    ∙ ap (λ m. take m (drop (a * d) s)) more

-- the names of a valid problem's symbols

symbols_of_names : (P : Instance) → KeepsLimits P → (week : List Symbol) → All (IsSymbol P) week → map (symbol_of P) (map (name_of P) week) ≡ map Some week
symbols_of_names P limits [] h = refl
symbols_of_names P limits (x ∷ week) h =
    let one : symbol_of P (name_of P x) ≡ Some x = symbol_named P x limits (All-head (IsSymbol P) x week h) in
    let rest : map (symbol_of P) (map (name_of P) week) ≡ map Some week = symbols_of_names P limits week (All-tail (IsSymbol P) x week h) in
    ap (λ o. o ∷ map (symbol_of P) (map (name_of P) week)) one ∙ ap (λ w. Some x ∷ w) rest

-- their names may be printed, and are short
abbrev IsShortWord : List ℕ → Type 0
IsShortWord word = length word ≤ 32

names_are_printed : (P : Instance) → KeepsLimits P → (week : List Symbol) → All (IsSymbol P) week → AllByRecursion IsPrinted (map (name_of P) week) × AllByRecursion IsShortWord (map (name_of P) week)
names_are_printed P limits [] h = (tt, tt)
names_are_printed P limits (x ∷ week) h =
    let name = symbol_word P x.number limits (All-head (IsSymbol P) x week h) in
    let rest = names_are_printed P limits week (All-tail (IsSymbol P) x week h) in
    ((printed_word (name_of P x) name.0.some name.0.no_hash name.0.unbroken, rest.0), (name.1, rest.1))

-- the weeks of a roster

week_symbols : (P : Instance) (s : List Symbol) (k : ℕ) → IsRoster P s → All (IsSymbol P) (week_at P s k)
week_symbols P s k h = All-take (IsSymbol P) P.days (drop (k * P.days) s) (All-drop (IsSymbol P) (k * P.days) s h.symbols)

length-week_at : (P : Instance) (s : List Symbol) (k : ℕ) → IsRoster P s → k < P.weeks → length (week_at P s k) ≡ P.days
length-week_at P s k h below =
    let next : k + 1 ≤ P.weeks = omega arith in
    let more : (k + 1) * P.days ≤ P.weeks * P.days = mul-le-mul_right P.days next in
    let long : length s ≡ P.weeks * P.days = h.long in
    let left : length (drop (k * P.days) s) ≡ length s - k * P.days = length-drop (k * P.days) s in
    length-take-le P.days (drop (k * P.days) s) (omega arith)

abbrev week_names : Instance → List Symbol → ℕ → List (List ℕ)
week_names P s k = map (name_of P) (week_at P s k)

week_is_printed : (P : Instance) (s : List Symbol) → KeepsLimits P → IsRoster P s → (k : ℕ) → k < P.weeks → IsWeek (week_names P s k)
week_is_printed P s limits h k below =
    let long : length (week_names P s k) ≡ P.days = length-map (week_at P s k) (name_of P) ∙ length-week_at P s k h below in
    let days : 1 ≤ P.days = limits.some_days in
    ((names_are_printed P limits (week_at P s k) (week_symbols P s k h)).0, has_words (week_names P s k) (omega arith))
  where
    has_words : (words : List (List ℕ)) → 1 ≤ length words → has_some words ≡ true
    has_words [] h = absurd (omega arith)
    has_words (word ∷ words) h = refl

weeks_of_text : (P : Instance) (s : List Symbol) → KeepsLimits P → IsRoster P s → weeks_of (roster_text P s) ≡ map (week_names P s) (range_with_len 0 P.weeks)
weeks_of_text P s limits h = weeks_printed (week_names P s) (range_with_len 0 P.weeks) (all_range (λ k. IsWeek (week_names P s k)) 0 P.weeks (λ k low high. week_is_printed P s limits h k (omega arith)))

days_printed : (P : Instance) (s : List Symbol) → IsRoster P s → (ks : List ℕ) → AllByRecursion (λ k. k < P.weeks) ks → AllByRecursion (λ week. length week ≡ P.days) (map (week_names P s) ks)
days_printed P s h [] below = tt
days_printed P s h (k ∷ ks) below = (length-map (week_at P s k) (name_of P) ∙ length-week_at P s k h below.0, days_printed P s h ks below.1)

symbols_printed : (P : Instance) (s : List Symbol) → KeepsLimits P → IsRoster P s → (ks : List ℕ) → map (symbol_of P) (flat_map (λ week. week) (map (week_names P s) ks)) ≡ map Some (flat_map (week_at P s) ks)
symbols_printed P s limits h [] = refl
symbols_printed P s limits h (k ∷ ks) =
    map-append (symbol_of P) (week_names P s k) (flat_map (λ week. week) (map (week_names P s) ks))
    ∙ ap (λ w. w ++ map (symbol_of P) (flat_map (λ week. week) (map (week_names P s) ks))) (symbols_of_names P limits (week_at P s k) (week_symbols P s k h))
    ∙ ap (λ w. map Some (week_at P s k) ++ w) (symbols_printed P s limits h ks)
    ∙ sym (map-append Some (week_at P s k) (flat_map (week_at P s) ks))

cells_joined : (P : Instance) (s : List Symbol) → IsRoster P s → flat_map (week_at P s) (range_with_len 0 P.weeks) ≡ s
cells_joined P s h =
    let none : 0 * P.days ≡ 0 = omega arith in
    let long : length s ≡ P.weeks * P.days = h.long in
    weeks_joined P.days s 0 P.weeks ∙ ap (λ m. take (P.weeks * P.days) (drop m s)) none ∙ take_all (P.weeks * P.days) s (omega (arith, long))

printed_spells : (P : Instance) (s : List Symbol) → KeepsLimits P → IsRoster P s → SpellsRoster P (roster_text P s) s
printed_spells P s limits h =
    let ks = range_with_len 0 P.weeks in
    let weeks = weeks_of_text P s limits h in
    let Days : List (List (List ℕ)) → Type 0 = λ w. All (λ week. length week ≡ P.days) w in
    record {
      weeks = ap length weeks ∙ length-map ks (week_names P s) ∙ length-range_with_len 0 P.weeks;
      days = subst Days (sym weeks) (All-from_recursion (λ week. length week ≡ P.days) (map (week_names P s) ks) (days_printed P s h ks (all_range (λ k. k < P.weeks) 0 P.weeks (λ k low high. omega arith))));
      names = ap (λ w. map (symbol_of P) (flat_map (λ week. week) w)) weeks ∙ symbols_printed P s limits h ks ∙ ap (map Some) (cells_joined P s h);
    }

pub printed_is_spelled : PrintedIsSpelled
printed_is_spelled P s valid h = printed_spells P s (valid_keeps P valid) h

-- how long the printed text is

week_is_short : (P : Instance) (s : List Symbol) → KeepsLimits P → IsRoster P s → (k : ℕ) → k < P.weeks → length (week_text P (week_at P s k)) ≤ 33 * P.days + 1
week_is_short P s limits h k below =
    let names = week_names P s k in
    let long : length names ≡ P.days = length-map (week_at P s k) (name_of P) ∙ length-week_at P s k h below in
    length_of_line 32 P.days names (names_are_printed P limits (week_at P s k) (week_symbols P s k h)).1 (omega (arith, long))

pub printed_is_short : PrintedIsShort
printed_is_short P s valid h =
    let limits = valid_keeps P valid in
    let ks = range_with_len 0 P.weeks in
    let all : length (roster_text P s) ≤ length ks * (33 * P.days + 1) = length_of_lines (λ k. week_text P (week_at P s k)) (33 * P.days + 1) ks (all_range (λ k. length (week_text P (week_at P s k)) ≤ 33 * P.days + 1) 0 P.weeks (λ k low high. week_is_short P s limits h k (omega arith))) in
    let count : length ks ≡ P.weeks = length-range_with_len 0 P.weeks in
    let size : length ks * (33 * P.days + 1) ≡ P.weeks * (33 * P.days + 1) = ap (λ n. n * (33 * P.days + 1)) count in
    let spread : P.weeks * (33 * P.days + 1) ≡ 33 * (P.weeks * P.days) + P.weeks = omega arith in
    let cells : P.weeks * P.days ≤ MOST_CELLS = limits.few_cells in
    let weeks : P.weeks ≤ MOST_WEEKS = limits.few_weeks in
    omega arith
