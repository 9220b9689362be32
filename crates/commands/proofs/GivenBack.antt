-- `roster` gives back the roster of what `plan`, `best` and `staff` print, and shows no other.
use Rattle.std.proofs.Common.{◌≡◌, ◌≢◌, ℕ, zero, suc, ◌+◌, ◌^◌, ◌<◌, ◌≤◌, ◌==◌, ◌⊎◌, inl, inr, List, [], ◌∷◌, ◌++◌, length, map, codes, true, false, not, Some, None, refl, ap, sym, subst, ◌∙◌, arith, append_assoc}
use Rattle.std.specs.Prelude.{All, ◌||◌, slice_get, filter, slice_index}
use Rattle.std.specs.List.{flat_map, join_with_byte, list_all, AllByRecursion}
use Rattle.std.specs.Char.{is_ascii_digit}
use Rattle.std.specs.Fmt.{decimal}
use Rattle.std.proofs.lemmas.Bool.{and_parts, ne_eqb, not-true, cond-true}
use Rattle.std.proofs.lemmas.Fmt.{digits_decimal, decimal_nonempty}
use Rattle.std.proofs.lemmas.List.Elements.{All-nil, All-cons}
use Rattle.rwsp_terms.specs.declared.data.Symbol.{Symbol}
use Rattle.rwsp_terms.specs.Instance.{Instance, symbol_of}
use Rattle.rwsp_terms.specs.Roster.{IsRoster, MeetsAll}
use Rattle.rwsp_text.specs.Lexemes.{lines_of, words_of_line, has_some, is_space}
use Rattle.rwsp_text.proofs.JoinedWords.{IsPrinted, printed_word, words_printed, line_printed}
use Rattle.rwsp_text.proofs.Printed.{ascii_digits_model}
use Rattle.rwsp_model.specs.Validity.{IsValid, KeepsLimits}
use Rattle.rwsp_model.specs.declared.roster.Roster.{Roster}
use Rattle.rwsp_model.proofs.Limits.{keeps_valid}
use Rattle.roster_print.specs.RosterText.{weeks_of, roster_text, SpellsRoster}
use Rattle.roster_print.proofs.Printed.{printed_is_spelled, printed_is_short}
use Rattle.roster_print.proofs.Spelling.{spelled_is_roster}
use Rattle.refutation_terms.specs.FreeWeekends.{free_weekends}
use Rattle.refutation_terms.specs.Log.{Log, Fits}
use Rattle.refutation_terms.specs.LogText.{log_text}
use Rattle.refutation_log.specs.declared.best_found.BestFound.TheVariants.{Best, NoRoster, Undecided}
use Rattle.crew_size.specs.Sizes.{with_weeks, IsSize}
use Rattle.crew_size.specs.Runs.{IsStaffed, IsEnd}
use Rattle.crew_size.specs.Texts.{Staff, staff_text, sections_text, end_text, next_size, roster_line, refuted_line}
use Rattle.crew_size.specs.Fitting.{FitsSizes, EndFits}
use Rattle.crew_size.specs.declared.run.StaffEnd.{StaffEnd}
use Rattle.crew_size.specs.declared.run.StaffEnd.TheVariants as Ends
use Rattle.crew_size.specs.declared.heading.Heading.TheVariants as Headings
use Rattle.crew_size.proofs.Decided.{sized_keeps}
use Rattle.crew_size.proofs.Fronts.{size_is_short}
use Rattle.crew_size.proofs.Headings.{heading_written}
use Rattle.crew_checker.specs.Least.{IsReadLog, AreReadLogs, HasLeast}
use Rattle.commands.specs.Best.{counted_text, IsWeeklyRoster}
use Rattle.commands.specs.ReadBest.{IsFreeLog, IsBestWith}
use Rattle.commands.specs.Roster.{SpellsNone, StandsIn}
use Rattle.commands.specs.RosterLaws.{GivesBack, PlansAreGivenBack, BestsAreGivenBack, StaffsAreGivenBack, StaffsSpellNoRoster, IsOfBest, IsOfStaff, ShownRostersStand}
use Rattle.commands.specs.declared.roster.Answer.TheVariants.{Shown}
use Rattle.commands.proofs.ReadBest.{few_free}
use Rattle.commands.proofs.RosterAnswers.{one_taken}

-- a roster that stands in the bytes and meets every rule is given back
given : (P : Instance) (bytes : List ℕ) (m : ℕ) (s : List Symbol) → KeepsLimits P → StandsIn P bytes m s → MeetsAll (with_weeks P m) s → GivesBack P bytes (roster_text (with_weeks P m) s)
given P bytes m s limits stands meets answer h =
    let text = roster_text (with_weeks P m) s in
    one_taken P bytes answer (Shown text) limits h (m, record { days = P.days; cells = s }, refl, stands, (meets, refl))

pub plans_given_back : PlansAreGivenBack
plans_given_back P s limits meets =
    let valid : IsValid P = keeps_valid P limits in
    given P (roster_text P s.cells) P.weeks s.cells limits (inl (refl, (printed_is_short P s.cells valid meets.is_roster, printed_is_spelled P s.cells valid meets.is_roster))) meets

-- The first line of a text that spells a roster.

-- its words
abbrev pub first_line : List (List ℕ) → List ℕ → List ℕ
first_line words rest = (join_with_byte 32 words ++ 10 ∷ []) ++ rest

first_week : (words : List (List ℕ)) (rest : List ℕ) → AllByRecursion IsPrinted words → has_some words ≡ true → weeks_of (first_line words rest) ≡ words ∷ weeks_of rest
first_week words rest printed some =
    ap (λ lines. filter has_some (map words_of_line lines)) (line_printed words rest printed)
    ∙ ap (λ ws. filter has_some (ws ∷ map words_of_line (lines_of rest))) (words_printed words printed)
    ∙ cond-true (has_some words) (words ∷ weeks_of rest) (weeks_of rest) some

first_long : (P : Instance) (words : List (List ℕ)) (rest : List ℕ) (s : List Symbol) → AllByRecursion IsPrinted words → has_some words ≡ true → SpellsRoster P (first_line words rest) s → length words ≡ P.days
first_long P words rest s printed some h =
    subst (λ weeks. All (λ week. length week ≡ P.days) weeks) (first_week words rest printed some) h.days 0 words (omega arith)

first_known : (P : Instance) (word : List ℕ) (words : List (List ℕ)) (rest : List ℕ) (s : List Symbol) → AllByRecursion IsPrinted (word ∷ words) → SpellsRoster P (first_line (word ∷ words) rest) s → symbol_of P word ≡ None → ⊥
first_known P word words rest s printed h none =
    by s none (subst (λ weeks. map (symbol_of P) (flat_map (λ week. week) weeks) ≡ map Some s) (first_week (word ∷ words) rest printed refl) h.names)
  where
    by : (s : List Symbol) → symbol_of P word ≡ None → symbol_of P word ∷ map (symbol_of P) (words ++ flat_map (λ week. week) (weeks_of rest)) ≡ map Some s → ⊥
    by [] none e = absurd (cc)
    by (x ∷ s) none e = let known : symbol_of P word ≡ Some x = cc in absurd (cc)

word_all : (word : List ℕ) → list_all (λ b. not (is_space b || (b == 10))) word ≡ true → All (λ b. (is_space b || (b == 10)) ≡ false) word
word_all [] h = All-nil (λ b. (is_space b || (b == 10)) ≡ false)
word_all (b ∷ word) h =
    let p = and_parts (not (is_space b || (b == 10))) (list_all (λ c. not (is_space c || (c == 10))) word) h in
    All-cons (λ c. (is_space c || (c == 10)) ≡ false) b word (not-true (is_space b || (b == 10)) p.0) (word_all word p.1)

literal_printed : (word : List ℕ) → 1 ≤ length word → slice_index word 0 ≢ 35 → list_all (λ b. not (is_space b || (b == 10))) word ≡ true → IsPrinted word
literal_printed word some hash all = printed_word word some hash (word_all word all)

-- Digits.

not_digit : (b c : ℕ) → is_ascii_digit b ≡ true → is_ascii_digit c ≡ false → (b == c) ≡ false
not_digit b c h off = ne_eqb b c (λ e. let on : is_ascii_digit c ≡ true = subst (λ z. is_ascii_digit z ≡ true) e h in absurd (cc))

digit_word : (b : ℕ) → is_ascii_digit b ≡ true → (is_space b || (b == 10)) ≡ false
digit_word b h =
    let blank = not_digit b 32 h refl in
    let tab = not_digit b 9 h refl in
    let return = not_digit b 13 h refl in
    let feed = not_digit b 10 h refl in
    rw (blank, tab, return, feed) refl

digits_word : (ds : List ℕ) → list_all is_ascii_digit ds ≡ true → All (λ b. (is_space b || (b == 10)) ≡ false) ds
digits_word [] h = All-nil (λ b. (is_space b || (b == 10)) ≡ false)
digits_word (b ∷ ds) h =
    let p = and_parts (is_ascii_digit b) (list_all is_ascii_digit ds) h in
    All-cons (λ c. (is_space c || (c == 10)) ≡ false) b ds (digit_word b p.0) (digits_word ds p.1)

digits_printed : (ds : List ℕ) → 0 < length ds → list_all is_ascii_digit ds ≡ true → IsPrinted ds
digits_printed [] some h = absurd (omega (arith, some))
digits_printed (b ∷ ds) some h =
    let p = and_parts (is_ascii_digit b) (list_all is_ascii_digit ds) h in
    printed_word (b ∷ ds) (omega arith) (λ e. let on : is_ascii_digit 35 ≡ true = subst (λ z. is_ascii_digit z ≡ true) e p.0 in absurd (cc)) (digits_word (b ∷ ds) h)

number_printed : (n : ℕ) → n < 2 ^ 64 → IsPrinted (decimal n)
number_printed n small = digits_printed (decimal n) (decimal_nonempty n small) (digits_decimal ascii_digits_model n small)

-- Answers of `best`.

-- a roster with a free log behind it
best_given : (P : Instance) (s : Roster) (g : Log) → KeepsLimits P → IsWeeklyRoster P s → MeetsAll P s.cells → IsFreeLog P (free_weekends s.cells + 1) (log_text P g) → GivesBack P (counted_text P s ++ log_text P g) (roster_text P s.cells)
best_given P s g limits weekly meets free =
    let text = roster_text P s.cells in
    let log = log_text P g in
    let bytes = counted_text P s ++ log in
    let n = free_weekends s.cells in
    let small = few_free P s.cells limits weekly.2 in
    let words = codes "free" ∷ decimal n ∷ [] in
    let all : bytes ≡ first_line words (text ++ log) = append_assoc ((codes "free " ++ decimal n) ++ 10 ∷ []) text log in
    let printed : AllByRecursion IsPrinted words = (literal_printed (codes "free") (omega arith) (λ e. absurd (omega (arith, e))) refl, (number_printed n small, tt)) in
    let none : SpellsNone P bytes = λ t spells. let long = first_long P words (text ++ log) t printed refl (subst (λ b. SpellsRoster P b t) all spells.1) in omega (arith, long, weekly.0) in
    let best : IsBestWith P bytes s.cells = record { weekly = weekly.0; roster = weekly.2; log = log; free = free; whole = refl } in
    given P bytes P.weeks s.cells limits (inr (none, inl (refl, best))) meets

pub bests_given_back : BestsAreGivenBack
bests_given_back P budget (Best t g) s limits own says is =
    let same : t ≡ s = cc in
    subst (λ (r : Roster). GivesBack P (counted_text P t ++ log_text P g) (roster_text P r.cells)) same
    (best_given P t g limits own.0 says.0.1 (record { log = g; with_goal = says.1.1; fits = own.1; tree = says.1.0.tree; text = refl }))
bests_given_back P budget (NoRoster g) s limits own says is = absurd (cc)
bests_given_back P budget (Undecided None g) s limits own says is = absurd (cc)
bests_given_back P budget (Undecided (Some t) g) s limits own says is =
    let same : t ≡ s = cc in
    subst (λ (r : Roster). GivesBack P (counted_text P t ++ log_text P g) (roster_text P r.cells)) same
    (best_given P t g limits own.0 says.0.1 (record { log = g; with_goal = says.1.1; fits = own.1; tree = says.1.0.tree; text = refl }))

-- Answers of `staff`.

read_logs : (P : Instance) (low : ℕ) (logs : List Log) → ((k : ℕ) (g : Log) → slice_get logs k ≡ Some g → IsReadLog P (low + k) g) → AreReadLogs P low logs
read_logs P low [] h = tt
read_logs P low (g ∷ logs) h =
    let here : low + 0 ≡ low = omega arith in (
      subst (λ (n : ℕ). IsReadLog P n g) here (h 0 g refl),
      read_logs P (low + 1) logs (λ k i at. let place : low + suc k ≡ low + 1 + k = omega arith in subst (λ (n : ℕ). IsReadLog P n i) place (h (suc k) i at)),
    )

read_log : (P : Instance) (low high budget : ℕ) (run : Staff) → IsStaffed P low high budget run → FitsSizes P run → (k : ℕ) (g : Log) → slice_get run.logs k ≡ Some g → IsReadLog P (run.low + k) g
read_log P low high budget run staffed fits k g at =
    let planned = staffed.refuted k g at in
    record { size = fits.sizes k g at; plain = planned.2.of_kind; fits = fits.logs k g at; tree = planned.0.tree }

pub staffs_given_back : StaffsAreGivenBack
staffs_given_back P low high budget run s limits staffed fits least none =
    let m = next_size run in
    let Q = with_weeks P m in
    let text = roster_text Q s.cells in
    let end : EndFits P m (Ends.Least s) = subst (λ (e : StaffEnd). EndFits P m e) least fits.end in
    let ended : IsEnd P high budget (low + length run.logs) (Ends.Least s) = subst (λ (e : StaffEnd). IsEnd P high budget (low + length run.logs) e) least staffed.end in
    let place : low + length run.logs ≡ m = ap (λ (n : ℕ). n + length run.logs) (sym staffed.first) in
    let meets : MeetsAll Q s.cells = subst (λ (n : ℕ). MeetsAll (with_weeks P n) s.cells) place ended.1.1 in
    let valid : IsValid Q = keeps_valid Q (sized_keeps P m limits end.0) in
    let is : staff_text P run ≡ sections_text P run.low run.logs ++ (roster_line m ++ text) = ap (λ (e : StaffEnd). sections_text P run.low run.logs ++ end_text P m e) least in
    let there : HasLeast P (staff_text P run) m s.cells = (
      run.low,
      record {
        logs = run.logs;
        read = read_logs P run.low run.logs (read_log P low high budget run staffed fits);
        size = refl;
        bytes = text;
        roster = record { size = end.0; short = printed_is_short Q s.cells valid end.2; spelled = printed_is_spelled Q s.cells valid end.2 };
        whole = is;
      },
    ) in
    given P (staff_text P run) m s.cells limits (inr (none, inr there)) meets

-- sections whose logs fit
abbrev pub AreFitting : Instance → ℕ → List Log → Type 0
AreFitting P m logs = (k : ℕ) (g : Log) → slice_get logs k ≡ Some g → IsSize P (m + k) × Fits (with_weeks P (m + k)) g

fitting : (P : Instance) (run : Staff) → FitsSizes P run → AreFitting P run.low run.logs
fitting P run fits k g e = (fits.sizes k g e, fits.logs k g e)

-- no heading is the first week of a roster
heading_no_week : (P : Instance) (m : ℕ) (what rest : List ℕ) (s : List Symbol) → m < 10 ^ 9 → IsPrinted what → (P.days ≢ 3) ⊎ (symbol_of P (codes "weeks") ≡ None) → SpellsRoster P (first_line (codes "weeks" ∷ decimal m ∷ what ∷ []) rest) s → ⊥
heading_no_week P m what rest s small last other h =
    let printed : AllByRecursion IsPrinted (codes "weeks" ∷ decimal m ∷ what ∷ []) = (literal_printed (codes "weeks") (omega arith) (λ e. absurd (omega (arith, e))) refl, (number_printed m (omega (arith, small)), (last, tt))) in
    by printed other
  where
    by : AllByRecursion IsPrinted (codes "weeks" ∷ decimal m ∷ what ∷ []) → (P.days ≢ 3) ⊎ (symbol_of P (codes "weeks") ≡ None) → ⊥
    by printed (inl long) = long (sym (first_long P (codes "weeks" ∷ decimal m ∷ what ∷ []) rest s printed refl h))
    by printed (inr none) = first_known P (codes "weeks") (decimal m ∷ what ∷ []) rest s printed h none

no_week : (P : Instance) (logs : List Log) (low m : ℕ) (text : List ℕ) (s : List Symbol) → AreFitting P low logs → m < 10 ^ 9 → (P.days ≢ 3) ⊎ (symbol_of P (codes "weeks") ≡ None) → SpellsRoster P (sections_text P low logs ++ (roster_line m ++ text)) s → ⊥
no_week P [] low m text s fit small other h =
    let shape : roster_line m ++ text ≡ first_line (codes "weeks" ∷ decimal m ∷ codes "roster" ∷ []) text = ap (λ t. t ++ text) (heading_written (Headings.Found m)) in
    heading_no_week P m (codes "roster") text s small (literal_printed (codes "roster") (omega arith) (λ e. absurd (omega (arith, e))) refl) other (subst (λ b. SpellsRoster P b s) shape h)
no_week P (g ∷ logs) low m text s fit small other h =
    let log = log_text (with_weeks P low) g in
    let others = sections_text P (low + 1) logs in
    let last = roster_line m ++ text in
    let here : low + 0 ≡ low = omega arith in
    let size : IsSize P low = subst (IsSize P) here (fit 0 g refl).0 in
    let shape : ((refuted_line low ++ log) ++ others) ++ last ≡ first_line (codes "weeks" ∷ decimal low ∷ codes "none" ∷ []) (log ++ (others ++ last)) =
    append_assoc (refuted_line low ++ log) others last ∙ append_assoc (refuted_line low) log (others ++ last)
    ∙ ap (λ t. t ++ (log ++ (others ++ last))) (heading_written (Headings.Refuted low)) in
    heading_no_week P low (codes "none") (log ++ (others ++ last)) s (size_is_short P low size) (literal_printed (codes "none") (omega arith) (λ e. absurd (omega (arith, e))) refl) other (subst (λ b. SpellsRoster P b s) shape h)

pub staffs_spell_none : StaffsSpellNoRoster
staffs_spell_none P run s limits fits least other t spells =
    let m = next_size run in
    let text = roster_text (with_weeks P m) s.cells in
    let end : EndFits P m (Ends.Least s) = subst (λ (e : StaffEnd). EndFits P m e) least fits.end in
    let is : staff_text P run ≡ sections_text P run.low run.logs ++ (roster_line m ++ text) = ap (λ (e : StaffEnd). sections_text P run.low run.logs ++ end_text P m e) least in
    no_week P run.logs run.low m text t (fitting P run fits) (size_is_short P m end.0) other (subst (λ b. SpellsRoster P b t) is spells.1)

-- What is shown stands in the bytes.

log_read : (P : Instance) (low : ℕ) (logs : List Log) (k : ℕ) (g : Log) → AreReadLogs P low logs → slice_get logs k ≡ Some g → IsReadLog P (low + k) g
log_read P low [] k g read at = absurd (cc)
log_read P low (h ∷ logs) zero g read at =
    let same : h ≡ g = cc in
    let here : low ≡ low + 0 = omega arith in
    subst (λ (n : ℕ). IsReadLog P n g) here (subst (IsReadLog P low) same read.0)
log_read P low (h ∷ logs) (suc k) g read at =
    let place : low + 1 + k ≡ low + suc k = omega arith in
    subst (λ (n : ℕ). IsReadLog P n g) place (log_read P (low + 1) logs k g read.1 at)

of_best : (P : Instance) (bytes : List ℕ) (s : List Symbol) → IsBestWith P bytes s → IsOfBest P bytes s
of_best P bytes s best =
    let r : Roster = record { days = P.days; cells = s } in (
      Best r best.free.log,
      r,
      ((best.weekly, refl, best.roster), best.free.fits),
      refl,
      refl,
      best.whole ∙ ap (λ log. counted_text P r ++ log) best.free.text,
    )

of_staff : (P : Instance) (bytes : List ℕ) (m : ℕ) (s : List Symbol) → HasLeast P bytes m s → IsOfStaff P bytes m s
of_staff P bytes m s (low, e) =
    let r : Roster = record { days = P.days; cells = s } in
    let roster : IsRoster (with_weeks P m) s = spelled_is_roster (with_weeks P m) e.bytes s e.roster.spelled in
    let end : EndFits P (low + length e.logs) (Ends.Least r) = subst (λ (n : ℕ). EndFits P n (Ends.Least r)) e.size (e.roster.size, refl, roster) in
    record {
      run = record { low = low; logs = e.logs; end = Ends.Least r };
      roster = r;
      fits = record {
        sizes = λ k g at. (log_read P low e.logs k g e.read at).size;
        logs = λ k g at. (log_read P low e.logs k g e.read at).fits;
        end = end;
        some = λ none. absurd (cc);
      };
      least = refl;
      cells = refl;
      size = sym e.size;
      part = e.bytes;
      spelled = e.roster.spelled;
      whole = e.whole;
    }

pub shown_rosters_stand : ShownRostersStand
shown_rosters_stand P bytes text (m, s, days, inl (weeks, spells), judged) = (m, s.cells, inl (weeks, spells.1), judged.1)
shown_rosters_stand P bytes text (m, s, days, inr (none, inl (weeks, best)), judged) = (m, s.cells, inr (inl (of_best P bytes s.cells best)), judged.1)
shown_rosters_stand P bytes text (m, s, days, inr (none, inr least), judged) = (m, s.cells, inr (inr (of_staff P bytes m s.cells least)), judged.1)
