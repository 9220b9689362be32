-- Answers of `best` in their three parts.
use Rattle.std.proofs.Common.{◌≡◌, ◌≢◌, ℕ, zero, suc, ◌+◌, ◌-◌, ◌*◌, ◌^◌, ◌<◌, ◌≤◌, ◌==◌, List, [], ◌∷◌, ◌++◌, length, take, drop, map, codes, get_or, Bool, true, false, cond, not, refl, ap, sym, subst, ◌∙◌, arith, append_assoc, length-append, take-append-drop}
use Rattle.std.specs.Prelude.{All, Some, MatchBool}
use Rattle.std.specs.List.{flat_map, range_with_len, join_with_byte}
use Rattle.std.specs.Fmt.{decimal}
use Rattle.std.proofs.Math.Numerals.{add-one}
use Rattle.std.proofs.Math.Seq.{drop-cons, take-append_seam, drop-append_seam}
use Rattle.std.proofs.lemmas.Bool.{ne_eqb}
use Rattle.std.proofs.lemmas.List.{drop_all}
use Rattle.std.proofs.lemmas.List.Sums.{count_by-le-length}
use Rattle.std.proofs.lemmas.List.Elements.{All-weaker, All-take, All-drop}
use Rattle.std.proofs.lemmas.List.FromFn.{length-range_with_len}
use Rattle.rwsp_terms.specs.declared.limits.TheConstants.{DAYS_OF_WEEK, LONGEST_FILE}
use Rattle.rwsp_terms.specs.declared.data.Symbol.{Symbol}
use Rattle.rwsp_terms.specs.Instance.{Instance, IsSymbol, name_of}
use Rattle.rwsp_terms.specs.Roster.{IsRoster}
use Rattle.rwsp_text.specs.Fields.{is_visible}
use Rattle.rwsp_text.specs.Kinds.{AreBlankless}
use Rattle.rwsp_text.specs.Lines.{HasNoFeed, IsNextLine}
use Rattle.rwsp_text.proofs.KindLaws.{decimal_blankless, word_blankless}
use Rattle.rwsp_text.proofs.LineLaws.{join_no_feed, next_same, text_is_line}
use Rattle.rwsp_model.specs.Validity.{KeepsLimits, IsValid, breaks_name}
use Rattle.rwsp_model.proofs.Limits.{keeps_valid}
use Rattle.rwsp_model.proofs.Names.{symbol_word}
use Rattle.roster_print.specs.RosterText.{week_at, roster_text, SpellsRoster}
use Rattle.roster_print.proofs.Printed.{printed_is_spelled, printed_is_short}
use Rattle.roster_print.proofs.Spelling.{one_roster}
use Rattle.refutation_terms.specs.FreeWeekends.{free_weekends, is_free_weekend}
use Rattle.refutation_terms.specs.declared.lines.LogKind.{LogKind}
use Rattle.refutation_terms.specs.declared.lines.LogKind.TheVariants.{WithGoal}
use Rattle.refutation_terms.specs.declared.lines.LogRefusal.{LogRefusal}
use Rattle.refutation_terms.specs.Log.{Log}
use Rattle.refutation_terms.specs.LogText.{log_text}
use Rattle.refutation_terms.specs.Verdict.{kind_of_log}
use Rattle.refutation_terms.proofs.Fronts.{texts_distinct}
use Rattle.refutation_log.specs.ReadLog.{IsReadAs, IsUnread}
use Rattle.refutation_log.proofs.OneCause.{texts_read}
use Rattle.refutation_log.proofs.LineTexts.{is_writable}
use Rattle.refutation_log.proofs.OneText.{has_names}
use Rattle.commands.specs.ReadBest.{IsFreeLog, IsBestWith, AreBestParts, free_line, left_behind, lines_len}
use Rattle.commands.proofs.Logs.{with_goal}

-- Lines as they are counted.

drop-at : (l : List ℕ) (i : ℕ) → i < length l → drop i l ≡ get_or l i 0 ∷ drop (i + 1) l
drop-at l i less = rw add-one (drop-cons l i 0 less)

lines-nil : (n : ℕ) → lines_len n [] ≡ 0
unfolding lines_len
lines-nil n = refl

lines-none : (l : List ℕ) → lines_len 0 l ≡ 0
unfolding lines_len
lines-none [] = refl
lines-none (b ∷ l) = refl

lines-byte : (n b : ℕ) (l : List ℕ) → 0 < n → lines_len n (b ∷ l) ≡ lines_len (left_behind n b) l + 1
unfolding lines_len
lines-byte zero b l some = absurd (omega (arith, some))
lines-byte (suc n) b l some = refl

pub line_more : (all n next : ℕ) (l : List ℕ) (i : ℕ) → i < length l → all ≡ i + lines_len n (drop i l) → 0 < n → next ≡ left_behind n (get_or l i 0) → all ≡ i + 1 + lines_len next (drop (i + 1) l)
line_more all n next l i less before some then =
    let here : lines_len n (drop i l) ≡ lines_len (left_behind n (get_or l i 0)) (drop (i + 1) l) + 1 = ap (lines_len n) (drop-at l i less) ∙ lines-byte n (get_or l i 0) (drop (i + 1) l) some in
    let same : lines_len (left_behind n (get_or l i 0)) (drop (i + 1) l) ≡ lines_len next (drop (i + 1) l) = ap (λ m. lines_len m (drop (i + 1) l)) (sym then) in
    omega (arith, before, here, same)

pub lines_done : (all n : ℕ) (l : List ℕ) (i : ℕ) → n ≡ 0 → all ≡ i + lines_len n (drop i l) → i ≡ all
lines_done all n l i none before =
    let end : lines_len n (drop i l) ≡ 0 = ap (λ m. lines_len m (drop i l)) none ∙ lines-none (drop i l) in
    omega (arith, before, end)

pub lines_end : (all n : ℕ) (l : List ℕ) (i : ℕ) → length l ≤ i → i ≤ length l → all ≡ i + lines_len n (drop i l) → length l ≡ all
lines_end all n l i past end before =
    let none : lines_len n (drop i l) ≡ 0 = ap (lines_len n) (drop_all i l past) ∙ lines-nil n in
    omega (arith, before, none)

-- The lines of a roster.

lines-in : (n b : ℕ) (l : List ℕ) → (b == 10) ≡ false → lines_len (suc n) (b ∷ l) ≡ lines_len (suc n) l + 1
unfolding lines_len
lines-in n b l in_line = ap (λ t. lines_len (cond t (suc n - 1) (suc n)) l + 1) in_line

lines-feed : (n : ℕ) (l : List ℕ) → lines_len (suc n) (10 ∷ l) ≡ lines_len n l + 1
unfolding lines_len
lines-feed n l = let one : suc n - 1 ≡ n = omega arith in ap (λ m. lines_len m l + 1) one

line_counted : (line l : List ℕ) (n : ℕ) → HasNoFeed line → lines_len (suc n) ((line ++ 10 ∷ []) ++ l) ≡ length (line ++ 10 ∷ []) + lines_len n l
line_counted [] l n none = let one : lines_len n l + 1 ≡ 1 + lines_len n l = omega arith in lines-feed n l ∙ one
line_counted (b ∷ line) l n none =
    let more = line_counted line l n (λ k d less. none (suc k) d (omega (arith, less))) in
    let here = lines-in n b ((line ++ 10 ∷ []) ++ l) (ne_eqb b 10 (none 0 b (omega arith))) in
    omega (arith, here, more)

lines_counted : (line : ℕ → List ℕ) (rest : List ℕ) (a n : ℕ) → ((k : ℕ) → k < a + n → HasNoFeed (line k)) → lines_len n (flat_map (λ k. line k ++ 10 ∷ []) (range_with_len a n) ++ rest) ≡ length (flat_map (λ k. line k ++ 10 ∷ []) (range_with_len a n))
lines_counted line rest a zero none = lines-none rest
lines_counted line rest a (suc n) none =
    let later = flat_map (λ k. line k ++ 10 ∷ []) (range_with_len (a + 1) n) in
    ap (lines_len (suc n)) (append_assoc (line a ++ 10 ∷ []) later rest)
    ∙ line_counted (line a) (later ++ rest) n (none a (omega arith))
    ∙ ap (λ m. length (line a ++ 10 ∷ []) + m) (lines_counted line rest (a + 1) n (λ k less. none k (omega (arith, less))))
    ∙ sym (length-append (line a ++ 10 ∷ []) later)

names_blankless : (P : Instance) (week : List Symbol) → KeepsLimits P → All (IsSymbol P) week → AreBlankless (map (name_of P) week)
names_blankless P [] limits known = tt
names_blankless P (x ∷ week) limits known = (
  All-weaker (λ b. breaks_name b ≡ false) (λ b. is_visible b ≡ true) (λ b h. ap not h) (name_of P x) (symbol_word P x.number limits (known 0 x (omega arith))).0.unbroken,
  names_blankless P week limits (λ k d less. known (suc k) d (omega (arith, less))),
)

-- the text of a roster has a line for each week
roster_lines : (P : Instance) (s : List Symbol) (rest : List ℕ) → KeepsLimits P → IsRoster P s → lines_len P.weeks (roster_text P s ++ rest) ≡ length (roster_text P s)
roster_lines P s rest limits roster =
    let known = λ (k : ℕ). All-take (IsSymbol P) P.days (drop (k * P.days) s) (All-drop (IsSymbol P) (k * P.days) s roster.symbols) in
    let none = λ (k : ℕ) (less : k < 0 + P.weeks). join_no_feed (map (name_of P) (week_at P s k)) (names_blankless P (week_at P s k) limits (known k)) in
    lines_counted (λ k. join_with_byte 32 (map (name_of P) (week_at P s k))) rest 0 P.weeks none

pub few_free : (P : Instance) (s : List Symbol) → KeepsLimits P → IsRoster P s → free_weekends s < 2 ^ 64
few_free P s limits roster =
    omega (arith, count_by-le-length (is_free_weekend s) (range_with_len 0 (length s)), length-range_with_len 0 (length s), roster.long, limits.few_cells)

-- The three parts.

free_is_line : (n : ℕ) (rest : List ℕ) → n < 2 ^ 64 → IsNextLine (free_line n) rest
free_is_line n rest small = text_is_line (codes "free" ∷ decimal n ∷ []) rest (word_blankless (codes "free") refl, (decimal_blankless n small, tt))

-- an answer of `best` as it is split behind its first line, and behind as many lines as there are weeks
pub best_split : (P : Instance) (bytes first rest part log : List ℕ) (s : List Symbol) → KeepsLimits P → bytes ≡ first ++ rest → IsNextLine first rest → part ≡ take (lines_len P.weeks rest) rest → log ≡ drop (lines_len P.weeks rest) rest → IsBestWith P bytes s → AreBestParts P first part log s
best_split P bytes first rest part log s limits whole next front back h =
    let text = roster_text P s in
    let n = free_weekends s in
    let there : bytes ≡ free_line n ++ (text ++ h.log) = h.whole ∙ append_assoc (free_line n) text h.log in
    let once = next_same first (free_line n) rest (text ++ h.log) next (free_is_line n (text ++ h.log) (few_free P s limits h.roster)) (sym whole ∙ there) in
    let long : lines_len P.weeks rest ≡ length text = ap (lines_len P.weeks) once.1 ∙ roster_lines P s h.log limits h.roster in
    let behind : log ≡ h.log = back ∙ ap (λ k. drop k rest) long ∙ ap (drop (length text)) once.1 ∙ drop-append_seam text h.log in
    record {
      roster = h.roster;
      counted = once.0;
      printed = front ∙ ap (λ k. take k rest) long ∙ ap (take (length text)) once.1 ∙ take-append_seam text h.log;
      free = subst (IsFreeLog P (n + 1)) (sym behind) h.free;
    }

pub best_joined : (P : Instance) (bytes first rest part log : List ℕ) (s : List Symbol) → P.days ≡ DAYS_OF_WEEK → bytes ≡ first ++ rest → part ≡ take (lines_len P.weeks rest) rest → log ≡ drop (lines_len P.weeks rest) rest → AreBestParts P first part log s → IsBestWith P bytes s
best_joined P bytes first rest part log s weekly whole front back h =
    let n = lines_len P.weeks rest in
    let text = roster_text P s in
    let both : rest ≡ text ++ log = sym (take-append-drop n rest) ∙ ap (λ t. t ++ drop n rest) (sym front ∙ h.printed) ∙ ap (λ t. text ++ t) (sym back) in
    record {
      weekly = weekly;
      roster = h.roster;
      log = log;
      free = h.free;
      whole = whole ∙ ap (λ t. t ++ rest) h.counted ∙ ap (λ t. free_line (free_weekends s) ++ t) both ∙ sym (append_assoc (free_line (free_weekends s)) text log);
    }

-- two rosters with one text are one
pub one_printed : (P : Instance) (s t : List Symbol) → KeepsLimits P → IsRoster P s → IsRoster P t → roster_text P s ≡ roster_text P t → s ≡ t
one_printed P s t limits here there same =
    let valid : IsValid P = keeps_valid P limits in
    one_roster P (roster_text P s) s t (printed_is_spelled P s valid here) (subst (λ b. SpellsRoster P b t) (sym same) (printed_is_spelled P t valid there))

-- an answer of `best` has one roster
pub one_best : (P : Instance) (bytes : List ℕ) (s t : List Symbol) → KeepsLimits P → IsBestWith P bytes s → IsBestWith P bytes t → s ≡ t
one_best P bytes s t limits h k =
    let first = free_line (free_weekends s) in
    let rest = roster_text P s ++ h.log in
    let n = lines_len P.weeks rest in
    let whole : bytes ≡ first ++ rest = h.whole ∙ append_assoc first (roster_text P s) h.log in
    let next = free_is_line (free_weekends s) rest (few_free P s limits h.roster) in
    let a = best_split P bytes first rest (take n rest) (drop n rest) s limits whole next refl refl h in
    let b = best_split P bytes first rest (take n rest) (drop n rest) t limits whole next refl refl k in
    one_printed P s t limits h.roster k.roster (sym a.printed ∙ b.printed)

-- What the parts are not.

pub not_printed : (P : Instance) (bytes : List ℕ) → KeepsLimits P → ((s : List Symbol) → SpellsRoster P bytes s → ⊥) → (s : List Symbol) → IsRoster P s → bytes ≢ roster_text P s
not_printed P bytes limits none s roster is = none s (subst (λ b. SpellsRoster P b s) (sym is) (printed_is_spelled P s (keeps_valid P limits) roster))

pub too_long : (P : Instance) (bytes : List ℕ) → KeepsLimits P → LONGEST_FILE < length bytes → (s : List Symbol) → IsRoster P s → bytes ≢ roster_text P s
too_long P bytes limits long s roster is =
    let short = printed_is_short P s (keeps_valid P limits) roster in
    let same : length bytes ≡ length (roster_text P s) = ap length is in
    omega (arith, long, short, same)

pub other_text : (P : Instance) (bytes : List ℕ) (cells : List Symbol) → KeepsLimits P → SpellsRoster P bytes cells → (roster_text P cells ≡ bytes → ⊥) → (s : List Symbol) → IsRoster P s → bytes ≢ roster_text P s
other_text P bytes cells limits spells other s roster is =
    let spelled : SpellsRoster P bytes s = subst (λ b. SpellsRoster P b s) (sym is) (printed_is_spelled P s (keeps_valid P limits) roster) in
    let same : cells ≡ s = one_roster P bytes cells s spells spelled in
    other (ap (roster_text P) same ∙ sym is)

-- two rosters of the same parts
same_parts : (P : Instance) (first part log : List ℕ) (cells s : List Symbol) → KeepsLimits P → IsRoster P cells → part ≡ roster_text P cells → AreBestParts P first part log s → cells ≡ s
same_parts P first part log cells s limits roster is h = one_printed P cells s limits roster h.roster (sym is ∙ h.printed)

pub not_counted : (P : Instance) (first part log : List ℕ) (cells : List Symbol) (n : ℕ) → KeepsLimits P → IsRoster P cells → part ≡ roster_text P cells → n ≡ free_weekends cells → first ≢ free_line n → (s : List Symbol) → AreBestParts P first part log s → ⊥
not_counted P first part log cells n limits roster is free other s h =
    other (h.counted ∙ ap (λ (t : List Symbol). free_line (free_weekends t)) (sym (same_parts P first part log cells s limits roster is h)) ∙ ap free_line (sym free))

pub no_log : (P : Instance) (first part log : List ℕ) (cells : List Symbol) (n : ℕ) → KeepsLimits P → IsRoster P cells → part ≡ roster_text P cells → n ≡ free_weekends cells → (IsFreeLog P (n + 1) log → ⊥) → (s : List Symbol) → AreBestParts P first part log s → ⊥
no_log P first part log cells n limits roster is free none s h =
    let goal : free_weekends s + 1 ≡ n + 1 = ap (λ (t : List Symbol). free_weekends t + 1) (sym (same_parts P first part log cells s limits roster is h)) ∙ ap (λ k. k + 1) (sym free) in
    none (subst (λ k. IsFreeLog P k log) goal h.free)

-- Free logs.

pub not_free : (P : Instance) (goal : ℕ) (bytes : List ℕ) (why : LogRefusal) → KeepsLimits P → IsUnread P WithGoal bytes why → IsFreeLog P goal bytes → ⊥
not_free P goal bytes why limits unread h =
    let kind : WithGoal ≡ kind_of_log h.log = sym (with_goal P h.log goal h.fits h.with_goal) in
    texts_read P h.log why limits h.fits h.tree (subst (λ (k : LogKind). IsUnread P k (log_text P h.log) why) kind (subst (λ b. IsUnread P WithGoal b why) h.text unread))

free_is : (P : Instance) (goal : ℕ) (bytes : List ℕ) (g : Log) → IsReadAs P WithGoal bytes g → g.goal ≡ Some goal → IsFreeLog P goal bytes
free_is P goal bytes g read is = record { log = g; with_goal = is; fits = read.fits; tree = read.tree; text = read.is_text }

other_goal : (P : Instance) (goal : ℕ) (bytes : List ℕ) (g : Log) → KeepsLimits P → IsReadAs P WithGoal bytes g → (g.goal ≡ Some goal → ⊥) → IsFreeLog P goal bytes → ⊥
other_goal P goal bytes g limits read other h =
    let same : g ≡ h.log = texts_distinct P g h.log (is_writable P limits) (has_names P limits) read.fits h.fits (sym read.is_text ∙ h.text) in
    other (ap (λ (l : Log). l.goal) same ∙ h.with_goal)

pub goal_decides : (P : Instance) (goal : ℕ) (bytes : List ℕ) (g : Log) (is : Bool) → KeepsLimits P → IsReadAs P WithGoal bytes g → MatchBool is (g.goal ≡ Some goal) (g.goal ≡ Some goal → ⊥) → MatchBool is (IsFreeLog P goal bytes) (IsFreeLog P goal bytes → ⊥)
goal_decides P goal bytes g true limits read h = free_is P goal bytes g read h
goal_decides P goal bytes g false limits read h = other_goal P goal bytes g limits read h
