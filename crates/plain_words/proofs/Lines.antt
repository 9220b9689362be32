-- Lines of statements about logs, and about other numbers of weeks.
use Rattle.std.proofs.Common.{◌≡◌, ◌≢◌, ℕ, ◌+◌, ◌-◌, ◌<◌, ◌≤◌, List, [], ◌∷◌, ◌++◌, length, get_or, map, refl, ap, sym, ◌∙◌, Option, Some, None, Bool, false, arith, append_assoc}
use Rattle.std.specs.Prelude.{slice_get, ◌==◌, if◌then◌else◌}
use Rattle.std.specs.List.{flat_map, list_any, range_with_len}
use Rattle.std.proofs.lemmas.Bool.{eqb-false}
use Rattle.std.proofs.lemmas.Option.{slice_get-get_or}
use Rattle.rwsp_terms.specs.declared.limits.TheConstants.{MOST_WEEKS}
use Rattle.rwsp_terms.specs.Instance.{Instance}
use Rattle.refutation_terms.specs.declared.lines.LogRefusal.TheVariants as Refusals
use Rattle.refutation_terms.specs.declared.lines.Turn.{Turn}
use Rattle.refutation_terms.specs.declared.lines.Line.{Line}
use Rattle.refutation_terms.specs.declared.lines.Opening.{Opening}
use Rattle.refutation_terms.specs.declared.lines.Opening.TheVariants.{Turned}
use Rattle.refutation_terms.specs.Log.{Log}
use Rattle.crew_size.specs.Sizes.{with_weeks, IsSize}
use Rattle.crew_size.specs.Texts.{Staff, next_size}
use Rattle.crew_size.specs.Fitting.{EndFits, FitsSizes}
use Rattle.crew_size.specs.RefusalText.{NamesItsOwn}
use Rattle.crew_size.specs.declared.run.StaffEnd.{StaffEnd}
use Rattle.crew_size.specs.declared.run.StaffEnd.TheVariants as Ends
use Rattle.crew_size.specs.declared.verdict.StaffRefusal.{StaffRefusal}
use Rattle.crew_size.specs.declared.verdict.StaffRefusal.TheVariants as Failures
use Rattle.plain_words.specs.declared.reason.Rosters.{Rosters}
use Rattle.plain_words.specs.declared.reason.Rosters.TheVariants.{Weeks}
use Rattle.plain_words.specs.Fixed.{fixed}
use Rattle.plain_words.specs.declared.pieces.TheConstants.{LINE_END, TOLD}
use Rattle.plain_words.specs.Statements.{Statement, OfSize, ForSize, size_words, statement_words, line, told_line, told_lines}
use Rattle.plain_words.specs.LogTold.{day_number, cites_day, lone_turn, rules_statements, counted_statements, reason_statements, log_statements, sized_statements, size_in, logs_behind, logs_statements, end_statements, staff_statements}
use Rattle.plain_words.proofs.Joined.{behind, one_of}

-- a refutation
pub lone_by : (P : Instance) (o : Opening) (lines : List Line) (t : Turn) (number : ℕ) (cites : Bool) → o ≡ Turned t → number ≡ day_number P t.day → cites ≡ list_any (cites_day number t.day) lines
    → (if cites then None else Some t) ≡ lone_turn P o lines
lone_by P o lines t number cites is same tested =
    ap (λ (b : Bool). if b then None else Some t) (tested ∙ ap (λ (k : ℕ). list_any (cites_day k t.day) lines) same) ∙ ap (λ (q : Opening). lone_turn P q lines) (sym is)

pub reason_told : (P : Instance) (w : Rosters) (g : Log) (o : Opening) (lone : Option Turn) (R : List ℕ) (lines : List Line) (old mid new : List ℕ) → o ≡ g.opening → lone ≡ lone_turn P o lines → R ≡ g.named → lines ≡ g.lines
    → mid ≡ old ++ told_lines P (rules_statements P o w lone R) → new ≡ mid ++ told_lines P (counted_statements P lines) → new ≡ old ++ told_lines P (reason_statements P w g)
reason_told P w g o lone R lines old mid new opening turn rules same a b =
    behind (told_line P) (rules_statements P g.opening w (lone_turn P g.opening g.lines) g.named) (counted_statements P g.lines) old mid new
    (a
    ∙ ap (λ (l : Option Turn). old ++ told_lines P (rules_statements P o w l R)) turn
    ∙ ap (λ (q : Opening). old ++ told_lines P (rules_statements P q w (lone_turn P q lines) R)) opening
    ∙ ap (λ (ls : List Line). old ++ told_lines P (rules_statements P g.opening w (lone_turn P g.opening ls) R)) same
    ∙ ap (λ (ks : List ℕ). old ++ told_lines P (rules_statements P g.opening w (lone_turn P g.opening g.lines) ks)) rules)
    (b ∙ ap (λ (ls : List Line). mid ++ told_lines P (counted_statements P ls)) same)

-- of another number of weeks
sized_line : (P : Instance) (m : ℕ) (s : Statement) → told_line (with_weeks P m) s ≡ told_line P (OfSize m s)
unfolding line statement_words
sized_line P m s = refl

sized_lines : (P : Instance) (m : ℕ) (ss : List Statement) → told_lines (with_weeks P m) ss ≡ told_lines P (map (λ s. OfSize m s) ss)
sized_lines P m [] = refl
sized_lines P m (s ∷ ss) = ap (λ t. t ++ told_lines (with_weeks P m) ss) (sized_line P m s) ∙ ap (λ t. told_line P (OfSize m s) ++ t) (sized_lines P m ss)

pub sized_told : (P S : Instance) (m : ℕ) (g : Log) (old new : List ℕ) → S ≡ with_weeks P m → new ≡ old ++ told_lines S (log_statements S (Weeks m) g) → new ≡ old ++ told_lines P (sized_statements P m g)
sized_told P S m g old new is told =
    told ∙ ap (λ (Q : Instance). old ++ told_lines Q (log_statements Q (Weeks m) g)) is ∙ ap (λ t. old ++ t) (sized_lines P m (log_statements (with_weeks P m) (Weeks m) g))

-- and behind that number
pub sized_failure : (P S : Instance) (m : ℕ) (none : List ℕ) (s : Statement) (old one two new : List ℕ) → S ≡ with_weeks P m → none ≡ [] → one ≡ old ++ fixed TOLD.now → two ≡ one ++ size_words P m → new ≡ two ++ line none S s → new ≡ old ++ told_lines P (ForSize m s ∷ [])
unfolding line statement_words fixed
sized_failure P S m none s old one two new is empty a b c =
    let words = statement_words (with_weeks P m) s in
    one_of (told_line P) (ForSize m s) old new
    (c
    ∙ ap (λ (Q : Instance). two ++ line none Q s) is
    ∙ ap (λ (f : List ℕ). two ++ line f (with_weeks P m) s) empty
    ∙ ap (λ t. t ++ (words ++ LINE_END.now)) (b ∙ ap (λ t. t ++ size_words P m) a)
    ∙ append_assoc (old ++ TOLD.now) (size_words P m) (words ++ LINE_END.now)
    ∙ append_assoc old TOLD.now (size_words P m ++ (words ++ LINE_END.now))
    ∙ ap (λ t. old ++ t) (sym (append_assoc TOLD.now (size_words P m ++ words) LINE_END.now ∙ ap (λ t. TOLD.now ++ t) (append_assoc (size_words P m) words LINE_END.now))))

-- what a failure names is that of the problem with any number of weeks
pub own_sized : (P : Instance) (m : ℕ) (why : StaffRefusal) → NamesItsOwn P why → NamesItsOwn (with_weeks P m) why
own_sized P m (Failures.Form n) own = tt
own_sized P m (Failures.Log n (Refusals.Escape k w)) own = own
own_sized P m (Failures.Log n why) own = tt
own_sized P m (Failures.Roster n why) own = tt
own_sized P m (Failures.Breaks n b) own = own
own_sized P m Failures.Ends own = tt

-- an element that is read at a place
pub read_there : {X : Type 0} (xs : List X) (i : ℕ) (x : X) → i < length xs → x ≡ get_or xs i x → slice_get xs i ≡ Some x
read_there {X} xs i x less is = slice_get-get_or xs i x less ∙ ap (λ (y : X). Some y) (sym is)

-- the last log, and those before it
pub last_read : (logs : List Log) (empty : Bool) (last : Log) → empty ≡ (length logs == 0) → empty ≡ false → last ≡ get_or logs (length logs - 1) last → slice_get logs (length logs - 1) ≡ Some last
last_read logs empty last is some here =
    let n = eqb-false (length logs) 0 (sym is ∙ some) in
    read_there logs (length logs - 1) last (omega (arith, n)) here

pub logs_told : (P : Instance) (low : ℕ) (logs : List Log) (last : Log) (old mid new : List ℕ) → slice_get logs (length logs - 1) ≡ Some last
    → mid ≡ old ++ told_lines P (sized_statements P (low + (length logs - 1)) last) → new ≡ mid ++ told_lines P (flat_map (size_in low logs) (range_with_len 0 (length logs - 1))) → new ≡ old ++ told_lines P (logs_statements P low logs)
logs_told P low logs last old mid new there one others =
    behind (told_line P) (sized_statements P (low + (length logs - 1)) last) (flat_map (size_in low logs) (range_with_len 0 (length logs - 1))) old mid new one others
    ∙ ap (λ (l : Option Log). old ++ told_lines P (logs_behind P low logs (length logs - 1) l)) (sym there)

-- a search by numbers of weeks
pub staff_told : (P : Instance) (run : Staff) (a b d : ℕ) (logs : List Log) (end : StaffEnd) (old mid new : List ℕ) → a ≡ run.low → b ≡ run.low → d ≡ run.low → logs ≡ run.logs → end ≡ run.end
    → mid ≡ old ++ told_lines P (end_statements P a (b + length logs) end) → new ≡ mid ++ told_lines P (logs_statements P d logs) → new ≡ old ++ told_lines P (staff_statements P run)
staff_told P run a b d logs end old mid new ea eb ed same is x y =
    behind (told_line P) (end_statements P run.low (next_size run) run.end) (logs_statements P run.low run.logs) old mid new
    (x
    ∙ ap (λ (k : ℕ). old ++ told_lines P (end_statements P k (b + length logs) end)) ea
    ∙ ap (λ (k : ℕ). old ++ told_lines P (end_statements P run.low (k + length logs) end)) eb
    ∙ ap (λ (ls : List Log). old ++ told_lines P (end_statements P run.low (run.low + length ls) end)) same
    ∙ ap (λ (e : StaffEnd). old ++ told_lines P (end_statements P run.low (next_size run) e)) is)
    (y ∙ ap (λ (k : ℕ). mid ++ told_lines P (logs_statements P k logs)) ed ∙ ap (λ (ls : List Log). mid ++ told_lines P (logs_statements P run.low ls)) same)

-- a run has no more numbers of weeks than there may be
few_logs : (P : Instance) (low : ℕ) (logs : List Log) → ((k : ℕ) (g : Log) → slice_get logs k ≡ Some g → IsSize P (low + k)) → logs ≢ [] → low + length logs ≤ MOST_WEEKS + 1
few_logs P low [] sizes some = absurd (some refl)
few_logs P low (g ∷ logs) sizes some =
    let last = sizes (length logs) (get_or (g ∷ logs) (length logs) g) (slice_get-get_or (g ∷ logs) (length logs) g (omega arith)) in
    omega (arith, last.few)

few_by : (P : Instance) (run : Staff) (end : StaffEnd) → EndFits P (next_size run) end → (end ≡ Ends.NoneTo → run.logs ≢ []) → ((k : ℕ) (g : Log) → slice_get run.logs k ≡ Some g → IsSize P (run.low + k))
    → next_size run ≤ MOST_WEEKS + 1
few_by P run (Ends.Least s) fits some sizes = omega (arith, fits.0.few)
few_by P run Ends.NoneTo fits some sizes = few_logs P run.low run.logs sizes (some refl)
few_by P run (Ends.Undecided g) fits some sizes = omega (arith, fits.0.few)

pub few_sizes : (P : Instance) (run : Staff) → FitsSizes P run → next_size run ≤ MOST_WEEKS + 1
few_sizes P run fits = few_by P run run.end fits.end fits.some fits.sizes
