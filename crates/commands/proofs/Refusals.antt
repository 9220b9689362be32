-- What a refusal names is the instance's.
use Rattle.std.proofs.Common.{◌≡◌, ℕ, ◌≤◌, ◌+◌, ◌%◌, List, [], ◌∷◌, length, subst, inl, inr, IsTrue}
use Rattle.std.specs.Prelude.{All, Err, Option, nat_le, take}
use Rattle.std.proofs.lemmas.Bool.{leb-true}
use Rattle.std.proofs.lemmas.List.Elements.{All-nil, All-cons}
use Rattle.rwsp_terms.specs.declared.data.Symbol.{Symbol}
use Rattle.rwsp_terms.specs.Instance.{Instance, cells, shift_count, IsSymbol}
use Rattle.rwsp_model.specs.Refusals.{MatchAnswer}
use Rattle.rwsp_model.specs.declared.fail.Fail.{Fail}
use Rattle.rwsp_model.specs.declared.fail.Fail.TheVariants.{Refused}
use Rattle.roster_checker.specs.declared.broken.Broken.{Broken}
use Rattle.roster_checker.specs.FirstBroken.{IsFirstBroken}
use Rattle.refutation_terms.specs.declared.lines.Line.{Line}
use Rattle.refutation_terms.specs.declared.lines.Line.TheVariants.{Closing}
use Rattle.refutation_terms.specs.declared.lines.Leaf.TheVariants.{Words}
use Rattle.refutation_terms.specs.declared.lines.WordClaim.TheVariants.{Dead, Light}
use Rattle.refutation_terms.specs.declared.lines.Opening.{Opening}
use Rattle.refutation_terms.specs.declared.lines.LogKind.{LogKind}
use Rattle.refutation_terms.specs.declared.lines.LogKind.TheVariants.{WithoutGoal}
use Rattle.refutation_terms.specs.declared.lines.LogRefusal.{LogRefusal}
use Rattle.refutation_terms.specs.declared.lines.LogRefusal.TheVariants as Refusals
use Rattle.refutation_terms.specs.Word.{Domains, Over}
use Rattle.refutation_terms.specs.Tree.{domains_at, opening, opening_leaves, lines_leave}
use Rattle.refutation_terms.specs.Log.{Log}
use Rattle.refutation_terms.specs.LogText.{log_text}
use Rattle.refutation_terms.specs.Verdict.{kind_of_log, Escapes, TreeCause, Cause, Front, Start, Versioned, BeforeTurn, BeforeGoal, BeforeCells, Reading, IsRefused}
use Rattle.refutation_terms.proofs.Tests.{left_of}
use Rattle.crew_size.specs.Sizes.{with_weeks}
use Rattle.crew_size.specs.Verdict.{IsStaffRefused}
use Rattle.crew_size.specs.declared.verdict.StaffRefusal.{StaffRefusal}
use Rattle.crew_size.specs.declared.verdict.StaffRefusal.TheVariants as Failures
use Rattle.refutation_log.specs.RefusalText.{HasSymbols}
use Rattle.roster_checker.specs.BreaksText.{HasBroken}
use Rattle.crew_size.specs.RefusalText.{NamesItsOwn}

-- the symbols of a word over domains that have no others

symbols_over : (P : Instance) (D : Domains) → ((p z : ℕ) → IsTrue (D p z) → z ≤ shift_count P) → (p : ℕ) (w : List Symbol) → Over P D p w → All (IsSymbol P) w
symbols_over P D known p [] over = All-nil (IsSymbol P)
symbols_over P D known p (x ∷ w) over = All-cons (IsSymbol P) x w (known (p % cells P) x.number over.0) (symbols_over P D known (p + 1) w over.1)

known_at : (P : Instance) (o : Opening) (lines : List Line) (k p z : ℕ) → IsTrue (domains_at P o lines k p z) → z ≤ shift_count P
known_at P o lines k p z h = leb-true z (shift_count P) (left_of (nat_le z (shift_count P)) (opening_leaves o p z) (left_of (opening P o p z) (lines_leave (take k lines) p z) h))

escaping : (P : Instance) (goal : Option ℕ) (D : Domains) (line : Line) (w : List Symbol) → ((p z : ℕ) → IsTrue (D p z) → z ≤ shift_count P) → Escapes P goal D line w → All (IsSymbol P) w
escaping P goal D (Closing (Words p R (Dead len))) w known h = symbols_over P D known p w h.clean.over
escaping P goal D (Closing (Words p R (Light turns reward y))) w known h = symbols_over P D known p w h.0.heavy.clean.over
escaping P goal D line w known h = absurd h

tree_caused : (P : Instance) (g : Log) (bytes : List ℕ) (n i : ℕ) (w : List Symbol) → TreeCause P g.goal g.counts g.named (domains_at P g.opening g.lines (length g.lines)) n bytes (Refusals.Escape i w) → All (IsSymbol P) w
tree_caused P g bytes n i w h =
    escaping P g.goal (domains_at P g.opening g.lines (length g.lines)) h.1.0 w (λ p z k. known_at P g.opening g.lines (length g.lines) p z k) h.1.3

caused : (P : Instance) (kind : LogKind) (front : Front) (bytes : List ℕ) (n : ℕ) (w : List Symbol) → Cause P kind front bytes (Refusals.Escape n w) → All (IsSymbol P) w
caused P kind Start bytes n w h = absurd h
caused P kind (Versioned v) bytes n w h = absurd h
caused P kind (BeforeTurn counts named) bytes n w h = absurd h
caused P kind (BeforeGoal counts named) bytes n w h = absurd h
caused P kind (BeforeCells named) bytes n w h = absurd h
caused P kind (Reading g) bytes n w (inl h) = absurd h.1
caused P kind (Reading g) bytes n w (inr h) = tree_caused P g bytes _ n w h.1

-- a refusal names symbols of the instance
pub printable : (P : Instance) (kind : LogKind) (bytes : List ℕ) (why : LogRefusal) → IsRefused P kind bytes why → HasSymbols P why
printable P kind bytes (Refusals.Escape n w) h = caused P kind h.front h.line n w h.cause
printable P kind bytes why h = tt

-- a log without a goal and without given cells that was read is refused as such a log
pub refused_text : (P : Instance) (g : Log) (fail : Fail LogRefusal) (why : LogRefusal) (Q : Log → Type 0) → kind_of_log g ≡ WithoutGoal → fail ≡ Refused why → MatchAnswer (Err fail) Q (IsRefused P (kind_of_log g) (log_text P g)) → IsRefused P WithoutGoal (log_text P g) why
refused_text P g fail why Q none e h =
    let R : LogRefusal → Type 0 = IsRefused P (kind_of_log g) (log_text P g) in
    subst (λ (kind : LogKind). IsRefused P kind (log_text P g) why) none (subst (λ (f : Fail LogRefusal). MatchAnswer (Err f) Q R) e h)

-- what a refused staff text names is the instance's, whatever the number of weeks

same_symbols : (P : Instance) (m : ℕ) (why : LogRefusal) → HasSymbols (with_weeks P m) why → HasSymbols P why
same_symbols P m (Refusals.Escape n w) h = h
same_symbols P m why h = tt

same_broken : (P : Instance) (m : ℕ) (cells : List Symbol) (b : Broken) → IsFirstBroken (with_weeks P m) cells b → HasBroken P b
same_broken P m cells b h = (h.rule, h.number)

pub names_its_own : (P : Instance) (text : List ℕ) (why : StaffRefusal) → IsStaffRefused P text why → NamesItsOwn P why
names_its_own P text (Failures.Log m why) h = same_symbols P m why (printable (with_weeks P m) WithoutGoal h.bytes why h.refused)
names_its_own P text (Failures.Breaks m b) h = same_broken P m h.cells b h.breaks
names_its_own P text why h = tt
