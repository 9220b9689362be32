-- What was found, by the lines of the search.
use Rattle.std.proofs.Common.{◌≡◌, ℕ, ◌+◌, ◌*◌, ◌^◌, ◌<◌, ◌≤◌, List, [], length, get_or, take, Some, IsTrue, false, not, ◌||◌, ◌==◌, inl, inr, refl, ap, sym, ◌∙◌, subst, arith}
use Rattle.std.proofs.lemmas.Bool.{cases_lt, eqb-true, eq-eqb}
use Rattle.std.proofs.lemmas.List.Sums.{AllPass-from_list_all}
use Rattle.std.proofs.lemmas.Option.{slice_get-get_or}
use Rattle.rwsp_terms.specs.declared.data.Symbol.{Symbol}
use Rattle.rwsp_terms.specs.Instance.{Instance, cells, shift_count, off_symbol, symbol_numbered}
use Rattle.rwsp_model.specs.Schedule.{Schedule}
use Rattle.refutation_terms.specs.declared.lines.Line.{Line}
use Rattle.refutation_terms.specs.declared.cells.GivenCell.{GivenCell}
use Rattle.refutation_terms.specs.declared.lines.Opening.{Opening}
use Rattle.refutation_terms.specs.declared.lines.Opening.TheVariants.{Given}
use Rattle.refutation_terms.specs.Word.{AreSame, Within, full}
use Rattle.refutation_terms.specs.Tree.{cells_leave, lines_leave, opening, domains_at}
use Rattle.refutation_terms.specs.Log.{OpeningFits, HoldsOpening}
use Rattle.refutation_terms.proofs.Tests.{left_of, right_of}
use Rattle.domain_store.specs.Store.{Store, has_domain}
use Rattle.refutation_log.specs.declared.found.Found.{Found}
use Rattle.refutation_log.specs.declared.found.Found.TheVariants.{Roster, NoRoster, Undecided}
use Rattle.roster_search.specs.declared.aim.Aim.{Aim}
use Rattle.roster_search.specs.declared.progress.Progress.{Progress}
use Rattle.roster_search.specs.Founds.{IsForced, AreForced, FewHoldsAtNoSplit, IsFound, HasSpentBudget}
use Rattle.roster_search.specs.Written.{HasRoom, IsProgress, IsUnderWay, IsLater, IsEnded}
use Rattle.roster_search.proofs.Volume.{spent_budgets_small}
use Rattle.roster_search.proofs.Forced.{Leaves, Spent, NotFew, none_said, rest_said}

-- before the first line
pub begins_under_way : (P : Instance) (s : Progress) → IsProgress P s → s.lines.items ≡ [] → IsUnderWay P s
begins_under_way P s written none = record { written = written; few = omega (arith, ap length none) }

-- a search that can't go on has a whole tree or has spent the budget
pub ended_whole : (s : Progress) → (HasRoom s → ⊥) → s.walk.whole ≡ false → s.aim.budget ≤ length s.lines.items
ended_whole s ended part = elim (cases_lt (length s.lines.items) s.aim.budget) [ inl less ↦ absurd (ended (part, less)) | inr more ↦ more ]

-- what cells leave at the position of one
cell_left : (given : List GivenCell) (z i : ℕ) (d : GivenCell) → i < length given → IsTrue (cells_leave given (get_or given i d).p z) → z ≡ (get_or given i d).x.number
cell_left given z i d lt h =
    let c : GivenCell = get_or given i d in
    let passed : IsTrue (not (c.p == c.p) || (z == c.x.number)) = AllPass-from_list_all (λ e. not (e.p == c.p) || (z == e.x.number)) given h i d lt in
    eqb-true z c.x.number (sym (ap (λ b. not b || (z == c.x.number)) (eq-eqb c.p c.p refl)) ∙ passed)

-- a roster within the domains behind the lines holds the cells that the opening gives
pub met_holds : (P : Instance) (start : Opening) (lines : List Line) (S : Store) (r : Schedule) → OpeningFits P start → AreSame P (has_domain S) (domains_at P start lines (length lines)) → Within P (has_domain S) r.cells → HoldsOpening start r.cells
met_holds P (Given given) lines S r fits same within = λ i d lt.
    let c : GivenCell = get_or given i d in
    let inside : c.p < cells P = (fits.1 i d lt).0 in
    let x : Symbol = get_or r.cells c.p off_symbol in
    let here : IsTrue (domains_at P (Given given) lines (length lines) c.p x.number) = sym (same c.p x.number inside) ∙ within.each c.p inside in
    let opened = left_of (opening P (Given given) c.p x.number) (lines_leave (take (length lines) lines) c.p x.number) here in
    let left = right_of (full P c.p x.number) (cells_leave given c.p x.number) opened in
    let is : x ≡ c.x = ap symbol_numbered (cell_left given x.number i d lt left) in
    slice_get-get_or r.cells c.p off_symbol (omega (arith, inside, within.is_roster.long)) ∙ ap (λ y. Some y) is
met_holds P start lines S r fits same within = tt

-- a search that began with no line
abbrev pub IsBegun : Instance → Leaves → Spent → Progress → Progress → Type 0
IsBegun P leaves spent a s = (a.lines.items ≡ []) × IsLater P leaves spent a s

pub found_by : (P : Instance) (leaves : Leaves) (spent : Spent) (a s : Progress) (found : Found) → IsBegun P leaves spent a s → IsEnded P s.aim s.lines.items found → IsFound P s.aim.opening s.aim.goal s.aim.budget leaves spent found
found_by P leaves spent a s found begun ended =
    by_kind found
    (begun.1.forced (none_said (IsForced P leaves spent) P a.aim.opening a.lines.items begun.0))
    (begun.1.no_few (none_said (NotFew P a.aim.goal) P a.aim.opening a.lines.items begun.0)) ended
  where
    by_kind : (found : Found) → AreForced P leaves spent s.aim.opening s.lines.items → FewHoldsAtNoSplit P s.aim.goal s.aim.opening s.lines.items → IsEnded P s.aim s.lines.items found → IsFound P s.aim.opening s.aim.goal s.aim.budget leaves spent found
    by_kind (Roster r) forced no_few e = absurd e
    by_kind (NoRoster g) forced no_few e = (
      e.0,
      e.1,
      record {
        is_log = e.2;
        splits = subst (AreForced P leaves spent s.aim.opening) (sym e.3) forced;
        no_few = subst (FewHoldsAtNoSplit P s.aim.goal s.aim.opening) (sym e.3) no_few;
      },
    )
    by_kind (Undecided g) forced no_few e = (
      e.0,
      record {
        is_log = e.1;
        splits = subst (AreForced P leaves spent s.aim.opening) (sym e.2.1) (rest_said (IsForced P leaves spent) P s.aim.opening s.lines.items e.2.0 forced);
        no_few = subst (FewHoldsAtNoSplit P s.aim.goal s.aim.opening) (sym e.2.1) (rest_said (NotFew P s.aim.goal) P s.aim.opening s.lines.items e.2.0 no_few);
      },
    )

-- a search is undecided under small budgets alone
pub undecided_small : (P : Instance) (aim : Aim) (lines : List Line) (found : Found) → IsEnded P aim lines found → HasSpentBudget found → aim.budget + 1 < 2 * (shift_count P + 1) ^ cells P
undecided_small P aim lines (Roster r) e u = absurd u
undecided_small P aim lines (NoRoster g) e u = absurd u
undecided_small P aim lines (Undecided g) e u = spent_budgets_small P g aim.budget e.0
