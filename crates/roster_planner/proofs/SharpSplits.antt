-- A split that is as the reasons of cases say is one of a sharp log.
use Rattle.std.proofs.Common.{ℕ, ◌*◌, ◌<◌, ◌≤◌, List, refl, ap, sym, ◌∙◌, arith, inl, inr, ◌&&◌, false, None}
use Rattle.std.specs.Prelude.{◌⊎◌}
use Rattle.rwsp_terms.specs.declared.limits.TheConstants.{MOST_CELLS}
use Rattle.rwsp_terms.specs.declared.data.Symbol.{Symbol}
use Rattle.rwsp_terms.specs.Instance.{Instance, cells}
use Rattle.rwsp_terms.specs.Rules.{NamesShortRules}
use Rattle.rwsp_model.specs.Validity.{KeepsLimits}
use Rattle.rwsp_model.proofs.Limits.{some_cells}
use Rattle.refutation_terms.specs.declared.lines.Line.{Line}
use Rattle.refutation_terms.specs.declared.lines.Line.TheVariants.{Split, Closing}
use Rattle.refutation_terms.specs.declared.lines.Leaf.TheVariants.{Window, Day, Words}
use Rattle.refutation_terms.specs.declared.lines.WordClaim.TheVariants.{Dead}
use Rattle.refutation_terms.specs.Word.{Domains, AreSame, Clean}
use Rattle.refutation_terms.specs.WordsLeaf.{IsDead}
use Rattle.refutation_terms.specs.Tree.{First, narrowed, line_leaves}
use Rattle.refutation_terms.specs.Log.{LineFits}
use Rattle.refutation_terms.specs.Sharp.{SomeWindowHolds, SomeDayHolds, NoWordHas, IsSpentAt, IsSharpSplit}
use Rattle.refutation_terms.proofs.SameDomains.{turned_round, same_idle, same_holds}
use Rattle.domain_store.specs.Store.{Store, has_domain}
use Rattle.domain_store.specs.Looks.{Closes}
use Rattle.propagators.specs.Days.{IsDaySpent}
use Rattle.domain_store.specs.Cycles.{AreShortRules, IsCycleSpent}
use Rattle.propagators.proofs.SameWords.{same_nowhere}
use Rattle.roster_search.specs.Founds.{IsForced}
use Rattle.roster_planner.specs.CaseReasons.{AreCaseReasons}

abbrev Leaves : Type 1
Leaves = Store → Line → Type 0

abbrev Spent : Type 1
Spent = Store → ℕ → Symbol → Type 0

no_window : (P : Instance) (leaves : Leaves) (spent : Spent) (S : Store) (D : Domains) → 0 < cells P → AreCaseReasons P leaves spent → AreSame P D (has_domain S) → (Closes P (leaves S) S → ⊥) → SomeWindowHolds P D → ⊥
no_window P leaves spent S D some reasons same undecided h =
    let line = Closing (Window h.0 h.1 h.2) in
    undecided (line, reasons.plain.windows S h.0 h.1 h.2 h.3, same_holds P None false D (has_domain S) line some tt h.3 same h.4)

no_day : (P : Instance) (leaves : Leaves) (spent : Spent) (S : Store) (D : Domains) → 0 < cells P → AreCaseReasons P leaves spent → AreSame P D (has_domain S) → (Closes P (leaves S) S → ⊥) → SomeDayHolds P D → ⊥
no_day P leaves spent S D some reasons same undecided h =
    let line = Closing (Day h.0 h.1 h.2) in
    undecided (line, reasons.plain.days S h.0 h.1 h.2 h.3, same_holds P None false D (has_domain S) line some tt h.3 same h.4)

not_dead : (P : Instance) (leaves : Leaves) (spent : Spent) (S : Store) (D : Domains) (R : List ℕ) → KeepsLimits P → AreShortRules P R → AreCaseReasons P leaves spent → AreSame P D (has_domain S) → (Closes P (leaves S) S → ⊥) → IsDead P D 0 (2 * cells P) R → ⊥
not_dead P leaves spent S D R limits short reasons same undecided dead =
    let some : 0 < cells P = some_cells P limits in
    let few : cells P ≤ MOST_CELLS = limits.few_cells in
    let line = Closing (Words 0 R (Dead (2 * cells P))) in
    let fits : LineFits P None false line = (some, (omega (arith, some), omega (arith, few)), short.are_rules) in
    undecided (line, reasons.cycle S line (refl, refl, short), same_holds P None false D (has_domain S) line some tt fits same dead)

-- what a day leaf takes away rests on the domains of the positions alone
same_day_spent : (P : Instance) (D E : Domains) (p : ℕ) (x : Symbol) → 0 < cells P → AreSame P D E → SomeDayHolds P (narrowed D (Split p x) First) → SomeDayHolds P (narrowed E (Split p x) First)
same_day_spent P D E p x some same day =
    let cut : AreSame P (narrowed D (Split p x) First) (narrowed E (Split p x) First) = λ q z inside. ap (λ b. b && line_leaves (Split p x) First q z) (same q z inside) in
    (day.0, day.1, day.2, day.3, same_holds P None false (narrowed D (Split p x) First) (narrowed E (Split p x) First) (Closing (Day day.0 day.1 day.2)) some tt day.3 cut day.4)

-- which list of all short rules is taken makes no difference
pub clean_by_other_list : (P : Instance) (R S : List ℕ) (p : ℕ) (u : List Symbol) → NamesShortRules P R → NamesShortRules P S → Clean P S p u → Clean P R p u
clean_by_other_list P R S p u r s clean = λ rule named. clean rule ((s rule).1 ((r rule).0 named))

other_list : (P : Instance) (D : Domains) (R S : List ℕ) (p : ℕ) (x : Symbol) → NamesShortRules P R → NamesShortRules P S → NoWordHas P D R p x → NoWordHas P D S p x
other_list P D R S p x r s h = λ u long over clean at. h u long over (clean_by_other_list P R S 0 u r s clean) at

spent_for_store : (P : Instance) (S : Store) (D : Domains) (R : List ℕ) (p : ℕ) (x : Symbol) → 0 < cells P → AreShortRules P R → AreSame P D (has_domain S) → IsSpentAt P D R p x → IsDaySpent P (has_domain S) p x ⊎ IsCycleSpent P (has_domain S) p x
spent_for_store P S D R p x some short same h =
    let E = has_domain S in
    let useful = sym (same_idle P D E p x.number h.position same) ∙ h.left in
    elim h.spent [
      | inl day ↦ inl (record { position = h.position; useful = useful; closes = same_day_spent P D E p x some same day })
      | inr nowhere ↦ inr (record { position = h.position; useful = useful; short = R; all_short = short.all_short; nowhere = same_nowhere P D E R p x some same nowhere })
    ]

spent_by_store : (P : Instance) (S : Store) (D : Domains) (R : List ℕ) (p : ℕ) (x : Symbol) → 0 < cells P → AreShortRules P R → AreSame P (has_domain S) D → IsDaySpent P (has_domain S) p x ⊎ IsCycleSpent P (has_domain S) p x → IsSpentAt P D R p x
spent_by_store P S D R p x some short same (inl h) = record {
  position = h.position;
  left = sym (same_idle P (has_domain S) D p x.number h.position same) ∙ h.useful;
  spent = inl (same_day_spent P (has_domain S) D p x some same h.closes);
}
spent_by_store P S D R p x some short same (inr h) = record {
  position = h.position;
  left = sym (same_idle P (has_domain S) D p x.number h.position same) ∙ h.useful;
  spent = inr (other_list P D h.short R p x h.all_short short.all_short (same_nowhere P (has_domain S) D h.short p x some same h.nowhere));
}

pub sharp_split : (P : Instance) (leaves : Leaves) (spent : Spent) (D : Domains) (R : List ℕ) (p : ℕ) (x : Symbol) → KeepsLimits P → AreShortRules P R → AreCaseReasons P leaves spent → IsForced P leaves spent D p x → IsSharpSplit P D R p x
sharp_split P leaves spent D R p x limits short reasons h =
    let some : 0 < cells P = some_cells P limits in
    let S = h.store in
    let same : AreSame P (has_domain S) D = h.agrees in
    let back : AreSame P D (has_domain S) = turned_round P (has_domain S) D same in
    record {
      no_window = no_window P leaves spent S D some reasons back h.not_closed;
      no_day = no_day P leaves spent S D some reasons back h.not_closed;
      not_dead = not_dead P leaves spent S D R limits short reasons back h.not_closed;
      forced = λ q z k. spent_by_store P S D R p x some short same ((reasons.taken S p x).0 (h.forced q z ((reasons.taken S q z).1 (spent_for_store P S D R q z some short back k))));
    }
