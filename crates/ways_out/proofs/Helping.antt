-- What helps, and how far a search has come.
use Rattle.std.proofs.Common.{◌≡◌, ℕ, ◌≤◌, List, Bool, true, false, ap, sym, subst, ◌∙◌, Some}
use Rattle.std.specs.Prelude.{Contains, IsTrue, ◌↔◌}
use Rattle.rwsp_terms.specs.Instance.{Instance}
use Rattle.rwsp_terms.specs.Rules.{rule_of}
use Rattle.rwsp_model.proofs.Numbering.{one_number}
use Rattle.refutation_terms.specs.Log.{Log, Passes}
use Rattle.refutation_terms.specs.Verdict.{kind_of_log, IsAccepted}
use Rattle.refutation_terms.specs.declared.lines.LogKind.TheVariants.{WithoutGoal}
use Rattle.refutation_terms.proofs.LogKinds.{plain_leaves_none}
use Rattle.refutation_terms.proofs.Named.{named-IsRule}
use Rattle.roster_planner.specs.declared.effort.Effort.{Effort}
use Rattle.ways_out.specs.declared.change.Change.{Change}
use Rattle.ways_out.specs.declared.change.Outcome.{Outcome}
use Rattle.ways_out.specs.declared.change.Outcome.TheVariants.{Helps, Shut, Open}
use Rattle.ways_out.specs.Loosened.{loosened, changed_rule, IsChange}
use Rattle.ways_out.specs.Helping.{HasNone, Refutes, HelpsNever, IsOutcome}
use Rattle.ways_out.specs.Answers.{HasSteps}
use Rattle.ways_out.proofs.Staying.{rosters_stay_further, other_rules_stay, roster_stays}

-- where many steps give no roster, fewer give none
pub none_nearer : (P : Instance) (change : Change) (m n : ℕ) → IsChange P change → m ≤ n → HasNone (loosened P change n) → HasNone (loosened P change m)
none_nearer P change m n known le none = λ s meets. none s (rosters_stay_further P change m n s known le meets)

-- the rules of a log that passes, without a goal and without given cells, leave no roster
pub log_refutes : (P : Instance) (g : Log) → Passes P g → kind_of_log g ≡ WithoutGoal → Refutes P g.named
log_refutes P g passes kind = λ s meets. plain_leaves_none P g s passes kind meets

-- so none meets all rules
pub none_meets : (P : Instance) (named : List ℕ) → Refutes P named → HasNone P
none_meets P named refutes = λ s meets. refutes s (record { is_roster = meets.is_roster; rules = λ r name. meets.rules r (named-IsRule P named r name) })

-- nor where the text of such a log is accepted
pub accepted_refutes : (P : Instance) (text : List ℕ) (g : Log) → IsAccepted P WithoutGoal text g → HasNone P
accepted_refutes P text g h = none_meets P g.named (log_refutes P g h.passes h.of_kind)

-- a change of a rule that isn't named gives no roster
pub unnamed_never : (P : Instance) (named : List ℕ) (change : Change) (number : ℕ) → IsChange P change → Refutes P named → rule_of P number ≡ Some (changed_rule change) → (Contains named number → ⊥) → HelpsNever P change
unnamed_never P named change number known refutes is other = λ n step s meets.
    refutes s (record {
      is_roster = roster_stays P change n s known meets;
      rules = λ r name. other_rules_stay P change n r s known meets (named-IsRule P named r name) (λ e.
          other (subst (λ (k : ℕ). Contains named k) (one_number P name.0 number (changed_rule change) (name.2 ∙ ap Some e) is) name.1));
    })

-- the steps of an outcome are the change's
pub outcome_steps : (P : Instance) (effort : Effort) (change : Change) (outcome : Outcome) → IsOutcome P effort change outcome → HasSteps P change outcome
outcome_steps P effort change (Helps n is_nearest) h = h.step
outcome_steps P effort change Shut h = tt
outcome_steps P effort change Open h = tt

-- a test that fails says no
pub tells_not : {A : Type 0} (test : Bool) → IsTrue test ↔ A → test ≡ false → A → ⊥
tells_not test h e a = let clash : true ≡ false = sym (h.1 a) ∙ e in absurd (cc)
