-- A symbol of the domain is supported where a step joins; another never is.
use Rattle.std.proofs.Common.{◌≡◌, ◌∙◌, ℕ, ◌+◌, ◌<◌, Bool, true, false, IsTrue, List, [], get_or, ap, sym, subst, refl}
use Rattle.std.specs.Prelude.{◌↔◌}
use Rattle.rwsp_terms.specs.declared.data.Symbol.{Symbol}
use Rattle.rwsp_terms.specs.Instance.{cells}
use Rattle.refutation_terms.specs.Sharp.{NoWordHas}
use Rattle.domain_store.specs.Sets.{has_symbol}
use Rattle.clean_words.specs.declared.step.Step.{Step}
use Rattle.clean_words.specs.Automata.{RuleAutomaton}
use Rattle.propagators.specs.Known.{KnownCycle, known, knows_symbol}
use Rattle.propagators.specs.KeptCycle.{IsCycle, HasJoiningStep}
use Rattle.propagators.specs.Marks.{row_at}
use Rattle.propagators.proofs.Turning.{supported_by, nowhere_by}
use Rattle.propagators.proofs.Marking.{unlike}
use Rattle.propagators.proofs.two_turns.Cycle.supported.Goals as goal

joins : (r : Bool) (x : Symbol) (steps all : List Step) (before front behind back : List ℕ) → steps ≡ all → before ≡ front → behind ≡ back → IsTrue r ↔ HasJoiningStep steps x before behind → IsTrue r ↔ HasJoiningStep all x front back
joins r x steps all before front behind back a b d h =
    let A : List Step → Type 0 = λ s. IsTrue r ↔ HasJoiningStep s x before behind in
    let B : List ℕ → Type 0 = λ k. IsTrue r ↔ HasJoiningStep all x k behind in
    let D : List ℕ → Type 0 = λ k. IsTrue r ↔ HasJoiningStep all x front k in
    subst D d (subst B b (subst A a h))

-- where the symbol is left, a step tells
left : {A : RuleAutomaton} {sets front back : List (List ℕ)} (c : IsCycle A sets front back) (p : ℕ) (x : Symbol) (r : Bool) → p < cells A.problem → IsTrue (has_symbol (get_or sets p []) x.number) → IsTrue r ↔ HasJoiningStep A.steps x (row_at front p) (row_at back (p + 1))
    → (r ≡ false) ↔ NoWordHas A.problem (knows_symbol (known A sets)) A.rules p x
left {A} {sets} {front} {back} c p x r within held test = (
  λ none. nowhere_by c p x within (λ _ joins. unlike r none (test.1 joins)),
  λ none. by_cases r (λ h. supported_by c p x within held (test.0 h) none),
)
  where
    by_cases : (b : Bool) → (IsTrue b → ⊥) → b ≡ false
    by_cases true never = absurd (never refl)
    by_cases false never = refl

pub returns-then-has : goal.returns-then-has
returns-then-has c =
    let i = c.self.inside in
    let v = c.self.invariant.0 in
    let within : c.args.p < cells i.automaton.now.problem = subst (λ (C : KnownCycle). c.args.p < cells C.problem) (sym c.self.view_is) c.requires in
    let P : KnownCycle → Type 0 = λ C. (c.has_joining_step.result ≡ false) ↔ NoWordHas C.problem (knows_symbol C) C.rules c.args.p c.args.x in
    subst P c.self.view_is (left v c.args.p c.args.x c.has_joining_step.result within
    (ap (λ s. has_symbol s c.args.x.number) (sym c.at.ensures) ∙ sym c.has.ensures ∙ c.if-has.true)
    (joins c.has_joining_step.result c.args.x c.steps-steps.result.now i.automaton.now.steps c.row-before.result.now (row_at i.front c.args.p) c.row-behind.result.now (row_at i.back (c.args.p + 1)) c.steps-steps.ensures c.row-before.ensures c.row-behind.ensures c.has_joining_step.ensures))

pub returns-else-has : goal.returns-else-has
returns-else-has c =
    let i = c.self.inside in
    let v = c.self.invariant.0 in
    let within : c.args.p < cells i.automaton.now.problem = subst (λ (C : KnownCycle). c.args.p < cells C.problem) (sym c.self.view_is) c.requires in
    let none = ap (λ s. has_symbol s c.args.x.number) (sym c.at.ensures) ∙ sym c.has.ensures ∙ c.if-has.false in
    let P : KnownCycle → Type 0 = λ C. (c.has.result ≡ false) ↔ NoWordHas C.problem (knows_symbol C) C.rules c.args.p c.args.x in
    subst P c.self.view_is (
      λ _. nowhere_by v c.args.p c.args.x within (λ held _. unlike _ none held),
      λ _. c.if-has.false,
    )
