-- What is seen, by what the propagator sees.
use Rattle.std.proofs.Common.{◌≡◌, ◌⊎◌, ℕ, Option, Bool, true, false, IsTrue, inl, inr, refl, sym, ◌∙◌, subst, Result}
use Rattle.std.specs.Prelude.{◌↔◌, IfOk}
use Rattle.std.specs.declared.alloc.AllocError.{AllocError}
use Rattle.std.proofs.lemmas.Result.{IfOk-weaker}
use Rattle.rwsp_terms.specs.declared.data.Symbol.{Symbol}
use Rattle.rwsp_terms.specs.Instance.{Instance}
use Rattle.refutation_terms.specs.declared.lines.Line.{Line}
use Rattle.domain_store.specs.Store.{Store}
use Rattle.roster_search.specs.declared.sight.Sight.{Sight}
use Rattle.roster_search.specs.declared.sight.Sight.TheVariants.{Leaf, Cut, Quiet}
use Rattle.roster_search.specs.declared.progress.Progress.{Progress}
use Rattle.roster_search.specs.Guides.{IsGiven, IsSight}
use Rattle.roster_search.specs.Written.{IsSearching}
use Rattle.domain_store.specs.Looks.{IsSame}
use Rattle.roster_search.proofs.Forced.{Leaves, Spent}
use Rattle.roster_search.proofs.Reasons.{sight_by, searching_on}
use Rattle.roster_search.proofs.sight.see.Goals as goal

-- a test that failed

tells_not : (A : Type 0) (test : Bool) → IsTrue test ↔ A → test ≡ false → A → ⊥
tells_not A test same failed a = let clash : true ≡ false = sym (same.1 a) ∙ failed in absurd (cc)

-- what was seen or is given is seen

given_is_seen : (P : Instance) (goal : Option ℕ) (leaves : Line → Type 0) (spent : ℕ → Symbol → Type 0) (S : Store) (sight : Sight) → IsGiven P goal S sight → IsSight P goal leaves spent S sight
given_is_seen P goal leaves spent S (Leaf line) given = given
given_is_seen P goal leaves spent S (Cut p x line) given = absurd given
given_is_seen P goal leaves spent S Quiet given = absurd given

seen_or_given : (P : Instance) (goal : Option ℕ) (leaves : Line → Type 0) (spent : ℕ → Symbol → Type 0) (S : Store) (seen sight : Sight) → IsSight P goal leaves spent S seen → (sight ≡ seen) ⊎ IsGiven P goal S sight → IsSight P goal leaves spent S sight
seen_or_given P goal leaves spent S seen sight h (inl e) = subst (IsSight P goal leaves spent S) (sym e) h
seen_or_given P goal leaves spent S seen sight h (inr given) = given_is_seen P goal leaves spent S sight given

-- and by the propagator as it is then
seen_now : {A : Type 0} (P : Instance) (goal : Option ℕ) (served : A → Instance → Type 0) (lines : A → Leaves) (symbols : A → Spent) (v w : A) (guided : Instance → Option ℕ → Type 0) (S : Store) (seen : Sight) (r : Result Sight AllocError)
    → IsSame served lines symbols v w → guided P goal → IsSight P goal (lines v S) (symbols v S) S seen
    → IfOk r (λ sight. (sight ≡ seen) ⊎ ((Q : Instance) (o : Option ℕ) → guided Q o → IsGiven Q o S sight)) → IfOk r (IsSight P goal (lines w S) (symbols w S) S)
seen_now P goal served lines symbols v w guided S seen r same by h given =
    IfOk-weaker r (λ sight. (sight ≡ seen) ⊎ ((Q : Instance) (o : Option ℕ) → guided Q o → IsGiven Q o S sight)) (IsSight P goal (lines w S) (symbols w S) S)
    (λ sight is. sight_by P goal served lines symbols v w S sight same (seen_or_given P goal (lines v S) (symbols v S) S seen sight h
    (elim is as (λ (o : (sight ≡ seen) ⊎ ((Q : Instance) (o : Option ℕ) → guided Q o → IsGiven Q o S sight)). (sight ≡ seen) ⊎ IsGiven P goal S sight) [ inl e ↦ inl e | inr all ↦ inr (all P goal by) ]))) given

-- the propagator serves and tracks what it did
searching_still : {A : Type 0} (P : Instance) (served : A → Instance → Type 0) (tracked : A → Store → Type 0) (lines : A → Leaves) (symbols : A → Spent) (v w : A) (s : Progress)
    → IsSearching P served tracked lines v s → IsSame served lines symbols v w → ((S : Store) → tracked v S ↔ tracked w S) → IsSearching P served tracked lines w s
searching_still P served tracked lines symbols v w s h same tracks =
    searching_on P served tracked lines symbols v w s s h.serves h.plain h.unweighed same refl ((tracks s.walk.store).0 h.tracks) h.under_way

pub returns-in_err-line-clause-searching : goal.returns-in_err-line-clause-searching
returns-in_err-line-clause-searching g c = searching_still c.args.problem.now _ _ _ _ _ _ c.args.progress.now c.requires.searching c.look.ensures.same c.look.ensures.tracks

pub returns-in-Closed-clause-searching : goal.returns-in-Closed-clause-searching
returns-in-Closed-clause-searching g c = searching_still c.args.problem.now _ _ _ _ _ _ c.args.progress.now c.requires.searching c.look.ensures.same c.look.ensures.tracks

pub returns-in-Cut-clause-searching : goal.returns-in-Cut-clause-searching
returns-in-Cut-clause-searching g c = searching_still c.args.problem.now _ _ _ _ _ _ c.args.progress.now c.requires.searching c.look.ensures.same c.look.ensures.tracks

pub returns-in-Quiet-clause-searching : goal.returns-in-Quiet-clause-searching
returns-in-Quiet-clause-searching g c = searching_still c.args.problem.now _ _ _ _ _ _ c.args.progress.now c.requires.searching c.look.ensures.same c.look.ensures.tracks

pub returns-in-Cut-clause-sight : goal.returns-in-Cut-clause-sight
returns-in-Cut-clause-sight g c =
    let P = c.args.problem.now in
    let o = c.args.progress.now.aim.goal in
    let A = g.A.Propagator in
    let w = c.look.new.self in
    let look = rw c.in-Cut.is at (c.in_ok-line.ensures.look P c.requires.searching.serves) in
    let not_few = tells_not _ c.is_short_of.result c.is_short_of.ensures c.if-is_short_of.false in
    let IsSeen : Store → Type 0 = λ T. IfOk c.leaf_or.result (IsSight P o (A.leaves w T) (A.spent w T) T) in
    subst IsSeen c.domains-doms.ensures.value
    (seen_now P o A.serves A.leaves A.spent c.args.propagator.now w (g.G.Guide.serves c.args.guide.now) c.domains-doms.result.now (Cut c.in-Cut.p c.in-Cut.x c.in-Cut.line) c.leaf_or.result
    c.look.ensures.same c.requires.guide ((look.0, not_few), look.1) c.leaf_or.ensures.sight)
