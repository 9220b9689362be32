-- What is written with one line more.
use Rattle.std.proofs.Common.{◌≡◌, ◌⊎◌, ℕ, ◌+◌, ◌≤◌, List, [], ◌∷◌, ◌++◌, length, Some, refl, ap, sym, subst, arith, length-append, inl, inr}
use Rattle.std.specs.Prelude.{◌↔◌, Contains}
use Rattle.rwsp_terms.specs.declared.data.Rule.{Rule}
use Rattle.rwsp_terms.specs.Instance.{Instance}
use Rattle.rwsp_terms.specs.Rules.{rule_of, Names}
use Rattle.refutation_terms.specs.declared.lines.Line.{Line}
use Rattle.refutation_terms.specs.declared.lines.Opening.{Opening}
use Rattle.refutation_terms.specs.Tree.{domains_at}
use Rattle.refutation_terms.specs.Log.{OpeningFits, GoalFits, OpeningCites, Cites}
use Rattle.refutation_terms.proofs.TreeDomains.{got_left, got_right}
use Rattle.domain_store.specs.States.{IsStateOf, open_trees}
use Rattle.roster_search.specs.declared.aim.Aim.{Aim}
use Rattle.roster_search.specs.declared.progress.Progress.{Progress}
use Rattle.roster_search.specs.Written.{Stands, IsCitedIn, IsProgress}
use Rattle.roster_search.proofs.Growing.{EachAt, one_more, got_in, got_one}

pub no_names : (P : Instance) (r : Rule) → Names P [] r → ⊥
no_names P r n = omega (arith, n.1.1)

-- the first rules that are named are those of the opening
pub opening_named : (P : Instance) (named : List ℕ) (start : Opening) → ((r : Rule) → Names P named r ↔ (Names P [] r ⊎ OpeningCites start r)) → (r : Rule) → Names P named r ↔ OpeningCites start r
opening_named P named start h r = (
  λ n. elim ((h r).0 n) [ inl none ↦ absurd (no_names P r none) | inr cited ↦ cited ],
  λ cited. (h r).1 (inr cited),
)

pub cited_none : (P : Instance) (start : Opening) (r : Rule) → IsCitedIn P start [] r → OpeningCites start r
cited_none P start r (inl h) = h
cited_none P start r (inr h) = absurd (cc (h.2))

pub cited_more : (P : Instance) (start : Opening) (ls : List Line) (line : Line) (r : Rule) → IsCitedIn P start (ls ++ line ∷ []) r → IsCitedIn P start ls r ⊎ Cites P line r
cited_more P start ls line r (inl h) = inl (inl h)
cited_more P start ls line r (inr h) = elim (got_in ls (line ∷ []) h.0 h.1 h.2) [
  | inl at ↦ inl (inr (h.0, h.1, at.1, h.3))
  | inr at ↦ inr (subst (λ l. Cites P l r) (got_one line h.1 at.0 at.2).1 h.3)
]

pub more_cited : (P : Instance) (start : Opening) (ls : List Line) (line : Line) (r : Rule) → IsCitedIn P start ls r ⊎ Cites P line r → IsCitedIn P start (ls ++ line ∷ []) r
more_cited P start ls line r (inl (inl h)) = inl h
more_cited P start ls line r (inl (inr h)) = inr (h.0, h.1, got_left ls (line ∷ []) h.0 h.1 h.2, h.3)
more_cited P start ls line r (inr h) = inr (length ls + 0, line, got_right ls (line ∷ []) 0 line refl, h)

pub record IsNext (P : Instance) (a b : Progress) (line : Line) : Type 0 where
  pub aim : b.aim ≡ a.aim
  pub lines : b.lines.items ≡ a.lines.items ++ line ∷ []
  pub state : IsStateOf P a.aim.opening (a.lines.items ++ line ∷ []) b.walk
  pub stands : Stands P a.aim.goal (domains_at P a.aim.opening a.lines.items (length a.lines.items)) line
  pub named : (r : Rule) → Names P b.named r ↔ (Names P a.named r ⊎ Cites P line r)
  pub numbers : (k : ℕ) → Contains b.named k → (r : Rule) × (rule_of P k ≡ Some r)
  pub opened : open_trees b.walk ≤ open_trees a.walk + 1

-- one line more is written
pub written_next : (P : Instance) (a b : Progress) (line : Line) → IsProgress P a → IsNext P a b line → IsProgress P b
written_next P a b line w n =
    let all : List Line = a.lines.items ++ line ∷ [] in
    let long : length b.lines.items ≡ length all = ap length n.lines in
    let IsStateFor : Aim → List Line → Type 0 = λ m ls. IsStateOf P m.opening ls b.walk in
    let StandFor : Aim → List Line → Type 0 = λ m ls. EachAt (λ k. Stands P m.goal) P m.opening ls in
    let IsCitedFor : Aim → List Line → Type 0 = λ m ls. (r : Rule) → Names P b.named r ↔ IsCitedIn P m.opening ls r in
    let cited : (r : Rule) → Names P b.named r ↔ IsCitedIn P a.aim.opening all r = λ r. (
      λ named. more_cited P a.aim.opening a.lines.items line r (elim ((n.named r).0 named) as (λ (h : Names P a.named r ⊎ Cites P line r). IsCitedIn P a.aim.opening a.lines.items r ⊎ Cites P line r) [ inl old ↦ inl ((w.cited r).0 old) | inr new ↦ inr new ]),
      λ c. (n.named r).1 (elim (cited_more P a.aim.opening a.lines.items line r c) as (λ (h : IsCitedIn P a.aim.opening a.lines.items r ⊎ Cites P line r). Names P a.named r ⊎ Cites P line r) [ inl old ↦ inl ((w.cited r).1 old) | inr new ↦ inr new ]),
    ) in
    record {
      state = subst (λ m. IsStateFor m b.lines.items) (sym n.aim) (subst (IsStateFor a.aim) (sym n.lines) n.state);
      opening_fits = subst (λ (m : Aim). OpeningFits P m.opening) (sym n.aim) w.opening_fits;
      goal_fits = subst (λ (m : Aim). GoalFits P m.opening m.goal) (sym n.aim) w.goal_fits;
      stand = subst (λ m. StandFor m b.lines.items) (sym n.aim) (subst (StandFor a.aim) (sym n.lines) (one_more (λ k. Stands P a.aim.goal) P a.aim.opening a.lines.items line w.stand n.stands));
      cited = subst (λ m. IsCitedFor m b.lines.items) (sym n.aim) (subst (IsCitedFor a.aim) (sym n.lines) cited);
      numbers = n.numbers;
      few_open = let few = w.few_open in let more = n.opened in let one : length all ≡ length a.lines.items + 1 = length_one a.lines.items line in omega arith;
    }
  where
    length_one : (ls : List Line) (line : Line) → length (ls ++ line ∷ []) ≡ length ls + 1
    length_one ls line = simp length-append
