-- A split and the leaf of its first side.
use Rattle.std.proofs.Common.{◌≡◌, ℕ, List, [], ◌∷◌, ◌++◌, ◌<◌, ◌≤◌, refl, sym, subst, ap, ◌∙◌, length, arith, inr, append_assoc}
use Rattle.std.proofs.lemmas.List.{length_push}
use Rattle.rwsp_terms.specs.Instance.{Instance, cells}
use Rattle.rwsp_model.proofs.Limits.{some_cells}
use Rattle.domain_store.specs.Store.{Store, IsStore, BelongsTo, has_domain}
use Rattle.refutation_terms.specs.declared.lines.Line.{Line}
use Rattle.refutation_terms.specs.declared.lines.Line.TheVariants.{Split}
use Rattle.refutation_terms.specs.Tree.{domains_at, narrowed, First}
use Rattle.domain_store.specs.Leaves.{IsHoldingLeaf}
use Rattle.domain_store.proofs.Idle.{positions_of, idle_in_store}
use Rattle.roster_search.specs.declared.aim.Aim.{Aim}
use Rattle.roster_search.specs.Written.{IsSplitWithLeaf}
use Rattle.roster_search.proofs.Narrowing.{HasDomainsBehind, narrowed_at, first_side}
use Rattle.roster_search.proofs.Reaching.{same_leaf}
use Rattle.roster_search.proofs.progress.Progress.cut.Goals as goal

-- a position of the problem is one of its store
position_in_store : (P : Instance) (S : Store) (p : ℕ) → IsStore S → BelongsTo P S → p < cells P → p < length S.sets
position_in_store P S p store belongs h = subst (λ n. p < n) (sym (positions_of P S store belongs)) h

-- a line more, where there is room
one_more_fits : (lines new : List Line) (line : Line) (budget : ℕ) → new ≡ lines ++ line ∷ [] → length lines < budget → length new ≤ budget
one_more_fits lines new line budget e h = omega (arith, ap length e ∙ length_push lines line)

-- the split and then the leaf
both_lines : (old mid new : List Line) (cut leaf : Line) → mid ≡ old ++ cut ∷ [] → new ≡ mid ++ leaf ∷ [] → new ≡ old ++ cut ∷ leaf ∷ []
both_lines old mid new cut leaf split close = close ∙ ap (λ lines. lines ++ leaf ∷ []) split ∙ append_assoc old (cut ∷ []) (leaf ∷ [])

pub split-requires-clause-useful : goal.split-requires-clause-useful
split-requires-clause-useful c =
    let P = c.args.problem.now in
    let S = c.args.self.now.walk.store in
    let belongs = c.requires.written.state.belongs in
    idle_in_store P (has_domain S) S c.args.p c.args.x.number c.prove_domains.ensures.store c.prove_domains.ensures.tests belongs (position_in_store P S c.args.p c.prove_domains.ensures.store belongs c.requires.position) (λ z. refl) ∙ c.requires.useful

pub close-requires-clause-leaf : goal.close-requires-clause-leaf
close-requires-clause-leaf c =
    let P = c.args.problem.now in
    let a = c.args.self.now in
    let D = has_domain a.walk.store in
    let cut = Split c.args.p c.args.x in
    let all : List Line = a.lines.items ++ cut ∷ [] in
    let HoldsBehind : Aim → List Line → Type 0 = λ m ls. IsHoldingLeaf P m.goal (domains_at P m.opening ls (length ls)) c.args.line in
    let there : HoldsBehind a.aim all =
    same_leaf P a.aim.opening a.aim.goal (narrowed D cut First) (domains_at P a.aim.opening all (length all)) c.args.line (some_cells P c.prove_limits.ensures) c.requires.written.goal_fits
    (first_side P a.aim.opening a.lines.items D c.args.p c.args.x (c.prove_domains.ensures.same P c.requires.written))
    c.requires.leaf in
    subst (λ m. HoldsBehind m c.split.new.self.lines.items) (sym c.in_ok-split.ensures.aim) (subst (HoldsBehind a.aim) (sym c.in_ok-split.ensures.lines) there)

pub returns-in_ok-close-clause-off : goal.returns-in_ok-close-clause-off
returns-in_ok-close-clause-off c =
    let P = c.args.problem.now in
    let a = c.args.self.now in
    let b = c.close.new.self in
    let p = c.args.p in
    let x = c.args.x in
    let added : List Line = Split p x ∷ c.args.line ∷ [] in
    let aim : b.aim ≡ a.aim = c.close.ensures.aim ∙ c.in_ok-split.ensures.aim in
    let lines : b.lines.items ≡ a.lines.items ++ added = both_lines a.lines.items c.split.new.self.lines.items b.lines.items (Split p x) c.args.line c.in_ok-split.ensures.lines c.in_ok-close.ensures.lines in
    let kind : IsSplitWithLeaf p x added = inr (c.args.line, c.requires.leaf.leaf, refl) in
    let w = c.in_ok-close.ensures.written in
    let before : HasDomainsBehind P a.aim.opening a.lines.items a.walk.store = record { store = c.prove_domains.ensures.store; belongs = c.requires.written.state.belongs; same = c.prove_domains.ensures.same P c.requires.written } in
    let behind : HasDomainsBehind P b.aim.opening b.lines.items b.walk.store = record { store = c.prove_domains-then-has_room.ensures.store; belongs = w.state.belongs; same = c.prove_domains-then-has_room.ensures.same P w } in
    record {
      written = w;
      same_aim = aim;
      added = added;
      split = kind;
      lines = lines;
      narrowed = narrowed_at P a.aim.opening a.lines.items added a.walk.store b.walk.store p x before
          (subst (λ (ls : List Line). HasDomainsBehind P a.aim.opening ls b.walk.store) lines (subst (λ (m : Aim). HasDomainsBehind P m.opening b.lines.items b.walk.store) aim behind)) kind c.requires.position;
    }

pub returns-in_ok-close-clause-few : goal.returns-in_ok-close-clause-few
returns-in_ok-close-clause-few c = subst (λ (m : Aim). length c.close.new.self.lines.items ≤ m.budget) c.in_ok-split.ensures.aim
    (one_more_fits c.split.new.self.lines.items _ c.args.line c.split.new.self.aim.budget c.in_ok-close.ensures.lines (c.has_room.ensures.0 c.if-has_room.true))

pub returns-in_ok-close-clause-leaf : goal.returns-in_ok-close-clause-leaf
returns-in_ok-close-clause-leaf c = λ _. both_lines c.args.self.now.lines.items _ _ _ _ c.in_ok-split.ensures.lines c.in_ok-close.ensures.lines

pub returns-else-has_room-clause-off : goal.returns-else-has_room-clause-off
returns-else-has_room-clause-off c = c.in_ok-split.ensures.off c.args.problem.now c.requires.written

pub returns-else-has_room-clause-few : goal.returns-else-has_room-clause-few
returns-else-has_room-clause-few c = one_more_fits c.args.self.now.lines.items _ _ c.args.self.now.aim.budget c.in_ok-split.ensures.lines c.requires.room.1

pub close-requires-clause-written : goal.close-requires-clause-written
close-requires-clause-written c = (c.in_ok-split.ensures.off c.args.problem.now c.requires.written).written
