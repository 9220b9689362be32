-- A split more.
use Rattle.std.proofs.Common.{List, subst, ◌≡◌, ◌⊎◌, ◌<◌, [], ◌∷◌, refl, sym, ◌∙◌, length, arith, inl, inr}
use Rattle.rwsp_terms.specs.Instance.{cells}
use Rattle.rwsp_terms.specs.Rules.{Names}
use Rattle.refutation_terms.specs.declared.lines.Line.{Line}
use Rattle.refutation_terms.specs.declared.lines.Line.TheVariants.{Split}
use Rattle.refutation_terms.specs.Tree.{domains_at, is_idle}
use Rattle.domain_store.specs.Splits.{is_idle_in}
use Rattle.domain_store.proofs.Idle.{positions_of, held_where_useful, idle_in_store}
use Rattle.roster_search.specs.Written.{IsProgress}
use Rattle.roster_search.proofs.Cited.{written_next}
use Rattle.roster_search.proofs.Narrowing.{HasDomainsBehind, narrowed_at}
use Rattle.roster_search.proofs.progress.Progress.split.Goals as goal

pub returns-clause-off : goal.returns-clause-off
returns-clause-off c P w =
    let a = c.args.self.now in
    let p = c.args.p in
    let x = c.args.x in
    let S = a.walk.store in
    let state = w.state in
    let many : length S.sets ≡ cells P = positions_of P S c.prove_domains.ensures.store state.belongs in
    let inside : p < cells P = omega (arith, c.requires.position, many) in
    let same = c.prove_domains.ensures.same P w in
    let idle : is_idle_in S p x.number ≡ is_idle P (domains_at P a.aim.opening a.lines.items (length a.lines.items)) p x.number =
    idle_in_store P (domains_at P a.aim.opening a.lines.items (length a.lines.items)) S p x.number c.prove_domains.ensures.store c.prove_domains.ensures.tests state.belongs c.requires.position (λ z. same p z inside) in
    let held = c.prove_domains.ensures.tests.known p x.number (held_where_useful S p x.number c.requires.useful) in
    let next = c.in_ok-read_split.ensures.splits P a.aim.opening a.lines.items state in
    let written : IsProgress P (record a { lines = c.push.new.self; walk = c.read_split.new.self }) =
    written_next P a _ (Split p x) w (record {
      aim = refl;
      lines = c.in_ok-push.ensures.items;
      state = next;
      stands = record { holds = sym idle ∙ c.requires.useful; fits = (inside, omega (arith, held.1, state.belongs.shifts)); short = tt };
      named = λ r. (λ n. inl n, λ h. elim h as (λ (o : Names P a.named r ⊎ ⊥). Names P a.named r) [ inl n ↦ n | inr none ↦ absurd none ]);
      numbers = w.numbers;
      opened = omega (arith, c.in_ok-read_split.ensures.one_more);
    }) in
    let before : HasDomainsBehind P a.aim.opening a.lines.items S = record { store = c.prove_domains.ensures.store; belongs = state.belongs; same = same } in
    let behind : HasDomainsBehind P a.aim.opening c.push.new.self.items c.read_split.new.self.store = record { store = c.prove_domains-2.ensures.store; belongs = next.belongs; same = c.prove_domains-2.ensures.same P written } in
    record {
      written = written;
      same_aim = refl;
      added = Split p x ∷ [];
      split = inl refl;
      lines = c.in_ok-push.ensures.items;
      narrowed = narrowed_at P a.aim.opening a.lines.items (Split p x ∷ []) S c.read_split.new.self.store p x before
          (subst (λ (ls : List Line). HasDomainsBehind P a.aim.opening ls c.read_split.new.self.store) c.in_ok-push.ensures.items behind) (inl refl) inside;
    }
