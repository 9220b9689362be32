-- The positions from the start on and those before it are all.
use Rattle.std.proofs.Common.{◌≡◌, ℕ, ◌<◌, ◌≤◌, List, [], length, Option, Some, None, MatchOption, arith, inl, inr}
use Rattle.std.proofs.lemmas.Bool.{cases_lt}
use Rattle.std.proofs.lemmas.List.Elements.{All-from_get_or}
use Rattle.domain_store.specs.Store.{Store, IsDecided, domain_at}
use Rattle.roster_search.proofs.order.first_open_from.Goals as goal

decided_round : (S : Store) (start : ℕ) (found : Option ℕ) (Q : ℕ → Type 0) → ((q : ℕ) → start ≤ q → q < length S.sets → length (domain_at S q) ≡ 1)
    → MatchOption found ((q : ℕ) → 0 ≤ q → q < start → length (domain_at S q) ≡ 1) Q → MatchOption found (IsDecided S) Q
decided_round S start (Some p) Q rest front = front
decided_round S start None Q rest front = All-from_get_or (λ (set : List ℕ). length set ≡ 1) S.sets [] (λ q inside.
    elim (cases_lt q start) [
      | inl before ↦ front q (omega arith) before
      | inr behind ↦ rest q (omega (arith, behind)) inside
    ])

pub returns : goal.returns
returns c = decided_round c.args.domains.now c.if-first-cells.start c.first_open_in-2.result _ (λ q from inside. c.in_default.ensures q from (omega (arith, inside, c.cells-cells.ensures.positions))) c.first_open_in-2.ensures
