-- What two propagators see together.
use Rattle.std.proofs.Common.{ℕ, ◌⊎◌, inl, inr}
use Rattle.rwsp_terms.specs.declared.data.Symbol.{Symbol}
use Rattle.rwsp_terms.specs.Instance.{Instance}
use Rattle.refutation_terms.specs.declared.lines.Line.{Line}
use Rattle.domain_store.specs.Store.{Store}
use Rattle.domain_store.specs.declared.look.Look.{Look}
use Rattle.domain_store.specs.declared.look.Look.TheVariants.{Quiet, Closed, Cut}
use Rattle.domain_store.specs.Looks.{Closes, IsClosing, IsCut, IsLook, joined}

neither_closes : (P : Instance) (l m : Line → Type 0) (S : Store) → (Closes P l S → ⊥) → (Closes P m S → ⊥) → Closes P (λ line. l line ⊎ m line) S → ⊥
neither_closes P l m S first second h =
    elim h.1 [
      | inl among ↦ first (h.0, among, h.2)
      | inr among ↦ second (h.0, among, h.2)
    ]

closed_by : (P : Instance) (l m : Line → Type 0) (S : Store) (line : Line) → IsClosing P l S line → IsClosing P (λ line. l line ⊎ m line) S line
closed_by P l m S line is = (inl is.0, is.1)

closed_too : (P : Instance) (l m : Line → Type 0) (S : Store) (line : Line) → IsClosing P m S line → IsClosing P (λ line. l line ⊎ m line) S line
closed_too P l m S line is = (inr is.0, is.1)

cut_by : (P : Instance) (s t : ℕ → Symbol → Type 0) (S : Store) (p : ℕ) (x : Symbol) (line : Line) → IsCut P s S p x line → IsCut P (λ p x. s p x ⊎ t p x) S p x line
cut_by P s t S p x line is = record {
  is_spent = inl is.is_spent;
  position = is.position;
  useful = is.useful;
  unweighed = is.unweighed;
  leaf = is.leaf;
}

cut_too : (P : Instance) (s t : ℕ → Symbol → Type 0) (S : Store) (p : ℕ) (x : Symbol) (line : Line) → IsCut P t S p x line → IsCut P (λ p x. s p x ⊎ t p x) S p x line
cut_too P s t S p x line is = record {
  is_spent = inr is.is_spent;
  position = is.position;
  useful = is.useful;
  unweighed = is.unweighed;
  leaf = is.leaf;
}

neither_spent : (s t : ℕ → Symbol → Type 0) → ((p : ℕ) (x : Symbol) → s p x → ⊥) → ((p : ℕ) (x : Symbol) → t p x → ⊥) → (p : ℕ) (x : Symbol) → s p x ⊎ t p x → ⊥
neither_spent s t first second p x h =
    elim h [
      | inl spent ↦ first p x spent
      | inr spent ↦ second p x spent
    ]

-- what two looks see together
pub seen_by_two : (P : Instance) (l m : Line → Type 0) (s t : ℕ → Symbol → Type 0) (S : Store) (first second : Look)
    → IsLook P l s S first → IsLook P m t S second
    → IsLook P (λ line. l line ⊎ m line) (λ p x. s p x ⊎ t p x) S (joined first second)
seen_by_two P l m s t S Quiet Quiet is then = (neither_closes P l m S is.0 then.0, neither_spent s t is.1 then.1)
seen_by_two P l m s t S Quiet (Closed line) is then = closed_too P l m S line then
seen_by_two P l m s t S Quiet (Cut p x line) is then = (neither_closes P l m S is.0 then.0, cut_too P s t S p x line then.1)
seen_by_two P l m s t S (Closed closing) Quiet is then = closed_by P l m S closing is
seen_by_two P l m s t S (Closed closing) (Closed line) is then = closed_too P l m S line then
seen_by_two P l m s t S (Closed closing) (Cut p x line) is then = closed_by P l m S closing is
seen_by_two P l m s t S (Cut q y leaf) Quiet is then = (neither_closes P l m S is.0 then.0, cut_by P s t S q y leaf is.1)
seen_by_two P l m s t S (Cut q y leaf) (Closed line) is then = closed_too P l m S line then
seen_by_two P l m s t S (Cut q y leaf) (Cut p x line) is then = (neither_closes P l m S is.0 then.0, cut_by P s t S q y leaf is.1)
