-- Lines by their kinds.
use Rattle.std.proofs.Common.{◌≡◌, ℕ, ◌≤◌, length, Option, None, Bool, false, IsTrue, sym, subst, arith, inl, inr}
use Rattle.std.proofs.lemmas.Bool.{cases_lt}
use Rattle.std.specs.Prelude.{◌↔◌}
use Rattle.rwsp_terms.specs.Instance.{Instance}
use Rattle.rwsp_terms.specs.declared.data.Symbol.{Symbol}
use Rattle.refutation_terms.specs.declared.lines.Leaf.{Leaf}
use Rattle.refutation_terms.specs.declared.lines.Line.TheVariants.{Closing}
use Rattle.refutation_terms.specs.declared.lines.Leaf.TheVariants.{Day}
use Rattle.refutation_terms.specs.Word.{Domains}
use Rattle.refutation_terms.specs.Tree.{is_idle}
use Rattle.refutation_terms.specs.Log.{Holds}
use Rattle.refutation_terms.proofs.InWords.{idle_as_said}
use Rattle.domain_store.specs.Store.{Store, has_domain, domain_at, BelongsTo, HasDomains}
use Rattle.refutation_checker.specs.LineVerdicts.{StandsPlainly}

-- a symbol of a domain of two or more may be split off
pub may_split : (P : Instance) (S : Store) (p x : ℕ) → BelongsTo P S → HasDomains S → IsTrue (has_domain S p x) → 2 ≤ length (domain_at S p) → is_idle P (has_domain S) p x ≡ false
may_split P S p x b h has many =
    let other = h.others p x many in
    (idle_as_said P (has_domain S) p x).1 (has, (other.0, omega (arith, (h.known p other.0 other.2).1, b.shifts), other.1, other.2))

pub split_of_many : (P : Instance) (S : Store) (p x n : ℕ) → HasDomains S → n ≡ length (domain_at S p) → 1 ≤ n → is_idle P (has_domain S) p x ≡ false → 2 ≤ n
split_of_many P S p x n h is some idle =
    elim (cases_lt n 2) [
      | inl less ↦
          let one : length (domain_at S p) ≡ 1 = omega (arith, is, some, less) in
          let both = (idle_as_said P (has_domain S) p x).0 idle in
          absurd (both.1.2 (h.alone p both.1.0 x one both.1.3 both.0))
      | inr more ↦ more
    ]

-- a day leaf
pub day_stands : (P : Instance) (goal : Option ℕ) (D : Domains) (leaf : Leaf) (j : ℕ) (x : Symbol) (over b : Bool) → leaf ≡ Day j x over → (IsTrue b ↔ Holds P None D (Closing (Day j x over))) → IsTrue b ↔ StandsPlainly P goal D (Closing leaf)
day_stands P goal D leaf j x over b is test = subst (λ (l : Leaf). IsTrue b ↔ StandsPlainly P goal D (Closing l)) (sym is) test
