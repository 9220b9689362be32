-- Words over domains, clean words, and what words weigh.
use Rattle.std.specs.Prelude.{◌≡◌, ℕ, ◌+◌, ◌*◌, ◌%◌, ◌<◌, ◌≤◌, List, [], ◌∷◌, Bool, IsTrue, nat_le, ℤ, pos, ◌+ℤ◌, ◌*ℤ◌, slice_index_or}
use Rattle.std.specs.Int.{int_min}
use Rattle.std.specs.List.{range_with_len}
use Rattle.rwsp_terms.specs.declared.data.Symbol.{Symbol}
use Rattle.rwsp_terms.specs.declared.data.Weight.{Weight}
use Rattle.rwsp_terms.specs.declared.data.Rule.{Rule}
use Rattle.rwsp_terms.specs.Instance.{Instance, cells, shift_count, least, greatest, off_symbol}
use Rattle.rwsp_terms.specs.Window.{HasNoBadPart, window}
use Rattle.rwsp_terms.specs.Roster.{IsRoster}
use Rattle.rwsp_terms.specs.Rules.{Names}
use Rattle.rwsp_terms.specs.Weights.{weight_at}

-- for each position below L, which symbols are left there, by their numbers
abbrev pub Domains : Type 0
Domains = ℕ → ℕ → Bool

-- the two leave the same symbols at each position
abbrev pub AreSame : Instance → Domains → Domains → Type 0
AreSame P D E = (p x : ℕ) → p < cells P → D p x ≡ E p x

-- each position has a symbol, and none above K
pub record AreDomains (P : Instance) (D : Domains) : Type 0 where
  pub symbols : (p x : ℕ) → p < cells P → IsTrue (D p x) → x ≤ shift_count P
  pub some : (p : ℕ) → p < cells P → (x : ℕ) × IsTrue (D p x)

-- the domains that leave every symbol everywhere
abbrev pub full : Instance → Domains
full P p x = nat_le x (shift_count P)

-- a roster whose cells are in the domains
pub record Within (P : Instance) (D : Domains) (s : List Symbol) : Type 0 where
  pub is_roster : IsRoster P s
  pub each : (p : ℕ) → p < cells P → IsTrue (D p (slice_index_or s p off_symbol).number)

-- the roster that begins k weeks later, round the cycle
abbrev pub turned : Instance → ℕ → List Symbol → List Symbol
turned P k s = window s (k * P.days) (cells P)

-- a word whose symbols are in the domains of the positions from p on, round the cycle. Where it passes a position
-- twice it may take two symbols there
abbrev pub Over : Instance → Domains → ℕ → List Symbol → Type 0
Over P D p [] = Unit {0}
Over P D p (x ∷ u) = IsTrue (D (p % cells P) x.number) × Over P D (p + 1) u

-- no part of the word from position p on is bad for a rule that the list names
abbrev pub Clean : Instance → List ℕ → ℕ → List Symbol → Type 0
Clean P R p u = (r : Rule) → Names P R r → HasNoBadPart P r p u

-- the sum of what each day of a word from position p on weighs
abbrev pub weight : Instance → List Weight → ℕ → List Symbol → ℤ
weight P y p [] = pos 0
weight P y p (x ∷ u) = weight_at y (p % P.days + 1) x.number +ℤ weight P y (p + 1) u

-- the sum of a value of each element
abbrev pub int_sum_by : (ℕ → ℤ) → List ℕ → ℤ
int_sum_by f [] = pos 0
int_sum_by f (x ∷ xs) = f x +ℤ int_sum_by f xs

-- the least that the weeks that hold the symbol on the day can weigh: the lesser of the two products
abbrev pub least_weight : Instance → List Weight → ℕ → ℕ → ℤ
least_weight P y j x = int_min (weight_at y j x *ℤ least P x j) (weight_at y j x *ℤ greatest P x j)

-- the least that a roster can weigh which meets the demand, summed over all days and symbols
abbrev pub total : Instance → List Weight → ℤ
total P y =
    int_sum_by
    (λ j. int_sum_by (λ x. least_weight P y j x) (range_with_len 0 (shift_count P + 1)))
    (range_with_len 1 P.days)
