-- The least clean word, as the best where nothing gains.
use Rattle.std.proofs.Common.{◌≡◌, ℕ, ◌+◌, List, [], ◌∷◌, refl, arith, inl, inr, Bool, false, ◌==◌}
use Rattle.std.specs.Prelude.{ℤ, pos}
use Rattle.std.proofs.lemmas.Int.{ints}
use Rattle.rwsp_terms.specs.declared.data.Symbol.{Symbol}
use Rattle.refutation_terms.specs.WordsLeaf.{IsDead}
use Rattle.refutation_terms.specs.Escape.{ComesFirst, IsLeastClean}
use Rattle.domain_store.specs.Store.{Store, has_domain}
use Rattle.clean_words.specs.Automata.{RuleAutomaton}
use Rattle.clean_words.specs.Courses.{gained, course, IsNoWorse, IsBestOf, AreBelow}

abbrev no_gain : ℕ → Bool → Symbol → ℤ
no_gain day behind_off x = pos 0

gained_nothing : (day : ℕ) (off : Bool) (u : List Symbol) → gained no_gain day off u ≡ pos 0
gained_nothing day off [] = refl
gained_nothing day off (x ∷ u) = rw (gained_nothing (day + 1) (x.number == 0) u)

pub least_of_best : (A : RuleAutomaton) (S : Store) (p days : ℕ) (weight : ℤ) (w : List Symbol) → IsBestOf (course A S p (λ day behind_off x. pos 0)) days weight w → IsLeastClean A.problem (has_domain S) p days A.rules w
least_of_best A S p days weight w b = record { clean = b.clean; least = λ v clean. first v (b.best v clean) }
  where
    first : (v : List Symbol) → IsNoWorse (course A S p (λ day behind_off x. pos 0)) w v → ComesFirst w v
    first v (inl less) = absurd (omega (arith, ints, less, gained_nothing 0 false v, gained_nothing 0 false w))
    first v (inr same) = same.1

pub dead_of_below : (A : RuleAutomaton) (S : Store) (p days : ℕ) → AreBelow (course A S p (λ day behind_off x. pos 0)) days (pos 0) → IsDead A.problem (has_domain S) p days A.rules
dead_of_below A S p days below u long over clean = absurd (omega (arith, ints, gained_nothing 0 false u, below u (record { long = long; over = over; clean = clean })))
