-- The domains that a cycle is made for.
use Rattle.std.specs.Prelude.{◌≡◌, ◌≢◌, ℕ, ◌≤◌, List, [], length, IsTrue, slice_index_or}
use Rattle.rwsp_terms.specs.declared.data.Symbol.{Symbol}
use Rattle.rwsp_terms.specs.Instance.{Instance}
use Rattle.refutation_terms.specs.Word.{Domains}
use Rattle.refutation_terms.specs.Sharp.{NoWordHas}
use Rattle.domain_store.specs.Sets.{has_symbol}
use Rattle.domain_store.specs.Store.{Store, BelongsTo, domain_at}
use Rattle.clean_words.specs.Automata.{RuleAutomaton}

pub record KnownCycle : Type 0 where
  pub problem : Instance
  -- the numbers of the rules
  pub rules : List ℕ
  -- for each position the ascending numbers of the symbols of its domain
  pub sets : List (List ℕ)

-- the cycle of an automaton and these domains
abbrev pub known : RuleAutomaton → List (List ℕ) → KnownCycle
known A sets = record { problem = A.problem; rules = A.rules; sets = sets }

-- whether the known domain of the position has the symbol
abbrev pub knows_symbol : KnownCycle → Domains
knows_symbol C p x = has_symbol (slice_index_or C.sets p []) x

-- the known domains are the store's
pub record KnowsDomains (C : KnownCycle) (S : Store) : Type 0 where
  pub belongs : BelongsTo C.problem S
  pub sets : C.sets ≡ S.sets

-- the store's domains are the known ones, except at one position at most
pub record KnowsAllBut (C : KnownCycle) (S : Store) (p : ℕ) : Type 0 where
  pub belongs : BelongsTo C.problem S
  pub others : (q : ℕ) → q ≢ p → slice_index_or C.sets q [] ≡ domain_at S q

-- where the known domain of the position has two symbols or more, some clean word of two turns has each of them there
abbrev pub IsSupportedAt : KnownCycle → ℕ → Type 0
IsSupportedAt C p =
    (x : Symbol) → 2 ≤ length (slice_index_or C.sets p []) → IsTrue (knows_symbol C p x.number)
    → NoWordHas C.problem (knows_symbol C) C.rules p x → ⊥
