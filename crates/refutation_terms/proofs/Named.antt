-- The rules of an instance are those of its numbers, and lists of its short rules.
use Rattle.std.proofs.Common.{◌≡◌, ℕ, zero, suc, ◌+◌, ◌<◌, ◌≤◌, List, [], ◌∷◌, ◌++◌, length, subst, arith, Some, map}
use Rattle.std.specs.Prelude.{slice_get}
use Rattle.std.specs.List.{range_with_len, flat_map, AllByRecursion}
use Rattle.rwsp_terms.specs.declared.data.Symbol.{Symbol}
use Rattle.rwsp_terms.specs.declared.data.Class.{Class}
use Rattle.rwsp_terms.specs.declared.data.Class.TheVariants.{Shift, Off, Work}
use Rattle.rwsp_terms.specs.declared.data.Rule.{Rule}
use Rattle.rwsp_terms.specs.declared.data.Rule.TheVariants.{Never, Day}
use Rattle.rwsp_terms.specs.Instance.{Instance, shift_count, symbol_numbered, IsClass}
use Rattle.rwsp_terms.specs.Roster.{IsRule}
use Rattle.rwsp_terms.specs.Rules.{rules, rule_of, classes, block_rules, Names, NamesShortOnly, NamesShortRules}
use Rattle.rwsp_terms.proofs.Elements.{all_joined}
use Rattle.refutation_terms.specs.Word.{Domains, Clean}
use Rattle.refutation_terms.specs.WordsLeaf.{IsDead}

all_got : (P : Rule → Type 0) (xs : List Rule) (i : ℕ) (r : Rule) → AllByRecursion P xs → slice_get xs i ≡ Some r → P r
all_got P [] i r h e = absurd (cc)
all_got P (x ∷ xs) zero r h e = let same : x ≡ r = cc in subst P same h.0
all_got P (x ∷ xs) (suc i) r h e = all_got P xs i r h.1 e

all_mapped : {A : Type 0} (P : A → Type 0) (f : ℕ → A) (a n : ℕ) → ((k : ℕ) → a ≤ k → k < a + n → P (f k)) → AllByRecursion P (map f (range_with_len a n))
all_mapped P f a zero h = tt
all_mapped P f a (suc n) h = (h a (omega arith) (omega arith), all_mapped P f (a + 1) n (λ k le lt. h k (omega (arith, le)) (omega (arith, lt))))

pub block_rules_are : (P : Instance) (cs : List Class) → AllByRecursion (IsClass P) cs → AllByRecursion (IsRule P) (flat_map block_rules cs)
block_rules_are P [] h = tt
block_rules_are P (c ∷ cs) h = (h.0, (h.0, block_rules_are P cs h.1))

classes_are : (P : Instance) → AllByRecursion (IsClass P) (classes P)
classes_are P =
    let shifts = map (λ (x : ℕ). Shift (symbol_numbered x)) (range_with_len 1 (shift_count P)) in
    all_joined (IsClass P) shifts (Off ∷ Work ∷ [])
    (all_mapped (IsClass P) (λ (x : ℕ). Shift (symbol_numbered x)) 1 (shift_count P) (λ k le lt. (omega (arith, le), omega (arith, lt))))
    (tt, (tt, tt))

rules_are : (P : Instance) → AllByRecursion (IsRule P) (rules P)
rules_are P =
    let blocks = flat_map block_rules (classes P) in
    let nevers = map Never (range_with_len 0 (length P.sequences)) in
    let days = map Day (range_with_len 1 P.days) in
    all_joined (IsRule P) (blocks ++ nevers) days
    (all_joined (IsRule P) blocks nevers (block_rules_are P (classes P) (classes_are P))
    (all_mapped (IsRule P) Never 0 (length P.sequences) (λ k le lt. omega (arith, lt))))
    (all_mapped (IsRule P) Day 1 P.days (λ k le lt. (omega (arith, le), omega (arith, lt))))

-- what a number stands for is a rule of the instance
pub rule_of-IsRule : (P : Instance) (k : ℕ) (r : Rule) → rule_of P k ≡ Some r → IsRule P r
rule_of-IsRule P zero r e = absurd (cc)
rule_of-IsRule P (suc k) r e = all_got (IsRule P) (rules P) k r (rules_are P) e

pub named-IsRule : (P : Instance) (R : List ℕ) (r : Rule) → Names P R r → IsRule P r
named-IsRule P R r n = rule_of-IsRule P n.0 r n.2

-- what is clean for all short rules is clean for some of them, and for another list of all
pub clean_for_some : (P : Instance) (short R : List ℕ) (p : ℕ) (u : List Symbol) → NamesShortRules P short → NamesShortOnly P R → Clean P short p u → Clean P R p u
clean_for_some P short R p u all only clean r named = clean r ((all r).1 (named-IsRule P R r named, only r named))

pub dead_for_all : (P : Instance) (D : Domains) (p len : ℕ) (short R : List ℕ) → NamesShortRules P short → NamesShortOnly P R → IsDead P D p len R → IsDead P D p len short
dead_for_all P D p len short R all only dead u long over clean = dead u long over (clean_for_some P short R p u all only clean)

pub all_are_short : (P : Instance) (short : List ℕ) → NamesShortRules P short → NamesShortOnly P short
all_are_short P short all r named = ((all r).0 named).1
