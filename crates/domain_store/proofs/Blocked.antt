-- A window leaf is one whose every possible word is bad.
use Rattle.std.proofs.Common.{◌≡◌, ℕ, ◌+◌, ◌%◌, List, [], ◌∷◌, length, IsTrue, Some, sym, ◌∙◌, subst}
use Rattle.std.proofs.lemmas.Option.{same_Some}
use Rattle.rwsp_terms.specs.declared.data.Symbol.{Symbol}
use Rattle.rwsp_terms.specs.declared.data.Rule.{Rule}
use Rattle.rwsp_terms.specs.Instance.{Instance, cells}
use Rattle.rwsp_terms.specs.Rules.{rule_of}
use Rattle.rwsp_terms.specs.Window.{Bad}
use Rattle.refutation_terms.specs.WindowLeaf.{IsBlocked}
use Rattle.refutation_terms.specs.Word.{Over}
use Rattle.domain_store.specs.Store.{Store, has_domain}
use Rattle.domain_store.specs.Views.{left_in, MayStand, AreAllBad}

over_stands : (P : Instance) (S : Store) (p : ℕ) (u : List Symbol) → length S.sets ≡ cells P → Over P (has_domain S) p u → MayStand (left_in S) p u
over_stands P S p [] long over = tt
over_stands P S p (x ∷ u) long over =
    (subst (λ n. IsTrue (has_domain S (p % n) x.number)) (sym long) over.0, over_stands P S (p + 1) u long over.1)

stands_over : (P : Instance) (S : Store) (p : ℕ) (u : List Symbol) → length S.sets ≡ cells P → MayStand (left_in S) p u → Over P (has_domain S) p u
stands_over P S p [] long stands = tt
stands_over P S p (x ∷ u) long stands =
    (subst (λ n. IsTrue (has_domain S (p % n) x.number)) long stands.0, stands_over P S (p + 1) u long stands.1)

pub all_bad_blocked : (P : Instance) (S : Store) (number : ℕ) (r : Rule) (p len : ℕ) → length S.sets ≡ cells P → rule_of P number ≡ Some r
    → AreAllBad P r (left_in S) p len → IsBlocked P (has_domain S) number p len
all_bad_blocked P S number r p len long is each = (r, is, λ u size over. each u size (over_stands P S p u long over))

pub blocked_all_bad : (P : Instance) (S : Store) (number : ℕ) (r : Rule) (p len : ℕ) → length S.sets ≡ cells P → rule_of P number ≡ Some r
    → IsBlocked P (has_domain S) number p len → AreAllBad P r (left_in S) p len
blocked_all_bad P S number r p len long is blocked = λ u size stands.
    let same : blocked.0 ≡ r = same_Some blocked.0 r (sym blocked.1 ∙ is) in
    subst (λ s. Bad P s p u) same (blocked.2 u size (stands_over P S p u long stands))
