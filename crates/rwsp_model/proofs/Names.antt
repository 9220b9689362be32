-- The names of a valid problem's symbols are words, and each names its symbol.
use Rattle.std.proofs.Common.{◌≡◌, ◌≢◌, ℕ, zero, suc, ◌<◌, ◌≤◌, List, [], length, Some, false, refl, sym, subst, arith}
use Rattle.std.specs.Prelude.{All, slice_index}
use Rattle.std.proofs.lemmas.List.Elements.{All-nil, All-cons}
use Rattle.rwsp_terms.specs.declared.limits.TheConstants.{LONGEST_NAME}
use Rattle.rwsp_terms.specs.declared.data.Symbol.{Symbol}
use Rattle.rwsp_terms.specs.Instance.{Instance, IsSymbol, symbol_of, name_of, name_numbered}
use Rattle.rwsp_terms.proofs.SymbolNames.{HasNames, no_row, in_place, symbol_only}
use Rattle.rwsp_model.specs.Validity.{KeepsLimits, breaks_name}

pub names_of : (P : Instance) → KeepsLimits P → HasNames P
names_of P limits = record { no_dash = λ i d less. (limits.names i d less).no_dash; distinct = limits.distinct }

pub symbol_named : (P : Instance) (x : Symbol) → KeepsLimits P → IsSymbol P x → symbol_of P (name_of P x) ≡ Some x
symbol_named P x limits is = symbol_only P (names_of P limits) x.number is

-- a word as it is written in a text
pub record IsWord (text : List ℕ) : Type 0 where
  pub some : 1 ≤ length text
  pub unbroken : All (λ b. breaks_name b ≡ false) text
  pub no_hash : slice_index text 0 ≢ 35

pub symbol_word : (P : Instance) (n : ℕ) → KeepsLimits P → n ≤ length P.shifts → IsWord (name_numbered P n) × (length (name_numbered P n) ≤ LONGEST_NAME)
symbol_word P zero limits le = (
  record {
    some = omega arith;
    unbroken = All-cons (λ b. breaks_name b ≡ false) 45 [] refl (All-nil (λ b. breaks_name b ≡ false));
    no_hash = λ e. let no : 45 ≡ 35 = e in omega (arith, no);
  },
  omega arith,
)
symbol_word P (suc k) limits le =
    let less : k < length P.shifts = omega (arith, le) in
    let name = limits.names k no_row less in
    subst (λ t. IsWord t × (length t ≤ LONGEST_NAME)) (sym (in_place P k less))
    (record { some = name.some; unbroken = name.unbroken; no_hash = name.no_hash }, name.few)
