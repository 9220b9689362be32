-- Numbers that are printed and read.
use Rattle.std.proofs.Common.{◌≡◌, ℕ, ◌+◌, ◌-◌, ◌*◌, ◌^◌, ◌<◌, ◌≤◌, length, Bool, true, false, Some, None, ◌&&◌, ap, ◌∙◌, arith, lit<, rules}
use Rattle.std.specs.Prelude.{nat_le, fold, if◌then◌else◌}
use Rattle.std.specs.List.{list_all}
use Rattle.std.specs.Char.{is_ascii_digit}
use Rattle.std.specs.Fmt.{decimal}
use Rattle.std.proofs.lemmas.Bool.Decides.{nat_tests}
use Rattle.std.proofs.lemmas.Str.Parse.{IsNumeralModel, numerals_by_fold}
use Rattle.std.proofs.lemmas.Fmt.{digits_decimal, digits_value-decimal, decimal_nonempty, length-decimal-le}
use Rattle.rwsp_text.specs.Numbers.{value_of, PrintedIsRead}

-- digits and their value, in the words of this crate
pub ascii_digits_model : IsNumeralModel (λ ds. list_all is_ascii_digit ds ≡ true) value_of
ascii_digits_model = numerals_by_fold (λ ds. list_all is_ascii_digit ds ≡ true) (search rules) (λ n ds. fold (λ m d. m * 10 + (d - 48)) n ds) (search rules)

le_true : (a b : ℕ) → a ≤ b → nat_le a b ≡ true
le_true a b h = grind (arith, nat_tests)

three : (a b c : Bool) → a ≡ true → b ≡ true → c ≡ true → (a && b && c) ≡ true
three true true c e f h = h
three true false c e f h = absurd (cc)
three false b c e f h = absurd (cc)

fits : (n : ℕ) → n < 10 ^ 9 → n < 2 ^ 64
fits n h = omega (arith, h)

pub digits_printed : (n : ℕ) → n < 10 ^ 9 → list_all is_ascii_digit (decimal n) ≡ true
digits_printed n h = digits_decimal ascii_digits_model n (fits n h)

pub printed_is_read : PrintedIsRead
printed_is_read n h =
    let some : nat_le 1 (length (decimal n)) ≡ true = le_true 1 (length (decimal n)) (omega (arith, decimal_nonempty n (fits n h))) in
    let few : nat_le (length (decimal n)) 9 ≡ true = le_true (length (decimal n)) 9 (length-decimal-le 9 n (lit< tt) h (fits n h)) in
    ap (λ (b : Bool). if b then Some (value_of (decimal n)) else None) (three (nat_le 1 (length (decimal n))) (nat_le (length (decimal n)) 9) (list_all is_ascii_digit (decimal n)) some few (digits_printed n h))
    ∙ ap Some (digits_value-decimal ascii_digits_model n (fits n h))
