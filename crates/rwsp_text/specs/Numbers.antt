-- The numbers that digits spell.
use Rattle.std.specs.Prelude.{◌≡◌, ℕ, ◌+◌, ◌-◌, ◌*◌, ◌^◌, ◌<◌, List, length, Option, Some, None, ◌&&◌, nat_le, fold, if◌then◌else◌}
use Rattle.std.specs.List.{list_all}
use Rattle.std.specs.Char.{is_ascii_digit}
use Rattle.std.specs.Fmt.{decimal}

-- the value of digits
abbrev pub value_of : List ℕ → ℕ
value_of text = fold (λ n digit. n * 10 + (digit - 48)) 0 text

-- the number that 1 to 9 digits spell
abbrev pub number_of : List ℕ → Option ℕ
number_of text =
    if nat_le 1 (length text) && nat_le (length text) 9 && list_all is_ascii_digit text
    then Some (value_of text)
    else None

-- a number that is printed and read is the number
abbrev pub PrintedIsRead : Type 0
PrintedIsRead = (n : ℕ) → n < 10 ^ 9 → number_of (decimal n) ≡ Some n
