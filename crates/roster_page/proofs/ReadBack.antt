-- Names read back from their texts.
use Rattle.std.proofs.Common.{◌≡◌, ℕ, zero, suc, ◌+◌, ◌-◌, ◌*◌, ◌/◌, ◌%◌, ◌<◌, ◌≤◌, List, [], ◌∷◌, ◌++◌, get_or, Bool, true, false, refl, ap, sym, ◌∙◌, arith}
use Rattle.std.specs.Prelude.{◌&&◌, nat_lt, ◌==◌, if◌then◌else◌}
use Rattle.std.proofs.Math.Nat.{div-add-mod}
use Rattle.std.proofs.lemmas.Bool.{ltb-true, ltb-false, eqb-true}
use Rattle.shown_names.specs.ShownNames.{character_len, hex_digit, hex_text, is_printable}
use Rattle.roster_page.specs.Escaped.{escaped, escaped_within, first_text, plain_text, entity_text, hex_value, is_special, unescaped_past}
use Rattle.roster_page.specs.Laws.{NamesAreReadBack}

-- a digit of 16
hex_read : (n : ℕ) → hex_value (hex_digit n) ≡ n
hex_read n =
    elim (nat_lt n 10) as (λ (t : Bool). nat_lt n 10 ≡ t → hex_value (if t then 48 + n else 55 + n) ≡ n) [
      | true ↦ λ low. low_digit n (ltb-true n 10 low)
      | false ↦ λ high. high_digit n (ltb-false n 10 high)
    ] refl
  where
    low_digit : (n : ℕ) → n < 10 → hex_value (48 + n) ≡ n
    low_digit n low =
        elim (nat_lt (48 + n) 58) as (λ (t : Bool). nat_lt (48 + n) 58 ≡ t → (if t then 48 + n - 48 else 48 + n - 55) ≡ n) [
          | true ↦ λ here. omega arith
          | false ↦ λ there. absurd (omega (arith, low, ltb-false (48 + n) 58 there))
        ] refl

    high_digit : (n : ℕ) → 10 ≤ n → hex_value (55 + n) ≡ n
    high_digit n high =
        elim (nat_lt (55 + n) 58) as (λ (t : Bool). nat_lt (55 + n) 58 ≡ t → (if t then 55 + n - 48 else 55 + n - 55) ≡ n) [
          | true ↦ λ here. absurd (omega (arith, high, ltb-true (55 + n) 58 here))
          | false ↦ λ there. omega arith
        ] refl

hex_back : (b : ℕ) (rest : List ℕ) → unescaped_past 0 (hex_text b ++ rest) ≡ b ∷ unescaped_past 0 rest
hex_back b rest =
    let high : hex_value (hex_digit (b / 16)) ≡ b / 16 = hex_read (b / 16) in
    let low : hex_value (hex_digit (b % 16)) ≡ b % 16 = hex_read (b % 16) in
    let whole : b / 16 * 16 + b % 16 ≡ b = omega (arith, div-add-mod b 16) in
    ap (λ (h : ℕ). (h * 16 + hex_value (hex_digit (b % 16))) ∷ unescaped_past 0 rest) high
    ∙ ap (λ (l : ℕ). (b / 16 * 16 + l) ∷ unescaped_past 0 rest) low
    ∙ ap (λ (v : ℕ). v ∷ unescaped_past 0 rest) whole

entity_back : (b : ℕ) (rest : List ℕ) → unescaped_past 0 (entity_text b ++ rest) ≡ b ∷ unescaped_past 0 rest
unfolding entity_text
entity_back b rest =
    let whole : (48 + b / 10 - 48) * 10 + (48 + b % 10 - 48) ≡ b = omega (arith, div-add-mod b 10) in
    ap (λ (v : ℕ). v ∷ unescaped_past 0 rest) whole

-- a byte that isn't special stands for itself
itself_back : (b : ℕ) (rest : List ℕ) → is_special b ≡ false → unescaped_past 0 (b ∷ rest) ≡ b ∷ unescaped_past 0 rest
itself_back b rest plain =
    elim (b == 38) as (λ (t : Bool). (b == 38) ≡ t → (if t then ((get_or rest 1 0 - 48) * 10 + (get_or rest 2 0 - 48)) ∷ unescaped_past 4 rest else (if b == 92 then (hex_value (get_or rest 1 0) * 16 + hex_value (get_or rest 2 0)) ∷ unescaped_past 3 rest else b ∷ unescaped_past 0 rest)) ≡ b ∷ unescaped_past 0 rest) [
      | true ↦ λ amp. absurd (special b plain (ap is_special (eqb-true b 38 amp)))
      | false ↦ λ other.
          elim (b == 92) as (λ (t : Bool). (b == 92) ≡ t → (if t then (hex_value (get_or rest 1 0) * 16 + hex_value (get_or rest 2 0)) ∷ unescaped_past 3 rest else b ∷ unescaped_past 0 rest) ≡ b ∷ unescaped_past 0 rest) [
            | true ↦ λ slash. absurd (special b plain (ap is_special (eqb-true b 92 slash)))
            | false ↦ λ none. refl
          ] refl
    ] refl
  where
    special : (b : ℕ) → is_special b ≡ false → is_special b ≡ true → ⊥
    special b f t = let e : true ≡ false = sym t ∙ f in cc

plain_back : (b : ℕ) (rest : List ℕ) → unescaped_past 0 (plain_text b ++ rest) ≡ b ∷ unescaped_past 0 rest
unfolding plain_text
plain_back b rest =
    elim (is_special b) as (λ (t : Bool). is_special b ≡ t → unescaped_past 0 ((if t then entity_text b else b ∷ []) ++ rest) ≡ b ∷ unescaped_past 0 rest) [
      | true ↦ λ special. entity_back b rest
      | false ↦ λ plain. itself_back b rest plain
    ] refl

first_back : (b bytes : ℕ) (rest : List ℕ) → unescaped_past 0 (first_text b bytes ++ rest) ≡ b ∷ unescaped_past 0 rest
unfolding first_text
first_back b bytes rest =
    elim (nat_lt 0 bytes && is_printable b) as (λ (t : Bool). unescaped_past 0 ((if t then plain_text b else hex_text b) ++ rest) ≡ b ∷ unescaped_past 0 rest) [
      | true ↦ plain_back b rest
      | false ↦ hex_back b rest
    ]

name_back : (within : ℕ) (name : List ℕ) → unescaped_past 0 (escaped_within within name) ≡ name
name_back zero [] = refl
name_back (suc k) [] = refl
name_back zero (b ∷ bs) =
    let n = character_len (b ∷ bs) in
    first_back b n (escaped_within (n - 1) bs) ∙ ap (λ rest. b ∷ rest) (name_back (n - 1) bs)
name_back (suc k) (b ∷ bs) = plain_back b (escaped_within k bs) ∙ ap (λ rest. b ∷ rest) (name_back k bs)

pub names_are_read_back : NamesAreReadBack
unfolding escaped
names_are_read_back name = name_back 0 name
