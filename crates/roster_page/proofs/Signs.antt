-- What isn't in numbers and names, so that no tag begins there.
use Rattle.std.proofs.Common.{◌≡◌, ℕ, zero, suc, ◌+◌, ◌-◌, ◌/◌, ◌%◌, ◌<◌, List, [], ◌∷◌, Bool, true, false, cond, refl, ap, sym, ◌∙◌, arith}
use Rattle.std.specs.Prelude.{◌≢◌, ◌==◌, ◌&&◌, All, nat_lt}
use Rattle.std.specs.Fmt.{decimal, digits, digits_onto, digit_glyph}
use Rattle.std.proofs.lemmas.Bool.{ltb-true, ltb-false}
use Rattle.std.proofs.lemmas.Bool.Decides.{nat_tests}
use Rattle.std.proofs.lemmas.List.Elements.{All-nil, All-cons, All-append}
use Rattle.shown_names.specs.ShownNames.{character_len, hex_digit, hex_text, is_printable}
use Rattle.roster_page.specs.Clock.{two_digits, hours_text}
use Rattle.roster_page.specs.Escaped.{escaped, escaped_within, first_text, plain_text, entity_text, is_special}

-- the byte isn't in the text
abbrev pub Lacks : (sign : ℕ) → List ℕ → Type 0
Lacks sign text = All (λ b. b ≢ sign) text

lacks_more : (sign b : ℕ) (text : List ℕ) → b ≢ sign → Lacks sign text → Lacks sign (b ∷ text)
lacks_more sign b text h k = All-cons (λ b. b ≢ sign) b text h k

-- numbers

abbrev pub IsNoDigit : ℕ → Type 0
IsNoDigit sign = (d : ℕ) → d < 10 → 48 + d ≢ sign

glyph_lacks : (sign d : ℕ) → IsNoDigit sign → d < 10 → digit_glyph false d ≢ sign
glyph_lacks sign d apart less =
    elim (nat_lt d 10) as (λ (t : Bool). nat_lt d 10 ≡ t → cond t (48 + d) (87 + d) ≢ sign) [
      | true ↦ λ low. apart d less
      | false ↦ λ high. absurd (omega (arith, less, ltb-false d 10 high))
    ] refl

onto_lacks : (sign k n : ℕ) (acc : List ℕ) → IsNoDigit sign → Lacks sign acc → Lacks sign (digits_onto k 10 false n acc)
onto_lacks sign zero n acc apart h = h
onto_lacks sign (suc k) n acc apart h =
    let here = digit_glyph false (n % 10) ∷ acc in
    let more : Lacks sign here = lacks_more sign (digit_glyph false (n % 10)) acc (glyph_lacks sign (n % 10) apart (omega arith)) h in
    elim (n / 10 == 0) as (λ (t : Bool). Lacks sign (cond t here (digits_onto k 10 false (n / 10) here))) [
      | true ↦ more
      | false ↦ onto_lacks sign k (n / 10) here apart more
    ]

pub decimal_lacks : (sign n : ℕ) → IsNoDigit sign → Lacks sign (decimal n)
unfolding digits
decimal_lacks sign n apart = onto_lacks sign 64 n [] apart (All-nil (λ b. b ≢ sign))

pub no_bracket : IsNoDigit 60
no_bracket d less = λ e. absurd (omega (arith, less, e))

pub no_quote : IsNoDigit 34
no_quote d less = λ e. absurd (omega (arith, less, e))

pub hours_lack : (minutes : ℕ) → Lacks 60 (hours_text minutes)
unfolding hours_text two_digits
hours_lack minutes =
    All-append (λ b. b ≢ 60) (decimal (minutes / 60)) (58 ∷ two_digits (minutes % 60)) (decimal_lacks 60 (minutes / 60) no_bracket)
    (lacks_more 60 58 (two_digits (minutes % 60)) (λ e. absurd (omega (arith, e)))
    (lacks_more 60 (48 + minutes % 60 / 10) ((48 + minutes % 60 % 10) ∷ []) (λ e. absurd (omega (arith, e)))
    (lacks_more 60 (48 + minutes % 60 % 10) [] (λ e. absurd (omega (arith, e))) (All-nil (λ b. b ≢ 60)))))

-- names

hex_lacks : (n : ℕ) → hex_digit n ≢ 60
hex_lacks n =
    elim (nat_lt n 10) as (λ (t : Bool). nat_lt n 10 ≡ t → cond t (48 + n) (55 + n) ≢ 60) [
      | true ↦ λ low e. absurd (omega (arith, e, ltb-true n 10 low))
      | false ↦ λ high e. absurd (omega (arith, e, ltb-false n 10 high))
    ] refl

special_small : (b : ℕ) → is_special b ≡ true → b < 100
special_small b h = grind (arith, nat_tests)

plain_lacks : (b : ℕ) → Lacks 60 (plain_text b)
unfolding plain_text entity_text
plain_lacks b =
    elim (is_special b) as (λ (t : Bool). is_special b ≡ t → Lacks 60 (cond t (entity_text b) (b ∷ []))) [
      | true ↦ λ special. entity b (special_small b special)
      | false ↦ λ plain. lacks_more 60 b [] (λ e. itself b plain (ap is_special e)) (All-nil (λ c. c ≢ 60))
    ] refl
  where
    entity : (b : ℕ) → b < 100 → Lacks 60 (entity_text b)
    entity b less =
        lacks_more 60 38 (35 ∷ (48 + b / 10) ∷ (48 + b % 10) ∷ 59 ∷ []) (λ e. absurd (omega (arith, e)))
        (lacks_more 60 35 ((48 + b / 10) ∷ (48 + b % 10) ∷ 59 ∷ []) (λ e. absurd (omega (arith, e)))
        (lacks_more 60 (48 + b / 10) ((48 + b % 10) ∷ 59 ∷ []) (λ e. absurd (omega (arith, less, e)))
        (lacks_more 60 (48 + b % 10) (59 ∷ []) (λ e. absurd (omega (arith, e)))
        (lacks_more 60 59 [] (λ e. absurd (omega (arith, e))) (All-nil (λ c. c ≢ 60))))))

    itself : (b : ℕ) → is_special b ≡ false → is_special b ≡ true → ⊥
    itself b f t = let e : true ≡ false = sym t ∙ f in cc

first_lacks : (b bytes : ℕ) → Lacks 60 (first_text b bytes)
unfolding first_text
first_lacks b bytes =
    elim (nat_lt 0 bytes && is_printable b) as (λ (t : Bool). Lacks 60 (cond t (plain_text b) (hex_text b))) [
      | true ↦ plain_lacks b
      | false ↦
          lacks_more 60 92 (120 ∷ hex_digit (b / 16) ∷ hex_digit (b % 16) ∷ []) (λ e. absurd (omega (arith, e)))
          (lacks_more 60 120 (hex_digit (b / 16) ∷ hex_digit (b % 16) ∷ []) (λ e. absurd (omega (arith, e)))
          (lacks_more 60 (hex_digit (b / 16)) (hex_digit (b % 16) ∷ []) (hex_lacks (b / 16))
          (lacks_more 60 (hex_digit (b % 16)) [] (hex_lacks (b % 16)) (All-nil (λ c. c ≢ 60)))))
    ]

within_lacks : (within : ℕ) (name : List ℕ) → Lacks 60 (escaped_within within name)
within_lacks zero [] = All-nil (λ b. b ≢ 60)
within_lacks (suc k) [] = All-nil (λ b. b ≢ 60)
within_lacks zero (b ∷ bs) =
    let n = character_len (b ∷ bs) in
    All-append (λ c. c ≢ 60) (first_text b n) (escaped_within (n - 1) bs) (first_lacks b n) (within_lacks (n - 1) bs)
within_lacks (suc k) (b ∷ bs) = All-append (λ c. c ≢ 60) (plain_text b) (escaped_within k bs) (plain_lacks b) (within_lacks k bs)

pub escaped_lacks : (name : List ℕ) → Lacks 60 (escaped name)
unfolding escaped
escaped_lacks name = within_lacks 0 name
