-- What single words give.
use Rattle.std.proofs.Common.{◌≡◌, ℕ, suc, ◌+◌, ◌*◌, ◌<◌, ◌≤◌, List, [], ◌∷◌, ◌++◌, length, Bool, true, false, not, ◌&&◌, ◌==◌, cond, Option, Some, None, Ok, Err, refl, ap, sym, ◌∙◌, arith, take, drop, inl, inr, nat_le, length-drop}
use Rattle.std.specs.Prelude.{if◌then◌else◌}
use Rattle.std.specs.Bool.{Decides}
use Rattle.std.specs.Option.{option_map}
use Rattle.std.specs.List.{list_all, before_first, after_first, position_or_len}
use Rattle.std.specs.Char.{is_ascii_digit}
use Rattle.std.proofs.lemmas.List.Sums.{split_at_first, passes_at_first}
use Rattle.std.proofs.lemmas.Bool.Decides.{nat_tests}
use Rattle.rwsp_text.specs.Lexemes.{Lexeme}
use Rattle.rwsp_text.specs.Numbers.{number_of, value_of}
use Rattle.rwsp_text.proofs.Numerals.{if_some, if_false}
use Rattle.rwsp_terms.specs.declared.limits.TheConstants.{MOST_CELLS, MOST_WEEKS}
use Rattle.rwsp_terms.specs.declared.data.Bounds.{Bounds}
use Rattle.rwsp_model.specs.Validity.{IsSmallRange, is_between, is_small_range}
use Rattle.rwsp_model.proofs.Limits.{Decides-leb, Decides-between, Decides-small_range}
use Rattle.rwsp_file.specs.Spelling.{IsDemand, IsRange}
use Rattle.rwsp_file.specs.Reading.{◌>>=◌, or_refuse, limit_of, limited, limited_weeks, limited_demand, written_demand, range_or, range_of, range_from, is_dot}
use Rattle.rwsp_file.proofs.Readers.{Gives, gives_like, gives_some, gives_tested, then_gives}
use Rattle.rwsp_file.specs.declared.misfit.Misfit.{Misfit}
use Rattle.rwsp_file.specs.declared.misfit.Misfit.TheVariants.{BadWord}
use Rattle.rwsp_file.specs.declared.misfit.Fault.TheVariants.{NoNumber, Beyond, TooManyDays}
use Rattle.rwsp_file.specs.declared.misfit.Place.{Place}
use Rattle.rwsp_file.specs.declared.misfit.Place.TheVariants.{Weeks}
use Rattle.rwsp_file.specs.declared.limits.Limit.{Limit}
use Rattle.std.proofs.lemmas.List.Folds.{list_all-append}
use Rattle.std.proofs.lemmas.Bool.{eqb-true, and_parts}
use Rattle.std.proofs.Math.Seq.{take-append_seam, drop-append-add}
use Rattle.std.proofs.Math.Bool.{and-false}
use Rattle.std.proofs.lemmas.Option.{same_Some}

-- what is there and passes a test
gives_checked : {A : Type 0} (P : A → Type 0) (o : Option A) (test : A → Bool) (why bad : Misfit) → ((x : A) → Decides (test x) (P x)) → Gives (λ x. P x × (o ≡ Some x)) (or_refuse o why >>= (λ m. if test m then Ok m else Err bad))
gives_checked P o test why bad decides =
    gives_like (λ x h. ((decides x).0 h.1.0, h.0)) (λ x h. (h.1, ((decides x).1 h.0, refl)))
    (then_gives (λ x. x) (gives_some o why) (λ x _. gives_tested (test x) x bad) (λ x y c. c.1))

-- a number that keeps its limit
pub limited_gives : (awaited : Place) (limit : Limit) (w : Lexeme) → Gives (λ n. ((limit.least ≤ n) × (n ≤ limit.greatest)) × (number_of w.text ≡ Some n)) (limited awaited limit w)
unfolding limited
limited_gives awaited limit w =
    gives_checked (λ n. (limit.least ≤ n) × (n ≤ limit.greatest)) (number_of w.text) (is_between limit.least limit.greatest) (BadWord awaited w NoNumber) (BadWord awaited w (Beyond limit)) (Decides-between limit.least limit.greatest)

-- weeks that keep both limits
abbrev pub AreWeeks : ℕ → ℕ → Type 0
AreWeeks days n = ((1 ≤ n) × (n ≤ MOST_WEEKS)) × (n * days ≤ MOST_CELLS)

pub weeks_gives : (days : ℕ) (w : Lexeme) → Gives (λ n. AreWeeks days n × (number_of w.text ≡ Some n)) (limited_weeks days w)
unfolding limited_weeks
weeks_gives days w =
    gives_like (λ n h. ((h.0.0, (Decides-leb (n * days) MOST_CELLS).0 h.1.0), h.0.1)) (λ n h. ((h.0.0, h.1), ((Decides-leb (n * days) MOST_CELLS).1 h.0.1, refl)))
    (then_gives (λ n. n) (limited_gives Weeks (limit_of 2 1 MOST_WEEKS) w) (λ m _. gives_tested (nat_le (m * days) MOST_CELLS) m (BadWord Weeks w (TooManyDays m days))) (λ m n c. c.1))

-- numbers have no dot

number_digits : (text : List ℕ) (n : ℕ) → number_of text ≡ Some n → list_all is_ascii_digit text ≡ true
number_digits text n e =
    let few = nat_le 1 (length text) && nat_le (length text) 9 in
    (and_parts few (list_all is_ascii_digit text) (if_some (few && list_all is_ascii_digit text) (Some (value_of text)) n e).0).1

dotted : (least rest : List ℕ) → number_of (least ++ 46 ∷ rest) ≡ None
dotted least rest =
    let text = least ++ 46 ∷ rest in
    let few = nat_le 1 (length text) && nat_le (length text) 9 in
    if_false (few && list_all is_ascii_digit text) (Some (value_of text)) None
    (ap (λ c. few && c) (list_all-append is_ascii_digit least (46 ∷ rest) ∙ and-false (list_all is_ascii_digit least)) ∙ and-false few)

dot_of : (b : ℕ) → is_dot b ≡ true → b ≡ 46
dot_of b e = eqb-true b 46 e

digit_no_dot : (b : ℕ) → is_ascii_digit b ≡ true → is_dot b ≡ false
digit_no_dot b e = grind (arith, nat_tests)

place_step : (b : Bool) (k n : ℕ) → b ≡ false → k ≡ n → cond (not b) (1 + k) 0 ≡ suc n
place_step true k n e h = absurd (cc)
place_step false k n e h = omega arith

place_of_dot : (least rest : List ℕ) → list_all is_ascii_digit least ≡ true → position_or_len is_dot (least ++ 46 ∷ rest) ≡ length least
place_of_dot [] rest e = refl
place_of_dot (b ∷ bs) rest e =
    let parts : (is_ascii_digit b ≡ true) × (list_all is_ascii_digit bs ≡ true) = and_parts (is_ascii_digit b) (list_all is_ascii_digit bs) e in
    place_step (is_dot b) (position_or_len is_dot (bs ++ 46 ∷ rest)) (length bs) (digit_no_dot b parts.0) (place_of_dot bs rest parts.1)

-- what is in front of the first dot, and behind it
dot_behind_digits : (least rest : List ℕ) → list_all is_ascii_digit least ≡ true → (before_first is_dot (least ++ 46 ∷ rest) ≡ least) × (after_first is_dot (least ++ 46 ∷ rest) ≡ rest)
dot_behind_digits least rest e =
    let place : position_or_len is_dot (least ++ 46 ∷ rest) ≡ length least = place_of_dot least rest e in (
      ap (λ k. take k (least ++ 46 ∷ rest)) place ∙ take-append_seam least (46 ∷ rest),
      ap (λ k. drop (k + 1) (least ++ 46 ∷ rest)) place ∙ drop-append-add least (46 ∷ rest) 1,
    )

cut_at_dot : (text : List ℕ) (c : ℕ) (cs : List ℕ) → after_first is_dot text ≡ c ∷ cs → text ≡ before_first is_dot text ++ 46 ∷ c ∷ cs
cut_at_dot text c cs e =
    let k : ℕ = position_or_len is_dot text in
    let lt : position_or_len is_dot text < length text = omega (arith, ap length e, length-drop (position_or_len is_dot text + 1) text) in
    split_at_first is_dot text 0 lt
    ∙ ap (λ b. before_first is_dot text ++ b ∷ after_first is_dot text) (dot_of _ (passes_at_first is_dot text 0 lt))
    ∙ ap (λ t. before_first is_dot text ++ 46 ∷ t) e

abbrev pub range_between : ℕ → ℕ → Bounds
range_between n m = record { least = n; greatest = m }

range_parts : (o : Option ℕ) (rest : List ℕ) (b : Bounds) → range_from o rest ≡ Some b → (o ≡ Some b.least) × (cs : List ℕ) × (rest ≡ 46 ∷ cs) × (number_of cs ≡ Some b.greatest)
range_parts None rest b e = absurd (cc)
range_parts (Some n) [] b e = absurd (cc)
range_parts (Some n) (c ∷ cs) b e = at (c == 46) refl (number_of cs) refl e where
  at : (t : Bool) → (c == 46) ≡ t → (o : Option ℕ) → number_of cs ≡ o → (if t then option_map (λ m. record { least = n; greatest = m }) o else None) ≡ Some b →
      (Some n ≡ Some b.least) × (ds : List ℕ) × (c ∷ cs ≡ 46 ∷ ds) × (number_of ds ≡ Some b.greatest)
  at true d None m h = absurd (cc)
  at true d (Some x) m h =
      let same : range_between n x ≡ b = same_Some (range_between n x) b h in
      (ap (λ (r : Bounds). Some r.least) same, cs, ap (λ k. k ∷ cs) (eqb-true c 46 d), m ∙ ap (λ (r : Bounds). Some r.greatest) same)
  at false d o m h = absurd (cc)

range_found : (text : List ℕ) (b : Bounds) → range_of text ≡ Some b → IsRange b text
range_found text b e =
    let p : (number_of (before_first is_dot text) ≡ Some b.least) × (cs : List ℕ) × (after_first is_dot text ≡ 46 ∷ cs) × (number_of cs ≡ Some b.greatest) =
    range_parts (number_of (before_first is_dot text)) (after_first is_dot text) b e in
    record { least = before_first is_dot text; greatest = p.1; whole = cut_at_dot text 46 p.1 p.2; from = p.0; to = p.3 }

range_only : (text : List ℕ) (b : Bounds) → IsRange b text → (number_of text ≡ None) × (range_of text ≡ Some b)
range_only text b r =
    let cut : (before_first is_dot (r.least ++ 46 ∷ 46 ∷ r.greatest) ≡ r.least) × (after_first is_dot (r.least ++ 46 ∷ 46 ∷ r.greatest) ≡ 46 ∷ r.greatest) =
    dot_behind_digits r.least (46 ∷ r.greatest) (number_digits r.least b.least r.from) in (
      ap number_of r.whole ∙ dotted r.least (46 ∷ r.greatest),
      ap range_of r.whole
          ∙ ap (λ t. range_from (number_of t) (after_first is_dot (r.least ++ 46 ∷ 46 ∷ r.greatest))) cut.0
          ∙ ap (λ t. range_from (number_of r.least) t) cut.1
          ∙ ap (λ o. range_from o (46 ∷ r.greatest)) r.from
          ∙ ap (λ o. option_map (λ m. record { least = b.least; greatest = m }) o) r.to,
    )

pub demand_found : (text : List ℕ) (b : Bounds) → written_demand text ≡ Some b → IsDemand b text
demand_found text b e = at (number_of text) refl e where
  at : (o : Option ℕ) → number_of text ≡ o → range_or (range_of text) o ≡ Some b → IsDemand b text
  at None n h = inr (range_found text b h)
  at (Some k) n h =
      let same : range_between k k ≡ b = same_Some (range_between k k) b h in
      inl (n ∙ ap (λ (r : Bounds). Some r.least) same, sym (ap (λ (r : Bounds). r.greatest) same) ∙ ap (λ (r : Bounds). r.least) same)

pub demand_only : (text : List ℕ) (b : Bounds) → IsDemand b text → written_demand text ≡ Some b
demand_only text b (inl h) = ap (range_or (range_of text)) h.0 ∙ ap (λ k. Some (range_between b.least k)) (sym h.1)
demand_only text b (inr r) =
    let both : (number_of text ≡ None) × (range_of text ≡ Some b) = range_only text b r in
    ap (range_or (range_of text)) both.0 ∙ both.1

pub demand_gives : (awaited : Place) (w : Lexeme) → Gives (λ b. IsSmallRange b × IsDemand b w.text) (limited_demand awaited w)
unfolding limited_demand
demand_gives awaited w =
    gives_like (λ b h. (h.0, demand_found w.text b h.1)) (λ b h. (h.0, demand_only w.text b h.1))
    (gives_checked IsSmallRange (written_demand w.text) is_small_range (BadWord awaited w NoNumber) (BadWord awaited w (Beyond (limit_of 5 0 MOST_WEEKS))) Decides-small_range)
