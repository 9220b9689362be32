-- The list of rules by places.
use Rattle.std.proofs.Common.{◌≡◌, ℕ, zero, suc, ◌+◌, ◌-◌, ◌*◌, ◌/◌, ◌%◌, ◌<◌, ◌≤◌, List, [], ◌∷◌, ◌++◌, length, get_or, refl, ap, sym, ◌∙◌, subst, arith, Some, ◌⊎◌, inl, inr, ⊎_elim, length-append}
use Rattle.std.specs.Prelude.{slice_get, map, Contains, ◌↔◌}
use Rattle.std.specs.List.{range_with_len, flat_map}
use Rattle.std.proofs.lemmas.List.{get_or_append_left, get_or-append-add}
use Rattle.std.proofs.lemmas.List.FromFn.{length-map-range_with_len, get_or-map-range_with_len}
use Rattle.std.proofs.lemmas.Option.{slice_get-get_or, slice_get_within, get_or_from_slice_get, same_Some}
use Rattle.std.proofs.lemmas.Bool.{cases_lt}
use Rattle.rwsp_terms.specs.Instance.{Instance, shift_count, symbol_numbered, IsClass}
use Rattle.rwsp_terms.specs.Roster.{IsRule}
use Rattle.rwsp_terms.specs.Rules.{rules, rule_of, classes, block_rules}
use Rattle.rwsp_terms.specs.declared.data.Class.{Class}
use Rattle.rwsp_terms.specs.declared.data.Class.TheVariants.{Shift, Off, Work}
use Rattle.rwsp_terms.specs.declared.data.Rule.{Rule}
use Rattle.rwsp_terms.specs.declared.data.Rule.TheVariants.{Most, Least, Never, Day}
use Rattle.rwsp_model.specs.RuleNumbers.{class_place, place_of}

-- the rules on the blocks of classes

length-blocks : (cs : List Class) → length (flat_map block_rules cs) ≡ 2 * length cs
length-blocks [] = refl
length-blocks (c ∷ cs) = let rest = length-blocks cs in omega (arith, rest)

length-classes : (P : Instance) → length (classes P) ≡ shift_count P + 2
length-classes P =
    let s = length-map-range_with_len (λ (x : ℕ). Shift (symbol_numbered x)) 1 (shift_count P) in
    let a = length-append (map (λ (x : ℕ). Shift (symbol_numbered x)) (range_with_len 1 (shift_count P))) (Off ∷ Work ∷ []) in
    omega (arith, s, a)

abbrev block_list : Instance → List Rule
block_list P = flat_map block_rules (classes P)

length-block_list : (P : Instance) → length (block_list P) ≡ 2 * (shift_count P + 2)
length-block_list P = let b = length-blocks (classes P) in let c = length-classes P in omega (arith, b, c)

abbrev sequence_list : Instance → List Rule
sequence_list P = map Never (range_with_len 0 (length P.sequences))

abbrev day_list : Instance → List Rule
day_list P = map Day (range_with_len 1 P.days)

pub rules_are_many : (P : Instance) → length (rules P) ≡ 2 * (shift_count P + 2) + length P.sequences + P.days
rules_are_many P =
    let b = length-block_list P in
    let q = length-map-range_with_len Never 0 (length P.sequences) in
    let d = length-map-range_with_len Day 1 P.days in
    let two = length-append (block_list P) (sequence_list P) in
    let three = length-append (block_list P ++ sequence_list P) (day_list P) in
    omega (arith, b, q, d, two, three)

most_at : (cs : List Class) (i : ℕ) (d : Rule) (e : Class) → i < length cs → get_or (flat_map block_rules cs) (2 * i) d ≡ Most (get_or cs i e)
most_at [] i d e h = absurd (omega (arith, h))
most_at (c ∷ cs) zero d e h = refl
most_at (c ∷ cs) (suc i) d e h =
    let twice : 2 * suc i ≡ suc (suc (2 * i)) = omega arith in
    ap (λ k. get_or (flat_map block_rules (c ∷ cs)) k d) twice ∙ most_at cs i d e (omega (arith, h))

least_at : (cs : List Class) (i : ℕ) (d : Rule) (e : Class) → i < length cs → get_or (flat_map block_rules cs) (2 * i + 1) d ≡ Least (get_or cs i e)
least_at [] i d e h = absurd (omega (arith, h))
least_at (c ∷ cs) zero d e h = refl
least_at (c ∷ cs) (suc i) d e h =
    let twice : 2 * suc i + 1 ≡ suc (suc (2 * i + 1)) = omega arith in
    ap (λ k. get_or (flat_map block_rules (c ∷ cs)) k d) twice ∙ least_at cs i d e (omega (arith, h))

-- a class is at its place
class_below : (P : Instance) (c : Class) → IsClass P c → class_place P c < shift_count P + 2
class_below P (Shift x) h = omega (arith, h.0, h.1)
class_below P Off h = omega arith
class_below P Work h = omega arith

abbrev shifts_of : Instance → List Class
shifts_of P = map (λ (x : ℕ). Shift (symbol_numbered x)) (range_with_len 1 (shift_count P))

length-shifts : (P : Instance) → length (shifts_of P) ≡ shift_count P
length-shifts P = length-map-range_with_len (λ (x : ℕ). Shift (symbol_numbered x)) 1 (shift_count P)

behind_shifts : (P : Instance) (k i : ℕ) → k ≡ shift_count P + i → get_or (classes P) k Off ≡ get_or (Off ∷ Work ∷ []) i Off
behind_shifts P k i e =
    let there : k ≡ length (shifts_of P) + i = omega (arith, e, length-shifts P) in
    ap (λ n. get_or (classes P) n Off) there ∙ get_or-append-add (shifts_of P) (Off ∷ Work ∷ []) i Off

class_standing : (P : Instance) (c : Class) → IsClass P c → get_or (classes P) (class_place P c) Off ≡ c
class_standing P (Shift x) h =
    let lt : x.number - 1 < shift_count P = omega (arith, h.0, h.1) in
    let same : 1 + (x.number - 1) ≡ x.number = omega (arith, h.0) in
    get_or_append_left (shifts_of P) (Off ∷ Work ∷ []) Off (x.number - 1) (omega (arith, lt, length-shifts P))
    ∙ get_or-map-range_with_len (λ (n : ℕ). Shift (symbol_numbered n)) 1 (shift_count P) (x.number - 1) x.number Off lt same
class_standing P Off h = behind_shifts P (shift_count P) 0 (omega arith)
class_standing P Work h = behind_shifts P (shift_count P + 1) 1 refl

-- an element of each of three lists
in_first : (b q e : List Rule) (n : ℕ) (d : Rule) → n < length b → get_or (b ++ q ++ e) n d ≡ get_or b n d
in_first b q e n d h =
    let l = length-append b q in
    get_or_append_left (b ++ q) e d n (omega (arith, h, l)) ∙ get_or_append_left b q d n h

in_second : (b q e : List Rule) (m n : ℕ) (d : Rule) → m ≡ length b → n < length q → get_or (b ++ q ++ e) (m + n) d ≡ get_or q n d
in_second b q e m n d k h =
    let l = length-append b q in
    get_or_append_left (b ++ q) e d (m + n) (omega (arith, h, k, l))
    ∙ ap (λ i. get_or (b ++ q) (i + n) d) k ∙ get_or-append-add b q n d

in_third : (b q e : List Rule) (m n : ℕ) (d : Rule) → m ≡ length b + length q → get_or (b ++ q ++ e) (m + n) d ≡ get_or e n d
in_third b q e m n d k =
    let l = length-append b q in
    let long : m ≡ length (b ++ q) = omega (arith, k, l) in
    ap (λ i. get_or (b ++ q ++ e) (i + n) d) long ∙ get_or-append-add (b ++ q) e n d

abbrev some_rule : Rule
some_rule = Day 0

-- a rule is at its place
standing : (P : Instance) (r : Rule) → IsRule P r → get_or (rules P) (place_of P r) some_rule ≡ r
standing P (Most c) h =
    let below = class_below P c h in
    in_first (block_list P) (sequence_list P) (day_list P) (2 * class_place P c) some_rule (omega (arith, below, length-block_list P))
    ∙ most_at (classes P) (class_place P c) some_rule Off (omega (arith, below, length-classes P)) ∙ ap Most (class_standing P c h)
standing P (Least c) h =
    let below = class_below P c h in
    in_first (block_list P) (sequence_list P) (day_list P) (2 * class_place P c + 1) some_rule (omega (arith, below, length-block_list P))
    ∙ least_at (classes P) (class_place P c) some_rule Off (omega (arith, below, length-classes P)) ∙ ap Least (class_standing P c h)
standing P (Never k) h =
    let q = length-map-range_with_len Never 0 (length P.sequences) in
    in_second (block_list P) (sequence_list P) (day_list P) (2 * (shift_count P + 2)) k some_rule (sym (length-block_list P)) (omega (arith, h, q))
    ∙ get_or-map-range_with_len Never 0 (length P.sequences) k k some_rule h (omega arith)
standing P (Day j) h =
    let q = length-map-range_with_len Never 0 (length P.sequences) in
    in_third (block_list P) (sequence_list P) (day_list P) (2 * (shift_count P + 2) + length P.sequences) (j - 1) some_rule (omega (arith, length-block_list P, q))
    ∙ get_or-map-range_with_len Day 1 P.days (j - 1) j some_rule (omega (arith, h.0, h.1)) (omega (arith, h.0))

-- the list has room for it
place_below : (P : Instance) (r : Rule) → IsRule P r → place_of P r < length (rules P)
place_below P (Most c) h = omega (arith, rules_are_many P, class_below P c h)
place_below P (Least c) h = omega (arith, rules_are_many P, class_below P c h)
place_below P (Never k) h = omega (arith, rules_are_many P, h)
place_below P (Day j) h = omega (arith, rules_are_many P, h.0, h.1)

pub rule_at_place : (P : Instance) (r : Rule) → IsRule P r → slice_get (rules P) (place_of P r) ≡ Some r
rule_at_place P r h = slice_get-get_or (rules P) (place_of P r) some_rule (place_below P r h) ∙ ap Some (standing P r h)

-- each place has a class, and each has a rule
class_there : (P : Instance) (n : ℕ) → n < shift_count P + 2 → (c : Class) × IsClass P c × (class_place P c ≡ n)
class_there P n h =
    ⊎_elim
    (λ (low : n < shift_count P). (Shift (symbol_numbered (n + 1)), (omega arith, omega arith), omega arith))
    (λ (from : shift_count P ≤ n).
    ⊎_elim (λ (off : n < shift_count P + 1). (Off, tt, omega arith)) (λ (work : shift_count P + 1 ≤ n). (Work, tt, omega arith)) (cases_lt n (shift_count P + 1)))
    (cases_lt n (shift_count P))

halves : (n : ℕ) → (n ≡ 2 * (n / 2)) ⊎ (n ≡ 2 * (n / 2) + 1)
halves n = ⊎_elim (λ (e : n % 2 < 1). inl (omega arith)) (λ (o : 1 ≤ n % 2). inr (omega arith)) (cases_lt (n % 2) 1)

rule_there : (P : Instance) (n : ℕ) → n < length (rules P) → (r : Rule) × IsRule P r × (place_of P r ≡ n)
rule_there P n h =
    let many = rules_are_many P in
    let blocks = 2 * (shift_count P + 2) in
    let count = length P.sequences in
    ⊎_elim
    (λ (low : n < blocks).
    let q = class_there P (n / 2) (omega arith) in
    ⊎_elim (λ (even : n ≡ 2 * (n / 2)). (Most q.0, q.1, omega (arith, q.2))) (λ (odd : n ≡ 2 * (n / 2) + 1). (Least q.0, q.1, omega (arith, q.2))) (halves n))
    (λ (from : blocks ≤ n).
    ⊎_elim
    (λ (m : n < blocks + count). (Never (n - blocks), omega arith, omega arith))
    (λ (m : blocks + count ≤ n). (Day (n - (blocks + count) + 1), (omega arith, omega arith), omega arith))
    (cases_lt n (blocks + count)))
    (cases_lt n blocks)

-- the rule at a place is a rule, and its place is this one
pub rule_found : (P : Instance) (n : ℕ) (r : Rule) → slice_get (rules P) n ≡ Some r → IsRule P r × (place_of P r ≡ n)
rule_found P n r h =
    let there = rule_there P n (slice_get_within (rules P) n r h) in
    let same : there.0 ≡ r = same_Some there.0 r (sym (rule_at_place P there.0 there.1) ∙ ap (slice_get (rules P)) there.2 ∙ h) in
    subst (λ (z : Rule). IsRule P z × (place_of P z ≡ n)) same (there.1, there.2)

pub rule_numbered : (P : Instance) (n : ℕ) (r : Rule) → rule_of P n ≡ Some r → IsRule P r × (place_of P r + 1 ≡ n)
rule_numbered P zero r h = absurd (cc)
rule_numbered P (suc n) r h = let f = rule_found P n r h in (f.0, omega (arith, f.1))

pub number_at_place : (P : Instance) (r : Rule) (n : ℕ) → IsRule P r → n ≡ place_of P r + 1 → rule_of P n ≡ Some r
number_at_place P r zero h e = absurd (omega (arith, e))
number_at_place P r (suc n) h e = let same : n ≡ place_of P r = omega (arith, e) in ap (slice_get (rules P)) same ∙ rule_at_place P r h

pub number_within : (P : Instance) (r : Rule) → IsRule P r → place_of P r + 1 ≤ length (rules P)
number_within P r h = let below = place_below P r h in omega (arith, below)

pub rule_in_range : (P : Instance) (k : ℕ) (r : Rule) → rule_of P k ≡ Some r → (0 < k) × (k ≤ length (rules P))
rule_in_range P zero r e = absurd (cc)
rule_in_range P (suc k) r e = let lt = slice_get_within (rules P) k r e in (omega arith, omega (arith, lt))

pub one_number : (P : Instance) (m n : ℕ) (r : Rule) → rule_of P m ≡ Some r → rule_of P n ≡ Some r → m ≡ n
one_number P m n r a b = let f = rule_numbered P m r a in let g = rule_numbered P n r b in omega (arith, f.1, g.1)

pub listed : (P : Instance) (r : Rule) → Contains (rules P) r ↔ IsRule P r
listed P r = (
  λ c. (rule_found P c.0 r (slice_get-get_or (rules P) c.0 r c.1 ∙ ap Some c.2)).0,
  λ h. (place_of P r, place_below P r h, get_or_from_slice_get (rules P) (place_of P r) r r (rule_at_place P r h)),
)
