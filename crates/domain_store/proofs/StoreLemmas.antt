-- Stores at their marks, and what domains keep through a change and its undoing.
use Rattle.std.proofs.Common.{◌≡◌, ◌≢◌, ℕ, ◌+◌, ◌-◌, ◌*◌, ◌<◌, ◌≤◌, List, [], ◌∷◌, ◌++◌, length, Bool, true, false, refl, ap, sym, ◌∙◌, arith, subst, get_or, set, take, drop, replicate, eqb, leb, inl, inr, mul-le-mul}
use Rattle.std.specs.Prelude.{◌↔◌, All, ◌&&◌, ◌||◌, not, map}
use Rattle.std.specs.List.{range_with_len}
use Rattle.std.specs.List.Sorted.{IsStrictlyIncreasing}
use Rattle.std.proofs.lemmas.Bool.{or_cases, or_left, or_right, false≢true, eqb-true, cases_lt, cases_eq, eq-eqb, ne_eqb}
use Rattle.std.proofs.lemmas.List.{get_or-map, get_or-replicate, get_or_push, drop_all, take_all, drop-append-le, take-append-le, take-append-drop, take-take, set-set, set-get_or, length-set, length_push, length-take-le, get_or-set_same, get_or-set_other, length-replicate, drop_at, take_at, get_or_past, length-map}
use Rattle.std.proofs.lemmas.List.Elements.{All-set, All-push, All-get_or, All-replicate, All-nil}
use Rattle.std.proofs.lemmas.List.Sums.{sum_by-set, get_or-le-sum_by, sum_by-le}
use Rattle.std.proofs.lemmas.List.Folds.{sum_by-replicate}
use Rattle.std.proofs.lemmas.List.FromFn.{length-range_with_len}
use Rattle.rwsp_terms.specs.declared.limits.TheConstants.{MOST_CELLS, MOST_SHIFTS, MOST_SYMBOLS}
use Rattle.rwsp_terms.specs.Instance.{Instance, cells, shift_count}
use Rattle.rwsp_terms.specs.Roster.{IsRoster}
use Rattle.rwsp_terms.specs.declared.data.Symbol.{Symbol}
use Rattle.rwsp_model.specs.Validity.{KeepsLimits}
use Rattle.domain_store.specs.declared.change.Change.{Change}
use Rattle.domain_store.specs.Sets.{has_symbol, without_symbol, IsDomain}
use Rattle.domain_store.specs.Store.{Store, domain_at, has_domain, IsDecided, BelongsTo, full_store, changed, undone, store_at, HasSameShape, spare, IsStore, IsStoreThroughout, HasDomains}
use Rattle.domain_store.specs.Kept.{IsKept}
use Rattle.domain_store.proofs.SetLemmas.{has_symbol_within, has_without, length_without, IsDomain_without, IsDomain_single, IsDomain_full, has_symbol_full}

undone-append : (a b : List Change) (sets : List (List ℕ)) → undone (a ++ b) sets ≡ undone a (undone b sets)
undone-append [] b sets = refl
undone-append (c ∷ a) b sets = ap (λ s. set s c.position c.before) (undone-append a b sets)

length-undone : (changes : List Change) (sets : List (List ℕ)) → length (undone changes sets) ≡ length sets
length-undone [] sets = refl
length-undone (c ∷ changes) sets = length-set (undone changes sets) c.position c.before ∙ length-undone changes sets

pub same_store : (S : Store) (a b : List (List ℕ)) (s t : List Change) → a ≡ b → s ≡ t → record S { sets = a; trail = s } ≡ record S { sets = b; trail = t }
same_store S a b s t e f =
    let with_sets : List (List ℕ) → Store = λ v. record S { sets = v; trail = s } in
    let with_trail : List Change → Store = λ v. record S { sets = b; trail = v } in
    ap with_sets e ∙ ap with_trail f

-- with its whole trail a store is what it is
pub store_at_end : (S : Store) (len : ℕ) → length S.trail ≤ len → store_at S len ≡ S
store_at_end S len h =
    same_store S (undone (drop len S.trail) S.sets) S.sets (take len S.trail) S.trail
    (ap (λ t. undone t S.sets) (drop_all len S.trail h)) (take_all len S.trail h)

-- a change leaves the earlier stores as they were
pub store_at_changed : (S : Store) (p : ℕ) (domain : List ℕ) (len : ℕ) → len ≤ length S.trail → store_at (changed S p domain) len ≡ store_at S len
store_at_changed S p domain len h =
    let c : Change = record { position = p; before = domain_at S p } in
    let sets = set S.sets p domain in
    let front = drop len S.trail in
    same_store S (undone (drop len (S.trail ++ c ∷ [])) sets) (undone front S.sets) (take len (S.trail ++ c ∷ [])) (take len S.trail)
    (ap (λ t. undone t sets) (drop-append-le len S.trail (c ∷ []) h)
    ∙ undone-append front (c ∷ []) sets
    ∙ ap (undone front) (set-set S.sets p domain (domain_at S p) ∙ set-get_or S.sets p []))
    (take-append-le len S.trail (c ∷ []) h)

-- the store at an earlier mark is the same, seen from a later one
pub store_at_earlier : (S : Store) (n len : ℕ) → n ≤ length S.trail → len ≤ n → store_at (store_at S n) len ≡ store_at S len
store_at_earlier S n len h l =
    let t = S.trail in
    let within : len ≤ length (take n t) = omega (arith, length-take-le n t h) in
    same_store S (undone (drop len (take n t)) (undone (drop n t) S.sets)) (undone (drop len t) S.sets) (take len (take n t)) (take len t)
    (sym (undone-append (drop len (take n t)) (drop n t) S.sets)
    ∙ ap (λ changes. undone changes S.sets) (sym (drop-append-le len (take n t) (drop n t) within) ∙ ap (drop len) (take-append-drop n t)))
    (take-take len n t l)

-- a smaller domain at a position
pub IsStore_changed : (S : Store) (p : ℕ) (domain : List ℕ) → IsStore S → p < length S.sets → IsDomain S.shifts domain → length domain < length (domain_at S p) → IsStore (changed S p domain)
IsStore_changed S p domain s within d smaller =
    let c : Change = record { position = p; before = domain_at S p } in
    let long : length S.sets ≡ S.weeks * S.days = s.long in
    let place : p < S.weeks * S.days = omega arith in
    let some : 0 < length domain = d.some in
    let room : length S.trail + spare S.sets ≤ S.weeks * S.days * S.shifts = s.room in
    let sums : spare (set S.sets p domain) + (length (domain_at S p) - 1) ≡ spare S.sets + (length domain - 1) = sum_by-set (λ v. length v - 1) S.sets p domain [] within in
    record {
      few_cells = s.few_cells;
      few_shifts = s.few_shifts;
      long = length-set S.sets p domain ∙ long;
      domains = All-set (IsDomain S.shifts) S.sets p domain d s.domains;
      places = All-push (λ e. e.position < S.weeks * S.days) S.trail c s.places place;
      room = omega (arith, length_push S.trail c);
    }

-- what holds of a store throughout holds of it now
pub store_now : (S : Store) → IsStoreThroughout S → IsStore S
store_now S all = subst IsStore (store_at_end S (length S.trail) (omega arith)) (all (length S.trail) (omega arith))

pub store_throughout_changed : (S : Store) (p : ℕ) (domain : List ℕ) → IsStoreThroughout S → p < length S.sets → IsDomain S.shifts domain → length domain < length (domain_at S p) → IsStoreThroughout (changed S p domain)
store_throughout_changed S p domain all within d smaller len h =
    let c : Change = record { position = p; before = domain_at S p } in
    elim (cases_lt (length S.trail) len) [
      | inl past ↦
          let whole : length (S.trail ++ c ∷ []) ≤ len = omega (arith, length_push S.trail c) in
          subst IsStore (sym (store_at_end (changed S p domain) len whole)) (IsStore_changed S p domain (store_now S all) within d smaller)
      | inr before ↦ subst IsStore (sym (store_at_changed S p domain len before)) (all len before)
    ]

pub store_throughout_earlier : (S : Store) (n : ℕ) → IsStoreThroughout S → n ≤ length S.trail → IsStoreThroughout (store_at S n)
store_throughout_earlier S n all h len l =
    let within : len ≤ n = omega (arith, length-take-le n S.trail h) in
    let earlier : len ≤ length S.trail = omega arith in
    subst IsStore (sym (store_at_earlier S n len h within)) (all len earlier)

-- where a domain has a symbol to spare there is room for a change
pub has_room : (S : Store) (count capacity p : ℕ) → IsKept S count capacity → p < length S.sets → 2 ≤ length (domain_at S p) → length S.trail < capacity
has_room S count capacity p kept within another =
    let now = store_now S kept.store in
    let room : length S.trail + spare S.sets ≤ S.weeks * S.days * S.shifts = now.room in
    let wide : S.weeks * S.days * S.shifts ≤ capacity = kept.room in
    let some : length (domain_at S p) - 1 ≤ spare S.sets = get_or-le-sum_by (λ v. length v - 1) S.sets p [] within in
    omega arith

-- the count after a change
pub kept_changed : (S : Store) (count capacity p : ℕ) (domain : List ℕ) (capacity' : ℕ) → IsKept S count capacity → p < length S.sets → IsDomain S.shifts domain → length domain < length (domain_at S p) → capacity ≤ capacity' → IsKept (changed S p domain) (count - (length (domain_at S p) - length domain)) capacity'
kept_changed S count capacity p domain capacity' kept within d smaller wider =
    let some : 0 < length domain = d.some in
    let counted : count ≡ spare S.sets = kept.counted in
    let wide : S.weeks * S.days * S.shifts ≤ capacity = kept.room in
    let sums : spare (set S.sets p domain) + (length (domain_at S p) - 1) ≡ spare S.sets + (length domain - 1) = sum_by-set (λ v. length v - 1) S.sets p domain [] within in
    record {
      store = store_throughout_changed S p domain kept.store within d smaller;
      counted = omega arith;
      room = omega arith;
    }

-- the same by the parts that the code has
pub kept_by_change : (S : Store) (count capacity p : ℕ) (domain before dest : List ℕ) (trail : List Change) (size size' capacity' : ℕ) → IsKept S count capacity → p < length S.sets → IsDomain S.shifts domain → length domain < length (domain_at S p) → before ≡ domain_at S p → dest ≡ domain → trail ≡ S.trail ++ record { position = p; before = before } ∷ [] → size ≡ length domain → size' ≡ length before → capacity ≤ capacity' → IsKept (record S { sets = set S.sets p dest; trail = trail }) (count - (size' - size)) capacity'
kept_by_change S count capacity p domain before dest trail size size' capacity' kept within d smaller before_is dest_is trail_is size_is size'_is wider =
    rw (size'_is, size_is, dest_is, trail_is, before_is) (kept_changed S count capacity p domain capacity' kept within d smaller wider)

-- the store before the last change
pub store_before_last : (S : Store) (front : List Change) (c : Change) → S.trail ≡ front ++ c ∷ [] → store_at S (length front) ≡ record S { sets = set S.sets c.position c.before; trail = front }
store_before_last S front c e =
    same_store S (undone (drop (length front) S.trail) S.sets) (set S.sets c.position c.before) (take (length front) S.trail) front
    (ap (λ t. undone (drop (length front) t) S.sets) e ∙ ap (λ t. undone t S.sets) (drop_at front (c ∷ []) (length front) refl))
    (ap (take (length front)) e ∙ take_at front (c ∷ []) (length front) refl)

-- the last change was at a position, of a domain with some symbol
pub record IsLastChange (S : Store) (c : Change) : Type 0 where
  pub place : c.position < length S.sets
  pub before : 0 < length c.before
  pub after : 0 < length (domain_at S c.position)
  pub few : spare S.sets ≤ MOST_CELLS * MOST_SHIFTS
  pub some : length (domain_at S c.position) - 1 ≤ spare S.sets

last_place : (S : Store) (front : List Change) (c : Change) → IsStore S → S.trail ≡ front ++ c ∷ [] → c.position < length S.sets
last_place S front c now e =
    let long : length S.sets ≡ S.weeks * S.days = now.long in
    let places : All (λ c'. c'.position < S.weeks * S.days) (front ++ c ∷ []) = subst (λ t. All (λ c'. c'.position < S.weeks * S.days) t) e now.places in
    let place = All-get_or (λ c'. c'.position < S.weeks * S.days) (front ++ c ∷ []) (length front) c (omega (arith, length_push front c)) places in
    let there : get_or (front ++ c ∷ []) (length front) c ≡ c = get_or_push front c c (length front) refl in
    let here : c.position < S.weeks * S.days = subst (λ c'. c'.position < S.weeks * S.days) there place in
    omega arith

pub last_change : (S : Store) (count capacity : ℕ) (front : List Change) (c : Change) → IsKept S count capacity → S.trail ≡ front ++ c ∷ [] → IsLastChange S c
last_change S count capacity front c kept e =
    let now = store_now S kept.store in
    let within : length front ≤ length S.trail = omega (arith, ap length e, length_push front c) in
    let earlier : IsStore (record S { sets = set S.sets c.position c.before; trail = front }) = subst IsStore (store_before_last S front c e) (kept.store (length front) within) in
    let place = last_place S front c now e in
    let inside : c.position < length (set S.sets c.position c.before) = omega (arith, length-set S.sets c.position c.before) in
    let was = All-get_or (IsDomain S.shifts) (set S.sets c.position c.before) c.position [] inside earlier.domains in
    let before : IsDomain S.shifts c.before = subst (IsDomain S.shifts) (get_or-set_same S.sets c.position c.before [] place) was in
    let is = All-get_or (IsDomain S.shifts) S.sets c.position [] place now.domains in
    let some : length (domain_at S c.position) - 1 ≤ spare S.sets = get_or-le-sum_by (λ v. length v - 1) S.sets c.position [] place in
    let room : length S.trail + spare S.sets ≤ S.weeks * S.days * S.shifts = now.room in
    let most : S.weeks * S.days * S.shifts ≤ MOST_CELLS * MOST_SHIFTS = mul-le-mul now.few_cells now.few_shifts in
    record {
      place = place;
      before = before.some;
      after = is.some;
      few = omega arith;
      some = some;
    }

-- the count after the last change is undone
pub kept_before_last : (S : Store) (count capacity : ℕ) (front : List Change) (c : Change) (capacity' : ℕ) → IsKept S count capacity → S.trail ≡ front ++ c ∷ [] → capacity ≤ capacity' → IsKept (record S { sets = set S.sets c.position c.before; trail = front }) (count + length c.before - length (domain_at S c.position)) capacity'
kept_before_last S count capacity front c capacity' kept e wider =
    let last = last_change S count capacity front c kept e in
    let within : length front ≤ length S.trail = omega (arith, ap length e, length_push front c) in
    let counted : count ≡ spare S.sets = kept.counted in
    let wide : S.weeks * S.days * S.shifts ≤ capacity = kept.room in
    let before : 0 < length c.before = last.before in
    let after : 0 < length (domain_at S c.position) = last.after in
    let sums : spare (set S.sets c.position c.before) + (length (domain_at S c.position) - 1) ≡ spare S.sets + (length c.before - 1) = sum_by-set (λ v. length v - 1) S.sets c.position c.before [] last.place in
    record {
      store = subst IsStoreThroughout (store_before_last S front c e) (store_throughout_earlier S (length front) kept.store within);
      counted = omega arith;
      room = omega arith;
    }

pub kept_by_undo : (S : Store) (count capacity : ℕ) (front : List Change) (c : Change) (dest after : List ℕ) (size size' capacity' : ℕ) → IsKept S count capacity → S.trail ≡ front ++ c ∷ [] → after ≡ domain_at S c.position → dest ≡ c.before → size ≡ length c.before → size' ≡ length after → capacity ≤ capacity' → IsKept (record S { sets = set S.sets c.position dest; trail = front }) (count + size - size') capacity'
kept_by_undo S count capacity front c dest after size size' capacity' kept e after_is dest_is size_is size'_is wider =
    rw (size'_is, size_is, dest_is, after_is) (kept_before_last S count capacity front c capacity' kept e wider)

-- a change keeps the shape, and so does its undoing
pub same_shape_changed : (S : Store) (p : ℕ) (domain : List ℕ) → HasSameShape S (changed S p domain)
same_shape_changed S p domain = record {
  days = refl;
  weeks = refl;
  shifts = refl;
  positions = length-set S.sets p domain;
}

pub same_shape_earlier : (S : Store) (len : ℕ) → HasSameShape S (store_at S len)
same_shape_earlier S len = record {
  days = refl;
  weeks = refl;
  shifts = refl;
  positions = length-undone (drop len S.trail) S.sets;
}

-- one change more undone, down to a mark
pub length_before_last : (S new : Store) (len : ℕ) → new ≡ store_at S (length S.trail - 1) → len < length S.trail → len ≤ length new.trail
length_before_last S new len e h =
    let n : length S.trail - 1 ≤ length S.trail = omega arith in
    omega (arith, ap (λ s. length s.trail) e, length-take-le (length S.trail - 1) S.trail n)

pub store_before_mark : (S new : Store) (len : ℕ) → new ≡ store_at S (length S.trail - 1) → len < length S.trail → store_at new len ≡ store_at S len
store_before_mark S new len e h =
    let n : length S.trail - 1 ≤ length S.trail = omega arith in
    let l : len ≤ length S.trail - 1 = omega arith in
    ap (λ s. store_at s len) e ∙ store_at_earlier S (length S.trail - 1) len n l

-- a symbol of a domain is one of the symbols, so it is below nine
pub symbol_within : (S : Store) (p x : ℕ) → IsStore S → p < length S.sets → has_domain S p x ≡ true → x ≤ S.shifts
symbol_within S p x now within has =
    has_symbol_within S.shifts x (domain_at S p) (All-get_or (IsDomain S.shifts) S.sets p [] within now.domains).symbols has

pub symbol_is_known : (S : Store) (p x : ℕ) → IsStore S → p < length S.sets → has_domain S p x ≡ true → x < MOST_SYMBOLS
symbol_is_known S p x now within has = omega (arith, symbol_within S p x now within has, now.few_shifts)

pub single_domain : (S : Store) (p x : ℕ) → IsStore S → p < length S.sets → has_domain S p x ≡ true → IsDomain S.shifts (x ∷ [])
single_domain S p x now within has = IsDomain_single S.shifts x (symbol_within S p x now within has)

pub smaller_domain : (S : Store) (p x : ℕ) → IsStore S → p < length S.sets → has_domain S p x ≡ true → 2 ≤ length (domain_at S p) → IsDomain S.shifts (without_symbol x (domain_at S p))
smaller_domain S p x now within has another =
    IsDomain_without S.shifts x (domain_at S p) (All-get_or (IsDomain S.shifts) S.sets p [] within now.domains) has another

pub length_smaller : (S : Store) (p x : ℕ) → IsStore S → p < length S.sets → has_domain S p x ≡ true → length (without_symbol x (domain_at S p)) < length (domain_at S p)
length_smaller S p x now within has =
    let domain : IsDomain S.shifts (domain_at S p) = All-get_or (IsDomain S.shifts) S.sets p [] within now.domains in
    omega (arith, length_without x (domain_at S p) domain.ascends has)

-- which symbols the domains have after a change
has-changed : (S : Store) (p q y : ℕ) (domain : List ℕ) (test : Bool) → p < length S.sets → (has_symbol domain y ≡ (test && has_domain S p y)) → has_domain (changed S p domain) q y ≡ ((not (eqb q p) || test) && has_domain S q y)
has-changed S p q y domain test within here =
    elim (cases_eq q p) [
      | inl same ↦
          let at : has_domain (changed S p domain) q y ≡ has_symbol domain y = ap (λ r. has_domain (changed S p domain) r y) same ∙ ap (λ d. has_symbol d y) (get_or-set_same S.sets p domain [] within) in
          at ∙ here ∙ ap (λ b. test && b) (ap (λ r. has_domain S r y) (sym same))
          ∙ sym (ap (λ b. (not b || test) && has_domain S q y) (eq-eqb q p same))
      | inr other ↦
          ap (λ d. has_symbol d y) (get_or-set_other S.sets p q domain [] other)
          ∙ sym (ap (λ b. (not b || test) && has_domain S q y) (ne_eqb q p other))
    ]

pub has_removed : (S : Store) (p x q y : ℕ) → p < length S.sets → has_domain (changed S p (without_symbol x (domain_at S p))) q y ≡ ((not (eqb q p) || not (eqb y x)) && has_domain S q y)
has_removed S p x q y within = has-changed S p q y (without_symbol x (domain_at S p)) (not (eqb y x)) within (has_without x y (domain_at S p))

single-has : (x y : ℕ) (set : List ℕ) → has_symbol set x ≡ true → has_symbol (x ∷ []) y ≡ (eqb y x && has_symbol set y)
single-has x y set has =
    elim (cases_eq y x) [
      | inl same ↦ ap (λ b. b || false) (eq-eqb x y (sym same)) ∙ sym (ap (λ b. b && has_symbol set y) (eq-eqb y x same) ∙ ap (has_symbol set) same ∙ has)
      | inr other ↦ ap (λ b. b || false) (ne_eqb x y (λ e. other (sym e))) ∙ sym (ap (λ b. b && has_symbol set y) (ne_eqb y x other))
    ]

pub has_set_only : (S : Store) (p x q y : ℕ) → p < length S.sets → has_domain S p x ≡ true → has_domain (changed S p (x ∷ [])) q y ≡ ((not (eqb q p) || (eqb y x)) && has_domain S q y)
has_set_only S p x q y within has = has-changed S p q y (x ∷ []) (eqb y x) within (single-has x y (domain_at S p) has)

-- no symbol to spare, and each position has one
pub decided_from_none : (S : Store) → IsStore S → spare S.sets ≡ 0 → IsDecided S
decided_from_none S now none k d within =
    let domain : IsDomain S.shifts (get_or S.sets k d) = All-get_or (IsDomain S.shifts) S.sets k d within now.domains in
    let few : length (get_or S.sets k d) - 1 ≤ spare S.sets = get_or-le-sum_by (λ v. length v - 1) S.sets k d within in
    omega (arith, domain.some)

pub none_from_decided : (S : Store) → IsDecided S → spare S.sets ≡ 0
none_from_decided S decided =
    let most : spare S.sets ≤ length S.sets * 0 = sum_by-le (λ v. length v - 1) 0 S.sets (λ k d within. omega (arith, decided k d within)) in
    omega arith

pub decided_where_none : (S : Store) (count capacity : ℕ) → IsKept S count capacity → (eqb count 0 ≡ true) ↔ IsDecided S
decided_where_none S count capacity kept = (
  (λ none. decided_from_none S (store_now S kept.store) (sym kept.counted ∙ eqb-true count 0 none)),
  (λ decided. eq-eqb count 0 (kept.counted ∙ none_from_decided S decided)),
)

-- full domains
spare-full : (n last : ℕ) → spare (replicate n (range_with_len 0 (last + 1))) ≡ n * last
spare-full n last =
    let one : length (range_with_len 0 (last + 1)) - 1 ≡ last = omega (arith, length-range_with_len 0 (last + 1)) in
    sum_by-replicate (λ v. length v - 1) n (range_with_len 0 (last + 1)) ∙ ap (λ m. n * m) one

pub store_full : (P : Instance) → KeepsLimits P → IsStore (full_store P)
store_full P limits = record {
  few_cells = limits.few_cells;
  few_shifts = limits.few_shifts;
  long = length-replicate (cells P) (range_with_len 0 (shift_count P + 1));
  domains = All-replicate (IsDomain (shift_count P)) (cells P) (range_with_len 0 (shift_count P + 1)) (IsDomain_full (shift_count P));
  places = All-nil (λ c. c.position < P.weeks * P.days);
  room = let e = spare-full (cells P) (shift_count P) in omega (arith, e);
}

pub kept_full : (P : Instance) (capacity : ℕ) → KeepsLimits P → cells P * shift_count P ≤ capacity → IsKept (full_store P) (cells P * shift_count P) capacity
kept_full P capacity limits room = record {
  store = λ len h. subst IsStore (sym (store_at_end (full_store P) len (omega arith))) (store_full P limits);
  counted = sym (spare-full (cells P) (shift_count P));
  room = room;
}

pub has_full : (P : Instance) (p x : ℕ) → p < cells P → has_domain (full_store P) p x ≡ leb x (shift_count P)
has_full P p x within =
    ap (λ d. has_symbol d x) (get_or-replicate (cells P) p (range_with_len 0 (shift_count P + 1)) [] within) ∙ has_symbol_full (shift_count P) x

-- the fields that new domains are given make the full store
pub same_full : (P : Instance) (days weeks shifts count : ℕ) (sets : List (List ℕ)) (trail : List Change) → days ≡ P.days → weeks ≡ P.weeks → shifts ≡ shift_count P → count ≡ cells P → sets ≡ replicate count (range_with_len 0 (shifts + 1)) → trail ≡ [] → record { days = days; weeks = weeks; shifts = shifts; sets = sets; trail = trail } ≡ full_store P
same_full P days weeks shifts count sets trail d w s n e t = rw (e, t, d, w, s, n) refl

pub kept_by_new : (P : Instance) (days weeks shifts count : ℕ) (sets : List (List ℕ)) (trail : List Change) (capacity : ℕ) → KeepsLimits P → days ≡ P.days → weeks ≡ P.weeks → shifts ≡ shift_count P → count ≡ cells P → sets ≡ replicate count (range_with_len 0 (shifts + 1)) → trail ≡ [] → count * shifts ≤ capacity → IsKept (record { days = days; weeks = weeks; shifts = shifts; sets = sets; trail = trail }) (count * shifts) capacity
kept_by_new P days weeks shifts count sets trail capacity limits d w s n e t room =
    let most : count * shifts ≡ cells P * shift_count P = ap (λ m. m * shifts) n ∙ ap (λ m. cells P * m) s in
    let wide : cells P * shift_count P ≤ capacity = omega (arith, room, most) in
    rw (same_full P days weeks shifts count sets trail d w s n e t, most) (kept_full P capacity limits wide)

-- a copy keeps what the domains keep
pub few_symbols : (S : Store) (n : ℕ) → IsStoreThroughout S → n ≡ length S.sets → n * S.shifts ≤ MOST_CELLS * MOST_SHIFTS
few_symbols S n all e =
    let now = store_now S all in
    let few : n ≤ MOST_CELLS = omega (arith, now.long, now.few_cells) in
    mul-le-mul few now.few_shifts

pub kept_by_copy : (S : Store) (count capacity n : ℕ) (sets : List (List ℕ)) (trail : List Change) (capacity' : ℕ) → IsKept S count capacity → sets ≡ S.sets → trail ≡ S.trail → n ≡ length S.sets → n * S.shifts ≤ capacity' → IsKept (record S { sets = sets; trail = trail }) count capacity'
kept_by_copy S count capacity n sets trail capacity' kept e f long room =
    let size : n * S.shifts ≡ S.weeks * S.days * S.shifts = ap (λ m. m * S.shifts) (long ∙ (store_now S kept.store).long) in
    let wide : S.weeks * S.days * S.shifts ≤ capacity' = omega (arith, size, room) in
    let S' : Store = record S { sets = sets; trail = trail } in
    let same : S ≡ S' = same_store S S.sets sets S.trail trail (sym e) (sym f) in
    let Q : Store → Type 0 = λ s. IsKept s count capacity' in
    subst Q same (record { store = kept.store; counted = kept.counted; room = wide })

-- a position that has this symbol alone, by the test
pub has_where_alone : (S : Store) (p x : ℕ) → domain_at S p ≡ x ∷ [] → has_domain S p x ≡ true
has_where_alone S p x e = ap (λ set. has_symbol set x) e ∙ or_left (eqb x x) false (eq-eqb x x refl)

-- the only symbols make a roster
pub roster_of_decided : (P : Instance) (S : Store) (symbols : List Symbol) → IsStore S → BelongsTo P S → map (λ x. x.number ∷ []) symbols ≡ S.sets → IsRoster P symbols
roster_of_decided P S symbols now belongs e =
    let alone : Symbol → List ℕ = λ x. x.number ∷ [] in
    let long : length symbols ≡ length S.sets = sym (length-map symbols alone) ∙ ap length e in
    let size : S.weeks * S.days ≡ P.weeks * P.days = ap (λ n. n * S.days) belongs.weeks ∙ ap (λ n. P.weeks * n) belongs.days in
    record {
      long = long ∙ now.long ∙ size;
      symbols = λ k d within.
          let inside : k < length S.sets = omega arith in
          let here : get_or S.sets k [] ≡ (get_or symbols k d).number ∷ [] = sym (ap (λ s. get_or s k []) e) ∙ get_or-map alone symbols k d [] within in
          let domain : IsDomain S.shifts (get_or S.sets k []) = All-get_or (IsDomain S.shifts) S.sets k [] inside now.domains in
          let small : All (λ y. y ≤ S.shifts) ((get_or symbols k d).number ∷ []) = subst (λ s. All (λ y. y ≤ S.shifts) s) here domain.symbols in
          let below : (get_or symbols k d).number ≤ S.shifts = small 0 0 (omega arith) in
          subst (λ n. (get_or symbols k d).number ≤ n) belongs.shifts below;
    }

pub roster_has : (S : Store) (symbols : List Symbol) (p : ℕ) (d : Symbol) → map (λ x. x.number ∷ []) symbols ≡ S.sets → p < length symbols → has_domain S p (get_or symbols p d).number ≡ true
roster_has S symbols p d e within =
    let alone : Symbol → List ℕ = λ x. x.number ∷ [] in
    has_where_alone S p (get_or symbols p d).number (ap (λ s. get_or s p []) (sym e) ∙ get_or-map alone symbols p d [] within)

-- sets by their test
first-of : (set : List ℕ) → 0 < length set → (x : ℕ) × (has_symbol set x ≡ true)
first-of [] some = absurd (omega arith)
first-of (x ∷ set) some = (x, ap (λ b. b || has_symbol set x) (eq-eqb x x refl))

at-once : (z x : ℕ) → has_symbol (z ∷ []) x ≡ true → z ≡ x
at-once z x h = elim (or_cases (eqb z x) false h) [ inl here ↦ eqb-true z x here | inr never ↦ absurd (false≢true never) ]

same-alone : (set : List ℕ) (x y : ℕ) → length set ≡ 1 → has_symbol set x ≡ true → has_symbol set y ≡ true → x ≡ y
same-alone [] x y long hx hy = absurd (omega arith)
same-alone (z ∷ []) x y long hx hy = sym (at-once z x hx) ∙ at-once z y hy
same-alone (z ∷ w ∷ set) x y long hx hy = absurd (omega arith)

another-of : (set : List ℕ) (x : ℕ) → IsStrictlyIncreasing set → 2 ≤ length set → (y : ℕ) × (y ≢ x) × (has_symbol set y ≡ true)
another-of [] x rises two = absurd (omega arith)
another-of (a ∷ []) x rises two = absurd (omega arith)
another-of (a ∷ b ∷ set) x rises two =
    let less : a < b = rises 0 (omega arith) in
    elim (cases_eq a x) [
      | inl same ↦ (b, (λ e. omega arith), or_right (eqb a b) (has_symbol (b ∷ set) b) (or_left (eqb b b) (has_symbol set b) (eq-eqb b b refl)))
      | inr other ↦ (a, other, or_left (eqb a a) (has_symbol (b ∷ set) a) (eq-eqb a a refl))
    ]

inside-where-some : (sets : List (List ℕ)) (p : ℕ) → 0 < length (get_or sets p []) → p < length sets
inside-where-some sets p some =
    elim (cases_lt p (length sets)) [
      | inl inside ↦ inside
      | inr past ↦ absurd (omega (arith, ap length (get_or_past sets p [] past)))
    ]

some-where-has : (set : List ℕ) (x : ℕ) → has_symbol set x ≡ true → 0 < length set
some-where-has [] x has = absurd (false≢true has)
some-where-has (y ∷ set) x has = omega arith

pub store_has_domains : (S : Store) → IsStore S → HasDomains S
store_has_domains S now = record {
  known = λ p x has.
      let inside : p < length S.sets = inside-where-some S.sets p (some-where-has (domain_at S p) x has) in
      (inside, symbol_within S p x now inside has);
  some = λ p inside. first-of (domain_at S p) (All-get_or (IsDomain S.shifts) S.sets p [] inside now.domains).some;
  alone = λ p x y long hx hy. same-alone (domain_at S p) x y long hx hy;
  others = λ p x two.
      let inside : p < length S.sets = inside-where-some S.sets p (omega arith) in
      another-of (domain_at S p) x (All-get_or (IsDomain S.shifts) S.sets p [] inside now.domains).ascends two;
}

-- a position that has no other symbol
alone-by-test : (last x : ℕ) (set : List ℕ) → IsDomain last set → ((y : ℕ) → has_symbol set y ≡ true → y ≡ x) → set ≡ x ∷ []
alone-by-test last x [] domain each = absurd (omega (arith, domain.some))
alone-by-test last x (y ∷ []) domain each = ap (λ z. z ∷ []) (each y (or_left (eqb y y) false (eq-eqb y y refl)))
alone-by-test last x (a ∷ b ∷ set) domain each = let other = another-of (a ∷ b ∷ set) x domain.ascends (omega arith) in absurd (other.1 (each other.0 other.2))

pub alone_by_test : (S : Store) (p x : ℕ) (test : Bool) → IsStore S → p < length S.sets → test ≡ true ↔ (domain_at S p ≡ x ∷ []) → test ≡ true ↔ ((y : ℕ) → has_domain S p y ≡ true → y ≡ x)
alone_by_test S p x test now inside only = (
  (λ yes y has. sym (at-once x y (ap (λ set. has_symbol set y) (sym (only.0 yes)) ∙ has))),
  (λ each. only.1 (alone-by-test S.shifts x (domain_at S p) (All-get_or (IsDomain S.shifts) S.sets p [] inside now.domains) each)),
)
