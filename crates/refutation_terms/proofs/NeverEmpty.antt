-- No domain at a line is empty where no earlier split is idle.
use Rattle.std.proofs.Common.{◌≡◌, ◌⊎◌, ℕ, zero, suc, ◌+◌, ◌-◌, ◌<◌, ◌≤◌, List, [], ◌∷◌, length, take, map, Some, refl, sym, subst, arith, length-append, inl, inr, true, false, IsTrue, ◌==◌, ◌||◌, not}
use Rattle.std.specs.Prelude.{slice_get, nat_le, All}
use Rattle.std.proofs.lemmas.Bool.{eqb-true, eq-eqb, leb-true, le-leb, cases_Bool, cases_lt}
use Rattle.rwsp_terms.specs.declared.data.Symbol.{Symbol}
use Rattle.std.proofs.lemmas.List.Elements.{All-head, All-tail}
use Rattle.rwsp_text.proofs.Rising.{RisesFrom, rises_from_zero}
use Rattle.rwsp_terms.specs.Instance.{Instance, cells, shift_count, IsSymbol}
use Rattle.refutation_terms.specs.declared.lines.Line.{Line}
use Rattle.refutation_terms.specs.declared.lines.Line.TheVariants.{Split}
use Rattle.refutation_terms.specs.declared.cells.GivenCell.{GivenCell}
use Rattle.refutation_terms.specs.declared.lines.Opening.{Opening}
use Rattle.refutation_terms.specs.declared.lines.Opening.TheVariants.{Full, Turned, Given}
use Rattle.refutation_terms.specs.Word.{Domains, full}
use Rattle.refutation_terms.specs.Tree.{Tree, Leaf, Node, lines_in, Side, First, Second, side_takes, line_leaves, lines_leave, narrowed, cells_leave, opening_leaves, opening, is_idle}
use Rattle.refutation_terms.specs.Log.{OpeningFits}
use Rattle.refutation_terms.specs.Laws.{DomainsAreNeverEmpty}
use Rattle.refutation_terms.proofs.Tests.{both, left_of, where_passed, not_passed}
use Rattle.refutation_terms.proofs.InWords.{there, another}
use Rattle.refutation_terms.proofs.TreeDomains.{behind, behind_none, behind_first, behind_second, got_left, got_right}

abbrev HasSome : Domains → Type 0
HasSome D = (p : ℕ) → (z : ℕ) × IsTrue (D p z)

side_has_some : (D : Domains) (p : ℕ) (x : Symbol) (a : Side) (z : ℕ) → HasSome D → IsTrue (D p z) → IsTrue (side_takes a (z == x.number)) → HasSome (narrowed D (Split p x) a)
side_has_some D p x a z some inside takes q = side_by q (cases_Bool (p == q))
  where
    side_by : (q : ℕ) → ((p == q) ≡ true) ⊎ ((p == q) ≡ false) → (y : ℕ) × IsTrue (narrowed D (Split p x) a q y)
    side_by q (inl e) = let same = eqb-true p q e in
        (z, both (D q z) (line_leaves (Split p x) a q z) (subst (λ r. IsTrue (D r z)) same inside) (where_passed (p == q) (side_takes a (z == x.number)) (λ h. takes)))
    side_by q (inr e) = let here = some q in
        (here.0, both (D q here.0) (line_leaves (Split p x) a q here.0) here.1 (where_passed (p == q) (side_takes a (here.0 == x.number)) (λ h. absurd (cc))))

-- no split before line k is idle
abbrev NoneIdle : Instance → Domains → List Line → ℕ → Type 0
NoneIdle P D lines k = (i p : ℕ) (x : Symbol) → i < k → slice_get lines i ≡ Some (Split p x) → is_idle P (behind D (take i lines)) p x.number ≡ false

in_sides : (P : Instance) (p : ℕ) (x : Symbol) (a b : Tree) (D : Domains) (k : ℕ) → suc k < length (lines_in (Node p x a b)) → NoneIdle P D (lines_in (Node p x a b)) (suc k)
    → (k < length (lines_in a) → NoneIdle P (narrowed D (Split p x) First) (lines_in a) k → HasSome (behind (narrowed D (Split p x) First) (take k (lines_in a))))
    → ((m : ℕ) → m < length (lines_in b) → NoneIdle P (narrowed D (Split p x) Second) (lines_in b) m → HasSome (behind (narrowed D (Split p x) Second) (take m (lines_in b))))
    → (k < length (lines_in a)) ⊎ (length (lines_in a) ≤ k) → HasSome (behind D (take (suc k) (lines_in (Node p x a b))))
in_sides P p x a b D k lt h first second (inl less) =
    subst HasSome (sym (behind_first D p x a b k less))
    (first less (λ i q y before e. subst (λ E. is_idle P E q y.number ≡ false) (behind_first D p x a b i (omega (arith, before, less)))
    (h (suc i) q y (omega (arith, before)) (got_left (lines_in a) (lines_in b) i (Split q y) e))))
in_sides P p x a b D k lt h first second (inr more) =
    let m = k - length (lines_in a) in
    let whole : length (lines_in a) + m ≡ k = omega (arith, more) in
    let less : m < length (lines_in b) = omega (arith, lt, more, length-append (lines_in a) (lines_in b)) in
    subst (λ i. HasSome (behind D (take (suc i) (lines_in (Node p x a b))))) whole
    (subst HasSome (sym (behind_second D p x a b m less))
    (second m less (λ i q y before e. subst (λ E. is_idle P E q y.number ≡ false) (behind_second D p x a b i (omega (arith, before, less)))
    (h (suc (length (lines_in a) + i)) q y (omega (arith, before, whole)) (got_right (lines_in a) (lines_in b) i (Split q y) e)))))

has_some_at : (P : Instance) (t : Tree) (D : Domains) (k : ℕ) → HasSome D → k < length (lines_in t) → NoneIdle P D (lines_in t) k → HasSome (behind D (take k (lines_in t)))
has_some_at P t D zero some lt h = subst HasSome (sym (behind_none D)) some
has_some_at P (Leaf line leaf) D (suc k) some lt h = absurd (omega (arith, lt))
has_some_at P (Node p x a b) D (suc k) some lt h =
    let split : is_idle P D p x.number ≡ false = subst (λ E. is_idle P E p x.number ≡ false) (behind_none D) (h 0 p x (omega arith) refl) in
    let first : HasSome (narrowed D (Split p x) First) = side_has_some D p x First x.number some (there P D p x.number split) (eq-eqb x.number x.number refl) in
    let other = another P D p x.number split in
    let second : HasSome (narrowed D (Split p x) Second) = side_has_some D p x Second other.0 some other.3 (not_passed (other.0 == x.number) other.2) in
    in_sides P p x a b D k lt h
    (λ less. has_some_at P a (narrowed D (Split p x) First) k first less)
    (λ m less. has_some_at P b (narrowed D (Split p x) Second) m second less)
    (cases_lt k (length (lines_in a)))

-- cells behind a position leave all there
later_leave : (n p z : ℕ) (given : List GivenCell) → p < n → RisesFrom n (map (λ c. c.p) given) → IsTrue (cells_leave given p z)
later_leave n p z [] less up = refl
later_leave n p z (c ∷ given) less up =
    both (not (c.p == p) || (z == c.x.number)) (cells_leave given p z)
    (where_passed (c.p == p) (z == c.x.number) (λ e. absurd (omega (arith, eqb-true c.p p e, up.0, less))))
    (later_leave (c.p + 1) p z given (omega (arith, up.0, less)) up.1)

-- given cells leave a symbol everywhere
cells_have_some : (P : Instance) (n p : ℕ) (given : List GivenCell) → RisesFrom n (map (λ c. c.p) given) → All (λ c. (c.p < cells P) × IsSymbol P c.x) given → (z : ℕ) × (z ≤ shift_count P) × IsTrue (cells_leave given p z)
cells_have_some P n p [] up are = (0, omega arith, refl)
cells_have_some P n p (c ∷ given) up are = by (cells_have_some P (c.p + 1) p given up.1 (All-tail (λ c. (c.p < cells P) × IsSymbol P c.x) c given are)) (cases_Bool (c.p == p))
  where
    by : (z : ℕ) × (z ≤ shift_count P) × IsTrue (cells_leave given p z) → ((c.p == p) ≡ true) ⊎ ((c.p == p) ≡ false) → (z : ℕ) × (z ≤ shift_count P) × IsTrue (cells_leave (c ∷ given) p z)
    by rest (inl e) =
        let z = c.x.number in (
          z,
          (All-head (λ c. (c.p < cells P) × IsSymbol P c.x) c given are).1,
          both (not (c.p == p) || (z == c.x.number)) (cells_leave given p z) (where_passed (c.p == p) (z == c.x.number) (λ h. eq-eqb z z refl))
              (later_leave (c.p + 1) p z given (omega (arith, eqb-true c.p p e)) up.1),
        )
    by rest (inr e) =
        let z = rest.0 in
        (z, rest.1, both (not (c.p == p) || (z == c.x.number)) (cells_leave given p z) (where_passed (c.p == p) (z == c.x.number) (λ h. absurd (cc))) rest.2)

-- opening domains have a symbol everywhere
opening_has_some : (P : Instance) (turn : Opening) → OpeningFits P turn → HasSome (opening P turn)
opening_has_some P Full fits p = (0, both (nat_le 0 (shift_count P)) true (le-leb 0 (shift_count P) (omega arith)) refl)
opening_has_some P (Turned t) fits p = (
  t.x.number,
  both (nat_le t.x.number (shift_count P)) (opening_leaves (Turned t) p t.x.number) (le-leb t.x.number (shift_count P) fits.1)
      (where_passed ((t.day - 1) == p) (t.x.number == t.x.number) (λ e. eq-eqb t.x.number t.x.number refl)),
)
opening_has_some P (Given given) fits p =
    let some = cells_have_some P 0 p given (rises_from_zero (map (λ c. c.p) given) fits.0) fits.1 in
    (some.0, both (nat_le some.0 (shift_count P)) (cells_leave given p some.0) (le-leb some.0 (shift_count P) some.1) some.2)

pub domains_never_empty : DomainsAreNeverEmpty
domains_never_empty P turn lines k fits tree lt h =
    let none_idle : NoneIdle P (opening P turn) lines k = h in
    let t = tree.0 in
    let less : k < length (lines_in t) = subst (λ ls. k < length ls) (sym tree.1) lt in
    let some : HasSome (behind (opening P turn) (take k lines)) =
    subst (λ ls. HasSome (behind (opening P turn) (take k ls))) tree.1
    (has_some_at P t (opening P turn) k (opening_has_some P turn fits) less (subst (λ ls. NoneIdle P (opening P turn) ls k) (sym tree.1) none_idle)) in
    record {
      symbols = λ p x inside left. leb-true x (shift_count P) (left_of (full P p x) (opening_leaves turn p x) (left_of (opening P turn p x) (lines_leave (take k lines) p x) left));
      some = λ p inside. some p;
    }
