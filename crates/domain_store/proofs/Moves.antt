-- What the moves of a walk leave.
use Rattle.std.proofs.Common.{◌≡◌, ℕ, ◌+◌, ◌<◌, ◌≤◌, List, [], ◌∷◌, ◌++◌, length, take, refl, ap, sym, ◌∙◌, subst, arith, Bool, true, false, ◌&&◌, ◌||◌, ◌==◌, not, IsTrue, cond}
use Rattle.std.specs.Prelude.{◌↔◌}
use Rattle.std.proofs.lemmas.List.{take_all, length-take-le, length_push}
use Rattle.std.proofs.lemmas.List.Sums.{sum_by-cons, sum_by-append}
use Rattle.rwsp_terms.specs.declared.data.Symbol.{Symbol}
use Rattle.rwsp_terms.specs.Instance.{Instance, cells}
use Rattle.refutation_terms.specs.declared.lines.Line.{Line}
use Rattle.refutation_terms.specs.declared.lines.Line.TheVariants.{Split, Unfinished}
use Rattle.refutation_terms.specs.declared.lines.Opening.{Opening}
use Rattle.refutation_terms.specs.Word.{Domains, AreSame}
use Rattle.refutation_terms.specs.Tree.{IsLeaf, Leaf, IsTree, after_trees, opening, lines_leave, domains_at, is_idle}
use Rattle.domain_store.specs.Store.{Store, store_at, domain_at, has_domain, changed, HasSameShape, BelongsTo, IsStore, HasDomains}
use Rattle.domain_store.specs.declared.open_split.OpenSplit.{OpenSplit}
use Rattle.domain_store.specs.Splits.{Agrees, IsSplitAt, NoLines, InSplits, HasRead, IsBehindTree, second_sides_to_come, is_idle_in}
use Rattle.domain_store.specs.States.{IsStateOf, IsWalk}
use Rattle.domain_store.proofs.Stack.{tree_read, split_read, second_ended, first_ended, innermost, read_leaves, read_is_tree, read_whole, read_part}
use Rattle.domain_store.proofs.Idle.{idle_in_store, held_where_useful, more_where_useful, positions_of}

-- the split on top of the stack
pub on_top : (n : ℕ) (S : Store) (D : Domains) (splits outer : List OpenSplit) (lines : List Line) (o : OpenSplit) → splits ≡ outer ++ o ∷ [] → InSplits IsTree n S D 0 splits lines → (E : Domains) × (since : ℕ) × IsSplitAt n S E since o
on_top n S D splits outer lines o e h = innermost IsTree n S o outer D 0 lines (subst (λ s. InSplits IsTree n S D 0 s lines) e h)

undone_room : (n : ℕ) (S T : Store) (D : Domains) (splits outer : List OpenSplit) (lines : List Line) (o : OpenSplit) → splits ≡ outer ++ o ∷ [] → T ≡ store_at S o.mark.len → InSplits IsTree n S D 0 splits lines → o.mark.len ≤ length T.trail
undone_room n S T D splits outer lines o e at_mark h =
    let top : IsSplitAt n S (on_top n S D splits outer lines o e h).0 (on_top n S D splits outer lines o e h).1 o = (on_top n S D splits outer lines o e h).2 in
    let within : o.mark.len ≤ length S.trail = top.within in
    let long : length T.trail ≡ length (take o.mark.len S.trail) = ap (λ U. length U.trail) at_mark in
    omega (arith, long, length-take-le o.mark.len S.trail within)

-- a second side ends
pub side_closed : (n : ℕ) (S T : Store) (D : Domains) (splits outer : List OpenSplit) (lines : List Line) (o : OpenSplit) → splits ≡ outer ++ o ∷ [] → o.in_second ≡ true → T ≡ store_at S o.mark.len → ((len : ℕ) → len ≤ o.mark.len → store_at T len ≡ store_at S len) → InSplits IsTree n S D 0 splits lines → InSplits IsTree n T D 0 outer lines
side_closed n S T D splits outer lines o e second at_mark same h =
    second_ended n S T D outer lines o second at_mark same (undone_room n S T D splits outer lines o e at_mark h) (subst (λ s. InSplits IsTree n S D 0 s lines) e h)

-- the first side gives way to the second
pub side_crossed : (n : ℕ) (S T U : Store) (D : Domains) (splits outer after : List OpenSplit) (lines : List Line) (o : OpenSplit) (set : List ℕ) → splits ≡ outer ++ o ∷ [] → o.in_second ≡ false → T ≡ store_at S o.mark.len → ((len : ℕ) → len ≤ o.mark.len → store_at T len ≡ store_at S len) → U ≡ changed T o.p set → ((q y : ℕ) → has_domain U q y ≡ ((not (q == o.p) || not (y == o.x.number)) && has_domain T q y)) → ((len : ℕ) → len ≤ length T.trail → store_at U len ≡ store_at T len) → after ≡ outer ++ (record o { in_second = true }) ∷ [] → InSplits IsTree n S D 0 splits lines → InSplits NoLines n U D 0 after lines
side_crossed n S T U D splits outer after lines o set e first at_mark same change has kept is h =
    let room : o.mark.len ≤ length T.trail = undone_room n S T D splits outer lines o e at_mark h in
    let longer : length U.trail ≡ length T.trail + 1 = ap (λ V. length V.trail) change ∙ length_push T.trail (record { position = o.p; before = domain_at T o.p }) in
    let there : (q y : ℕ) → has_domain U q y ≡ ((not (q == o.p) || not (y == o.x.number)) && has_domain (store_at S o.mark.len) q y) = λ q y. has q y ∙ ap (λ V. (not (q == o.p) || not (y == o.x.number)) && has_domain V q y) at_mark in
    let stands : (len : ℕ) → len ≤ o.mark.len → store_at U len ≡ store_at S len = λ len le. kept len (omega (arith, le, room)) ∙ same len le in
    let done : InSplits NoLines n U D 0 (outer ++ (record o { in_second = true }) ∷ []) lines =
    first_ended n S U D outer lines o first there stands (omega (arith, room, longer)) (subst (λ s. InSplits IsTree n S D 0 s lines) e h) in
    subst (λ s. InSplits NoLines n U D 0 s lines) (sym is) done

-- a walk that has read no line
pub at_start : (P : Instance) (start : Opening) (S : Store) (splits : List OpenSplit) → IsStore S → BelongsTo P S → splits ≡ [] → AreSame P (has_domain S) (opening P start) → IsStateOf P start [] (record { store = S; splits = splits; whole = false })
at_start P start S splits now belongs none agrees =
    let here : Agrees (length S.sets) S (opening P start) = λ p z lt. agrees p z (subst (λ m. p < m) (positions_of P S now belongs) lt) in
    record {
      belongs = belongs;
      read = subst (λ s. InSplits NoLines (length S.sets) S (opening P start) 0 s []) (sym none) (omega arith, here, refl);
    }

pub belongs_still : (P : Instance) (S T : Store) → BelongsTo P S → HasSameShape S T → BelongsTo P T
belongs_still P S T b same = record {
  days = same.days ∙ b.days;
  weeks = same.weeks ∙ b.weeks;
  shifts = same.shifts ∙ b.shifts;
}

part_of : (P : Instance) (start : Opening) (lines : List Line) (S : Store) (splits : List OpenSplit) (whole : Bool) → whole ≡ false → IsStateOf P start lines (record { store = S; splits = splits; whole = whole }) → InSplits NoLines (length S.sets) S (opening P start) 0 splits lines
part_of P start lines S splits whole part w = subst (λ b. HasRead b (length S.sets) S (opening P start) splits lines) part w.read

-- a split was read
pub behind_split : (P : Instance) (start : Opening) (lines : List Line) (S T : Store) (splits after : List OpenSplit) (whole : Bool) (p : ℕ) (x : Symbol) (o : OpenSplit) → whole ≡ false → o.p ≡ p → o.x ≡ x → o.in_second ≡ false → o.mark.len ≡ length S.trail → store_at S o.mark.len ≡ S → p < length S.sets → is_idle_in S p x.number ≡ false → T ≡ changed S p (x.number ∷ []) → HasSameShape S T → ((q y : ℕ) → has_domain T q y ≡ ((not (q == p) || (y == x.number)) && has_domain S q y)) → ((len : ℕ) → len ≤ length S.trail → store_at T len ≡ store_at S len) → after ≡ splits ++ o ∷ [] → IsStateOf P start lines (record { store = S; splits = splits; whole = whole }) → IsStateOf P start (lines ++ Split p x ∷ []) (record { store = T; splits = after; whole = whole })
behind_split P start lines S T splits after whole p x o part is_p is_x first at_end here position useful change same has kept is w =
    let grown : length T.trail ≡ length S.trail + 1 = ap (λ V. length V.trail) change ∙ length_push S.trail (record { position = p; before = domain_at S p }) in
    let longer : length S.trail ≤ length T.trail = omega (arith, grown) in
    let as_split : (q : ℕ) (y : Symbol) → q ≡ o.p → y ≡ o.x → InSplits NoLines (length S.sets) T (opening P start) 0 (splits ++ o ∷ []) (lines ++ Split q y ∷ []) = λ q y eq ey.
    subst (λ r. InSplits NoLines (length S.sets) T (opening P start) 0 (splits ++ o ∷ []) (lines ++ Split r y ∷ [])) (sym eq)
    (subst (λ z. InSplits NoLines (length S.sets) T (opening P start) 0 (splits ++ o ∷ []) (lines ++ Split o.p z ∷ [])) (sym ey)
    (split_read (length S.sets) S T (opening P start) splits lines o first at_end
    (subst (λ r. r < length S.sets) (sym is_p) position)
    (subst (λ r. IsTrue (has_domain S r o.x.number)) (sym is_p) (subst (λ z. IsTrue (has_domain S p z.number)) (sym is_x) (held_where_useful S p x.number useful)))
    (subst (λ r. 2 ≤ length (domain_at S r)) (sym is_p) (more_where_useful S p x.number useful))
    here
    (subst (λ r. (q y : ℕ) → has_domain T q y ≡ ((not (q == r) || (y == o.x.number)) && has_domain S q y)) (sym is_p)
    (subst (λ z. (q y : ℕ) → has_domain T q y ≡ ((not (q == p) || (y == z.number)) && has_domain S q y)) (sym is_x) has))
    kept longer
    (part_of P start lines S splits whole part w))) in
    let there : InSplits NoLines (length S.sets) T (opening P start) 0 after (lines ++ Split p x ∷ []) = subst (λ s. InSplits NoLines (length S.sets) T (opening P start) 0 s (lines ++ Split p x ∷ [])) (sym is) (as_split p x (sym is_p) (sym is_x)) in
    record {
      belongs = belongs_still P S T w.belongs same;
      read = subst (λ b. HasRead b (length T.sets) T (opening P start) after (lines ++ Split p x ∷ [])) (sym part) (subst (λ n. InSplits NoLines n T (opening P start) 0 after (lines ++ Split p x ∷ [])) (sym same.positions) there);
    }

-- a whole tree was read, and ends what it ends
pub tree_follows : (P : Instance) (start : Opening) (lines tree : List Line) (S : Store) (splits : List OpenSplit) (whole : Bool) → IsTree tree → whole ≡ false → IsStateOf P start lines (record { store = S; splits = splits; whole = whole }) → InSplits IsTree (length S.sets) S (opening P start) 0 splits (lines ++ tree)
tree_follows P start lines tree S splits whole is_tree part w =
    tree_read (length S.sets) S (opening P start) splits lines tree is_tree (part_of P start lines S splits whole part w)

-- a leaf is a whole tree
pub leaf_is_tree : (leaf : Line) → IsLeaf leaf → IsTree (leaf ∷ [])
leaf_is_tree leaf is_leaf = (Leaf leaf is_leaf, refl)

pub leaf_can_end : (S : Store) (splits : List OpenSplit) (whole : Bool) → whole ≡ false → IsWalk (record { store = S; splits = splits; whole = whole }) → IsBehindTree S splits
leaf_can_end S splits whole part w = (opening w.0 w.1, w.2 ++ Unfinished ∷ [], tree_follows w.0 w.1 w.2 (Unfinished ∷ []) S splits whole (leaf_is_tree Unfinished tt) part w.3)

pub behind_tree : (P : Instance) (start : Opening) (lines tree : List Line) (S T : Store) (splits after : List OpenSplit) (whole ended : Bool) → IsTree tree → whole ≡ false → HasSameShape S T → ((D : Domains) (lines : List Line) → InSplits IsTree (length S.sets) S D 0 splits lines → HasRead ended (length S.sets) T D after lines) → IsStateOf P start lines (record { store = S; splits = splits; whole = whole }) → IsStateOf P start (lines ++ tree) (record { store = T; splits = after; whole = ended })
behind_tree P start lines tree S T splits after whole ended is_tree part same ends w = record {
  belongs = belongs_still P S T w.belongs same;
  read = subst (λ n. HasRead ended n T (opening P start) after (lines ++ tree)) (sym same.positions) (ends (opening P start) (lines ++ tree) (tree_follows P start lines tree S splits whole is_tree part w));
}

pub still_walk : (S T : Store) (splits after : List OpenSplit) (whole ended : Bool) → whole ≡ false → HasSameShape S T → ((D : Domains) (lines : List Line) → InSplits IsTree (length S.sets) S D 0 splits lines → HasRead ended (length S.sets) T D after lines) → IsWalk (record { store = S; splits = splits; whole = whole }) → IsWalk (record { store = T; splits = after; whole = ended })
still_walk S T splits after whole ended part same ends w =
    (w.0, w.1, w.2 ++ Unfinished ∷ [], behind_tree w.0 w.1 w.2 (Unfinished ∷ []) S T splits after whole ended (leaf_is_tree Unfinished tt) part same ends w.3)

-- the domains are those of the next line
pub state_domains : (P : Instance) (start : Opening) (lines : List Line) (S : Store) (splits : List OpenSplit) (whole : Bool) → IsStore S → IsStateOf P start lines (record { store = S; splits = splits; whole = whole }) → AreSame P (has_domain S) (domains_at P start lines (length lines))
state_domains P start lines S splits whole now w p x lt =
    let inside : p < length S.sets = subst (λ m. p < m) (sym (positions_of P S now w.belongs)) lt in
    let le : length lines ≤ length lines = omega arith in
    read_leaves whole (length S.sets) S (opening P start) splits lines w.read p x inside
    ∙ ap (λ ls. opening P start p x && lines_leave ls p x) (sym (take_all (length lines) lines le))

pub state_idle : (P : Instance) (start : Opening) (lines : List Line) (S : Store) (splits : List OpenSplit) (whole : Bool) → IsStore S → HasDomains S → IsStateOf P start lines (record { store = S; splits = splits; whole = whole }) → (p x : ℕ) → p < length S.sets → is_idle_in S p x ≡ is_idle P (domains_at P start lines (length lines)) p x
state_idle P start lines S splits whole now tests w p x inside =
    let lt : p < cells P = subst (λ m. p < m) (positions_of P S now w.belongs) inside in
    idle_in_store P (domains_at P start lines (length lines)) S p x now tests w.belongs inside (λ z. state_domains P start lines S splits whole now w p z lt)

pub state_whole : (P : Instance) (start : Opening) (lines : List Line) (S : Store) (splits : List OpenSplit) (whole : Bool) → IsStateOf P start lines (record { store = S; splits = splits; whole = whole }) → (whole ≡ true) ↔ IsTree lines
state_whole P start lines S splits whole w = read_is_tree whole (length S.sets) S (opening P start) splits lines w.read

pub state_ended : (P : Instance) (start : Opening) (lines rest : List Line) (S : Store) (splits : List OpenSplit) (whole : Bool) → whole ≡ true → IsStateOf P start lines (record { store = S; splits = splits; whole = whole }) → after_trees 1 (lines ++ rest) ≡ after_trees 0 rest
state_ended P start lines rest S splits whole ended w =
    read_whole (length S.sets) S (opening P start) splits lines rest (subst (λ b. HasRead b (length S.sets) S (opening P start) splits lines) ended w.read)

pub state_open : (P : Instance) (start : Opening) (lines rest : List Line) (S : Store) (splits : List OpenSplit) (whole : Bool) → whole ≡ false → IsStateOf P start lines (record { store = S; splits = splits; whole = whole }) → after_trees 1 (lines ++ rest) ≡ after_trees (second_sides_to_come splits + 1) rest
state_open P start lines rest S splits whole part w =
    read_part (length S.sets) S (opening P start) splits lines rest (part_of P start lines S splits whole part w)

abbrev pub in_first : Bool → ℕ
in_first second = cond (not second) 1 0

-- the open splits in their first side, with one more on top
pub to_come_with_one_more : (outer : List OpenSplit) (o : OpenSplit) → second_sides_to_come (outer ++ o ∷ []) ≡ second_sides_to_come outer + in_first o.in_second
to_come_with_one_more outer o =
    let one : second_sides_to_come (o ∷ []) ≡ in_first o.in_second = sum_by-cons (λ b. in_first b.in_second) o [] ∙ omega arith in
    sum_by-append (λ b. in_first b.in_second) outer (o ∷ []) ∙ ap (λ n. second_sides_to_come outer + n) one

pub to_come_past_second : (splits outer : List OpenSplit) (o : OpenSplit) → splits ≡ outer ++ o ∷ [] → o.in_second ≡ true → second_sides_to_come splits ≡ second_sides_to_come outer
to_come_past_second splits outer o e second =
    let none : in_first o.in_second ≡ 0 = ap in_first second in
    ap second_sides_to_come e ∙ to_come_with_one_more outer o ∙ omega (arith, none)

pub to_come_past_first : (splits outer after : List OpenSplit) (o : OpenSplit) → splits ≡ outer ++ o ∷ [] → o.in_second ≡ false → after ≡ outer ++ (record o { in_second = true }) ∷ [] → second_sides_to_come splits ≡ second_sides_to_come after + 1
to_come_past_first splits outer after o e first is =
    let one : in_first o.in_second ≡ 1 = ap in_first first in
    let same : second_sides_to_come after ≡ second_sides_to_come outer = to_come_past_second after outer (record o { in_second = true }) is refl in
    ap second_sides_to_come e ∙ to_come_with_one_more outer o ∙ omega (arith, one, same)

pub open_behind_split : (whole : Bool) (splits after : List OpenSplit) (o : OpenSplit) → whole ≡ false → o.in_second ≡ false → after ≡ splits ++ o ∷ [] → cond whole 0 (second_sides_to_come after + 1) ≡ cond whole 0 (second_sides_to_come splits + 1) + 1
open_behind_split true splits after o part first is = absurd (cc)
open_behind_split false splits after o part first is =
    let one : in_first o.in_second ≡ 1 = ap in_first first in
    let e : second_sides_to_come after ≡ second_sides_to_come splits + in_first o.in_second = ap second_sides_to_come is ∙ to_come_with_one_more splits o in
    omega (arith, one, e)

pub open_behind_leaf : (whole ended : Bool) (splits after : List OpenSplit) → whole ≡ false → second_sides_to_come splits ≡ cond ended 0 (second_sides_to_come after + 1) → cond whole 0 (second_sides_to_come splits + 1) ≡ cond ended 0 (second_sides_to_come after + 1) + 1
open_behind_leaf true ended splits after part e = absurd (cc)
open_behind_leaf false ended splits after part e = ap (λ n. n + 1) e
