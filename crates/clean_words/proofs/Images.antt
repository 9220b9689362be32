-- Tables of classes.
use Rattle.std.proofs.Common.{◌≡◌, ◌⊎◌, ℕ, zero, suc, ◌+◌, ◌%◌, ◌<◌, ◌≤◌, List, [], ◌∷◌, length, get_or, map, Option, Some, None, Bool, true, eqb, Decides, refl, ap, sym, ◌∙◌, inl, inr, arith}
use Rattle.std.specs.Prelude.{slice_index}
use Rattle.std.specs.Option.{option_map, option_eq}
use Rattle.std.specs.Cmp.Lexicographic.{pointwise}
use Rattle.std.proofs.Math.Nat.{eq-or-lt_of_le}
use Rattle.std.proofs.lemmas.List.{ext_get_or, get_or-map, length-map}
use Rattle.std.proofs.lemmas.Slice.Eq.{slice_eq-Decides}
use Rattle.std.proofs.lemmas.Bool.Decides.{Decides-eqb}
use Rattle.std.proofs.lemmas.Nat.{mod_below}
use Rattle.std.proofs.lemmas.Option.{same_Some}
use Rattle.rwsp_terms.specs.declared.data.Symbol.{Symbol}
use Rattle.rwsp_terms.specs.Instance.{Instance, shift_count}
use Rattle.clean_words.specs.Moves.{Moves, move_at, lead, start_at}
use Rattle.clean_words.specs.Tables.{IsTable, IsReader, TellsAs, IsKept, HasStates}
use Rattle.clean_words.specs.declared.table.Table.{Table}
use Rattle.clean_words.proofs.Leading.{lead_nowhere, lead_inside, moves_from}

get_or_mapped : (f : ℕ → ℕ) (row : List (Option ℕ)) (x : ℕ) → get_or (map (option_map f) row) x None ≡ option_map f (get_or row x None)
get_or_mapped f [] x = refl
get_or_mapped f (m ∷ row) zero = refl
get_or_mapped f (m ∷ row) (suc x) = get_or_mapped f row x

-- the state that a class is mapped from
pub mapped_from : (f : ℕ → ℕ) (m : Option ℕ) (t : ℕ) → option_map f m ≡ Some t → (s : ℕ) × (m ≡ Some s) × (t ≡ f s)
mapped_from f None t h = absurd (cc)
mapped_from f (Some s) t h = (s, refl, cc)

abbrev pub AreKept : Table → Table → List ℕ → Type 0
AreKept table small classes = (k : ℕ) → k < length table.moves.items → IsKept table small classes k

abbrev class_at : List ℕ → ℕ → ℕ
class_at classes s = slice_index classes s

move_image : (table small : Table) (classes : List ℕ) (s x : ℕ) → IsKept table small classes s → move_at small.moves.items (class_at classes s) x ≡ option_map (slice_index classes) (move_at table.moves.items s x)
move_image table small classes s x k =
    ap (λ (row : List (Option ℕ)). get_or row x None) k.row ∙ get_or_mapped (slice_index classes) (get_or table.moves.items s []) x

image_by : (moves small : Moves) (classes : List ℕ) (u : List Symbol) (m : Option ℕ) → ((s : ℕ) → m ≡ Some s → s < length moves) → ((s : ℕ) → s < length moves → lead small (Some (class_at classes s)) u ≡ option_map (slice_index classes) (lead moves (Some s) u)) → lead small (option_map (slice_index classes) m) u ≡ option_map (slice_index classes) (lead moves m u)
image_by moves small classes u None inside rest =
    lead_nowhere small u ∙ ap (option_map (slice_index classes)) (sym (lead_nowhere moves u))
image_by moves small classes u (Some s) inside rest = rest s (inside s refl)

-- where a word leads from a class
lead_image : (table small : Table) (classes : List ℕ) → AreKept table small classes → ((s x t : ℕ) → move_at table.moves.items s x ≡ Some t → t < length table.moves.items) → (u : List Symbol) (s : ℕ) → s < length table.moves.items → lead small.moves.items (Some (class_at classes s)) u ≡ option_map (slice_index classes) (lead table.moves.items (Some s) u)
lead_image table small classes kept inside [] s lt = refl
lead_image table small classes kept inside (x ∷ u) s lt =
    ap (λ o. lead small.moves.items o u) (move_image table small classes s x.number (kept s lt))
    ∙ image_by table.moves.items small.moves.items classes u (move_at table.moves.items s x.number) (inside s x.number) (λ n less. lead_image table small classes kept inside u n less)

-- where words begin
start_image : (classes starts : List ℕ) (p : ℕ) → 0 < length starts → start_at (map (slice_index classes) starts) p ≡ class_at classes (start_at starts p)
start_image classes starts p some =
    let long = length-map starts (slice_index classes) in
    let lt : p % length starts < length starts = mod_below p (length starts) some in
    ap (λ n. slice_index (map (slice_index classes) starts) (p % n)) long ∙ get_or-map (slice_index classes) starts (p % length starts) 0 0 lt

-- a table with a state for each class
pub record IsImage (table small : Table) (classes : List ℕ) : Type 0 where
  starts : small.starts.items ≡ map (slice_index classes) table.starts.items
  long : length small.told.items ≡ length small.moves.items
  states : HasStates classes (length table.moves.items) (length small.moves.items)
  kept : AreKept table small classes

pub image_by_parts : (table small : Table) (classes : List ℕ) → small.starts.items ≡ map (slice_index classes) table.starts.items → length small.told.items ≡ length small.moves.items → HasStates classes (length table.moves.items) (length small.moves.items) → ((k : ℕ) → k < length table.moves.items → IsKept table small classes k) → IsImage table small classes
image_by_parts table small classes starts long states kept = record { starts = starts; long = long; states = states; kept = kept }

-- it tells of each word what the table tells
tells_as : (P : Instance) (table small : Table) (classes : List ℕ) → 0 < P.days → IsTable P table → IsImage table small classes → TellsAs table small
tells_as P table small classes days is image p w =
    let inside : (s x t : ℕ) → move_at table.moves.items s x ≡ Some t → t < length table.moves.items = λ s x t h. (is.inside s x t h).1 in
    let some : 0 < length table.starts.items = let long = is.days in omega (arith, long, days) in
    let start : start_at small.starts.items p ≡ class_at classes (start_at table.starts.items p) = ap (λ ns. start_at ns p) image.starts ∙ start_image classes table.starts.items p some in
    ap (λ s. option_map (slice_index small.told.items) (lead small.moves.items (Some s) w)) start
    ∙ ap (option_map (slice_index small.told.items)) (lead_image table small classes image.kept inside w (start_at table.starts.items p) (is.begins p))
    ∙ told_kept (lead table.moves.items (Some (start_at table.starts.items p)) w) (λ t e. lead_inside table.moves.items inside w (start_at table.starts.items p) t (is.begins p) e)
  where
    told_kept : (o : Option ℕ) → ((t : ℕ) → o ≡ Some t → t < length table.moves.items) → option_map (slice_index small.told.items) (option_map (slice_index classes) o) ≡ option_map (slice_index table.told.items) o
    told_kept None inside = refl
    told_kept (Some t) inside = ap Some (image.kept t (inside t refl)).told

image_is_table : (P : Instance) (table small : Table) (classes : List ℕ) → 0 < P.days → IsTable P table → IsImage table small classes → IsTable P small
image_is_table P table small classes days is image = record {
  days = ap length image.starts ∙ length-map table.starts.items (slice_index classes) ∙ is.days;
  long = image.long;
  begins = λ p.
      let some : 0 < length table.starts.items = let long = is.days in omega (arith, long, days) in
      let start : start_at small.starts.items p ≡ class_at classes (start_at table.starts.items p) = ap (λ ns. start_at ns p) image.starts ∙ start_image classes table.starts.items p some in
      let known = (image.kept (start_at table.starts.items p) (is.begins p)).known in
      omega (arith, start, known);
  inside = inside;
}
  where
    inside : (s x t : ℕ) → move_at small.moves.items s x ≡ Some t → (x ≤ shift_count P) × (t < length small.moves.items)
    inside s x t h =
        let k = image.states s (moves_from small.moves.items s x t h) in
        let there : option_map (slice_index classes) (move_at table.moves.items k.0 x) ≡ Some t = sym (move_image table small classes k.0 x (image.kept k.0 k.1)) ∙ ap (λ i. move_at small.moves.items i x) k.2 ∙ h in
        let f = mapped_from (slice_index classes) (move_at table.moves.items k.0 x) t there in
        let i = is.inside k.0 x f.0 f.1 in
        let known : class_at classes f.0 < length small.moves.items = (image.kept f.0 i.1).known in
        (i.0, rw f.2 known)

-- so it reads what the table reads
pub reader_image : (P : Instance) (R : List ℕ) (table small : Table) (classes : List ℕ) → 0 < P.days → IsReader P R table → IsImage table small classes → slice_index classes 0 ≡ 0 → IsReader P R small
reader_image P R table small classes days r image first =
    let same = tells_as P table small classes days r.table image in
    let some : 0 < length table.starts.items = let long = r.table.days in omega (arith, long, days) in
    record {
      table = image_is_table P table small classes days r.table image;
      first = ap (λ ns. start_at ns 0) image.starts ∙ start_image classes table.starts.items 0 some ∙ ap (slice_index classes) r.first ∙ first;
      clean = λ p w has clean. let c = r.clean p w has clean in (c.0, same p w ∙ c.1);
      reads = λ p w n h. r.reads p w n (sym (same p w) ∙ h);
      off = λ p w n h. r.off p w n (sym (same p w) ∙ h);
    }

-- a row that has the image of each move
pub image_whole : (f : ℕ → ℕ) (row image : List (Option ℕ)) → length image ≡ length row → ((k : ℕ) → k < length row → get_or image k None ≡ option_map f (get_or row k None)) → image ≡ map (option_map f) row
image_whole f row image long moves =
    ext_get_or None image (map (option_map f) row) (long ∙ sym (length-map row (option_map f)))
    (λ k lt. moves k (omega (arith, lt, long)) ∙ sym (get_or_mapped f row k))

-- two moves are compared
moves_same : (m n : Option ℕ) → Decides (option_eq eqb m n) (m ≡ n)
moves_same None None = (λ h. refl, λ h. refl)
moves_same None (Some b) = (λ h. absurd (cc), λ h. absurd (cc))
moves_same (Some a) None = (λ h. absurd (cc), λ h. absurd (cc))
moves_same (Some a) (Some b) =
    let d = Decides-eqb a b in
    (λ h. ap (λ (i : ℕ). Some i) (d.0 h), λ h. d.1 (same_Some a b h))

-- the class is like the state, where the rows are equal
pub kept_by : (table small : Table) (classes : List ℕ) (state class : ℕ) (row small_row : List (Option ℕ)) (told small_told : ℕ) (b : Bool) → class ≡ slice_index classes state → class < length small.moves.items → small_row ≡ get_or small.moves.items class [] → row ≡ get_or table.moves.items state [] → small_told ≡ slice_index small.told.items class → told ≡ slice_index table.told.items state → small_told ≡ told → b ≡ pointwise (option_eq eqb) small_row (map (option_map (slice_index classes)) row) → b ≡ true → IsKept table small classes state
kept_by table small classes state class row small_row told small_told b class_is lt small_row_is row_is small_told_is told_is same_told equal holds = record {
  known = rw (← class_is) lt;
  told = ap (slice_index small.told.items) (sym class_is) ∙ sym small_told_is ∙ same_told ∙ told_is;
  row = ap (λ i. get_or small.moves.items i []) (sym class_is) ∙ sym small_row_is ∙ (slice_eq-Decides moves_same small_row (map (option_map (slice_index classes)) row) b equal).0 holds ∙ ap (λ (r : List (Option ℕ)). map (option_map (slice_index classes)) r) row_is;
}

-- a class with a first state more
pub states_more : (classes : List ℕ) (states count : ℕ) → slice_index classes states ≡ count → HasStates classes states count → HasStates classes (states + 1) (count + 1)
states_more classes states count new old c lt = by_place (eq-or-lt_of_le {n = c} {m = count} (omega arith))
  where
    by_place : (c ≡ count) ⊎ (c < count) → (k : ℕ) × (k < states + 1) × (slice_index classes k ≡ c)
    by_place (inl last) = (states, omega arith, new ∙ sym last)
    by_place (inr less) = let o = old c less in (o.0, omega (arith, o.1), o.2)

pub states_same : (classes : List ℕ) (states count : ℕ) → HasStates classes states count → HasStates classes (states + 1) count
states_same classes states count old c lt = let o = old c lt in (o.0, omega (arith, o.1), o.2)
