-- The words that lead through the trellis are the clean words.
use Rattle.std.proofs.Common.{◌≡◌, ◌⊎◌, ℕ, ◌+◌, ◌%◌, List, [], ◌∷◌, ◌++◌, length, refl, ap, sym, ◌∙◌, subst, arith, inl, inr, length-append, Bool, false, ◌==◌, Option, Some, None, ℤ}
use Rattle.std.specs.Prelude.{◌<ℤ◌, ◌+ℤ◌, IsTrue, IfSome, slice_index_or}
use Rattle.std.proofs.lemmas.Int.{ints}
use Rattle.rwsp_terms.specs.declared.data.Symbol.{Symbol}
use Rattle.rwsp_terms.specs.Instance.{cells}
use Rattle.refutation_terms.specs.Word.{Over}
use Rattle.refutation_terms.specs.Escape.{ComesFirst}
use Rattle.clean_words.specs.Moves.{Moves, move_at, after, lead, off_behind}
use Rattle.clean_words.specs.Automata.{HasSymbolsOf}
use Rattle.clean_words.specs.Courses.{gained, Course, IsOf, word_gain, IsNoWorse, IsBestOf, AreBelow}
use Rattle.clean_words.specs.Rows.{Row, gain_at}
use Rattle.clean_words.specs.Trellis.{Trellis, start_of, gain_from, Leads, IsGreatest, IsBest, IsRow}
use Rattle.clean_words.proofs.Steps.{IsReader, leads_to_end}

lead_push : (moves : Moves) (s : Option ℕ) (w : List Symbol) (x : Symbol) → lead moves s (w ++ x ∷ []) ≡ after moves (lead moves s w) x
lead_push moves s [] x = refl
lead_push moves s (y ∷ w) x = lead_push moves (after moves s y) w x

lead_none : (moves : Moves) (w : List Symbol) → lead moves None w ≡ None
lead_none moves [] = refl
lead_none moves (x ∷ w) = lead_none moves w

off_push : (off : Bool) (w : List Symbol) (x : Symbol) → off_behind off (w ++ x ∷ []) ≡ (x.number == 0)
off_push off [] x = refl
off_push off (y ∷ w) x = off_push (y.number == 0) w x

-- a word of this many days leads to the state, and ends with the day off or not
record IsReached (T : Trellis) (day state : ℕ) (off : Bool) : Type 0 where
  word : List Symbol
  long : length word ≡ day
  leads : lead T.automaton.moves (Some (start_of T)) word ≡ Some state
  ends : off_behind false word ≡ off

reached_none : (T : Trellis) → IsReached T 0 (start_of T) false
reached_none T = record { word = []; long = refl; leads = refl; ends = refl }

reached_more : (T : Trellis) (day state : ℕ) (off : Bool) → IsReached T day state off → (x : Symbol) (to : ℕ) → move_at T.automaton.moves state x.number ≡ Some to → IsReached T (day + 1) to (x.number == 0)
reached_more T day state off r x to move = record {
  word = r.word ++ x ∷ [];
  long = (let long = r.long in omega (arith, length-append r.word (x ∷ [])));
  leads = lead_push T.automaton.moves (Some (start_of T)) r.word x ∙ ap (λ (s : Option ℕ). after T.automaton.moves s x) r.leads ∙ move;
  ends = off_push false r.word x;
}

off_is : (T : Trellis) (day state : ℕ) (off : Bool) → IsReader T → IsReached T day state off → slice_index_or T.automaton.offs state false ≡ off
off_is T day state off reader r = reader.automaton.off T.position r.word state r.leads ∙ r.ends

inside_at : (T : Trellis) (n m : ℕ) (x : Symbol) → n ≡ m → IsTrue (T.domains (n % cells T.automaton.problem) x.number) → IsTrue (T.domains (m % cells T.automaton.problem) x.number)
inside_at T n m x e h = subst (λ (k : ℕ). IsTrue (T.domains (k % cells T.automaton.problem) x.number)) e h

-- a word by its first symbol
leads_first : (T : Trellis) (x : Symbol) (u : List Symbol) (day state last k : ℕ) (off : Bool) → IsReader T → IsReached T day state off → k ≡ T.position + day → IsTrue (T.domains (k % cells T.automaton.problem) x.number)
    → ((to : ℕ) → IsReached T (day + 1) to (x.number == 0) → lead T.automaton.moves (Some to) u ≡ Some last → Leads T (day + 1) to u (gained T.gain (day + 1) (x.number == 0) u))
    → (o : Option ℕ) → move_at T.automaton.moves state x.number ≡ o → lead T.automaton.moves o u ≡ Some last → Leads T day state (x ∷ u) (gained T.gain day off (x ∷ u))
leads_first T x u day state last k off reader r at inside rest None move leads = let none : lead T.automaton.moves None u ≡ None = lead_none T.automaton.moves u in absurd (cc)
leads_first T x u day state last k off reader r at inside rest (Some to) move leads =
    let more : ℤ = gained T.gain (day + 1) (x.number == 0) u in
    let gain : T.gain day off x +ℤ more ≡ gain_from T day state x +ℤ more = ap (λ (b : Bool). T.gain day b x +ℤ more) (sym (off_is T day state off reader r)) in
    (inside_at T k (T.position + day) x at inside, (to, move, (more, gain, rest to (reached_more T day state off r x to move) leads)))

leads_of : (T : Trellis) → IsReader T → (u : List Symbol) (day state last k : ℕ) (off : Bool) → IsReached T day state off → lead T.automaton.moves (Some state) u ≡ Some last → k ≡ T.position + day → Over T.automaton.problem T.domains k u → day + length u ≡ T.days → Leads T day state u (gained T.gain day off u)
leads_of T reader [] day state last k off r leads at over long = (omega (arith, long), refl)
leads_of T reader (x ∷ u) day state last k off r leads at over long =
    leads_first T x u day state last k off reader r at over.0
    (λ to reached goes. leads_of T reader u (day + 1) to last (k + 1) (x.number == 0) reached goes (omega (arith, at)) over.1 (omega (arith, long)))
    (move_at T.automaton.moves state x.number) refl leads

-- a word that leads to the end, as it is read
record IsRead (T : Trellis) (day state k : ℕ) (off : Bool) (u : List Symbol) (w : ℤ) : Type 0 where
  goes : (last : ℕ) × (lead T.automaton.moves (Some state) u ≡ Some last)
  over : Over T.automaton.problem T.domains k u
  weighs : w ≡ gained T.gain day off u

read_of : (T : Trellis) → IsReader T → (u : List Symbol) (day state k : ℕ) (off : Bool) (w : ℤ) → IsReached T day state off → k ≡ T.position + day → Leads T day state u w → IsRead T day state k off u w
read_of T reader [] day state k off w r at (end, nothing) = record { goes = (state, refl); over = tt; weighs = nothing }
read_of T reader (x ∷ u) day state k off w r at (inside, (to, move, (rest, whole, leads))) =
    let read = read_of T reader u (day + 1) to (k + 1) (x.number == 0) rest (reached_more T day state off r x to move) (omega (arith, at)) leads in
    record {
      goes = (read.goes.0, ap (λ (o : Option ℕ). lead T.automaton.moves o u) move ∙ read.goes.1);
      over = (inside_at T (T.position + day) k x (sym at) inside, read.over);
      weighs =
          whole ∙ ap (λ (b : Bool). T.gain day b x +ℤ rest) (off_is T day state off reader r)
          ∙ ap (λ (z : ℤ). T.gain day off x +ℤ z) read.weighs;
    }

symbols_of : (T : Trellis) → IsReader T → (u : List Symbol) (k : ℕ) → Over T.automaton.problem T.domains k u → HasSymbolsOf T.automaton.problem u
symbols_of T reader [] k over = tt
symbols_of T reader (x ∷ u) k over = (reader.symbols (k % cells T.automaton.problem) x.number over.0, symbols_of T reader u (k + 1) over.1)

abbrev pub course_of : Trellis → Course
course_of T = record {
  problem = T.automaton.problem;
  rules = T.automaton.rules;
  domains = T.domains;
  position = T.position;
  gain = T.gain;
}

-- a clean word leads through
pub leads_clean : (T : Trellis) → IsReader T → (u : List Symbol) → IsOf (course_of T) T.days u → Leads T 0 (start_of T) u (word_gain (course_of T) u)
leads_clean T reader u h =
    let goes = reader.automaton.clean T.position u (symbols_of T reader u T.position h.over) h.clean in
    leads_of T reader u 0 (start_of T) goes.0 T.position false (reached_none T) goes.1 (omega arith) h.over (omega (arith, h.long))

-- a word that leads through is clean
pub clean_leads : (T : Trellis) → IsReader T → (u : List Symbol) (w : ℤ) → Leads T 0 (start_of T) u w → IsOf (course_of T) T.days u × (w ≡ word_gain (course_of T) u)
clean_leads T reader u w leads =
    let read = read_of T reader u 0 (start_of T) T.position false w (reached_none T) (omega arith) leads in (
      record { long = omega (arith, leads_to_end T u 0 (start_of T) w leads); over = read.over; clean = reader.automaton.reads T.position u read.goes.0 read.goes.1 },
      read.weighs,
    )

pub greatest_at : (T : Trellis) (row : Row) (o : Option ℤ) → IsReader T → IsRow T 0 row → o ≡ gain_at row (start_of T) → IsGreatest T 0 (start_of T) o
greatest_at T row o reader is_row here = subst (IsGreatest T 0 (start_of T)) (sym here) (is_row.greatest (start_of T) (reader.automaton.begins T.position))

pub best_found : (T : Trellis) → IsReader T → (u : List Symbol) (w : ℤ) → IsBest T 0 (start_of T) u w → IsBestOf (course_of T) T.days w u
best_found T reader u w best =
    let clean = clean_leads T reader u w best.leads in
    record { clean = clean.0; gains = sym clean.1; best = λ v other. no_worse v clean.1 (best.others v _ (leads_clean T reader v other)) }
  where
    C : Course
    C = course_of T

    no_worse : (v : List Symbol) → w ≡ word_gain C u → (word_gain C v <ℤ w) ⊎ ((word_gain C v ≡ w) × ComesFirst u v) → IsNoWorse C u v
    no_worse v is (inl lt) = inl (omega (arith, ints, lt, is))
    no_worse v is (inr same) = inr (same.0 ∙ is, same.1)

pub below_found : (T : Trellis) → IsReader T → (o : Option ℤ) (least : ℤ) → IsGreatest T 0 (start_of T) o → IfSome o (λ w. w <ℤ least) → AreBelow (course_of T) T.days least
below_found T reader None least none below = λ u clean. absurd (none u _ (leads_clean T reader u clean))
below_found T reader (Some w) least greatest below = λ u clean. omega (arith, ints, below, greatest.1 u _ (leads_clean T reader u clean))
