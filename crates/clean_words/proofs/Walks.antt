-- Going forward along rows.
use Rattle.std.proofs.Common.{◌≡◌, ℕ, ◌+◌, ◌-◌, ◌*◌, ◌<◌, List, [], ◌∷◌, ◌++◌, length, refl, sym, subst, arith, append_assoc, append-nil, length-append, Some, None, ℤ, pos}
use Rattle.std.proofs.lemmas.List.{get_or_push, get_or_append_left}
use Rattle.rwsp_terms.specs.declared.data.Symbol.{Symbol}
use Rattle.clean_words.specs.declared.kept_rows.TheConstants.{STRIDE}
use Rattle.clean_words.specs.declared.choice.Choice.{Choice}
use Rattle.clean_words.specs.Rows.{Row}
use Rattle.clean_words.specs.Trellis.{Trellis, start_of, Leads, IsBest, IsRow, AreRows}
use Rattle.clean_words.specs.Choices.{IsChosen}
use Rattle.clean_words.specs.Kept.{AreKept, IsOnBest}
use Rattle.clean_words.proofs.Steps.{IsReader, IsPlace, offers, greatest_of, best_of, some_behind, at_end}

long_push : (symbols : List Symbol) (x : Symbol) → length symbols + 1 ≡ length (symbols ++ x ∷ [])
long_push symbols x = omega (arith, length-append symbols (x ∷ []))

pub on_start : (T : Trellis) → IsReader T → ((u : List Symbol) × (w : ℤ) × Leads T 0 (start_of T) u w) → IsOnBest T [] (start_of T)
on_start T reader some = record { state_in = reader.automaton.begins T.position; some = some; completes = λ u w best. (w, best) }

pub on_more : (T : Trellis) (symbols : List Symbol) (state : ℕ) (gains next : Row) (c : Choice) → IsPlace T (length symbols) state gains next → IsChosen (offers T state gains next) (length gains) (Some c) → IsOnBest T symbols state → IsOnBest T (symbols ++ c.symbol ∷ []) c.to
on_more T symbols state gains next c p chosen on = record { state_in = behind.0; some = subst (λ (n : ℕ). (u : List Symbol) × (w : ℤ) × Leads T n c.to u w) long behind.1; completes = completes }
  where
    long : length symbols + 1 ≡ length (symbols ++ c.symbol ∷ [])
    long = long_push symbols c.symbol

    behind : (c.to < length T.automaton.moves) × ((u : List Symbol) × (w : ℤ) × Leads T (length symbols + 1) c.to u w)
    behind = some_behind T (length symbols) state gains next p c chosen

    completes : (u : List Symbol) (w : ℤ) → IsBest T (length (symbols ++ c.symbol ∷ [])) c.to u w → (v : ℤ) × IsBest T 0 (start_of T) ((symbols ++ c.symbol ∷ []) ++ u) v
    completes u w best =
        let here : IsBest T (length symbols + 1) c.to u w = subst (λ (n : ℕ). IsBest T n c.to u w) (sym long) best in
        let all = on.completes (c.symbol ∷ u) c.weight (best_of T (length symbols) state gains next p c chosen u w here) in
        (all.0, rw append_assoc all.1)

-- something is chosen
pub on_none : (T : Trellis) (symbols : List Symbol) (state : ℕ) (gains next : Row) → IsPlace T (length symbols) state gains next → IsChosen (offers T state gains next) (length gains) None → IsOnBest T symbols state → ⊥
on_none T symbols state gains next p chosen on = greatest_of T (length symbols) state gains next p None chosen on.some.0 on.some.1 on.some.2

pub on_end : (T : Trellis) (symbols : List Symbol) (state : ℕ) → IsOnBest T symbols state → length symbols ≡ T.days → (w : ℤ) × IsBest T 0 (start_of T) symbols w
on_end T symbols state on end =
    let all = on.completes [] (pos 0) (at_end T (length symbols) state end) in
    (all.0, rw append-nil at all.1)

-- the last row is taken off
pub rows_popped : (T : Trellis) (last : ℕ) (rows : List Row) (row : Row) → AreRows T last (rows ++ row ∷ []) → IsRow T (last - length rows) row × AreRows T last rows
rows_popped T last rows row h =
    let long : length (rows ++ row ∷ []) ≡ length rows + 1 = length-append rows (row ∷ []) in (
      subst (IsRow T (last - length rows)) (get_or_push rows row [] (length rows) refl) (h (length rows) (omega arith)),
      λ i lt. subst (IsRow T (last - i)) (get_or_append_left rows (row ∷ []) [] i lt) (h i (omega (arith, lt))),
    )

pub record IsPopped (T : Trellis) (left : ℕ) (rows : List Row) (row : Row) : Type 0 where
  pub is_row : IsRow T (T.days - length rows * STRIDE) row
  pub kept : AreKept T (length rows * STRIDE) rows
  pub before : length rows * STRIDE < left

pub kept_popped : (T : Trellis) (left : ℕ) (rows : List Row) (row : Row) → AreKept T left (rows ++ row ∷ []) → IsPopped T left rows row
kept_popped T left rows row (count, each) =
    let long : length (rows ++ row ∷ []) ≡ length rows + 1 = length-append rows (row ∷ []) in
    record {
      is_row = subst (IsRow T (T.days - length rows * STRIDE)) (get_or_push rows row [] (length rows) refl) (each (length rows) (omega arith));
      kept = (omega arith, λ i lt. subst (IsRow T (T.days - i * STRIDE)) (get_or_append_left rows (row ∷ []) [] i lt) (each i (omega (arith, lt))));
      before = omega (arith, long, count);
    }

pub none_kept : (T : Trellis) (left : ℕ) (rows : List Row) → AreKept T left rows → length rows ≡ 0 → left ≡ 0
none_kept T left rows (count, each) none = omega (arith, count, none)
