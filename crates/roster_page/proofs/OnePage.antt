-- A roster has one page.
use Rattle.std.proofs.Common.{◌≡◌, ℕ, ◌<◌, ◌≤◌, List, length, Option, Some, None, refl, ap, sym, ◌∙◌, arith}
use Rattle.rwsp_terms.specs.Instance.{Instance}
use Rattle.rwsp_terms.specs.Window.{cell}
use Rattle.rwsp_terms.specs.declared.data.Symbol.{Symbol}
use Rattle.roster_page.specs.LeastRest.{IsLeast, IsLeastRest}
use Rattle.roster_page.specs.PageText.{IsPage, page_text}

some_or_none : (P : Instance) (s : List Symbol) (m : ℕ) → IsLeast P s (length s) m → ((p : ℕ) → p < length s → (cell s p).number ≡ 0) → ⊥
some_or_none P s m h none =
    let off = none h.place h.within in
    let on = h.next.here in
    omega (arith, off, on)

least_once : (P : Instance) (s : List Symbol) (m n : ℕ) → IsLeast P s (length s) m → IsLeast P s (length s) n → m ≤ n
least_once P s m n h k =
    let le = h.none_less k.place k.days k.within k.next in
    let is = k.reached in
    omega (arith, le, is)

one_least : (P : Instance) (s : List Symbol) (a b : Option ℕ) → IsLeastRest P s a → IsLeastRest P s b → a ≡ b
one_least P s None None h k = refl
one_least P s None (Some n) h k = absurd (some_or_none P s n k h)
one_least P s (Some m) None h k = absurd (some_or_none P s m h k)
one_least P s (Some m) (Some n) h k =
    let same : m ≡ n = omega (arith, least_once P s m n h k, least_once P s n m k h) in
    ap Some same

pub one_page_text : (P : Instance) (s : List Symbol) (text other : List ℕ) → IsPage P s text → IsPage P s other → text ≡ other
one_page_text P s text other h k = h.is ∙ ap (page_text P s) (one_least P s h.rest k.rest h.least k.least) ∙ sym k.is
