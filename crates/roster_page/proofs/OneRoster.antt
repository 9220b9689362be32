-- A page shows one roster: the one that is read back.
use Rattle.std.proofs.Common.{◌≡◌, ℕ, zero, suc, ◌+◌, ◌*◌, ◌<◌, List, [], ◌∷◌, ◌++◌, length, take, drop, map, Option, Some, refl, ap, sym, subst, ◌∙◌, arith, length-drop}
use Rattle.std.specs.List.{range_with_len}
use Rattle.std.proofs.lemmas.List.{drop-drop, take-append-drop}
use Rattle.rwsp_terms.specs.declared.data.Symbol.{Symbol}
use Rattle.roster_print.specs.RosterText.{week_at}
use Rattle.roster_page.specs.Laws.{PagesShowOneRoster}
use Rattle.roster_page.proofs.PageRead.{pages_are_read_back}

-- what two functions give of the numbers of a range
each_same : (f g : ℕ → List (Option Symbol)) (from n : ℕ) → map f (range_with_len from n) ≡ map g (range_with_len from n) → (k : ℕ) → k < n → f (from + k) ≡ g (from + k)
each_same f g from zero e k less = absurd (omega (arith, less))
each_same f g from (suc n) e zero less =
    let first : f from ≡ g from = cc in
    let here : from ≡ from + zero = omega arith in
    subst (λ j. f j ≡ g j) here first
each_same f g from (suc n) e (suc k) less =
    let others : map f (range_with_len (from + 1) n) ≡ map g (range_with_len (from + 1) n) = cc in
    let there : from + 1 + k ≡ from + suc k = omega arith in
    subst (λ j. f j ≡ g j) there (each_same f g (from + 1) n others k (omega (arith, less)))

symbols_same : (v w : List Symbol) → map Some v ≡ map Some w → v ≡ w
symbols_same [] [] e = refl
symbols_same [] (y ∷ w) e = absurd (cc)
symbols_same (x ∷ v) [] e = absurd (cc)
symbols_same (x ∷ v) (y ∷ w) e =
    let first : x ≡ y = cc in
    let others : map Some v ≡ map Some w = cc in
    ap (λ z. z ∷ v) first ∙ ap (λ u. y ∷ u) (symbols_same v w others)

-- the weeks of a roster tell it
no_cells : (s : List Symbol) → length s ≡ 0 → s ≡ []
no_cells [] e = refl
no_cells (x ∷ s) e = absurd (omega (arith, e))

weeks_tell : (d n : ℕ) (s t : List Symbol) → length s ≡ n * d → length t ≡ n * d → ((k : ℕ) → k < n → take d (drop (k * d) s) ≡ take d (drop (k * d) t)) → s ≡ t
weeks_tell d zero s t ls lt each =
    let none_s : length s ≡ 0 = omega (arith, ls) in
    let none_t : length t ≡ 0 = omega (arith, lt) in
    no_cells s none_s ∙ sym (no_cells t none_t)
weeks_tell d (suc n) s t ls lt each =
    let none : zero * d ≡ 0 = omega arith in
    let first : take d s ≡ take d t = subst (λ (j : ℕ). take d (drop j s) ≡ take d (drop j t)) none (each 0 (omega arith)) in
    let others : drop d s ≡ drop d t = weeks_tell d n (drop d s) (drop d t) (omega (arith, ls, length-drop d s)) (omega (arith, lt, length-drop d t)) (λ k less.
    let next : d + k * d ≡ suc k * d = omega arith in
    ap (take d) (drop_again k s) ∙ ap (λ (j : ℕ). take d (drop j s)) next ∙ each (suc k) (omega (arith, less)) ∙ sym (ap (λ (j : ℕ). take d (drop j t)) next) ∙ sym (ap (take d) (drop_again k t))) in
    sym (take-append-drop d s) ∙ ap (λ v. v ++ drop d s) first ∙ ap (λ v. take d t ++ v) others ∙ take-append-drop d t
  where
    drop_again : (k : ℕ) (u : List Symbol) → drop (k * d) (drop d u) ≡ drop (d + k * d) u
    drop_again k u = drop-drop (k * d) d u

pub pages_show_one_roster : PagesShowOneRoster
pages_show_one_roster P s t text limits rs rt hs ht =
    let first = pages_are_read_back P s text limits rs hs in
    let second = pages_are_read_back P t text limits rt ht in
    let weeks = each_same (λ k. map Some (week_at P s k)) (λ k. map Some (week_at P t k)) 0 P.weeks (sym first.names ∙ second.names) in
    weeks_tell P.days P.weeks s t rs.long rt.long (λ k less.
    let here : 0 + k ≡ k = omega arith in
    symbols_same (week_at P s k) (week_at P t k) (subst (λ j. map Some (week_at P s j) ≡ map Some (week_at P t j)) here (weeks k less)))
