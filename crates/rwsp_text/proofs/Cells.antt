-- Cells are read from the words that write them.
use Rattle.std.proofs.Common.{◌≡◌, ℕ, ◌+◌, ◌-◌, ◌*◌, ◌/◌, ◌%◌, ◌^◌, ◌<◌, ◌≤◌, List, [], ◌∷◌, ◌++◌, refl, ap, ◌∙◌, subst, arith, Some, None, ◌&&◌, cond}
use Rattle.std.specs.Prelude.{All, map, nat_le}
use Rattle.std.specs.List.{flat_map}
use Rattle.std.specs.Fmt.{decimal}
use Rattle.std.proofs.lemmas.Bool.{leb-true, le-leb, and_parts, and_from}
use Rattle.std.proofs.lemmas.List.Elements.{All-nil, All-cons, All-head, All-tail}
use Rattle.rwsp_text.specs.Fields.{Words, ◌>>=◌, IsName, NamedCell, AreNamedCells, week_and_day, cell_fields, within, number_in, is_name, position_in, cells_from, cells_at}
use Rattle.rwsp_text.proofs.Numerals.{if_some, if_true, bind_found, bind_only, number_found, number_only}
use Rattle.rwsp_text.proofs.Rising.{RisesFrom, increasing, rises_from_zero}
use Rattle.rwsp_text.proofs.Words.{name_found, name_only, place_spelled, place_within, back_to}

abbrev pub IsNamedCell : ℕ → NamedCell → Type 0
IsNamedCell count c = (c.p < count) × IsName c.name

abbrev pub places : List NamedCell → List ℕ
places cells = map (λ c. c.p) cells

-- one position

position_found : (weeks days least p : ℕ) (week day : List ℕ) → position_in weeks days least week day ≡ Some p → (least ≤ p) × (p < weeks * days) × (week ∷ day ∷ [] ≡ week_and_day days p)
position_found weeks days least p week day e =
    let i = bind_found (number_in 1 weeks week) (λ i. number_in 1 days day >>= (λ j. within least (weeks * days) ((i - 1) * days + (j - 1)))) p e in
    let j = bind_found (number_in 1 days day) (λ j. within least (weeks * days) ((i.0 - 1) * days + (j - 1))) p i.2 in
    let q = (i.0 - 1) * days + (j.0 - 1) in
    let t = if_some (nat_le least q && nat_le q (weeks * days)) (Some q) p j.2 in
    let same : q ≡ p = let e = t.1 in cc in
    let a = number_found 1 weeks week i.0 i.1 in
    let b = number_found 1 days day j.0 j.1 in
    let s = place_spelled weeks days i.0 j.0 a.0 a.1 b.0 b.1 in
    let above = (and_parts (nat_le least q) (nat_le q (weeks * days)) t.0).0 in
    subst (λ p. (least ≤ p) × (p < weeks * days) × (week ∷ day ∷ [] ≡ week_and_day days p)) same
    (leb-true least q above, s.0, ap (λ w. w ∷ day ∷ []) a.2 ∙ ap (λ w. decimal i.0 ∷ w ∷ []) b.2 ∙ s.1)

position_only : (weeks days least p : ℕ) → weeks < 10 ^ 19 → days < 10 ^ 19 → least ≤ p → p < weeks * days → position_in weeks days least (decimal (p / days + 1)) (decimal (p % days + 1)) ≡ Some p
position_only weeks days least p some few above less =
    let a = p / days in
    let b = p % days in
    let in' = place_within weeks days p less in
    let back : (a + 1 - 1) * days + (b + 1 - 1) ≡ p = back_to days p in
    bind_only (number_in 1 weeks (decimal (a + 1))) (λ i. number_in 1 days (decimal (b + 1)) >>= (λ j. within least (weeks * days) ((i - 1) * days + (j - 1)))) (a + 1) (Some p)
    (number_only 1 weeks (a + 1) (omega arith) (omega (arith, in'.0)) some)
    (bind_only (number_in 1 days (decimal (b + 1))) (λ j. within least (weeks * days) ((a + 1 - 1) * days + (j - 1))) (b + 1) (Some p)
    (number_only 1 days (b + 1) (omega arith) (omega (arith, in'.1)) few)
    (ap (within least (weeks * days)) back
    ∙ if_true (nat_le least p && nat_le p (weeks * days)) (Some p) None (and_from (nat_le least p) (nat_le p (weeks * days)) (le-leb least p above) (le-leb p (weeks * days) (omega (arith, less))))))

-- cells from a position on

abbrev AreFound : ℕ → ℕ → ℕ → Words → List NamedCell → Type 0
AreFound weeks days least ws cells = (ws ≡ flat_map (cell_fields days) cells) × RisesFrom least (places cells) × All (IsNamedCell (weeks * days)) cells

found_from : (weeks days least : ℕ) (ws : Words) (cells : List NamedCell) → cells_from weeks days least ws ≡ Some cells → AreFound weeks days least ws cells
found_from weeks days least [] cells e = let none : [] ≡ cells = cc in subst (AreFound weeks days least []) none (refl, tt, All-nil (IsNamedCell (weeks * days)))
found_from weeks days least (week ∷ []) cells e = absurd (cc)
found_from weeks days least (week ∷ day ∷ []) cells e = absurd (cc)
found_from weeks days least (week ∷ day ∷ name ∷ ws) cells e =
    let p = bind_found (position_in weeks days least week day) (λ p. (cond (is_name name) (cells_from weeks days (p + 1) ws) None) >>= (λ later. Some (record { p = p; name = name } ∷ later))) cells e in
    let later = bind_found (cond (is_name name) (cells_from weeks days (p.0 + 1) ws) None) (λ later. Some (record { p = p.0; name = name } ∷ later)) cells p.2 in
    let named = if_some (is_name name) (cells_from weeks days (p.0 + 1) ws) later.0 later.1 in
    let f = position_found weeks days least p.0 week day p.1 in
    let rest = found_from weeks days (p.0 + 1) ws later.0 named.1 in
    let c : NamedCell = record { p = p.0; name = name } in
    let same : c ∷ later.0 ≡ cells = let s = later.2 in cc in
    subst (AreFound weeks days least (week ∷ day ∷ name ∷ ws)) same (
      ap (λ us. (us ++ (name ∷ [])) ++ ws) f.2 ∙ ap (λ us. cell_fields days c ++ us) rest.0,
      (f.0, rest.1),
      All-cons (IsNamedCell (weeks * days)) c later.0 (f.1, name_found name named.0) rest.2,
    )

only_from : (weeks days least : ℕ) (cells : List NamedCell) → weeks < 10 ^ 19 → days < 10 ^ 19 → RisesFrom least (places cells) → All (IsNamedCell (weeks * days)) cells → cells_from weeks days least (flat_map (cell_fields days) cells) ≡ Some cells
only_from weeks days least [] some few up h = refl
only_from weeks days least (c ∷ cells) some few up h =
    let here = All-head (IsNamedCell (weeks * days)) c cells h in
    let ws = flat_map (cell_fields days) cells in
    bind_only (position_in weeks days least (decimal (c.p / days + 1)) (decimal (c.p % days + 1))) (λ p. (cond (is_name c.name) (cells_from weeks days (p + 1) ws) None) >>= (λ later. Some (record { p = p; name = c.name } ∷ later))) c.p (Some (c ∷ cells))
    (position_only weeks days least c.p some few up.0 here.0)
    (bind_only (cond (is_name c.name) (cells_from weeks days (c.p + 1) ws) None) (λ later. Some (record { p = c.p; name = c.name } ∷ later)) cells (Some (c ∷ cells))
    (if_true (is_name c.name) (cells_from weeks days (c.p + 1) ws) None (name_only c.name here.1) ∙ only_from weeks days (c.p + 1) cells some few up.1 (All-tail (IsNamedCell (weeks * days)) c cells h))
    refl)

-- all cells

pub cells_found : (weeks days : ℕ) (ws : Words) (cells : List NamedCell) → cells_at weeks days ws ≡ Some cells → (ws ≡ flat_map (cell_fields days) cells) × AreNamedCells (weeks * days) cells
unfolding cells_at
cells_found weeks days ws cells e = let f = found_from weeks days 0 ws cells e in (f.0, (increasing 0 (places cells) f.1, f.2))

pub cells_only : (weeks days : ℕ) (cells : List NamedCell) → weeks < 10 ^ 19 → days < 10 ^ 19 → AreNamedCells (weeks * days) cells → cells_at weeks days (flat_map (cell_fields days) cells) ≡ Some cells
unfolding cells_at
cells_only weeks days cells some few h = only_from weeks days 0 cells some few (rises_from_zero (places cells) h.0) h.1
