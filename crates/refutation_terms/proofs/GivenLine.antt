-- The line of given cells in a log's text.
use Rattle.std.proofs.Common.{◌≡◌, ℕ, zero, suc, ◌<◌, List, [], ◌∷◌, ◌++◌, refl, ap, sym, ◌∙◌, subst, arith, Some, None, map, inl, inr}
use Rattle.std.specs.Prelude.{codes, All, slice_get}
use Rattle.std.specs.List.{flat_map}
use Rattle.std.specs.List.Sorted.{IsStrictlyIncreasing}
use Rattle.std.proofs.lemmas.List.{append-nil}
use Rattle.std.proofs.lemmas.List.Elements.{All-nil, All-cons, All-head, All-tail}
use Rattle.rwsp_text.specs.Fields.{Words, NamedCell, AreNamedCells, cell_fields}
use Rattle.rwsp_text.specs.Kinds.{IsLine, IsReadable}
use Rattle.rwsp_text.specs.Lines.{AreWords}
use Rattle.rwsp_text.proofs.Cells.{IsNamedCell, places}
use Rattle.rwsp_text.proofs.KindLaws.{no_words, lines_are_words, lines_say_one}
use Rattle.rwsp_text.proofs.LineLaws.{same_words}
use Rattle.rwsp_terms.specs.Instance.{Instance, cells, IsSymbol, symbol_of, name_of}
use Rattle.refutation_terms.specs.declared.cells.GivenCell.{GivenCell}
use Rattle.refutation_terms.specs.declared.lines.LogRefusal.{LogRefusal}
use Rattle.refutation_terms.specs.declared.lines.LogRefusal.TheVariants as Refusals
use Rattle.refutation_terms.specs.GivenCells.{AreGivenIn}
use Rattle.refutation_terms.specs.LogText.{cells_kinds, named_cell, cells_text}
use Rattle.refutation_terms.specs.Verdict.{SpellsCells, CellsCause}
use Rattle.refutation_terms.specs.TextLaws.{IsWritable, HasNames}

-- The line by the names of the symbols.

abbrev pub cells_fields : Instance → List NamedCell → Words
cells_fields P named = codes "cells" ∷ flat_map (cell_fields P.days) named

pub cells_readable : (P : Instance) → IsWritable P → IsReadable (cells_kinds P)
cells_readable P w = ((((omega (arith, w.1), omega (arith, w.0), tt), tt), refl, tt), tt)

pub cells_line : (P : Instance) (named : List NamedCell) → AreNamedCells (cells P) named → IsLine (cells_kinds P) (cells_fields P named) named
cells_line P named h = inl (refl, record { values = (named, tt); keeps = (h, tt); spelled = sym (append-nil (flat_map (cell_fields P.days) named)); made = refl })

pub cells_line_found : (P : Instance) (ws : Words) (named : List NamedCell) → IsLine (cells_kinds P) ws named → (ws ≡ cells_fields P named) × AreNamedCells (cells P) named
cells_line_found P [] named l = absurd (no_words (cells_kinds P) named l)
cells_line_found P (w ∷ ws) named (inl l) =
    let s = l.1 in
    subst (λ n. (w ∷ ws ≡ cells_fields P n) × AreNamedCells (cells P) n) s.made (ap (λ z. z ∷ ws) l.0 ∙ ap (λ us. codes "cells" ∷ us) (s.spelled ∙ append-nil (flat_map (cell_fields P.days) s.values.0)), s.keeps.0)
cells_line_found P (w ∷ ws) named (inr l) = absurd l

pub cells_words : (P : Instance) (named : List NamedCell) → IsWritable P → AreNamedCells (cells P) named → AreWords (cells_fields P named)
cells_words P named w h = lines_are_words (cells_kinds P) (cells_fields P named) named (cells_readable P w) (cells_line P named h)

pub cells_same : (P : Instance) (named other : List NamedCell) → IsWritable P → AreNamedCells (cells P) named → AreNamedCells (cells P) other → cells_fields P named ≡ cells_fields P other → named ≡ other
cells_same P named other w h k e =
    lines_say_one (cells_kinds P) (cells_fields P named) named other (cells_readable P w) (cells_line P named h) (subst (λ ws. IsLine (cells_kinds P) ws other) (sym e) (cells_line P other k))

-- bytes spell one list of cells
pub one_spelling : (P : Instance) (bytes : List ℕ) (named other : List NamedCell) → IsWritable P → SpellsCells P bytes named → SpellsCells P bytes other → named ≡ other
one_spelling P bytes named other w a b =
    let same = same_words (cells_fields P named) (cells_fields P other) [] [] (cells_words P named w a.0) (cells_words P other w b.0) (ap (λ t. t ++ []) (sym a.1 ∙ b.1)) in
    cells_same P named other w a.0 b.0 same.0

-- The line of given cells.

abbrev pub given_fields : Instance → List GivenCell → Words
given_fields P given = cells_fields P (map (named_cell P) given)

abbrev IsCellOf : Instance → GivenCell → Type 0
IsCellOf P c = (c.p < cells P) × IsSymbol P c.x

pub same_places : (P : Instance) (given : List GivenCell) → places (map (named_cell P) given) ≡ map (λ c. c.p) given
same_places P [] = refl
same_places P (c ∷ given) = ap (λ ps. c.p ∷ ps) (same_places P given)

all_named : (P : Instance) (given : List GivenCell) → HasNames P → All (IsCellOf P) given → All (IsNamedCell (cells P)) (map (named_cell P) given)
all_named P [] names h = All-nil (IsNamedCell (cells P))
all_named P (c ∷ given) names h =
    let here = All-head (IsCellOf P) c given h in
    All-cons (IsNamedCell (cells P)) (named_cell P c) (map (named_cell P) given) (here.0, (names c.x here.1).0) (all_named P given names (All-tail (IsCellOf P) c given h))

-- given cells are cells by the names of their symbols
pub named_are : (P : Instance) (given : List GivenCell) → HasNames P → AreGivenIn P given → AreNamedCells (cells P) (map (named_cell P) given)
named_are P given names h = (subst IsStrictlyIncreasing (sym (same_places P given)) h.0, all_named P given names h.1)

-- cells with one writing are equal
unnamed_same : (P : Instance) (given other : List GivenCell) → HasNames P → All (IsCellOf P) given → All (IsCellOf P) other → map (named_cell P) given ≡ map (named_cell P) other → given ≡ other
unnamed_same P [] [] names h k e = refl
unnamed_same P [] (d ∷ other) names h k e = absurd (cc)
unnamed_same P (c ∷ given) [] names h k e = absurd (cc)
unnamed_same P (c ∷ given) (d ∷ other) names h k e =
    let first : named_cell P c ≡ named_cell P d = cc in
    let rest : map (named_cell P) given ≡ map (named_cell P) other = cc in
    let is = All-head (IsCellOf P) c given h in
    let is' = All-head (IsCellOf P) d other k in
    let place : c.p ≡ d.p = ap (λ (n : NamedCell). n.p) first in
    let name : name_of P c.x ≡ name_of P d.x = ap (λ (n : NamedCell). n.name) first in
    let both : Some c.x ≡ Some d.x = sym (names c.x is.1).1 ∙ ap (symbol_of P) name ∙ (names d.x is'.1).1 in
    let symbol : c.x ≡ d.x = cc in
    ap (λ p. record { p = p; x = c.x } ∷ given) place ∙ ap (λ x. record { p = d.p; x = x } ∷ given) symbol
    ∙ ap (λ g. d ∷ g) (unnamed_same P given other names (All-tail (IsCellOf P) c given h) (All-tail (IsCellOf P) d other k) rest)

pub given_words : (P : Instance) (given : List GivenCell) → IsWritable P → HasNames P → AreGivenIn P given → AreWords (given_fields P given)
given_words P given w names h = cells_words P (map (named_cell P) given) w (named_are P given names h)

pub given_same : (P : Instance) (given other : List GivenCell) → IsWritable P → HasNames P → AreGivenIn P given → AreGivenIn P other → given_fields P given ≡ given_fields P other → given ≡ other
given_same P given other w names h k e =
    unnamed_same P given other names h.1 k.1 (cells_same P (map (named_cell P) given) (map (named_cell P) other) w (named_are P given names h) (named_are P other names k) e)

-- Causes to refuse it.

pub cells_cause_same : (P : Instance) (bytes : List ℕ) (why other : LogRefusal) → CellsCause P bytes why → CellsCause P bytes other → why ≡ other
cells_cause_same P bytes (Refusals.Form i) (Refusals.Form j) a b = ap Refusals.Form (a.0 ∙ sym b.0)
cells_cause_same P bytes (Refusals.Form i) (Refusals.Name j) a b = absurd (a.1 b.1.0 b.1.1)
cells_cause_same P bytes (Refusals.Name i) (Refusals.Form j) a b = absurd (b.1 a.1.0 a.1.1)
cells_cause_same P bytes (Refusals.Name i) (Refusals.Name j) a b = ap Refusals.Name (a.0 ∙ sym b.0)
cells_cause_same P bytes (Refusals.Form i) other a b = absurd b
cells_cause_same P bytes (Refusals.Name i) other a b = absurd b
cells_cause_same P bytes why other a b = absurd a

-- the name of each given cell is that of a symbol
all_known : (P : Instance) (given : List GivenCell) → HasNames P → All (IsCellOf P) given → (k : ℕ) (c : NamedCell) → slice_get (map (named_cell P) given) k ≡ Some c → symbol_of P c.name ≡ None → ⊥
all_known P [] names h k c e none = cc
all_known P (g ∷ given) names h zero c e none =
    let same : named_cell P g ≡ c = cc in
    let clash : None ≡ Some g.x = sym none ∙ ap (λ (n : NamedCell). symbol_of P n.name) (sym same) ∙ (names g.x (All-head (IsCellOf P) g given h).1).1 in cc
all_known P (g ∷ given) names h (suc k) c e none = all_known P given names (All-tail (IsCellOf P) g given h) k c e none

-- the line of given cells that fit has no cause
pub cells_refute : (P : Instance) (given : List GivenCell) (why : LogRefusal) → IsWritable P → HasNames P → AreGivenIn P given → CellsCause P (cells_text P given) why → ⊥
cells_refute P given (Refusals.Form i) w names are h = h.1 (map (named_cell P) given) (named_are P given names are, refl)
cells_refute P given (Refusals.Name i) w names are h =
    let u = h.1 in
    let same : u.0 ≡ map (named_cell P) given = one_spelling P (cells_text P given) u.0 (map (named_cell P) given) w u.1 (named_are P given names are, refl) in
    all_known P given names are.1 u.2.0 u.2.1 (subst (λ named. slice_get named u.2.0 ≡ Some u.2.1) same u.2.2) u.2.3
cells_refute P given why w names are h = h
