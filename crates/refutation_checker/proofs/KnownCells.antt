-- Cells that a line spells by names: either each name is a symbol's, or one is that of none.
use Rattle.std.proofs.Common.{◌≡◌, ◌⊎◌, ℕ, suc, ◌<◌, List, [], ◌∷◌, refl, ap, sym, ◌∙◌, subst, inl, inr, Option, Some, None}
use Rattle.std.specs.Prelude.{All, map}
use Rattle.std.specs.List.Sorted.{IsStrictlyIncreasing}
use Rattle.std.proofs.lemmas.List.Elements.{All-nil, All-cons, All-head, All-tail}
use Rattle.rwsp_text.specs.Fields.{NamedCell}
use Rattle.rwsp_text.proofs.Cells.{IsNamedCell}
use Rattle.rwsp_terms.specs.declared.data.Symbol.{Symbol}
use Rattle.rwsp_terms.specs.Instance.{Instance, cells, symbol_of}
use Rattle.refutation_terms.specs.declared.cells.GivenCell.{GivenCell}
use Rattle.refutation_terms.specs.GivenCells.{AreGivenIn}
use Rattle.refutation_terms.specs.LogText.{named_cell, named_cells_text, cells_text}
use Rattle.refutation_terms.specs.Verdict.{SpellsCells, HasUnknown}
use Rattle.refutation_terms.proofs.LineTables.{symbol_of-name}
use Rattle.refutation_log.specs.Printing.{IsCellOf}

record KnownCells (P : Instance) (named : List NamedCell) : Type 0 where
  given : List GivenCell
  same : named ≡ map (named_cell P) given
  places : map (λ c. c.p) given ≡ map (λ c. c.p) named
  fit : All (IsCellOf P) given

known_by : (P : Instance) (c : NamedCell) (named : List NamedCell) (found : Option Symbol) → symbol_of P c.name ≡ found → c.p < cells P → KnownCells P named ⊎ HasUnknown P named → KnownCells P (c ∷ named) ⊎ HasUnknown P (c ∷ named)
known_by P c named None e within rest = inr (0, c, refl, e)
known_by P c named (Some x) e within (inr u) = inr (suc u.0, u.1, u.2, u.3)
known_by P c named (Some x) e within (inl k) =
    let symbol = symbol_of-name P c.name x e in
    let g : GivenCell = record { p = c.p; x = x } in
    let is : c ≡ named_cell P g = ap (λ (m : List ℕ). record { p = c.p; name = m }) (sym symbol.1) in
    inl (record {
      given = g ∷ k.given;
      same = ap (λ d. d ∷ named) is ∙ ap (λ ns. named_cell P g ∷ ns) k.same;
      places = ap (λ ps. c.p ∷ ps) k.places;
      fit = All-cons (IsCellOf P) g k.given (within, symbol.0) k.fit;
    })

known : (P : Instance) (named : List NamedCell) → All (IsNamedCell (cells P)) named → KnownCells P named ⊎ HasUnknown P named
known P [] h = inl (record { given = []; same = refl; places = refl; fit = All-nil (IsCellOf P) })
known P (c ∷ named) h =
    known_by P c named (symbol_of P c.name) refl (All-head (IsNamedCell (cells P)) c named h).0 (known P named (All-tail (IsNamedCell (cells P)) c named h))

-- a line that spells cells gives cells of the problem, or has a name that is no symbol's
pub spelled_cells : (P : Instance) (bytes : List ℕ) (named : List NamedCell) → SpellsCells P bytes named → ((given : List GivenCell) × AreGivenIn P given × (bytes ≡ cells_text P given)) ⊎ HasUnknown P named
spelled_cells P bytes named spells =
    elim (known P named spells.0.1) [
      | inr unknown ↦ inr unknown
      | inl k ↦ inl (k.given, (subst IsStrictlyIncreasing (sym k.places) spells.0.0, k.fit), spells.1 ∙ ap (named_cells_text P) k.same)
    ]
