-- What is found behind given cells, and what two such answers agree in.
use Rattle.std.proofs.Common.{◌≡◌, ℕ, List, get_or, sym, subst, ◌∙◌}
use Rattle.std.specs.Prelude.{Some, Contains, slice_get}
use Rattle.std.proofs.lemmas.List.Elements.{All-contains, Contains-get_or}
use Rattle.rwsp_terms.specs.declared.data.Symbol.{Symbol}
use Rattle.rwsp_terms.specs.Instance.{Instance}
use Rattle.refutation_terms.specs.declared.cells.GivenCell.{GivenCell}
use Rattle.refutation_terms.specs.declared.lines.Opening.{Opening}
use Rattle.refutation_terms.specs.GivenCells.{HoldsCells, IsFilled}
use Rattle.refutation_terms.specs.Log.{Log, HoldsOpening}
use Rattle.refutation_terms.specs.Laws.{HasGoal}
use Rattle.refutation_terms.proofs.Sound.{passing_leaves_none}
use Rattle.refutation_log.specs.declared.found.Found.{Found}
use Rattle.refutation_log.specs.declared.found.Found.TheVariants.{Roster, NoRoster, Undecided}
use Rattle.refutation_log.specs.Filled.{IsFillProof, IsFilledWith}
use Rattle.refutation_log.proofs.CellsSpelled.{one_list, refused_gives_none}
use Rattle.commands.specs.Plan.{PlansAgree}
use Rattle.commands.specs.Fill.{IsFillAnswer, FillsAgree}
use Rattle.commands.specs.declared.fill.Answer.{Answer as Fill}
use Rattle.commands.specs.declared.fill.Answer.TheVariants as Fills
use Rattle.commands.proofs.Logs.{meets_named}

-- a roster that holds the given cells and a refutation that names no others exclude each other

holds_named : (given some : List GivenCell) (s : List Symbol) → ((c : GivenCell) → Contains some c → Contains given c) → HoldsCells given s → HoldsCells some s
holds_named given some s names held = λ k d lt. All-contains (λ (c : GivenCell). slice_get s c.p ≡ Some c.x) given (get_or some k d) held (names (get_or some k d) (Contains-get_or some k d lt))

filled_or_refuted : (P : Instance) (given : List GivenCell) (budget : ℕ) (s : List Symbol) (g : Log) → IsFilled P given s → IsFillProof P given budget g → ⊥
filled_or_refuted P given budget s g filled proof =
    passing_leaves_none P g s proof.passes (meets_named P g.named s filled.0)
    (subst (λ goal. HasGoal goal s) (sym proof.no_goal) tt)
    (subst (λ (o : Opening). HoldsOpening o s) (sym proof.gives.1) (holds_named given proof.gives.0 s proof.gives.2 filled.1))

finds_agree : (P : Instance) (given : List GivenCell) (budget : ℕ) (a b : Found) → IsFilledWith P given budget a → IsFilledWith P given budget b → PlansAgree a b
finds_agree P given budget (Roster s) (NoRoster g) h k = filled_or_refuted P given budget s.cells g h.1 k
finds_agree P given budget (NoRoster g) (Roster s) h k = filled_or_refuted P given budget s.cells g k.1 h
finds_agree P given budget (Roster s) (Roster t) h k = tt
finds_agree P given budget (Roster s) (Undecided g) h k = tt
finds_agree P given budget (NoRoster g) (NoRoster e) h k = tt
finds_agree P given budget (NoRoster g) (Undecided e) h k = tt
finds_agree P given budget (Undecided g) b h k = tt

pub fills_agree : (P : Instance) (bytes : List ℕ) (budget : ℕ) (a b : Fill) → IsFillAnswer P bytes budget a → IsFillAnswer P bytes budget b → FillsAgree a b
fills_agree P bytes budget (Fills.Found a) (Fills.Found b) h k =
    let same : k.0 ≡ h.0 = one_list P bytes k.0 h.0 k.1 h.1 in
    finds_agree P h.0 budget a b h.2 (subst (λ (given : List GivenCell). IsFilledWith P given budget b) same k.2)
fills_agree P bytes budget (Fills.Found a) (Fills.Refused why) h k = refused_gives_none P bytes why k h.0 h.1
fills_agree P bytes budget (Fills.Refused why) (Fills.Found b) h k = refused_gives_none P bytes why h k.0 k.1
fills_agree P bytes budget (Fills.Refused why) (Fills.Refused other) h k = let both : Some why ≡ Some other = sym h ∙ k in cc
