-- What texts that spell given cells have, and when they are refused.
use Rattle.std.proofs.Common.{◌≡◌, ℕ, suc, ◌+◌, ◌<◌, ◌≤◌, List, [], ◌∷◌, length, Option, Some, None, Bool, true, false, cond, ◌&&◌, ap, sym, ◌∙◌, refl, arith, subst}
use Rattle.std.specs.Prelude.{map, MatchOption, All, IfSome}
use Rattle.std.specs.List.{flat_map, AllByRecursion}
use Rattle.std.specs.Option.{option_map}
use Rattle.std.specs.Str.{bytes_eq}
use Rattle.std.proofs.lemmas.List.Elements.{All-nil, All-cons}
use Rattle.rwsp_terms.proofs.SymbolNames.{symbol_found}
use Rattle.rwsp_terms.specs.Instance.{Instance, cells, symbol_of, IsSymbol}
use Rattle.rwsp_terms.specs.declared.data.Symbol.{Symbol}
use Rattle.roster_print.specs.Said.{open_word, said_of}
use Rattle.roster_print.specs.RosterText.{weeks_of, SpellsWeeks}
use Rattle.roster_print.specs.declared.refusal.RosterRefusal.{RosterRefusal}
use Rattle.roster_print.proofs.Spelling as Spelling
use Rattle.refutation_terms.specs.declared.cells.GivenCell.{GivenCell}
use Rattle.refutation_terms.specs.GivenCells.{AreGivenIn}
use Rattle.refutation_log.specs.CellsText.{given_from, SpellsGiven, refusal_of_cells}
use Rattle.refutation_log.specs.CellsLaws.{TextGivesOneList, RefusalsDecideCells, SpelledAreGiven}
use Rattle.rwsp_text.proofs.Rising.{RisesFrom, increasing}

pub one_list : TextGivesOneList
one_list P bytes given other (said, a, from) (same, b, by) = from ∙ ap (given_from 0) (Spelling.one_list P (said_of P true) bytes said same a b) ∙ sym by

-- the cells are cells of the problem

abbrev IsSaid : Instance → Option Symbol → Type 0
IsSaid P o = IfSome o (IsSymbol P)

said_by : (P : Instance) (word : List ℕ) (o : Option Symbol) (b : Bool) (found : Option Symbol) → symbol_of P word ≡ found → cond b (Some None) (option_map Some found) ≡ Some o → IsSaid P o
said_by P word o true found e h = let none : None ≡ o = cc in subst (IsSaid P) none tt
said_by P word o false None e h = absurd (cc)
said_by P word o false (Some x) e h = let some : Some x ≡ o = cc in subst (IsSaid P) some (symbol_found P word x e).0

said_is : (P : Instance) (word : List ℕ) (o : Option Symbol) → said_of P true word ≡ Some o → IsSaid P o
said_is P word o e = said_by P word o (true && bytes_eq word open_word) (symbol_of P word) refl e

said_are : (P : Instance) (words : List (List ℕ)) (said : List (Option Symbol)) → map (said_of P true) words ≡ map Some said → AllByRecursion (IsSaid P) said
said_are P words [] e = tt
said_are P [] (o ∷ said) e = absurd (cc)
said_are P (word ∷ words) (o ∷ said) e = (said_is P word o (cc), said_are P words said (cc))

-- the positions of the cells that have a symbol ascend, and each is one of these
given_rise : (p : ℕ) (said : List (Option Symbol)) → RisesFrom p (map (λ c. c.p) (given_from p said))
given_rise p said = from p p said (omega arith)
  where
    from : (n p : ℕ) (said : List (Option Symbol)) → n ≤ p → RisesFrom n (map (λ c. c.p) (given_from p said))
    from n p [] le = tt
    from n p (None ∷ said) le = from n (suc p) said (omega (arith, le))
    from n p (Some x ∷ said) le = (le, from (p + 1) (suc p) said (omega arith))

abbrev IsWithin : Instance → ℕ → GivenCell → Type 0
IsWithin P end c = (c.p < end) × IsSymbol P c.x

given_within : (P : Instance) (p end : ℕ) (said : List (Option Symbol)) → p + length said ≤ end → AllByRecursion (IsSaid P) said → All (IsWithin P end) (given_from p said)
given_within P p end [] le h = All-nil (IsWithin P end)
given_within P p end (None ∷ said) le h = given_within P (suc p) end said (omega (arith, le)) h.1
given_within P p end (Some x ∷ said) le h =
    All-cons (IsWithin P end) (record { p = p; x = x }) (given_from (suc p) said) (omega (arith, le), h.0) (given_within P (suc p) end said (omega (arith, le)) h.1)

pub spelled_are_given : SpelledAreGiven
spelled_are_given P bytes given (said, a, from) =
    let long : length said ≡ cells P = Spelling.spelled_is_long P (said_of P true) bytes said a in
    let all = given_within P 0 (cells P) said (omega (arith, long)) (said_are P (flat_map (λ week. week) (weeks_of bytes)) said a.names) in
    subst (AreGivenIn P) (sym from) (increasing 0 (map (λ c. c.p) (given_from 0 said)) (given_rise 0 said), all)

-- where there is a refusal, no cells are spelled
pub refused_gives_none : (P : Instance) (bytes : List ℕ) (why : RosterRefusal) → refusal_of_cells P bytes ≡ Some why → (given : List GivenCell) → SpellsGiven P bytes given → ⊥
refused_gives_none P bytes why e given (said, a, from) = Spelling.refused_spells_none P (said_of P true) bytes why e said a

decided_by : (P : Instance) (bytes : List ℕ) (o : Option RosterRefusal) → MatchOption o ((said : List (Option Symbol)) × SpellsWeeks P (said_of P true) bytes said) (λ why. (said : List (Option Symbol)) → SpellsWeeks P (said_of P true) bytes said → ⊥) → MatchOption o ((given : List GivenCell) × SpellsGiven P bytes given) (λ why. (given : List GivenCell) → SpellsGiven P bytes given → ⊥)
decided_by P bytes None (said, a) = (given_from 0 said, (said, a, refl))
decided_by P bytes (Some why) none = λ given h. none h.0 h.1

pub refusals_decide : RefusalsDecideCells
refusals_decide P bytes = decided_by P bytes (refusal_of_cells P bytes) (Spelling.decides P (said_of P true) bytes)
