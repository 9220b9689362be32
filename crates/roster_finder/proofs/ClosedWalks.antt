-- Closed walks through an automaton are clean cyclic words.
use Rattle.std.proofs.Common.{◌≡◌, ℕ, zero, suc, List, [], ◌∷◌, ◌++◌, Option, Some, refl, ap, sym, subst, ◌∙◌}
use Rattle.std.proofs.lemmas.List.{append-nil}
use Rattle.rwsp_terms.specs.declared.data.Symbol.{Symbol}
use Rattle.refutation_terms.specs.Word.{Clean}
use Rattle.refutation_terms.proofs.Windows.{clean-part}
use Rattle.clean_words.specs.Moves.{Moves, after, lead}
use Rattle.clean_words.specs.Automata.{RuleAutomaton, IsAutomaton, begin_at}
use Rattle.roster_finder.specs.Cycles.{repeated, IsCleanCycle, IsClosedWalk}
use Rattle.roster_finder.specs.Led.{LeadsRound, word_of}

-- a word leads on from where the one before it leads
lead_on : (moves : Moves) (s : Option ℕ) (u w : List Symbol) → lead moves s (u ++ w) ≡ lead moves (lead moves s u) w
lead_on moves s [] w = refl
lead_on moves s (x ∷ u) w = lead_on moves (after moves s x) u w

-- a word that leads back leads back however often it is repeated
leads_back : (moves : Moves) (s : ℕ) (w : List Symbol) (k : ℕ) → lead moves (Some s) w ≡ Some s → lead moves (Some s) (repeated k w) ≡ Some s
leads_back moves s w zero closed = refl
leads_back moves s w (suc k) closed =
    lead_on moves (Some s) w (repeated k w)
    ∙ ap (λ (t : Option ℕ). lead moves t (repeated k w)) closed
    ∙ leads_back moves s w k closed

-- what leads to a state and from there round and round is clean
round_clean : (a : RuleAutomaton) → IsAutomaton a → (p s : ℕ) (entry w : List Symbol) (k : ℕ) → lead a.moves (Some (begin_at a p)) entry ≡ Some s → lead a.moves (Some s) w ≡ Some s → Clean a.problem a.rules p (entry ++ repeated k w)
round_clean a is p s entry w k entered closed =
    is.reads p (entry ++ repeated k w) s
    (lead_on a.moves (Some (begin_at a p)) entry (repeated k w)
    ∙ ap (λ (t : Option ℕ). lead a.moves t (repeated k w)) entered
    ∙ leads_back a.moves s w k closed)

pub closed_is_clean : (a : RuleAutomaton) → IsAutomaton a → (p : ℕ) (w : List Symbol) → IsClosedWalk a p w → IsCleanCycle a p w
closed_is_clean a is p w round k =
    let clean : Clean a.problem a.rules round.start (round.entry ++ repeated k w) = round_clean a is round.start round.state round.entry w k round.entered round.closed in
    subst (λ (q : ℕ). Clean a.problem a.rules q (repeated k w)) (sym round.behind)
    (clean-part a.problem a.rules round.start round.entry (repeated k w) [] (subst (Clean a.problem a.rules round.start) (sym (append-nil (round.entry ++ repeated k w))) clean))

-- so is a word that leads from where it leads, read from the first day on, back there
pub round_is_clean : (a : RuleAutomaton) → IsAutomaton a → (numbers : List ℕ) → LeadsRound a numbers → IsCleanCycle a 0 (word_of numbers)
round_is_clean a is numbers round zero = is.reads 0 [] (begin_at a 0) refl
round_is_clean a is numbers round (suc k) = round_clean a is 0 round.0 (word_of numbers) (word_of numbers) k round.1 round.2
