-- Walks through a log that passes, and what its lines say of a strip.
use Rattle.std.proofs.Common.{◌≡◌, ℕ, ◌+◌, ◌<◌, ◌≤◌, List, [], ◌∷◌, ◌++◌, length, take, get_or, ◌&&◌, inl, inr, refl, ap, sym, ◌∙◌, subst, arith, Some, None, Option, Bool, true, false, IsTrue}
use Rattle.std.specs.Prelude.{◌↔◌, slice_get, MatchBool, not}
use Rattle.std.proofs.Math.Seq.{take-length}
use Rattle.std.proofs.lemmas.Bool.{cases_lt}
use Rattle.std.proofs.lemmas.List.{take_more}
use Rattle.std.proofs.lemmas.Option.{same_Some, slice_get_within, slice_get_read, get_or_from_slice_get}
use Rattle.rwsp_terms.specs.Instance.{Instance}
use Rattle.refutation_terms.specs.declared.lines.Line.{Line}
use Rattle.refutation_terms.specs.declared.lines.Line.TheVariants.{Closing}
use Rattle.refutation_terms.specs.declared.lines.Leaf.TheVariants.{Words}
use Rattle.refutation_terms.specs.declared.lines.Opening.{Opening}
use Rattle.refutation_terms.specs.Word.{Domains}
use Rattle.refutation_terms.specs.Tree.{opening, lines_leave, domains_at}
use Rattle.refutation_terms.specs.declared.lines.Opening.TheVariants.{Full}
use Rattle.refutation_terms.specs.Log.{Log, GoalFits, Holds, HoldsAt, Passes}
use Rattle.refutation_terms.specs.Strip.{strip, strip_line}
use Rattle.refutation_checker.specs.LineVerdicts.{HoldsByWords}
use Rattle.refutation_checker.specs.LineTexts.{Judging}
use Rattle.refutation_checker.proofs.Passing.{no_front, still_part}
use Rattle.domain_store.specs.States.{State, IsStateOf}
use Rattle.rule_reducer.specs.Citing.{HasList}
use Rattle.refutation_checker.specs.LogVerdicts.{judging_of}
use Rattle.rule_reducer.specs.Without.{HoldsWithout, TellsWithout}
use Rattle.rule_reducer.proofs.Stripped.{line_without}

-- the domains behind the first lines
pub behind : (P : Instance) (o : Opening) (lines : List Line) (k : ℕ) → domains_at P o (take k lines) (length (take k lines)) ≡ domains_at P o lines k
behind P o lines k =
    let under : List Line → Domains = λ ls p z. opening P o p z && lines_leave ls p z in
    ap under (take-length (take k lines))

pub line_at : (P : Instance) (g : Log) (k : ℕ) (line : Line) → slice_get g.lines k ≡ Some line → Passes P g → Holds P g.goal (domains_at P g.opening (take k g.lines) (length (take k g.lines))) line
line_at P g k line got passes = subst (λ D. Holds P g.goal D line) (sym (behind P g.opening g.lines k)) (passes.holds k line got)

-- a line that is read at a place among the lines
pub line_read : (lines seen : List Line) (i : ℕ) (line : Line) → seen ≡ lines → i < length lines → line ≡ get_or seen i line → slice_get lines i ≡ Some line
line_read lines seen i line same less read =
    slice_get_read lines (length lines) i line refl less (subst (λ ls. line ≡ get_or ls i line) same read)

-- the goal of a log that fits may be judged by
pub goal_fits : (P : Instance) (o : Opening) (goal : Option ℕ) → GoalFits P o goal → GoalFits P Full goal
goal_fits P o None fits = tt
goal_fits P o (Some goal) fits = (refl, fits.1, fits.2)

-- a judge of the rules and of the terms of a log
pub same_judging : (P : Instance) (g : Log) (J : Judging) (named : List ℕ) (goal : Option ℕ) (counts : Bool) → J ≡ record { problem = P; named = named; goal = goal; counts = counts } → named ≡ g.named → goal ≡ g.goal → counts ≡ g.counts → J ≡ judging_of P g
same_judging P g J named goal counts is rules goals counting =
    let with_rules : List ℕ → Judging = λ R. record { problem = P; named = R; goal = goal; counts = counts } in
    let with_goal : Option ℕ → Judging = λ o. record { problem = P; named = g.named; goal = o; counts = counts } in
    let with_counts : Bool → Judging = λ b. record { problem = P; named = g.named; goal = g.goal; counts = b } in
    is ∙ ap with_rules rules ∙ ap with_goal goals ∙ ap with_counts counting

-- the walk isn't whole in front of a line
pub not_whole : (P : Instance) (g : Log) (k : ℕ) (w : State) → Passes P g → k < length g.lines → IsStateOf P g.opening (take k g.lines) w → w.whole ≡ false
not_whole P g k w passes less state = still_part P g.opening (take k g.lines) w state (no_front g.lines k passes.tree less)

pub walked_more : (P : Instance) (o : Opening) (lines : List Line) (i : ℕ) (line : Line) (w : State) → slice_get lines i ≡ Some line → IsStateOf P o (take i lines ++ line ∷ []) w → IsStateOf P o (take (i + 1) lines) w
walked_more P o lines i line w here state =
    let less = slice_get_within lines i line here in
    let more : take (i + 1) lines ≡ take i lines ++ line ∷ [] = take_more lines i line less ∙ ap (λ l. take i lines ++ l ∷ []) (get_or_from_slice_get lines i line line here) in
    subst (λ ls. IsStateOf P o ls w) (sym more) state

-- a leaf of words holds by its words
by_words : (P : Instance) (goal : Option ℕ) (D : Domains) (n : ℕ) (line : Line) → HasList line → HoldsByWords P goal D (strip_line P n line) ↔ Holds P goal D (strip_line P n line)
by_words P goal D n (Closing (Words p R claim)) has = (λ h. h, λ h. h)
by_words P goal D n line has = absurd has

pub judged : (P : Instance) (goal : Option ℕ) (D : Domains) (n : ℕ) (line : Line) (b : Bool) → HasList line → IsTrue b ↔ HoldsByWords P goal D (strip_line P n line)
    → MatchBool (not b) (Holds P goal D (strip_line P n line) → ⊥) (Holds P goal D (strip_line P n line))
judged P goal D n line true has h = (by_words P goal D n line has).0 (h.0 refl)
judged P goal D n line false has h = λ holds. let no : false ≡ true = h.1 ((by_words P goal D n line has).1 holds) in cc

pub refuses_here : (P : Instance) (goal : Option ℕ) (D : Domains) (n : ℕ) (line stripped : Line) (b : Bool) → HasList line → stripped ≡ strip_line P n line → IsTrue b ↔ HoldsByWords P goal D stripped
    → MatchBool (not b) (Holds P goal D (strip_line P n line) → ⊥) (Holds P goal D (strip_line P n line))
refuses_here P goal D n line stripped b has same h = judged P goal D n line b has (subst (λ l. IsTrue b ↔ HoldsByWords P goal D l) same h)

-- the first i lines hold without the rule
abbrev pub HoldWithout : Instance → ℕ → Log → ℕ → Type 0
HoldWithout P n g i = (k : ℕ) (line : Line) → k < i → slice_get g.lines k ≡ Some line → HoldsAt P g k (strip_line P n line)

pub holds_more : (P : Instance) (n : ℕ) (g : Log) (i : ℕ) (line : Line) → slice_get g.lines i ≡ Some line → HoldWithout P n g i
    → Holds P g.goal (domains_at P g.opening (take i g.lines) (length (take i g.lines))) (strip_line P n line) → HoldWithout P n g (i + 1)
holds_more P n g i line here before holds k other less there =
    elim (cases_lt k i) [
      | inl lt ↦ before k other lt there
      | inr le ↦
          let same : k ≡ i = omega (arith, less, le) in
          let e : line ≡ other = same_Some line other (sym here ∙ ap (slice_get g.lines) (sym same) ∙ there) in
          subst (λ j. HoldsAt P g j (strip_line P n other)) (sym same)
          (subst (λ l. HoldsAt P g i (strip_line P n l)) e (subst (λ D. Holds P g.goal D (strip_line P n line)) (behind P g.opening g.lines i) holds))
    ]

pub holds_all : (P : Instance) (n : ℕ) (g : Log) (i : ℕ) → length g.lines ≤ i → HoldWithout P n g i → HoldsWithout P n g
holds_all P n g i all h = λ k line got. h k line (omega (arith, slice_get_within g.lines k line got)) got

pub told_of : (J K : Judging) (n : ℕ) (line : Line) (w : State) (b : Bool) → K ≡ J → TellsWithout K n line w b → TellsWithout J n line w b
told_of J K n line w b same tells = subst (λ (X : Judging). TellsWithout X n line w b) same tells

pub refused_there : (P : Instance) (n : ℕ) (g : Log) (i : ℕ) (line : Line) → slice_get g.lines i ≡ Some line
    → (Holds P g.goal (domains_at P g.opening (take i g.lines) (length (take i g.lines))) (strip_line P n line) → ⊥) → Passes P (strip P n g) → ⊥
refused_there P n g i line here fails passes =
    fails (subst (λ D. Holds P g.goal D (strip_line P n line)) (sym (behind P g.opening g.lines i)) (line_without P n g i line here passes))

pub tells_refusal : (P : Instance) (n : ℕ) (g : Log) (i : ℕ) (line : Line) (w : State) (b : Bool) → slice_get g.lines i ≡ Some line → Passes P g → IsStateOf P g.opening (take i g.lines) w
    → TellsWithout (judging_of P g) n line w b → b ≡ true → Passes P (strip P n g) → ⊥
tells_refusal P n g i line w b here passes state tells so =
    let D = domains_at P g.opening (take i g.lines) (length (take i g.lines)) in
    refused_there P n g i line here
    (subst (λ t. MatchBool t (Holds P g.goal D (strip_line P n line) → ⊥) (Holds P g.goal D (strip_line P n line))) so (tells g.opening (take i g.lines) state (line_at P g i line here passes)))

pub tells_hold : (P : Instance) (n : ℕ) (g : Log) (i : ℕ) (line : Line) (w : State) (b : Bool) → slice_get g.lines i ≡ Some line → Passes P g → IsStateOf P g.opening (take i g.lines) w
    → TellsWithout (judging_of P g) n line w b → b ≡ false → HoldWithout P n g i → HoldWithout P n g (i + 1)
tells_hold P n g i line w b here passes state tells no_refusal before =
    let D = domains_at P g.opening (take i g.lines) (length (take i g.lines)) in
    holds_more P n g i line here before
    (subst (λ t. MatchBool t (Holds P g.goal D (strip_line P n line) → ⊥) (Holds P g.goal D (strip_line P n line))) no_refusal (tells g.opening (take i g.lines) state (line_at P g i line here passes)))
