-- The lines of a log, judged one after the other.
use Rattle.std.proofs.Common.{◌≡◌, ℕ, suc, ◌+◌, ◌<◌, List, [], ◌∷◌, ◌++◌, length, take, drop, refl, ap, sym, ◌∙◌, subst, arith, Option, Some, None, Result, Ok, Err, inl, inr, true, false, append_assoc, Bool, IsTrue, ◌&&◌, not}
use Rattle.std.specs.Prelude.{MatchOption, IfOk, slice_get, codes, is_some, ◌↔◌}
use Rattle.std.specs.List.{join_with_byte, flat_map}
use Rattle.std.specs.Fmt.{decimal}
use Rattle.std.specs.declared.alloc.AllocError.{AllocError}
use Rattle.std.proofs.Math.Seq.{drop-cons}
use Rattle.std.proofs.lemmas.Bool.{cases_Bool}
use Rattle.std.proofs.lemmas.Int.{ints}
use Rattle.std.proofs.lemmas.List.{take_more, take_all, length-take-le, take-append-drop}
use Rattle.std.proofs.lemmas.List.Concat.{flat_map-append}
use Rattle.std.proofs.lemmas.Option.{slice_get_within, get_or_from_slice_get}
use Rattle.rwsp_text.proofs.LineLaws.{join_no_feed}
use Rattle.rwsp_terms.specs.Instance.{Instance, name_of}
use Rattle.rwsp_model.specs.Validity.{KeepsLimits}
use Rattle.refutation_terms.specs.declared.lines.Line.{Line}
use Rattle.refutation_terms.specs.declared.lines.Opening.{Opening}
use Rattle.refutation_terms.specs.declared.lines.Opening.TheVariants.{Full, Turned, Given}
use Rattle.refutation_terms.specs.declared.lines.Turn.{Turn}
use Rattle.refutation_terms.specs.declared.lines.LogKind.TheVariants.{WithoutGoal}
use Rattle.refutation_terms.specs.declared.lines.LogRefusal.{LogRefusal}
use Rattle.refutation_terms.specs.declared.lines.LogRefusal.TheVariants as Refusals
use Rattle.refutation_terms.specs.Tree.{IsTree, after_trees, lines_in, opening, lines_leave, domains_at}
use Rattle.refutation_terms.specs.Log.{Log, Fits, Holds, OpeningFits, GoalFits, Passes}
use Rattle.refutation_terms.specs.Ranges.{AreRules}
use Rattle.refutation_terms.specs.LogText.{raw, line_text, log_text, header_text, turn_text, raw_fields, lines_text}
use Rattle.refutation_terms.specs.Verdict.{kind_by, kind_of_log, BeforeTurn, front_text, IsRefused, TurnCause, header_lines}
use Rattle.refutation_terms.proofs.LineTables.{fitting_lines_are_spelled}
use Rattle.refutation_terms.proofs.Trees.{part_is_not_whole, tree_is_whole}
use Rattle.refutation_log.proofs.HeaderTexts.{turn_visible}
use Rattle.refutation_log.proofs.LineTexts.{is_writable}
use Rattle.rwsp_model.proofs.Names.{symbol_named}
use Rattle.refutation_log.proofs.OneText.{name_there, body_feedless, has_names}
use Rattle.refutation_log.proofs.PrintedTexts.{line_piece, joined_lines}
use Rattle.domain_store.specs.States.{State, IsStateOf}
use Rattle.domain_store.proofs.Stack.{read_is_tree}
use Rattle.refutation_checker.specs.LineTexts.{Judging, HasCause, IsSoundNext, PassesNext, HasCauseNext}
use Rattle.refutation_checker.specs.ChunkVerdicts.{AreSoundBehind, IsChunkRefused}
use Rattle.refutation_log.specs.Headers.{GoalIsInRange}
use Rattle.refutation_checker.specs.Turns.{IsSoundTurn, TurnFault, IsTurnFault}
use Rattle.refutation_checker.specs.LogVerdicts.{with_opening, judging_of, IsPassed, IsRefusedAt, IsCauseIn}
use Rattle.refutation_checker.proofs.LineJudging.{refused_next, cause_not_sound}
use Rattle.refutation_checker.proofs.SoundLines.{sound_joined, HasHeader, passes, refused}
use Rattle.refutation_checker.proofs.HeaderFaults.{refused_at_line}

-- turns

-- fronts of a tree

pub no_front : (lines : List Line) (k : ℕ) → IsTree lines → k < length lines → IsTree (take k lines) → ⊥
no_front lines k tree less front =
    let short : k < length (lines_in tree.0) = omega (arith, less, ap length tree.1) in
    let none : after_trees 1 (take k lines) ≡ None = subst (λ ls. after_trees 1 (take k ls) ≡ None) tree.1 (part_is_not_whole tree.0 0 k short) in
    let some : after_trees 1 (take k lines) ≡ Some [] = subst (λ ls. after_trees 1 ls ≡ Some []) front.1 (tree_is_whole front.0) in
    cc

pub still_part : (P : Instance) (o : Opening) (lines : List Line) (w : State) → IsStateOf P o lines w → (IsTree lines → ⊥) → w.whole ≡ false
still_part P o lines w state part =
    elim (cases_Bool w.whole) [
      | inl whole ↦ absurd (part ((read_is_tree w.whole (length w.store.sets) w.store (opening P o) w.splits lines state.read).0 whole))
      | inr e ↦ e
    ]

-- one line more

next : (P : Instance) (g : Log) (i number : ℕ) (line : Line) (w new : State) (answer : Result (Option LogRefusal) AllocError)
    → Fits P g → IsTree g.lines → slice_get g.lines i ≡ Some line → IsPassed P g i w → number ≡ header_lines g.opening g.goal g.counts + i + 1
    → IfOk answer (λ found. MatchOption found (PassesNext (judging_of P g) w line new) (HasCauseNext (judging_of P g) w number line))
    → IfOk answer (λ found. MatchOption found (IsPassed P g (i + 1) new) (IsRefusedAt P g i))
next P g i number line w new (Ok None) fits tree here before is h =
    let J : Judging = judging_of P g in
    let front = take i g.lines in
    let next = h g.opening front before.walked in
    let less = slice_get_within g.lines i line here in
    let more : take (i + 1) g.lines ≡ front ++ line ∷ [] = take_more g.lines i line less ∙ ap (λ l. front ++ l ∷ []) (get_or_from_slice_get g.lines i line line here) in
    let one : IsSoundNext J g.opening front line = record { in_tree = no_front g.lines i tree less; fits = fits.lines i line here; sound = next.0 } in
    record {
      walked = subst (λ ls. IsStateOf P g.opening ls new) (sym more) next.1;
      sound = subst (λ ls. AreSoundBehind J g.opening [] ls) (sym more) (sound_joined J g.opening [] front (line ∷ []) before.sound (one, tt));
    }
next P g i number line w new (Ok (Some why)) fits tree here before is h =
    let front = take i g.lines in
    record {
      line = line;
      here = here;
      in_tree = no_front g.lines i tree (slice_get_within g.lines i line here);
      sound = before.sound;
      cause = subst (λ n. HasCause (judging_of P g) (domains_at P g.opening front (length front)) n line why) is (h g.opening front before.walked);
    }
next P g i number line w new (Err e) fits tree here before is h = tt

-- by what a judge of such logs found
pub passed_next : (P : Instance) (J : Judging) (g : Log) (i number : ℕ) (line : Line) (w new : State) (answer : Result (Option LogRefusal) AllocError)
    → J ≡ judging_of P g → Fits P g → IsTree g.lines → slice_get g.lines i ≡ Some line → IsPassed P g i w → number ≡ header_lines g.opening g.goal g.counts + i + 1
    → IfOk answer (λ found. MatchOption found (PassesNext J w line new) (HasCauseNext J w number line))
    → IfOk answer (λ found. MatchOption found (IsPassed P g (i + 1) new) (IsRefusedAt P g i))
passed_next P J g i number line w new answer judge fits tree here before is h =
    next P g i number line w new answer fits tree here before is
    (subst (λ (K : Judging). IfOk answer (λ found. MatchOption found (PassesNext K w line new) (HasCauseNext K w number line))) judge h)

-- the text of the lines at which a log is refused

lines_cut : (P : Instance) (goal : Option ℕ) (lines : List Line) (i : ℕ) (line : Line) → slice_get lines i ≡ Some line → lines_text P goal lines ≡ lines_text P goal (take i lines) ++ (line_text P (raw P goal line) ++ lines_text P goal (drop (suc i) lines))
lines_cut P goal lines i line here =
    let f = line_piece P goal in
    let before = take i lines in
    let after = drop (suc i) lines in
    let cut : drop i lines ≡ line ∷ after = drop-cons lines i line (slice_get_within lines i line here) ∙ ap (λ l. l ∷ after) (get_or_from_slice_get lines i line line here) in
    sym (joined_lines P goal lines)
    ∙ ap (flat_map f) (sym (take-append-drop i lines) ∙ ap (λ ls. before ++ ls) cut)
    ∙ flat_map-append f before (line ∷ after)
    ∙ ap (λ t. t ++ (f line ++ flat_map f after)) (joined_lines P goal before)
    ∙ ap (λ t. lines_text P goal before ++ (f line ++ t)) (joined_lines P goal after)

refused_at : (P : Instance) (g : Log) (i : ℕ) (why : LogRefusal) → KeepsLimits P → Fits P g → IsRefusedAt P g i why → IsChunkRefused (judging_of P g) g.opening [] (lines_text P g.goal g.lines) why
refused_at P g i why limits fits at =
    let J : Judging = judging_of P g in
    let front = take i g.lines in
    let bytes = line_text P (raw P g.goal at.line) in
    let less = slice_get_within g.lines i at.line at.here in
    let fit = fits.lines i at.line at.here in
    let long : length front ≡ i = length-take-le i g.lines (omega (arith, less)) in
    record {
      lines = front;
      line = bytes;
      rest = lines_text P g.goal (drop (suc i) g.lines);
      sound = at.sound;
      text = lines_cut P g.goal g.lines i at.line at.here ∙ sym (append_assoc (lines_text P g.goal front) bytes (lines_text P g.goal (drop (suc i) g.lines)));
      is_line = inl (join_with_byte 32 (raw_fields P (raw P g.goal at.line)), body_feedless P g.goal g.counts at.line limits fit, refl);
      cause = refused_next J g.opening front bytes at.line (header_lines g.opening g.goal g.counts + i + 1) why (fitting_lines_are_spelled P g.goal g.counts at.line (has_names P limits) fit)
          at.in_tree (ap (λ n. header_lines g.opening g.goal g.counts + n + 1) (sym long)) at.cause;
    }

-- the header of a log with a turn ends with the line of the turn
pub turned_text : (P : Instance) (named : List ℕ) (t : Turn) (counts : Bool) → header_text P named (Turned t) None counts ≡ front_text P (BeforeTurn counts named) ++ turn_text (name_of P t.x) t.day
turned_text P named t false = refl
turned_text P named t true = refl

turn_line : (P : Instance) (counts : Bool) (named : List ℕ) (t : Turn) (rest : List ℕ) (why : LogRefusal) → KeepsLimits P → AreRules P named → OpeningFits P (Turned t) → TurnCause P counts named (turn_text (name_of P t.x) t.day) why → IsRefused P WithoutGoal (header_text P named (Turned t) None counts ++ rest) why
turn_line P counts named t rest why limits are fits cause =
    let name = name_of P t.x in
    let words : List (List ℕ) = codes "turn" ∷ name ∷ decimal t.day ∷ [] in
    refused_at_line P WithoutGoal (header_text P named (Turned t) None counts ++ rest) why
    (record {
      front = BeforeTurn counts named;
      line = turn_text name t.day;
      rest = rest;
      no_cause = (refl, are);
      whole = ap (λ h. h ++ rest) (turned_text P named t counts);
      is_line = inl (join_with_byte 32 words, join_no_feed words (turn_visible P name t.day (is_writable P limits) (name_there P t.x.number limits fits.1) fits.0), refl);
      cause = cause;
    })

turn_fault_refused : (P : Instance) (counts : Bool) (named : List ℕ) (t : Turn) (rest : List ℕ) (why : LogRefusal) → KeepsLimits P → AreRules P named → OpeningFits P (Turned t) → TurnFault P named t why → IsRefused P WithoutGoal (header_text P named (Turned t) None counts ++ rest) why
turn_fault_refused P counts named t rest (Refusals.Unnamed n k) limits are fits h =
    turn_line P counts named t rest (Refusals.Unnamed n k) limits are fits
    (h.0, (t.day, t.x, (name_of P t.x, (name_there P t.x.number limits fits.1, fits.0, refl), symbol_named P t.x limits fits.1), h.1))
turn_fault_refused P counts named t rest (Refusals.Turn n) limits are fits h =
    turn_line P counts named t rest (Refusals.Turn n) limits are fits
    (h.0, (t.day, t.x, (name_of P t.x, (name_there P t.x.number limits fits.1, fits.0, refl), symbol_named P t.x limits fits.1), h.1, h.2))
turn_fault_refused P counts named t rest why limits are fits h = absurd h

pub turn_refused : (P : Instance) (named : List ℕ) (o : Opening) (goal : Option ℕ) (counts : Bool) (rest : List ℕ) (why : LogRefusal) → KeepsLimits P → AreRules P named → OpeningFits P o → GoalIsInRange P o goal → IsTurnFault P named o why → IsRefused P (kind_by o goal) (header_text P named o goal counts ++ rest) why
turn_refused P named Full goal counts rest why limits are fits range h = absurd h
turn_refused P named (Given given) goal counts rest why limits are fits range h = absurd h
turn_refused P named (Turned t) None counts rest why limits are fits range h = turn_fault_refused P counts named t rest why limits are fits h
turn_refused P named (Turned t) (Some goal) counts rest why limits are fits range h = absurd (let e : Turned t ≡ Full = range.0 in cc)

-- what the judging of all lines found

in_range : (P : Instance) (o : Opening) (goal : Option ℕ) → GoalFits P o goal → GoalIsInRange P o goal
in_range P o None h = tt
in_range P o (Some goal) h = (h.0, h.2)

header_of : (P : Instance) (g : Log) → Fits P g → IsSoundTurn P g.named g.opening → HasHeader (judging_of P g) (kind_of_log g) (log_text P g) g.opening (lines_text P g.goal g.lines)
header_of P g fits sound = record {
  begins = record { of_kind = refl; rules = fits.named; fits = fits.opening; in_range = in_range P g.opening g.goal fits.goal; may_count = fits.counts; whole = refl };
  goal_fits = fits.goal;
  sound = sound;
}

pub all_passed : (P : Instance) (g : Log) (i : ℕ) (w : State) → Fits P g → IsSoundTurn P g.named g.opening → IsTree g.lines → length g.lines ≡ i → IsPassed P g i w → Passes P g
all_passed P g i w fits turn tree all passed =
    let J : Judging = judging_of P g in
    let sound : AreSoundBehind J g.opening [] g.lines = subst (λ ls. AreSoundBehind J g.opening [] ls) (take_all i g.lines (omega (arith, all))) passed.sound in
    passes J (kind_of_log g) (log_text P g) (lines_text P g.goal g.lines) g.opening g.lines (header_of P g fits turn) sound tree

-- what was found refuses the text of the log

pub cause_refuses : (P : Instance) (g : Log) (why : LogRefusal) → KeepsLimits P → Fits P g → IsCauseIn P g why → IsRefused P (kind_of_log g) (log_text P g) why
cause_refuses P g why limits fits (inl fault) =
    turn_refused P g.named g.opening g.goal g.counts (lines_text P g.goal g.lines) why limits fits.named fits.opening (in_range P g.opening g.goal fits.goal) fault
cause_refuses P g why limits fits (inr at) =
    refused (judging_of P g) (kind_of_log g) (log_text P g) (lines_text P g.goal g.lines) g.opening why (header_of P g fits at.0) (refused_at P g at.1.0 why limits fits at.1.1)

-- what was found of a log with its own opening
pub cause_of_own : (P : Instance) (g : Log) (o : Opening) (found : Option LogRefusal) (why : LogRefusal) → found ≡ Some why → o ≡ g.opening → MatchOption found (Passes P (with_opening o g)) (IsCauseIn P (with_opening o g)) → IsCauseIn P g why
cause_of_own P g o found why is own h =
    subst (λ (q : Opening). IsCauseIn P (with_opening q g) why) own
    (subst (λ (f : Option LogRefusal). MatchOption f (Passes P (with_opening o g)) (IsCauseIn P (with_opening o g))) is h)

-- and the log doesn't pass

turn_fails : (P : Instance) (named : List ℕ) (t : Turn) (why : LogRefusal) → TurnFault P named t why → IsSoundTurn P named (Turned t) → ⊥
turn_fails P named t (Refusals.Unnamed n k) h sound = h.1.0.3 (sound.named_day h.1.0.0 h.1.0.2)
turn_fails P named t (Refusals.Turn n) h sound = let allowed = sound.allowed in let less = h.2 in omega (arith, ints, allowed, less)
turn_fails P named t why h sound = absurd h

fault_fails : (P : Instance) (named : List ℕ) (o : Opening) (why : LogRefusal) → IsTurnFault P named o why → IsSoundTurn P named o → ⊥
fault_fails P named Full why h sound = absurd h
fault_fails P named (Given given) why h sound = absurd h
fault_fails P named (Turned t) why h sound = turn_fails P named t why h sound

pub cause_fails : (P : Instance) (g : Log) (why : LogRefusal) → IsCauseIn P g why → Passes P g → ⊥
cause_fails P g why (inl fault) h =
    fault_fails P g.named g.opening why fault (record { named_day = h.grounded.turn_named; allowed = h.grounded.allowed })
cause_fails P g why (inr at) h =
    let i = at.1.0 in
    let r = at.1.1 in
    let front = take i g.lines in
    let holds : Holds P g.goal (domains_at P g.opening front (length front)) r.line =
    subst (λ ls. Holds P g.goal (λ p z. opening P g.opening p z && lines_leave ls p z) r.line) (sym (take_all (length front) front (omega arith))) (h.holds i r.line r.here) in
    cause_not_sound P g.goal g.named (domains_at P g.opening front (length front)) (header_lines g.opening g.goal g.counts + i + 1) r.line why r.cause
    (record {
      named_all = λ q cites. h.grounded.named i r.line q r.here cites;
      short = h.grounded.short i r.line r.here;
      holds = holds;
    })

-- what was found tells whether it passes
pub told_by : (P : Instance) (g : Log) (found : Option LogRefusal) (told : Bool) → is_some found ≡ not told → MatchOption found (Passes P g) (IsCauseIn P g) → IsTrue told ↔ Passes P g
told_by P g None true e h = (λ t. h, λ p. refl)
told_by P g None false e h = absurd (cc)
told_by P g (Some why) true e h = absurd (cc)
told_by P g (Some why) false e h = (λ t. absurd (cc), λ p. absurd (cause_fails P g why h p))
