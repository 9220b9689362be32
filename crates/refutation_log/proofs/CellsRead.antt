-- Given cells are read from the words that write them, one after another.
use Rattle.std.proofs.Common.{◌≡◌, ◌≢◌, ℕ, zero, suc, ◌+◌, ◌-◌, ◌*◌, ◌<◌, List, [], ◌∷◌, ◌++◌, length, refl, ap, sym, ◌∙◌, subst, arith, append_assoc, append-nil, Option, Some, None, Bool, true, false, cond, map, ◌&&◌}
use Rattle.std.specs.Prelude.{All, slice_get, nat_le, Ok, Err}
use Rattle.std.proofs.lemmas.Bool.{le-leb}
use Rattle.std.proofs.lemmas.List.{map-append}
use Rattle.std.proofs.lemmas.List.Elements.{All-nil, All-push}
use Rattle.rwsp_text.specs.Fields.{Words, NamedCell, ◌>>=◌, number_in, number_at, place_at, name_at, is_name, cells_from, cells_at}
use Rattle.rwsp_text.proofs.Numerals.{bind_found, number_found, if_some}
use Rattle.rwsp_text.proofs.Words.{same_pairs, place_found, place_spelled, name_at_found}
use Rattle.rwsp_terms.specs.declared.data.Symbol.{Symbol}
use Rattle.rwsp_terms.specs.Instance.{Instance, cells, symbol_of}
use Rattle.rwsp_model.specs.declared.fail.Fail.TheVariants.{Refused}
use Rattle.refutation_terms.specs.declared.cells.GivenCell.{GivenCell}
use Rattle.refutation_terms.specs.LogText.{named_cell}
use Rattle.refutation_terms.specs.Verdict.{HasUnknown}
use Rattle.refutation_terms.proofs.LineTables.{symbol_of-name}
use Rattle.refutation_log.specs.declared.refusal.LineRefusal.TheVariants.{Form, Name}
use Rattle.refutation_log.specs.Printing.{IsCellOf}
use Rattle.refutation_log.specs.Reading.{cell_at, AreNamesOf, AnswersCells}

-- one cell and what is read behind it

abbrev cell_of : ℕ → List ℕ → NamedCell
cell_of p name = record { p = p; name = name }

abbrev then_on : Instance → NamedCell × Words → Option (List NamedCell)
then_on P c = cells_from P.weeks P.days (c.0.p + 1) c.1 >>= (λ later. Some (c.0 ∷ later))

abbrev name_by : Bool → List ℕ → Words → Option (List ℕ × Words)
name_by named name ws = cond named (Some (name, ws)) None

abbrev cell_by : Bool → ℕ → List ℕ × Words → Option (NamedCell × Words)
cell_by above q n = cond above (Some (cell_of q n.0, n.1)) None

by_tests : (P : Instance) (q : ℕ) (name : List ℕ) (ws : Words) (above below named : Bool) → below ≡ true
    → (cond (above && below) (Some q) None >>= (λ p. cond named (cells_from P.weeks P.days (p + 1) ws) None >>= (λ later. Some (cell_of p name ∷ later))))
    ≡ ((name_by named name ws >>= cell_by above q) >>= then_on P)
by_tests P q name ws true true true e = refl
by_tests P q name ws true true false e = refl
by_tests P q name ws false true true e = refl
by_tests P q name ws false true false e = refl
by_tests P q name ws above false named e = absurd (cc)

by_three : (P : Instance) (first : ℕ) (week day name : List ℕ) (ws : Words) (i j : Option ℕ) → number_in 1 P.weeks week ≡ i → number_in 1 P.days day ≡ j → cells_from P.weeks P.days first (week ∷ day ∷ name ∷ ws) ≡ (cell_at P first (week ∷ day ∷ name ∷ ws) >>= then_on P)
unfolding cell_at place_at number_at name_at
by_three P first week day name ws None j e f = rw e refl
by_three P first week day name ws (Some i) None e f = rw (e, f) refl
by_three P first week day name ws (Some i) (Some j) e f =
    let q = (i - 1) * P.days + (j - 1) in
    let a = number_found 1 P.weeks week i e in
    let b = number_found 1 P.days day j f in
    let s = place_spelled P.weeks P.days i j a.0 a.1 b.0 b.1 in
    rw (e, f) (by_tests P q name ws (nat_le first q) (nat_le q (P.weeks * P.days)) (is_name name) (le-leb q (P.weeks * P.days) (omega (arith, s.0))))

by_one : (P : Instance) (first : ℕ) (week : List ℕ) (i : Option ℕ) → number_in 1 P.weeks week ≡ i → cell_at P first (week ∷ []) ≡ None
unfolding cell_at place_at number_at
by_one P first week None e = rw e refl
by_one P first week (Some i) e = rw e refl

by_two : (P : Instance) (first : ℕ) (week day : List ℕ) (i j : Option ℕ) → number_in 1 P.weeks week ≡ i → number_in 1 P.days day ≡ j → cell_at P first (week ∷ day ∷ []) ≡ None
unfolding cell_at place_at number_at name_at
by_two P first week day None j e f = rw e refl
by_two P first week day (Some i) None e f = rw (e, f) refl
by_two P first week day (Some i) (Some j) e f = rw (e, f) refl

cells_step : (P : Instance) (first : ℕ) (ws : Words) → ws ≢ [] → cells_from P.weeks P.days first ws ≡ (cell_at P first ws >>= then_on P)
cells_step P first [] some = absurd (some refl)
cells_step P first (week ∷ []) some = ap (λ o. o >>= then_on P) (sym (by_one P first week (number_in 1 P.weeks week) refl))
cells_step P first (week ∷ day ∷ []) some = ap (λ o. o >>= then_on P) (sym (by_two P first week day (number_in 1 P.weeks week) (number_in 1 P.days day) refl refl))
cells_step P first (week ∷ day ∷ name ∷ ws) some = by_three P first week day name ws (number_in 1 P.weeks week) (number_in 1 P.days day) refl refl

-- it is one of the problem, and takes words
pub cell_found : (P : Instance) (first : ℕ) (ws : Words) (c : NamedCell) (rest : Words) → cell_at P first ws ≡ Some (c, rest) → (c.p < cells P) × (length rest < length ws)
unfolding cell_at
cell_found P first ws c rest e =
    let place = bind_found (place_at P.weeks P.days ws) (λ place. name_at place.1 >>= cell_by (nat_le first place.0) place.0) (c, rest) e in
    let name = bind_found (name_at place.0.1) (cell_by (nat_le first place.0.0) place.0.0) (c, rest) place.2 in
    let tested = if_some (nat_le first place.0.0) (Some (cell_of place.0.0 name.0.0, name.0.1)) (c, rest) name.2 in
    let same = same_pairs (cell_of place.0.0 name.0.0) c name.0.1 rest tested.1 in
    let a = place_found P.weeks P.days place.0.0 ws place.0.1 place.1 in
    let b = name_at_found name.0.0 place.0.1 name.0.1 name.1 in
    let position : place.0.0 ≡ c.p = ap (λ (d : NamedCell). d.p) same.0 in
    (subst (λ p. p < cells P) position a.0, omega (arith, ap length a.1, ap length b.1, ap length same.1))

-- what has been read, with the words that are left

abbrev AreKnown : Instance → Bool → List NamedCell → List GivenCell → Type 0
AreKnown P true done given = AreNamesOf P done given
AreKnown P false done given = HasUnknown P done

pub record CellsSoFar (P : Instance) (words left : Words) (given : List GivenCell) (is_known : Bool) (next : ℕ) : Type 0 where
  pub done : List NamedCell
  pub on : cells_from P.weeks P.days 0 words ≡ (cells_from P.weeks P.days next left >>= (λ later. Some (done ++ later)))
  pub known : AreKnown P is_known done given

pub same_bound : {A : Type 0} (o : Option A) → (o >>= (λ x. Some x)) ≡ o
same_bound None = refl
same_bound (Some x) = refl

pub none_read : (P : Instance) (words : Words) (given : List GivenCell) → given ≡ [] → CellsSoFar P words words given true 0
none_read P words given e = record {
  done = [];
  on = sym (same_bound (cells_from P.weeks P.days 0 words));
  known = subst (AreKnown P true []) (sym e) (refl, All-nil (IsCellOf P));
}

pub both_behind : {A : Type 0} (done : List A) (c : A) (o : Option (List A)) → ((o >>= (λ later. Some (c ∷ later))) >>= (λ later. Some (done ++ later))) ≡ (o >>= (λ later. Some ((done ++ c ∷ []) ++ later)))
both_behind done c None = refl
both_behind done c (Some later) = ap (λ cs. Some cs) (sym (append_assoc done (c ∷ []) later))

-- behind words that are left and begin with a cell
on_behind : (P : Instance) (words left rest : Words) (next : ℕ) (done : List NamedCell) (c : NamedCell) → left ≢ [] → cell_at P next left ≡ Some (c, rest)
    → cells_from P.weeks P.days 0 words ≡ (cells_from P.weeks P.days next left >>= (λ later. Some (done ++ later)))
    → cells_from P.weeks P.days 0 words ≡ (cells_from P.weeks P.days (c.p + 1) rest >>= (λ later. Some ((done ++ c ∷ []) ++ later)))
on_behind P words left rest next done c some e on =
    on ∙ ap (λ o. o >>= (λ later. Some (done ++ later))) (cells_step P next left some ∙ ap (λ o. o >>= then_on P) e)
    ∙ both_behind done c (cells_from P.weeks P.days (c.p + 1) rest)

got_before : (done : List NamedCell) (c d : NamedCell) (k : ℕ) → slice_get done k ≡ Some d → slice_get (done ++ c ∷ []) k ≡ Some d
got_before [] c d k e = absurd (cc)
got_before (x ∷ done) c d zero e = e
got_before (x ∷ done) c d (suc k) e = got_before done c d k e

got_last : (done : List NamedCell) (c : NamedCell) → slice_get (done ++ c ∷ []) (length done) ≡ Some c
got_last [] c = refl
got_last (x ∷ done) c = got_last done c

-- a cell more, of a known symbol
pub known_read : (P : Instance) (words left rest : Words) (given new : List GivenCell) (is_known : Bool) (next p : ℕ) (name : List ℕ) (x : Symbol) → CellsSoFar P words left given is_known next → left ≢ [] → cell_at P next left ≡ Some (record { p = p; name = name }, rest) → symbol_of P name ≡ Some x → new ≡ given ++ record { p = p; x = x } ∷ [] → CellsSoFar P words rest new is_known (p + 1)
known_read P words left rest given new is_known next p name x so some e found put = record {
  done = so.done ++ cell_of p name ∷ [];
  on = on_behind P words left rest next so.done (cell_of p name) some e so.on;
  known = by is_known so.known;
}
  where
    by : (b : Bool) → AreKnown P b so.done given → AreKnown P b (so.done ++ cell_of p name ∷ []) new
    by true k =
        let s = symbol_of-name P name x found in
        let c : GivenCell = record { p = p; x = x } in (
          ap (λ d. d ++ cell_of p name ∷ []) k.0 ∙ ap (λ n. map (named_cell P) given ++ cell_of p n ∷ []) (sym s.1) ∙ sym (map-append (named_cell P) given (c ∷ [])) ∙ ap (map (named_cell P)) (sym put),
          subst (All (IsCellOf P)) (sym put) (All-push (IsCellOf P) given c k.1 ((cell_found P next left (cell_of p name) rest e).0, s.0)),
        )
    by false u = (u.0, u.1, got_before so.done (cell_of p name) u.1 u.0 u.2, u.3)

-- or of a name that is no symbol's
pub unknown_read : (P : Instance) (words left rest : Words) (given : List GivenCell) (is_known : Bool) (next p : ℕ) (name : List ℕ) → CellsSoFar P words left given is_known next → left ≢ [] → cell_at P next left ≡ Some (record { p = p; name = name }, rest) → symbol_of P name ≡ None → CellsSoFar P words rest given false (p + 1)
unknown_read P words left rest given is_known next p name so some e none = record {
  done = so.done ++ cell_of p name ∷ [];
  on = on_behind P words left rest next so.done (cell_of p name) some e so.on;
  known = (length so.done, cell_of p name, got_last so.done (cell_of p name), none);
}

-- all is read
all_read : (P : Instance) (words left : Words) (next : ℕ) (done : List NamedCell) → left ≡ [] → cells_from P.weeks P.days 0 words ≡ (cells_from P.weeks P.days next left >>= (λ later. Some (done ++ later))) → cells_at P.weeks P.days words ≡ Some done
unfolding cells_at
all_read P words left next done none on =
    on ∙ ap (λ ws. cells_from P.weeks P.days next ws >>= (λ later. Some (done ++ later))) none ∙ ap (λ cs. Some cs) (append-nil done)

pub all_known : (P : Instance) (words left : Words) (given : List GivenCell) (is_known : Bool) (next : ℕ) → CellsSoFar P words left given is_known next → left ≡ [] → is_known ≡ true → AnswersCells P (cells_at P.weeks P.days words) (Ok given)
all_known P words left given is_known next so none known =
    subst (λ o. AnswersCells P o (Ok given)) (sym (all_read P words left next so.done none so.on)) (subst (λ b. AreKnown P b so.done given) known so.known)

pub one_unknown : (P : Instance) (words left : Words) (given : List GivenCell) (is_known : Bool) (next : ℕ) → CellsSoFar P words left given is_known next → left ≡ [] → is_known ≡ false → AnswersCells P (cells_at P.weeks P.days words) (Err (Refused Name))
one_unknown P words left given is_known next so none known =
    subst (λ o. AnswersCells P o (Err (Refused Name))) (sym (all_read P words left next so.done none so.on)) (subst (λ b. AreKnown P b so.done given) known so.known)

-- a field is no part of a cell
pub cell_missed : (P : Instance) (words left : Words) (given : List GivenCell) (is_known : Bool) (next : ℕ) → CellsSoFar P words left given is_known next → left ≢ [] → cell_at P next left ≡ None → AnswersCells P (cells_at P.weeks P.days words) (Err (Refused Form))
unfolding cells_at
cell_missed P words left given is_known next so some none =
    let read : cells_from P.weeks P.days 0 words ≡ None =
    so.on ∙ ap (λ o. o >>= (λ later. Some (so.done ++ later))) (cells_step P next left some ∙ ap (λ o. o >>= then_on P) none) in
    subst (λ o. AnswersCells P o (Err (Refused Form))) (sym read) tt
