-- The rules that lines cite, found line by line, and what a strip leaves of them.
use Rattle.std.proofs.Common.{◌≡◌, ℕ, zero, suc, ◌+◌, ◌<◌, ◌≤◌, List, [], ◌∷◌, length, take, ap, sym, ◌∙◌, subst, arith, ◌⊎◌, inl, inr, ⊎_elim, Some, Bool, true, false}
use Rattle.std.specs.Prelude.{Contains, ◌↔◌, slice_get}
use Rattle.std.proofs.lemmas.Bool.{cases_lt}
use Rattle.std.proofs.lemmas.List.{take_all}
use Rattle.std.proofs.lemmas.Option.{same_Some}
use Rattle.rwsp_terms.specs.declared.data.Rule.{Rule}
use Rattle.rwsp_terms.specs.Instance.{Instance}
use Rattle.rwsp_terms.specs.Rules.{rule_of, Names}
use Rattle.rwsp_model.proofs.Numbering.{one_number}
use Rattle.refutation_terms.specs.declared.lines.Line.{Line}
use Rattle.refutation_terms.specs.declared.lines.Opening.{Opening}
use Rattle.refutation_terms.specs.Log.{Log, Fits, Cites, OpeningCites}
use Rattle.refutation_terms.specs.Strip.{strip, strip_line, StripsTo}
use Rattle.rule_reducer.specs.Citing.{is_plain, OneCites, AreCited}
use Rattle.rule_reducer.proofs.Stripped.{cited_before, plain_stays, plain_same}
use Rattle.rule_reducer.proofs.Strips.{line_after, line_before}

-- fronts

pub from_front : (lines : List Line) (i k : ℕ) (line : Line) → slice_get (take i lines) k ≡ Some line → (k < i) × (slice_get lines k ≡ Some line)
from_front [] zero k line got = absurd (cc)
from_front [] (suc i) k line got = absurd (cc)
from_front (l ∷ lines) zero k line got = absurd (cc)
from_front (l ∷ lines) (suc i) zero line got = (omega arith, got)
from_front (l ∷ lines) (suc i) (suc k) line got = let rest = from_front lines i k line got in (omega (arith, rest.0), rest.1)

pub to_front : (lines : List Line) (i k : ℕ) (line : Line) → k < i → slice_get lines k ≡ Some line → slice_get (take i lines) k ≡ Some line
to_front [] i k line less got = absurd (cc)
to_front (l ∷ lines) zero k line less got = absurd (omega (arith, less))
to_front (l ∷ lines) (suc i) zero line less got = got
to_front (l ∷ lines) (suc i) (suc k) line less got = to_front lines i k line (omega (arith, less)) got

cites_further : (P : Instance) (plain : Bool) (lines : List Line) (i : ℕ) (r : Rule) → OneCites P plain (take i lines) r → OneCites P plain (take (i + 1) lines) r
cites_further P plain lines i r c =
    let there = from_front lines i c.0 c.1 c.2 in
    (c.0, c.1, to_front lines (i + 1) c.0 c.1 (omega (arith, there.0)) there.1, c.3, c.4)

cites_last : (P : Instance) (plain : Bool) (lines : List Line) (i : ℕ) (line : Line) (r : Rule) → slice_get lines i ≡ Some line → OneCites P plain (take (i + 1) lines) r
    → OneCites P plain (take i lines) r ⊎ ((is_plain line ≡ plain) × Cites P line r)
cites_last P plain lines i line r here c =
    let there = from_front lines (i + 1) c.0 c.1 c.2 in
    elim (cases_lt c.0 i) [
      | inl lt ↦ inl (c.0, c.1, to_front lines i c.0 c.1 lt there.1, c.3, c.4)
      | inr le ↦
          let same : c.0 ≡ i = omega (arith, there.0, le) in
          let e : c.1 ≡ line = same_Some c.1 line (sym there.1 ∙ ap (slice_get lines) same ∙ here) in
          inr (subst (λ l. is_plain l ≡ plain) e c.3, subst (λ l. Cites P l r) e c.4)
    ]

-- one line more
pub cited_more : (P : Instance) (plain : Bool) (start old new : List ℕ) (lines : List Line) (i : ℕ) (line : Line) → slice_get lines i ≡ Some line
    → ((r : Rule) → Names P old r ↔ (Names P start r ⊎ OneCites P plain (take i lines) r))
    → ((r : Rule) → Names P new r ↔ (Names P old r ⊎ ((is_plain line ≡ plain) × Cites P line r)))
    → (r : Rule) → Names P new r ↔ (Names P start r ⊎ OneCites P plain (take (i + 1) lines) r)
cited_more P plain start old new lines i line here before put r = (
  λ n. ⊎_elim
      (λ (o : Names P old r).
      ⊎_elim
      (λ (s : Names P start r). inl s)
      (λ (c : OneCites P plain (take i lines) r). inr (cites_further P plain lines i r c))
      ((before r).0 o))
      (λ (c : (is_plain line ≡ plain) × Cites P line r).
      inr (i, line, to_front lines (i + 1) i line (omega arith) here, c.0, c.1))
      ((put r).0 n),
  λ h. ⊎_elim
      (λ (s : Names P start r). (put r).1 (inl ((before r).1 (inl s))))
      (λ (c : OneCites P plain (take (i + 1) lines) r).
      ⊎_elim
      (λ (f : OneCites P plain (take i lines) r). (put r).1 (inl ((before r).1 (inr f))))
      (λ (l : (is_plain line ≡ plain) × Cites P line r). (put r).1 (inr l))
      (cites_last P plain lines i line r here c))
      h,
)

pub cited_none : (P : Instance) (plain : Bool) (start : List ℕ) (lines : List Line) (r : Rule) → Names P start r ↔ (Names P start r ⊎ OneCites P plain (take 0 lines) r)
cited_none P plain start lines r = (
  λ n. inl n,
  λ h. ⊎_elim (λ (n : Names P start r). n) (λ (c : OneCites P plain (take 0 lines) r). let no = from_front lines 0 c.0 c.1 c.2 in absurd (omega (arith, no.0))) h,
)

-- the rule of an opening

pub opening_cited : (P : Instance) (o : Opening) (old new : List ℕ) → old ≡ [] → ((r : Rule) → Names P new r ↔ (Names P old r ⊎ OpeningCites o r)) → (r : Rule) → Names P new r ↔ OpeningCites o r
opening_cited P o old new none put r = (
  λ n. ⊎_elim
      (λ (named : Names P old r). let empty : Contains {X = ℕ} [] named.0 = subst (λ l. Contains l named.0) none named.1 in absurd (omega (arith, empty.1)))
      (λ (c : OpeningCites o r). c)
      ((put r).0 n),
  λ c. (put r).1 (inr c),
)

-- the rules of one line, put where the line is of the kind

pub put_of_kind : (P : Instance) (plain seen : Bool) (line : Line) (old new : List ℕ) → seen ≡ is_plain line → seen ≡ plain → ((r : Rule) → Names P new r ↔ (Names P old r ⊎ Cites P line r))
    → (r : Rule) → Names P new r ↔ (Names P old r ⊎ ((is_plain line ≡ plain) × Cites P line r))
put_of_kind P plain seen line old new is kind put r = (
  λ n. ⊎_elim (λ (o : Names P old r). inl o) (λ (c : Cites P line r). inr (sym is ∙ kind, c)) ((put r).0 n),
  λ h. ⊎_elim (λ (o : Names P old r). (put r).1 (inl o)) (λ (c : (is_plain line ≡ plain) × Cites P line r). (put r).1 (inr c.1)) h,
)

pub other_kind : (P : Instance) (plain seen : Bool) (line : Line) (old : List ℕ) → seen ≡ is_plain line → (seen ≡ plain → ⊥) → (r : Rule) → Names P old r ↔ (Names P old r ⊎ ((is_plain line ≡ plain) × Cites P line r))
other_kind P plain seen line old is other r = (
  λ n. inl n,
  λ h. ⊎_elim (λ (o : Names P old r). o) (λ (c : (is_plain line ≡ plain) × Cites P line r). absurd (other (is ∙ c.0))) h,
)

pub cited_all : (P : Instance) (plain : Bool) (start rules : List ℕ) (lines : List Line) (i : ℕ) → length lines ≤ i
    → ((r : Rule) → Names P rules r ↔ (Names P start r ⊎ OneCites P plain (take i lines) r)) → (r : Rule) → Names P rules r ↔ (Names P start r ⊎ OneCites P plain lines r)
cited_all P plain start rules lines i all h r =
    subst (λ ls. Names P rules r ↔ (Names P start r ⊎ OneCites P plain ls r)) (take_all i lines all) (h r)

pub false_not_true : (b : Bool) → b ≡ false → b ≡ true → ⊥
false_not_true b f t = let clash : false ≡ true = sym f ∙ t in cc

pub true_not_false : (b : Bool) → b ≡ true → b ≡ false → ⊥
true_not_false b t f = let clash : false ≡ true = sym f ∙ t in cc

-- the rules of all lines

pub both_kinds : (P : Instance) (g : Log) (opened for_good empty in_lists : List ℕ) → ((r : Rule) → Names P opened r ↔ OpeningCites g.opening r)
    → ((r : Rule) → Names P for_good r ↔ (Names P opened r ⊎ OneCites P true g.lines r))
    → ((r : Rule) → Names P in_lists r ↔ (Names P empty r ⊎ OneCites P false g.lines r)) → AreCited P g for_good in_lists
both_kinds P g opened for_good empty in_lists opening plain lists = record {
  lasting = λ r. (
    λ n. ⊎_elim (λ (t : Names P opened r). inl ((opening r).0 t)) (λ (c : OneCites P true g.lines r). inr c) ((plain r).0 n),
    λ h. ⊎_elim (λ (t : OpeningCites g.opening r). (plain r).1 (inl ((opening r).1 t))) (λ (c : OneCites P true g.lines r). (plain r).1 (inr c)) h,
  );
  listed = λ r c. (lists r).1 (inr c);
}

-- strips

cites_still : (P : Instance) (n : ℕ) (g : Log) (r : Rule) → OneCites P true g.lines r → OneCites P true (strip P n g).lines r
cites_still P n g r c =
    let same = plain_same P n c.1 c.3 in
    (c.0, strip_line P n c.1, line_after P n g.lines c.0 c.1 c.2, plain_stays P n c.1 ∙ c.3, subst (λ l. Cites P l r) (sym same) c.4)

cited_once : (P : Instance) (n : ℕ) (plain : Bool) (g : Log) (r : Rule) → Fits P g → OneCites P plain (strip P n g).lines r → OneCites P plain g.lines r
cited_once P n plain g r fits c =
    let old = line_before P n g.lines c.0 c.1 c.2 in (
      c.0,
      old.0,
      old.1,
      sym (plain_stays P n old.0) ∙ ap is_plain old.2 ∙ c.3,
      cited_before P n g.goal g.counts old.0 r (fits.lines c.0 old.0 old.1) (subst (λ l. Cites P l r) (sym old.2) c.4),
    )

pub cited_still : (P : Instance) (n : ℕ) (g : Log) (a b : List ℕ) → Fits P g → AreCited P g a b → AreCited P (strip P n g) a b
cited_still P n g a b fits cited = record {
  lasting = λ r. (
    λ names. ⊎_elim
        (λ (t : OpeningCites g.opening r). inl t)
        (λ (c : OneCites P true g.lines r). inr (cites_still P n g r c))
        ((cited.lasting r).0 names),
    λ h. ⊎_elim
        (λ (t : OpeningCites g.opening r). (cited.lasting r).1 (inl t))
        (λ (c : OneCites P true (strip P n g).lines r). (cited.lasting r).1 (inr (cited_once P n true g r fits c)))
        h,
  );
  listed = λ r c. cited.listed r (cited_once P n false g r fits c);
}

pub cited_on : (P : Instance) (n : ℕ) (g next : Log) (a b : List ℕ) → Fits P g → AreCited P g a b → StripsTo P (n ∷ []) g next → AreCited P next a b
cited_on P n g next a b fits cited (inl d) = subst (λ (x : Log). AreCited P x a b) d.1 (cited_still P n g a b fits cited)
cited_on P n g next a b fits cited (inr d) = subst (λ (x : Log). AreCited P x a b) d.1 cited

-- the number of a rule that is cited

pub held_is_named : (P : Instance) (n : ℕ) (r : Rule) (R : List ℕ) → rule_of P n ≡ Some r → Contains R n → Names P R r
held_is_named P n r R is c = (n, c, is)

pub named_is_held : (P : Instance) (n : ℕ) (r : Rule) (R : List ℕ) → rule_of P n ≡ Some r → Names P R r → Contains R n
named_is_held P n r R is names = subst (Contains R) (one_number P names.0 n r names.2 is) names.1
