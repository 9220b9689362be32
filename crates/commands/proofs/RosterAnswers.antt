-- The bytes of an answer have one answer of `roster`.
use Rattle.std.proofs.Common.{◌≡◌, ℕ, List, [], ◌∷◌, ◌++◌, get_or, inl, inr, refl, ap, sym, ◌∙◌, subst, arith}
use Rattle.rwsp_terms.specs.declared.data.Symbol.{Symbol}
use Rattle.rwsp_terms.specs.Instance.{Instance}
use Rattle.rwsp_model.specs.Validity.{KeepsLimits}
use Rattle.rwsp_model.specs.declared.roster.Roster.{Roster}
use Rattle.roster_print.proofs.Spelling.{one_roster}
use Rattle.roster_checker.proofs.FirstBroken.{first_broken-not_met, first_broken-same}
use Rattle.refutation_terms.specs.Log.{Log}
use Rattle.crew_size.specs.Sizes.{with_weeks}
use Rattle.crew_size.specs.Texts.{sections_text, roster_line}
use Rattle.crew_checker.specs.Least.{HasLeast}
use Rattle.crew_checker.proofs.LeastEnds.{one_least}
use Rattle.commands.specs.ReadBest.{IsBestWith}
use Rattle.commands.specs.declared.verify.BrokenRoster.{BrokenRoster}
use Rattle.commands.specs.Roster.{IsJudged, SpellsNone, StandsIn, SaysOf, IsRosterAnswer}
use Rattle.commands.specs.declared.roster.Answer.{Answer}
use Rattle.commands.specs.declared.roster.Answer.TheVariants.{Shown, Breaks, NoRoster}
use Rattle.commands.proofs.ReadBest.{one_best}
use Rattle.commands.proofs.Rosters.{same_schedule, same_breach}

breaks_alike : (m n : ℕ) (b c : BrokenRoster) → m ≡ n → b ≡ c → Breaks m b ≡ Breaks n c
breaks_alike m n b c e f = cc

one_judged : (P : Instance) (m : ℕ) (s : Roster) (a b : Answer) → IsJudged P m s a → IsJudged P m s b → a ≡ b
one_judged P m s (Shown text) (Shown other) h k = ap Shown (h.1 ∙ sym k.1)
one_judged P m s (Shown text) (Breaks n c) h k = absurd (first_broken-not_met (with_weeks P m) s.cells c.broken k.2 h.0)
one_judged P m s (Shown text) NoRoster h k = absurd k
one_judged P m s (Breaks l b) (Shown other) h k = absurd (first_broken-not_met (with_weeks P m) s.cells b.broken h.2 k.0)
one_judged P m s (Breaks l b) (Breaks n c) h k =
    let same : b.broken ≡ c.broken = first_broken-same (with_weeks P m) s.cells b.broken c.broken h.2 k.2 in
    breaks_alike l n b c (h.0 ∙ sym k.0) (same_breach b c same (h.1 ∙ sym k.1))
one_judged P m s (Breaks l b) NoRoster h k = absurd k
one_judged P m s NoRoster b h k = absurd h

-- an answer of `best` is none of `staff`
not_both : (P : Instance) (bytes : List ℕ) (s : List Symbol) (n : ℕ) (t : List Symbol) → IsBestWith P bytes s → HasLeast P bytes n t → ⊥
not_both P bytes s n t best (low, e) = by e.logs e.whole
  where
    by : (logs : List Log) → bytes ≡ sections_text P low logs ++ (roster_line n ++ e.bytes) → ⊥
    by [] whole = let same : 102 ≡ 119 = ap (λ t. get_or t 0 0) (sym best.whole ∙ whole) in omega (arith, same)
    by (g ∷ logs) whole = let same : 102 ≡ 119 = ap (λ t. get_or t 0 0) (sym best.whole ∙ whole) in omega (arith, same)

-- one roster stands in the bytes
stands_once : (P : Instance) (bytes : List ℕ) (m n : ℕ) (s t : List Symbol) → KeepsLimits P → StandsIn P bytes m s → StandsIn P bytes n t → (m ≡ n) × (s ≡ t)
stands_once P bytes m n s t limits (inl h) (inl k) = (h.0 ∙ sym k.0, one_roster P bytes s t h.1.1 k.1.1)
stands_once P bytes m n s t limits (inl h) (inr k) = absurd (k.0 s h.1)
stands_once P bytes m n s t limits (inr h) (inl k) = absurd (h.0 t k.1)
stands_once P bytes m n s t limits (inr (none, inl h)) (inr (other, inl k)) = (h.0 ∙ sym k.0, one_best P bytes s t limits h.1 k.1)
stands_once P bytes m n s t limits (inr (none, inl h)) (inr (other, inr k)) = absurd (not_both P bytes s n t h.1 k)
stands_once P bytes m n s t limits (inr (none, inr h)) (inr (other, inl k)) = absurd (not_both P bytes t m s k.1 h)
stands_once P bytes m n s t limits (inr (none, inr h)) (inr (other, inr k)) = one_least P bytes m n s t limits h k

one_said : (P : Instance) (bytes : List ℕ) (a b : Answer) → KeepsLimits P → SaysOf P bytes a → SaysOf P bytes b → a ≡ b
one_said P bytes a b limits (m, s, days, here, h) (n, t, others, there, k) =
    let same = stands_once P bytes m n s.cells t.cells limits here there in
    let rosters : s ≡ t = same_schedule s t (days ∙ sym others) same.1 in
    let moved : IsJudged P m s b = subst (λ (i : ℕ). IsJudged P i s b) (sym same.0) (subst (λ (r : Roster). IsJudged P n r b) (sym rosters) k) in
    one_judged P m s a b h moved

pub one_taken : (P : Instance) (bytes : List ℕ) (a b : Answer) → KeepsLimits P → IsRosterAnswer P bytes a → IsRosterAnswer P bytes b → a ≡ b
one_taken P bytes (Shown x) (Shown y) limits h k = one_said P bytes (Shown x) (Shown y) limits h k
one_taken P bytes (Shown x) (Breaks y v) limits h k = one_said P bytes (Shown x) (Breaks y v) limits h k
one_taken P bytes (Breaks x u) (Shown y) limits h k = one_said P bytes (Breaks x u) (Shown y) limits h k
one_taken P bytes (Breaks x u) (Breaks y v) limits h k = one_said P bytes (Breaks x u) (Breaks y v) limits h k
one_taken P bytes (Shown x) NoRoster limits h k = absurd (k h.0 h.1.cells h.3)
one_taken P bytes (Breaks x u) NoRoster limits h k = absurd (k h.0 h.1.cells h.3)
one_taken P bytes NoRoster (Shown y) limits h k = absurd (h k.0 k.1.cells k.3)
one_taken P bytes NoRoster (Breaks y v) limits h k = absurd (h k.0 k.1.cells k.3)
one_taken P bytes NoRoster NoRoster limits h k = refl

-- no roster stands in bytes that are none of the three
pub none_stands : (P : Instance) (bytes : List ℕ) → SpellsNone P bytes → ((s : List Symbol) → IsBestWith P bytes s → ⊥) → ((n : ℕ) (s : List Symbol) → HasLeast P bytes n s → ⊥) → (m : ℕ) (s : List Symbol) → StandsIn P bytes m s → ⊥
none_stands P bytes whole best least m s (inl h) = whole s h.1
none_stands P bytes whole best least m s (inr (none, inl h)) = best s h.1
none_stands P bytes whole best least m s (inr (none, inr h)) = least m s h
