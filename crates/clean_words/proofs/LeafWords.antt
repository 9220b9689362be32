-- What the heaviest clean words say of a leaf of words.
use Rattle.std.proofs.Common.{◌≡◌, ℕ, ◌*◌, List, length, subst, sym, refl, ap, ◌∙◌, arith, Option, Some, None}
use Rattle.std.specs.Prelude.{ℤ, pos, ◌*ℤ◌, ◌≤ℤ◌, ◌<ℤ◌, MatchOption, unwrap_or}
use Rattle.std.proofs.lemmas.Int.{ints}
use Rattle.rwsp_terms.specs.declared.data.Symbol.{Symbol}
use Rattle.rwsp_terms.specs.declared.data.Weight.{Weight}
use Rattle.rwsp_terms.specs.Instance.{Instance, cells}
use Rattle.refutation_terms.specs.Word.{Domains, Over, Clean, weight, total}
use Rattle.refutation_terms.specs.FreeWeekends.{free_weekends, free_weight}
use Rattle.refutation_terms.specs.declared.lines.WordClaim.{WordClaim}
use Rattle.refutation_terms.specs.declared.lines.WordClaim.TheVariants.{Light}
use Rattle.refutation_terms.specs.WordsLeaf.{owed, RewardFits, WordsHold, WordsEscape}
use Rattle.refutation_terms.specs.Escape.{IsHeaviestBy, IsLeastHeaviestBy}
use Rattle.clean_words.specs.declared.heavy_words.HeavyWord.{HeavyWord}
use Rattle.clean_words.specs.Heaviest.{IsHeaviestFound}
use Rattle.clean_words.specs.Searched.{IsTopEscape}

abbrev IsSame : (List Symbol → ℤ) → (List Symbol → ℤ) → Type 0
IsSame W V = (u : List Symbol) → W u ≡ V u

heavy_same : (P : Instance) (D : Domains) (p len : ℕ) (R : List ℕ) (W V : List Symbol → ℤ) (u : List Symbol) → IsSame W V → IsHeaviestBy P D p len R W u → IsHeaviestBy P D p len R V u
heavy_same P D p len R W V u same h = record { clean = h.clean; heaviest = λ v clean. omega (arith, ints, h.heaviest v clean, same u, same v) }

-- words that weigh this, and a total of one turn
said : (P : Instance) (D : Domains) (p len turns : ℕ) (R : List ℕ) (W V : List Symbol → ℤ) (least sum : ℤ) (found : Option HeavyWord) → IsSame W V → len ≡ turns * cells P → least ≡ pos turns *ℤ sum → IsHeaviestFound P D p len R W least found
    → MatchOption found ((u : List Symbol) → length u ≡ turns * cells P → Over P D p u → Clean P R p u → V u <ℤ (pos turns *ℤ sum)) (λ h. IsLeastHeaviestBy P D p (turns * cells P) R V h.word × ((pos turns *ℤ sum) ≤ℤ V h.word))
said P D p len turns R W V least sum None same size is light = λ u long over clean. omega (arith, ints, is, same u, light u (record { long = long ∙ sym size; over = over; clean = clean }))
said P D p len turns R W V least sum (Some h) same size is heavy =
    let L : ℕ → Type 0 = λ n. IsLeastHeaviestBy P D p n R V h.word in
    let here : L len = record { heavy = heavy_same P D p len R W V h.word same heavy.0.heavy; least = λ v other. heavy.0.least v (heavy_same P D p len R V W v (λ u. sym (same u)) other) } in
    (subst L size here, omega (arith, ints, is, same h.word, heavy.1, heavy.2))

-- what is found says of the claim whether it holds
abbrev pub IsSaid : Instance → Domains → Option ℕ → ℕ → List ℕ → WordClaim → Option HeavyWord → Type 0
IsSaid P D goal p R claim found = MatchOption found (WordsHold P goal D p R claim) (λ h. WordsEscape P goal D p R claim h.word)

pub claim_said : (P : Instance) (D : Domains) (goal : Option ℕ) (p len turns reward : ℕ) (R : List ℕ) (y : List Weight) (least : ℤ) (found : Option HeavyWord) → RewardFits goal p reward → len ≡ turns * cells P → least ≡ pos turns *ℤ owed P (Some (unwrap_or goal 0)) y reward
    → IsHeaviestFound P D p len R (free_weight P y reward p) least found → IsSaid P D goal p R (Light turns reward y) found
claim_said P D None p len turns reward R y least found plain size is heavy =
    let none : reward * 0 ≡ 0 = omega arith in
    let sum : owed P (Some 0) y reward ≡ total P y = omega (arith, ints, none) in
    let here : IsSame (free_weight P y reward p) (weight P y p) = λ u. let zero : 0 * free_weekends u ≡ 0 = omega arith in let none : reward * free_weekends u ≡ 0 = ap (λ (n : ℕ). n * free_weekends u) plain ∙ zero in omega (arith, ints, none) in
    said P D p len turns R (free_weight P y reward p) (weight P y p) least (total P y) found here size (is ∙ ap (λ (z : ℤ). pos turns *ℤ z) sum) heavy
claim_said P D (Some goal) p len turns reward R y least found first size is heavy =
    said P D p len turns R (free_weight P y reward p) (free_weight P y reward p) least (owed P (Some goal) y reward) found (λ u. refl) size is heavy

-- what is asked of the words, by the total that was worked out
pub asked_by : (P Q : Instance) (y : List Weight) (turns reward n : ℕ) (goal : Option ℕ) (asked least sum : ℤ) → asked ≡ least → least ≡ pos turns *ℤ sum → sum ≡ owed Q (Some n) y reward → Q ≡ P → n ≡ unwrap_or goal 0 → asked ≡ pos turns *ℤ owed P (Some (unwrap_or goal 0)) y reward
asked_by P Q y turns reward n goal asked least sum read is value same number = read ∙ is ∙ ap (λ (z : ℤ). pos turns *ℤ z) (value ∙ ap (λ I. owed I (Some n) y reward) same ∙ ap (λ (k : ℕ). owed P (Some k) y reward) number)

-- the same of one turn from position 0 on
pub top_escape : (P : Instance) (D : Domains) (R : List ℕ) (y : List Weight) (found : Option (List Symbol)) → MatchOption found (WordsHold P None D 0 R (Light 1 0 y)) (WordsEscape P None D 0 R (Light 1 0 y)) → IsTopEscape P D R y found
top_escape P D R y None holds = holds
top_escape P D R y (Some w) heavy =
    let once : 1 * cells P ≡ cells P = omega arith in
    let L : ℕ → Type 0 = λ n. IsLeastHeaviestBy P D 0 n R (weight P y 0) w in
    (λ holds. omega (arith, ints, heavy.1, holds w heavy.0.heavy.clean.long heavy.0.heavy.clean.over heavy.0.heavy.clean.clean), subst L once heavy.0)
