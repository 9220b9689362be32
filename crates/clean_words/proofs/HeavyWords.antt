-- The best words by weights and a reward are the heaviest clean words.
use Rattle.std.proofs.Common.{ℕ, List, sym, ◌∙◌, arith, ℤ, Option, Some, None, inl, inr}
use Rattle.std.specs.Prelude.{◌≤ℤ◌, MatchOption, IfOk, Result, Ok, Err}
use Rattle.std.specs.declared.alloc.AllocError.{AllocError}
use Rattle.std.proofs.lemmas.Int.{ints}
use Rattle.rwsp_terms.specs.declared.data.Symbol.{Symbol}
use Rattle.refutation_terms.specs.Escape.{ComesFirst, IsHeaviestBy, IsLeastHeaviestBy}
use Rattle.clean_words.specs.Courses.{Course, IsNoWorse, IsBestOf, AreBelow}
use Rattle.clean_words.specs.declared.heavy_words.HeavyWord.{HeavyWord}
use Rattle.clean_words.specs.Heaviest.{IsHeaviestFound}
use Rattle.clean_words.proofs.FreeWords.{Weighs}

heaviest_by_best : (C : Course) (len : ℕ) (weighs : List Symbol → ℤ) (h : HeavyWord) → Weighs C.gain weighs → IsBestOf C len h.weight h.word → IsLeastHeaviestBy C.problem C.domains C.position len C.rules weighs h.word
heaviest_by_best C len weighs h is b = record { heavy = record { clean = b.clean; heaviest = λ v over. heaviest v (b.best v over) }; least = λ v heavy. least v heavy (b.best v heavy.clean) }
  where
    heaviest : (v : List Symbol) → IsNoWorse C h.word v → weighs v ≤ℤ weighs h.word
    heaviest v (inl lt) = omega (arith, ints, lt, is v, is h.word)
    heaviest v (inr e) = omega (arith, ints, e.0, is v, is h.word)

    least : (v : List Symbol) → IsHeaviestBy C.problem C.domains C.position len C.rules weighs v → IsNoWorse C h.word v → ComesFirst h.word v
    least v heavy (inl lt) = absurd (omega (arith, ints, lt, is v, is h.word, heavy.heaviest h.word b.clean))
    least v heavy (inr e) = e.1

-- the best of the words of a course are the heaviest clean words
pub heaviest_of_course : (C : Course) (len : ℕ) (weighs : List Symbol → ℤ) (least : ℤ) (r : Result (Option HeavyWord) AllocError) → Weighs C.gain weighs
    → IfOk r (λ found. MatchOption found (AreBelow C len least) (λ h. IsBestOf C len h.weight h.word × (least ≤ℤ h.weight))) → IfOk r (IsHeaviestFound C.problem C.domains C.position len C.rules weighs least)
heaviest_of_course C len weighs least (Ok None) is below = λ u clean. omega (arith, ints, below u clean, is u)
heaviest_of_course C len weighs least (Ok (Some h)) is best = (heaviest_by_best C len weighs h is best.0, sym best.0.gains ∙ is h.word, best.1)
heaviest_of_course C len weighs least (Err e) is h = h
