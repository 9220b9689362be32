-- Changes, and what is known of each.
use Rattle.std.proofs.Common.{◌≡◌, ℕ, ◌+◌, ◌<◌, List, ◌++◌, length, get_or, ap, sym, subst, ◌∙◌, Option, Some, arith}
use Rattle.std.specs.Prelude.{slice_get}
use Rattle.std.specs.List.{AllZip, flat_map, range_with_len}
use Rattle.std.proofs.lemmas.Option.{slice_get-get_or}
use Rattle.rwsp_terms.specs.Instance.{Instance}
use Rattle.ways_out.specs.declared.change.Change.{Change}
use Rattle.ways_out.specs.declared.change.Outcome.{Outcome}
use Rattle.ways_out.specs.Changes.{changes}
use Rattle.ways_out.specs.Answers.{HasSteps}
use Rattle.ways_out.proofs.Zips.{zip_long, zip_at}
use Rattle.plain_words.specs.Statements.{told_line, told_lines}
use Rattle.plain_words.specs.Told.{way_statement, way_at, way_in}
use Rattle.plain_words.proofs.Joined.{list_more}
use Rattle.plain_words.proofs.Lines.{read_there}

-- the change at a place, of which this is known
pub record Known (P : Instance) (cs : List Change) (os : List Outcome) (n : ℕ) (change : Change) (d : Outcome) : Type 0 where
  pub steps : HasSteps P change (get_or os n d)
  pub told : way_in P os n ≡ way_statement P change (get_or os n d)

pub within : (P : Instance) (cs : List Change) (os : List Outcome) (n : ℕ) → AllZip (HasSteps P) (changes P) os → cs ≡ changes P → n < length os → n < length cs
within P cs os n zip is less =
    let long = zip_long (HasSteps P) (changes P) os zip in
    let same = ap length is in
    omega (arith, long, same, less)

pub known : (P : Instance) (cs : List Change) (os : List Outcome) (n : ℕ) (change : Change) (d : Outcome) → AllZip (HasSteps P) (changes P) os → cs ≡ changes P → n < length os → change ≡ get_or cs n change → Known P cs os n change d
known P cs os n change d zip is less here =
    let there : n < length (changes P) = subst (λ (xs : List Change). n < length xs) is (within P cs os n zip is less) in
    let at : change ≡ get_or (changes P) n change = here ∙ ap (λ (xs : List Change). get_or xs n change) is in
    record {
      steps = subst (λ (c : Change). HasSteps P c (get_or os n d)) (sym at) (zip_at (HasSteps P) (changes P) os n change d zip there);
      told = ap (λ (c : Option Change). way_at P c (slice_get os n)) (read_there (changes P) n change there at) ∙ ap (λ (o : Option Outcome). way_at P (Some change) o) (slice_get-get_or os n d less);
    }

pub way_more : (P : Instance) (cs : List Change) (os : List Outcome) (n : ℕ) (change : Change) (d : Outcome) (old out new : List ℕ) → Known P cs os n change d
    → out ≡ old ++ told_lines P (flat_map (way_in P os) (range_with_len 0 n)) → new ≡ out ++ told_lines P (way_statement P change (get_or os n d))
    → new ≡ old ++ told_lines P (flat_map (way_in P os) (range_with_len 0 (n + 1)))
way_more P cs os n change d old out new known before step =
    let here : n ≡ 0 + n = omega arith in
    list_more (told_line P) (way_in P os) 0 n n old out new here before (step ∙ ap (λ ss. out ++ told_lines P ss) (sym known.told))
