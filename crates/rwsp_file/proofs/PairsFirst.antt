-- Lists of sequences of which the first are pairs and the others are triples.
use Rattle.std.proofs.Common.{◌≡◌, ℕ, ◌+◌, ◌<◌, ◌≤◌, List, length, get_or, take, Bool, nat_le, ap, subst, ◌∙◌, arith}
use Rattle.std.specs.Prelude.{AllPairs, drop, if◌then◌else◌}
use Rattle.std.proofs.lemmas.Bool.{le-leb, lt-leb}
use Rattle.std.proofs.lemmas.List.{take-append-drop, length-take-le, length-drop, get_or-take, get_or-drop}
use Rattle.rwsp_terms.specs.declared.data.Sequence.{Sequence}
use Rattle.rwsp_model.specs.Sequences.{part_of, count_in}
use Rattle.rwsp_model.proofs.Sequences.{two_parts}
use Rattle.rwsp_file.specs.Reading.{kind_at}
use Rattle.rwsp_file.specs.declared.misfit.Kind.{Kind}
use Rattle.rwsp_file.specs.declared.misfit.Kind.TheVariants.{Pair, Triple}

-- how many symbols a sequence of a kind has
abbrev pub symbols_in : Kind → ℕ
symbols_in Pair = 2
symbols_in Triple = 3

abbrev symbols_at : ℕ → ℕ → ℕ
symbols_at pairs k = symbols_in (kind_at pairs (k + 1))

pub in_pairs : (pairs k : ℕ) → k < pairs → symbols_at pairs k ≡ 2
in_pairs pairs k less = ap (λ (b : Bool). symbols_in (if b then Pair else Triple)) (le-leb (k + 1) pairs (omega (arith, less)))

pub in_triples : (pairs k : ℕ) → pairs ≤ k → symbols_at pairs k ≡ 3
in_triples pairs k le = ap (λ (b : Bool). symbols_in (if b then Pair else Triple)) (lt-leb (k + 1) pairs (omega (arith, le)))

-- each sequence has as many symbols as its number says: so the pairs stand first, and there are so many of each
pub listed : (pairs triples : ℕ) (qs : List Sequence) → length qs ≡ pairs + triples → ((i : ℕ) (d : Sequence) → i < length qs → part_of (get_or qs i d) ≡ symbols_at pairs i) →
    AllPairs (λ a b. part_of a ≤ part_of b) qs × (count_in 2 qs ≡ pairs) × (count_in 3 qs ≡ triples)
listed pairs triples qs long each =
    let front : length (take pairs qs) ≡ pairs = length-take-le pairs qs (omega (arith, long)) in
    let back : length (drop pairs qs) ≡ triples = omega (arith, long, length-drop pairs qs) in
    let both = two_parts (take pairs qs) (drop pairs qs)
    (λ i d less. let below : i < pairs = omega (arith, less, front) in ap part_of (get_or-take pairs qs i d below) ∙ each i d (omega (arith, below, long)) ∙ in_pairs pairs i below)
    (λ i d less. ap part_of (get_or-drop pairs qs i d) ∙ each (pairs + i) d (omega (arith, less, back, long)) ∙ in_triples pairs (pairs + i) (omega arith)) in
    subst (λ zs. AllPairs (λ a b. part_of a ≤ part_of b) zs × (count_in 2 zs ≡ pairs) × (count_in 3 zs ≡ triples)) (take-append-drop pairs qs)
    (both.0, both.1 ∙ front, both.2 ∙ back)
