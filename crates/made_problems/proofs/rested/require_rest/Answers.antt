use Rattle.std.proofs.Common.{◌≡◌, ◌++◌, List, length, ap, sym, subst, ◌∙◌, arith}
use Rattle.std.specs.Prelude.{All}
use Rattle.rwsp_terms.specs.declared.data.Sequence.{Sequence}
use Rattle.rwsp_model.specs.Sequences.{IsSequenceOf, AreListed}
use Rattle.made_problems.specs.Rested.{rested, rested_pairs}
use Rattle.made_problems.proofs.Sizes.{few_pairs, few_triples, rested_known, rested_listed, made_pairs, made_triples}
use Rattle.made_problems.proofs.rested.require_rest.Goals as goal

pub overflow_cast-result : goal.overflow_cast-result
overflow_cast-result c =
    let few = few_pairs c.args.problem.now c.args.minutes c.prove_limits.ensures in
    let same = ap length (made_pairs c.args.problem.now c.args.minutes c.count_in.result _ _ _ c.sequences-known.ensures.value c.count_in.ensures c.split_at.ensures.front c.in_ok-sequences.ensures) in
    omega (arith, few, same, c.len-then-len.ensures)

pub overflow_cast-result-then-len-2 : goal.overflow_cast-result-then-len-2
overflow_cast-result-then-len-2 c =
    let few = few_triples c.args.problem.now c.args.minutes c.prove_limits.ensures in
    let same = ap length (made_triples c.args.problem.now c.args.minutes c.count_in.result _ _ _ c.sequences-known.ensures.value c.count_in.ensures c.split_at.ensures.back c.in_ok-triples.ensures) in
    omega (arith, few, same, c.len-then-len-2.ensures)

pub with_sequences-requires-clause-known : goal.with_sequences-requires-clause-known
with_sequences-requires-clause-known c =
    let pairs = made_pairs c.args.problem.now c.args.minutes c.count_in.result _ _ _ c.sequences-known.ensures.value c.count_in.ensures c.split_at.ensures.front c.in_ok-sequences.ensures in
    let triples = made_triples c.args.problem.now c.args.minutes c.count_in.result _ _ _ c.sequences-known.ensures.value c.count_in.ensures c.split_at.ensures.back c.in_ok-triples.ensures in
    let whole : c.extend_from_slice.new.self.items ≡ (rested c.args.problem.now c.args.minutes).sequences = c.in_ok-extend_from_slice.ensures.items ∙ ap (λ (qs : List Sequence). qs ++ c.deref.result.now) pairs ∙ ap (λ (qs : List Sequence). rested_pairs c.args.problem.now c.args.minutes ++ qs) (c.deref.ensures.value ∙ triples) in
    subst (λ (qs : List Sequence). All (IsSequenceOf c.args.problem.now) qs) (sym whole) (rested_known c.args.problem.now c.args.minutes c.prove_limits.ensures)

pub with_sequences-requires-clause-listed : goal.with_sequences-requires-clause-listed
with_sequences-requires-clause-listed c =
    let pairs = made_pairs c.args.problem.now c.args.minutes c.count_in.result _ _ _ c.sequences-known.ensures.value c.count_in.ensures c.split_at.ensures.front c.in_ok-sequences.ensures in
    let triples = made_triples c.args.problem.now c.args.minutes c.count_in.result _ _ _ c.sequences-known.ensures.value c.count_in.ensures c.split_at.ensures.back c.in_ok-triples.ensures in
    let whole : c.extend_from_slice.new.self.items ≡ (rested c.args.problem.now c.args.minutes).sequences = c.in_ok-extend_from_slice.ensures.items ∙ ap (λ (qs : List Sequence). qs ++ c.deref.result.now) pairs ∙ ap (λ (qs : List Sequence). rested_pairs c.args.problem.now c.args.minutes ++ qs) (c.deref.ensures.value ∙ triples) in
    let few_twos = ap length pairs in
    let few_threes = ap length triples in
    subst AreListed (sym whole) (rested_listed c.args.problem.now c.args.minutes c.prove_limits.ensures (omega (arith, few_twos, c.len.ensures, c.if-len.false)) (omega (arith, few_threes, c.len-2.ensures, c.if-len-2.false)))
