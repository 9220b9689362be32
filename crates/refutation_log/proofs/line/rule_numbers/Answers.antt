use Rattle.std.proofs.Common.{◌<◌, ◌+◌, arith, ap, ◌∙◌, subst, sym}
use Rattle.std.specs.Prelude.{All}
use Rattle.std.proofs.lemmas.List.Elements.{All-push, All-weaker}
use Rattle.rwsp_text.specs.Fields.{rules_at, rules_front}
use Rattle.refutation_log.proofs.RulesFront.{reads_on, reads_done, number_shortens}
use Rattle.refutation_log.proofs.line.rule_numbers.Goals as goal

pub loop-n-smaller : goal.loop-n-smaller
loop-n-smaller c = number_shortens _ _ _ _ _ c.in-Some.ensures.takes

pub loop-n-preserved : goal.loop-n-preserved
loop-n-preserved c = record {
  ascends = c.in_ok-put_behind.ensures.ascends;
  below =
      subst (All (λ k. k < c.in-Some.n + 1)) (sym c.in_ok-put_behind.ensures.value)
      (All-push (λ k. k < c.in-Some.n + 1) c.loop-n.list c.in-Some.n (All-weaker (λ k. k < c.loop-n.last + 1) (λ k. k < c.in-Some.n + 1) (λ k h. omega (arith, h, c.in-Some.ensures.range)) c.loop-n.list c.loop-n.invariant.below) (omega arith));
  within = c.in-Some.ensures.range.1;
  reads = reads_on _ _ _ _ _ _ _ _ c.loop-n.invariant.reads c.in-Some.ensures.takes c.in_ok-put_behind.ensures.value;
}

pub returns : goal.returns
unfolding rules_at
returns c =
    ap (λ h. rules_front h 0 c.args.fields.now) (sym c.rule_count-high.ensures.value)
    ∙ reads_done _ c.loop-n.last _ c.loop-n.fields _ c.loop-n.invariant.reads c.in_default.ensures.takes.0
    ∙ ap (λ ws. (c.loop-n.list, ws)) (sym c.in_default.ensures.takes.1)
