-- A leaf more.
use Rattle.std.proofs.Common.{◌≡◌, ◌⊎◌, refl, false, Some, arith, inl, inr}
use Rattle.std.specs.Prelude.{Contains}
use Rattle.rwsp_terms.specs.declared.data.Rule.{Rule}
use Rattle.rwsp_terms.specs.Rules.{rule_of}
use Rattle.refutation_log.specs.Cited.{IsCited}
use Rattle.refutation_terms.specs.Log.{Cites}
use Rattle.roster_search.proofs.Cited.{written_next}
use Rattle.roster_search.proofs.progress.Progress.close.Goals as goal

pub returns-clause-written : goal.returns-clause-written
returns-clause-written c =
    let P = c.args.problem.now in
    let a = c.args.self.now in
    written_next P a _ c.args.line c.requires.written (record {
      aim = refl;
      lines = c.in_ok-push.ensures.items;
      state = c.read_leaf.ensures.ends c.args.line c.requires.leaf.leaf P a.aim.opening a.lines.items c.requires.written.state;
      stands = record { holds = c.requires.leaf.holds; fits = c.requires.leaf.fits; short = c.requires.leaf.short };
      named = c.in_ok-put_cited.ensures.names;
      numbers = λ k h. elim ((c.in_ok-put_cited.ensures.ok k).0 h) as (λ (o : Contains a.named k ⊎ IsCited P (Cites P c.args.line) k). (x : Rule) × (rule_of P k ≡ Some x)) [
        | inl old ↦ c.requires.written.numbers k old
        | inr cited ↦ (cited.0, cited.1)
      ];
      opened = omega (arith, c.read_leaf.ensures.one_less);
    })

pub put_cited-requires : goal.put_cited-requires
put_cited-requires c = (c.args.self.now.aim.goal, false, c.requires.leaf.fits)
