-- One position was taken over, and the others were the same.
use Rattle.std.proofs.Common.{sym, subst, refl}
use Rattle.domain_store.specs.Store.{domain_at}
use Rattle.propagators.specs.Counted.{Counted, StandsFor}
use Rattle.propagators.proofs.TallyLemmas.{narrowed_stands}
use Rattle.propagators.proofs.counts.Counts.narrowed.Goals as goal

pub returns : goal.returns
returns c =
    let P : Counted → Type 0 = λ C. StandsFor C c.args.doms.now in
    subst P (sym c.take_over.ensures) (narrowed_stands c.args.self.now c.args.doms.now c.args.p (domain_at c.args.doms.now c.args.p) c.requires.differs c.prove_facts.ensures.long c.prove_facts-2.ensures.now.long c.requires.position refl)
