use Rattle.std.proofs.Common.{◌<◌, ◌∙◌, ap, sym, length, refl, rules, Ok, None}
use Rattle.refutation_terms.specs.Sharp.{HoldsAtTop}
use Rattle.domain_store.specs.Store.{has_domain}
use Rattle.clean_words.specs.First.{first_answer}
use Rattle.clean_words.proofs.Chunks.{joined_chunks}
use Rattle.clean_words.proofs.first.first_holding.Goals as goal

pub returns : goal.returns
returns g c =
    let some : 0 < c.div_ceil-size.result = search rules in
    joined_chunks (HoldsAtTop c.args.top.now.automaton.now.problem (has_domain c.args.top.now.domains.now) c.args.top.now.automaton.now.rules) c.args.bounds.now _ c.div_ceil-size.result c.in_ok-answers.answers.items _ some (sym (ap length c.deref.ensures.value) ∙ c.deref.ensures.len ∙ c.in_ok-answers.ensures.len)
    (λ n lt. record {
      chunk = (c.in_ok-answers.ensures.each n (Ok None) lt).1.argument.now;
      is = (c.in_ok-answers.ensures.each n (Ok None) lt).1.argument_is.value;
      first = (c.in_ok-answers.ensures.each n (Ok None) lt).1.call;
    })
    (c.first_answer.ensures ∙ ap first_answer c.deref.ensures.value) refl
