use Rattle.std.proofs.Common.{List, [], ◌∷◌, ◌++◌, ap, ◌∙◌, ℤ}
use Rattle.clean_words.specs.Hull.{Mix}
use Rattle.clean_words.proofs.hull.Hull.push_part.Goals as goal

pub returns : goal.returns
returns c =
    let vectors = rw c.if-is_err.ensures.negation at c.push-3.ensures.items in
    record {
      vectors = vectors ∙ ap (λ (m : Mix). m.vectors ++ c.new.result ∷ []) c.self.view_is ∙ ap (λ (v : List ℤ). c.args.self.now.vectors ++ v ∷ []) c.new.ensures;
      parts = c.in_ok-push-2.ensures.items ∙ ap (λ (m : Mix). m.parts ++ c.args.part ∷ []) c.self.view_is;
      kept = tt;
    }
