-- One symbol more in each start.
use Rattle.std.proofs.Common.{◌≡◌, ℕ, ◌+◌, ◌<◌, List, [], ◌∷◌, ◌++◌, length, get_or, take, ap, sym, ◌∙◌}
use Rattle.std.specs.Prelude.{map}
use Rattle.std.proofs.lemmas.List.{take_more, take_all, map_push}
use Rattle.domain_store.proofs.domains.only_symbols.Goals.{in-Some+in_ok-push, in_default}
use Rattle.domain_store.proofs.domains.only_symbols.Goals as goal

made_more : {A B : Type 0} (f : A → B) (n : ℕ) (items : List B) (x : A) (y : B) (before after : List A) → n < length items → map f before ≡ take n items → y ≡ get_or items n y → f x ≡ y → after ≡ before ++ x ∷ [] → map f after ≡ take (n + 1) items
made_more f n items x y before after within all here same e =
    ap (map f) e ∙ map_push f before x ∙ ap (λ s. s ++ f x ∷ []) all
    ∙ ap (λ z. take n items ++ z ∷ []) (same ∙ here) ∙ sym (take_more items n y within)

pub loop-set-preserved : goal.loop-set-preserved
loop-set-preserved c =
    elim c.match-only.branch [
      | in-Some+in_ok-push w ↦
          rw w.symbols-is (made_more (λ x. x.number ∷ []) _ _ _ _ _ _ c.loop-set-test.true c.loop-set.invariant c.set-item.is (sym w.in-Some.ensures) w.in_ok-push.ensures.items)
      | in_default w ↦
          absurd (w.in_default.ensures (ap length c.set-item.is ∙ c.requires c.loop-set.set-index c.set-item.result c.loop-set-test.true))
    ]

pub returns : goal.returns
returns c = c.loop-set.invariant ∙ take_all _ _ c.loop-set-test.false
