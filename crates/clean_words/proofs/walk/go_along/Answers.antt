use Rattle.std.proofs.Common.{◌≡◌, ℕ, ◌+◌, ◌-◌, [], ◌∷◌, length, ap, subst, arith, length-append}
use Rattle.clean_words.specs.Trellis.{Trellis, trellis, IsRow, AreRows}
use Rattle.clean_words.proofs.Walks.{rows_popped}
use Rattle.clean_words.proofs.walk.go_along.Goals as goal

pub go_on-requires-clause-next : goal.go_on-requires-clause-next
go_on-requires-clause-next g c =
    let T : Trellis = trellis c.args.words.now (g.G.Gain.gain_of c.args.gain.now) in
    let last : ℕ = length c.loop-next.walk.symbols.items + length c.loop-next.rows.items in
    let rest = c.pop.new.self.items in
    let popped = rows_popped T last rest c.in-Some.next (subst (AreRows T last) c.in-Some.ensures.items c.loop-next.invariant.rows) in
    let day : last - length rest ≡ length c.loop-next.walk.symbols.items + 1 = omega (arith, ap length c.in-Some.ensures.items, length-append rest (c.in-Some.next ∷ [])) in
    subst (λ (n : ℕ). IsRow T n c.in-Some.next) day popped.0

pub loop-next-preserved : goal.loop-next-preserved
loop-next-preserved g c =
    let T : Trellis = trellis c.args.words.now (g.G.Gain.gain_of c.args.gain.now) in
    let last : ℕ = length c.loop-next.walk.symbols.items + length c.loop-next.rows.items in
    let rest = c.pop.new.self.items in
    let popped = rows_popped T last rest c.in-Some.next (subst (AreRows T last) c.in-Some.ensures.items c.loop-next.invariant.rows) in
    let same : last ≡ length c.go_on.new.walk.symbols.items + length rest = omega (arith, ap length c.in-Some.ensures.items, length-append rest (c.in-Some.next ∷ []), c.in_ok-go_on.ensures.day) in
    record {
      rows = subst (λ (n : ℕ). AreRows T n rest) same popped.1;
      inside = omega (arith, same, c.loop-next.invariant.inside);
      walk = c.in_ok-go_on.ensures.walk;
      day = omega (arith, same, c.loop-next.invariant.day);
    }
