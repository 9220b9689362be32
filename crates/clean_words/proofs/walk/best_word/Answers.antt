use Rattle.std.proofs.Common.{◌≡◌, ℕ, ◌+◌, ◌-◌, ◌*◌, length, sym, subst, arith, rules}
use Rattle.clean_words.specs.Trellis.{Trellis, trellis, IsRow, AreRows}
use Rattle.clean_words.specs.Kept.{AreKept}
use Rattle.clean_words.proofs.Walks.{on_start, on_end, kept_popped, none_kept}
use Rattle.clean_words.proofs.walk.best_word.Goals as goal

pub loop-row-init : goal.loop-row-init
loop-row-init g c =
    let T : Trellis = trellis c.args.words.now (g.G.Gain.gain_of c.args.gain.now) in
    let facts = c.prove_facts.ensures in
    record {
      kept = c.requires.kept;
      walk = rw (c.new.ensures.items, c.start.ensures.value) (on_start T (record { automaton = facts.automaton; symbols = facts.symbols }) c.requires.some);
      day = rw c.new.ensures.items (omega arith);
    }

pub rows_before-requires-clause-row : goal.rows_before-requires-clause-row
rows_before-requires-clause-row g c =
    let T : Trellis = trellis c.args.words.now (g.G.Gain.gain_of c.args.gain.now) in
    let n : c.len.result ≡ length c.pop.new.self.items = search rules in
    let popped = kept_popped T c.loop-row.left c.pop.new.self.items c.in-Some.row (subst (AreKept T c.loop-row.left) c.in-Some.ensures.items c.loop-row.invariant.kept) in
    subst (λ (k : ℕ). IsRow T (c.args.words.now.days - k * 128) c.in-Some.row) (sym n) popped.is_row

pub go_along-requires-clause-rows : goal.go_along-requires-clause-rows
go_along-requires-clause-rows g c =
    let T : Trellis = trellis c.args.words.now (g.G.Gain.gain_of c.args.gain.now) in
    let n : c.len.result ≡ length c.pop.new.self.items = search rules in
    let popped = kept_popped T c.loop-row.left c.pop.new.self.items c.in-Some.row (subst (AreKept T c.loop-row.left) c.in-Some.ensures.items c.loop-row.invariant.kept) in
    let before = popped.before in
    let same : c.args.words.now.days - c.len.result * 128 ≡ length c.loop-row.walk.symbols.items + length c.in_ok-rows.rows.items = omega (arith, n, before, c.in_ok-rows.ensures.long, c.loop-row.invariant.day) in
    subst (λ (k : ℕ). AreRows T k c.in_ok-rows.rows.items) same c.in_ok-rows.ensures.rows

pub loop-row-preserved : goal.loop-row-preserved
loop-row-preserved g c =
    let T : Trellis = trellis c.args.words.now (g.G.Gain.gain_of c.args.gain.now) in
    let n : c.len.result ≡ length c.pop.new.self.items = search rules in
    let popped = kept_popped T c.loop-row.left c.pop.new.self.items c.in-Some.row (subst (AreKept T c.loop-row.left) c.in-Some.ensures.items c.loop-row.invariant.kept) in
    let before = popped.before in
    record {
      kept = subst (λ (k : ℕ). AreKept T (k * 128) c.pop.new.self.items) (sym n) popped.kept;
      walk = c.in_ok-go_along.ensures.walk;
      day = omega (arith, n, before, c.in_ok-go_along.ensures.day, c.in_ok-rows.ensures.long, c.loop-row.invariant.day);
    }

pub returns : goal.returns
returns g c =
    let T : Trellis = trellis c.args.words.now (g.G.Gain.gain_of c.args.gain.now) in
    let none : length c.loop-row.kept.items ≡ 0 = search rules in
    let done : c.loop-row.left ≡ 0 = none_kept T c.loop-row.left c.loop-row.kept.items c.loop-row.invariant.kept none in
    let end : length c.loop-row.walk.symbols.items ≡ c.args.words.now.days = omega (arith, done, c.loop-row.invariant.day) in
    rw c.of.ensures (on_end T c.loop-row.walk.symbols.items c.loop-row.walk.state c.loop-row.invariant.walk end)
