use Rattle.std.proofs.Common.{◌≡◌, ◌+◌, ◌≤◌, ℕ, List, length, refl, ◌∙◌, arith}
use Rattle.rwsp_io.proofs.Bytes.{Consumes-behind, took_all, past_limit, too_short, no_less, not_refused, no_fault}
use Rattle.rwsp_io.specs.Told.{Bytes}
use Rattle.rwsp_io.proofs.shelf.read_all.Goals as goal

pub loop-filled-preserved : goal.loop-filled-preserved
loop-filled-preserved g c =
    let before = c.loop-filled.invariant in
    let read = c.in_ok-count.ensures in
    record {
      filled = read.within;
      few = read.few;
      chosen = read.chosen;
      taken = Consumes-behind _ _ _ _ _ _ _ read.front before.taken read.taken;
      not_missing = before.not_missing;
      held = λ other. read.held other ∙ before.held other;
      faults = λ name. omega (arith, read.faults name, before.faults name);
    }

pub returns-then-count-eq0 : goal.returns-then-count-eq0
returns-then-count-eq0 g c =
    let before = c.loop-filled.invariant in
    let read = c.in_ok-count.ensures in
    let told = g.S.Shelf.held c.args.shelf.now c.args.name.now in
    let all : (bytes : List ℕ) → told ≡ Bytes bytes → c.truncate.new.self.items ≡ bytes =
    λ bytes held. c.truncate.ensures.items ∙ took_all told _ bytes _ c.loop-filled.filled c.in_ok-count.count c.if-count-eq0.true held (Consumes-behind _ _ _ _ _ _ _ read.front before.taken read.taken) (read.end c.if-count-eq0.true) in
    let short : length c.truncate.new.self.items ≤ c.args.limit = omega (arith, c.truncate.ensures.len) in
    record {
      all = all;
      within = omega (arith, short);
      fault = λ e. absurd (not_refused _ _ e);
      too_long = λ e. absurd (not_refused _ _ e);
      missing = λ none. absurd (before.not_missing none);
      beyond = λ bytes held long. absurd (too_short _ bytes _ (all bytes held) short long);
      refused = λ bytes held long calm. absurd (too_short _ bytes _ (all bytes held) short long);
      read = λ bytes held few calm. tt;
      held = λ other. read.held other ∙ before.held other;
      faults = λ name. omega (arith, read.faults name, before.faults name);
    }

pub returns : goal.returns
returns g c =
    let before = c.loop-filled.invariant in
    let told = g.S.Shelf.held c.args.shelf.now c.args.name.now in
    let within : c.loop-filled.filled ≤ length c.loop-filled.bytes.items = omega arith in
    let few : length c.loop-filled.bytes.items ≤ c.args.limit + 1 = omega arith in
    let past = λ (bytes : List ℕ) (held : told ≡ Bytes bytes). past_limit told (g.S.Shelf.left c.loop-filled.shelf) bytes c.loop-filled.bytes.items c.loop-filled.filled c.args.limit held before.taken within few c.loop-filled-test.false in
    record {
      all = λ bytes held. tt;
      within = tt;
      fault = λ e. absurd (no_fault e);
      too_long = λ e. past;
      missing = λ none. absurd (before.not_missing none);
      beyond = λ bytes held long. refl;
      refused = λ bytes held long calm. tt;
      read = λ bytes held small calm. absurd (no_less _ _ (past bytes held).0 small);
      held = before.held;
      faults = before.faults;
    }
