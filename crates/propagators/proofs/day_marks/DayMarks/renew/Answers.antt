-- The steps are between states that there is room for, and the pass is over them.
use Rattle.std.proofs.Common.{refl}
use Rattle.domain_store.specs.Sets.{has_symbol}
use Rattle.propagators.proofs.Mending.{room_for, pass_put, pass_same, wide_swapped}
use Rattle.propagators.proofs.day_marks.DayMarks.renew.Goals as goal

pub put_behind-requires : goal.put_behind-requires
put_behind-requires c = room_for c.args.way c.args.self.now c.self.inside.rows.items c.self.inside.spare c.args.steps.now c.args.here c.self.view_is c.requires.apart.0 c.requires.wide c.self.invariant

pub returns-clause-step : goal.returns-clause-step
returns-clause-step c =
    pass_put c.args.way c.args.steps.now (has_symbol c.args.set.now) c.args.self.now c.self.inside.rows.items c.index.result.now c.put_behind.new.self c.swap.new.y c.args.here c.args.there
    c.self.view_is c.requires.apart.0 c.requires.apart.1 c.requires.apart.2 c.index.ensures c.swap.ensures.y_after c.put_behind.ensures.marks

pub returns-then-is_same-clause-step : goal.returns-then-is_same-clause-step
returns-then-is_same-clause-step c =
    pass_same c.args.way c.args.steps.now (has_symbol c.args.set.now) c.args.self.now c.self.inside.rows.items c.index.result.now c.put_behind.new.self c.index-2.result.now c.args.here c.args.there
    c.self.view_is c.requires.apart.0 c.requires.apart.1 c.index.ensures c.index-2.ensures (c.if-is_same.ensures.0 refl) c.put_behind.ensures.marks

pub invariant_of-self-2 : goal.invariant_of-self-2
invariant_of-self-2 c = wide_swapped c.args.self.now c.self.inside.rows.items c.self.inside.spare c.put_behind.new.self c.index_mut.result.now c.swap.new.y c.swap.new.x c.args.there c.self.view_is c.requires.apart.1 c.self.invariant c.put_behind.ensures.long c.swap.ensures.y_after c.swap.ensures.x_after c.index_mut.ensures.value
