-- A split was read.
use Rattle.std.proofs.Common.{◌≡◌, ◌+◌, ◌<◌, [], ◌∷◌, ◌++◌, List, false, length, refl, sym, subst}
use Rattle.rwsp_terms.specs.Instance.{Instance}
use Rattle.refutation_terms.specs.declared.lines.Line.{Line}
use Rattle.refutation_terms.specs.declared.lines.Line.TheVariants.{Split}
use Rattle.refutation_terms.specs.declared.lines.Opening.{Opening}
use Rattle.domain_store.specs.Splits.{is_idle_in}
use Rattle.domain_store.specs.States.{IsStateOf, State, open_trees}
use Rattle.domain_store.proofs.Moves.{behind_split, open_behind_split}
use Rattle.domain_store.proofs.walk.Walk.read_split.Goals as goal

split_is_read : (c : goal.After-set_only) (P : Instance) (start : Opening) (lines : List Line) → IsStateOf P start lines (record { store = c.self.inside.domains; splits = c.self.inside.splits.items; whole = c.self.inside.whole }) → IsStateOf P start (lines ++ Split c.args.p c.args.x ∷ []) (record { store = c.set_only.new.self; splits = c.push.new.self.items; whole = c.self.inside.whole })
split_is_read c P start lines w =
    let part : State → Type 0 = λ v. v.whole ≡ false in
    let within : State → Type 0 = λ v. c.args.p < length v.store.sets in
    let useful : State → Type 0 = λ v. is_idle_in v.store c.args.p c.args.x.number ≡ false in
    behind_split P start lines c.self.inside.domains c.set_only.new.self c.self.inside.splits.items c.push.new.self.items c.self.inside.whole c.args.p c.args.x
    (record { p = c.args.p; x = c.args.x; mark = c.mark-mark.result; in_second = false })
    (subst part (sym c.self.view_is) c.requires.part) refl refl refl c.mark-mark.ensures.len c.mark-mark.ensures.here
    (subst within (sym c.self.view_is) c.requires.position) (subst useful (sym c.self.view_is) c.requires.useful)
    c.set_only.ensures.changed c.set_only.ensures.same c.set_only.ensures.has c.set_only.ensures.marks c.in_ok-push.ensures.items w

pub invariant_of-self-2 : goal.invariant_of-self-2
invariant_of-self-2 c =
    let w = c.self.invariant in
    (w.0, w.1, w.2 ++ Split c.args.p c.args.x ∷ [], split_is_read c w.0 w.1 w.2 w.3)

pub returns-clause-splits : goal.returns-clause-splits
returns-clause-splits c P start lines w = split_is_read c P start lines (subst (IsStateOf P start lines) (sym c.self.view_is) w)

pub returns-clause-one_more : goal.returns-clause-one_more
returns-clause-one_more c =
    let part : State → Type 0 = λ v. v.whole ≡ false in
    let more : State → Type 0 = λ v. open_trees (record { store = c.set_only.new.self; splits = c.push.new.self.items; whole = c.self.inside.whole }) ≡ open_trees v + 1 in
    subst more c.self.view_is (open_behind_split c.self.inside.whole c.self.inside.splits.items c.push.new.self.items (record { p = c.args.p; x = c.args.x; mark = c.mark-mark.result; in_second = false }) (subst part (sym c.self.view_is) c.requires.part) refl c.in_ok-push.ensures.items)
