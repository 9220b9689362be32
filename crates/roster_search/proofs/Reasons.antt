-- A search goes on with a propagator that has the same reasons.
use Rattle.std.proofs.Common.{◌≡◌, ◌∙◌, ℕ, List, Option, subst, sym}
use Rattle.rwsp_terms.specs.Instance.{Instance}
use Rattle.refutation_terms.specs.declared.lines.Line.{Line}
use Rattle.refutation_terms.specs.declared.lines.Line.TheVariants.{Closing}
use Rattle.refutation_terms.specs.declared.lines.Leaf.TheVariants.{Window, Day}
use Rattle.refutation_terms.specs.declared.lines.Opening.{Opening}
use Rattle.domain_store.specs.Store.{Store}
use Rattle.domain_store.specs.Looks.{HasPlainLeaves, IsSame}
use Rattle.roster_search.specs.declared.aim.Aim.{Aim}
use Rattle.roster_search.specs.declared.progress.Progress.{Progress}
use Rattle.roster_search.specs.declared.sight.Sight.{Sight}
use Rattle.roster_search.specs.declared.sight.Sight.TheVariants.{Leaf, Cut, Quiet}
use Rattle.roster_search.specs.Founds.{AreForced}
use Rattle.roster_search.specs.Guides.{AreUnweighed, IsOpen, IsSight}
use Rattle.roster_search.specs.Written.{IsUnderWay, IsSearching, IsLater, IsNextStep}
use Rattle.roster_search.proofs.Reaching.{unweighed_by}
use Rattle.roster_search.proofs.Forced.{Leaves, Spent}

abbrev Serves : Type 1
Serves = Instance → Type 0

pub same_still : {A : Type 0} (served : A → Serves) (lines : A → Leaves) (symbols : A → Spent) (v : A) → IsSame served lines symbols v v
same_still served lines symbols v = record { serves = λ P. (λ h. h, λ h. h); leaves = λ S line. (λ h. h, λ h. h); spent = λ S p x. (λ h. h, λ h. h) }

pub same_on : {A : Type 0} (served : A → Serves) (lines : A → Leaves) (symbols : A → Spent) (u v w : A) → IsSame served lines symbols u v → IsSame served lines symbols v w → IsSame served lines symbols u w
same_on served lines symbols u v w a b = record {
  serves = λ P. (λ h. (b.serves P).0 ((a.serves P).0 h), λ h. (a.serves P).1 ((b.serves P).1 h));
  leaves = λ S line. (λ h. (b.leaves S line).0 ((a.leaves S line).0 h), λ h. (a.leaves S line).1 ((b.leaves S line).1 h));
  spent = λ S p x. (λ h. (b.spent S p x).0 ((a.spent S p x).0 h), λ h. (a.spent S p x).1 ((b.spent S p x).1 h));
}

pub same_back : {A : Type 0} (served : A → Serves) (lines : A → Leaves) (symbols : A → Spent) (v w : A) → IsSame served lines symbols v w → IsSame served lines symbols w v
same_back served lines symbols v w a = record {
  serves = λ P. ((a.serves P).1, (a.serves P).0);
  leaves = λ S line. ((a.leaves S line).1, (a.leaves S line).0);
  spent = λ S p x. ((a.spent S p x).1, (a.spent S p x).0);
}

-- splits as the one says are as the other says
forced_by : {A : Type 0} (P : Instance) (served : A → Serves) (lines : A → Leaves) (symbols : A → Spent) (v w : A) (start : Opening) (ls : List Line) → IsSame served lines symbols v w → AreForced P (lines v) (symbols v) start ls → AreForced P (lines w) (symbols w) start ls
forced_by P served lines symbols v w start ls same h k p x e =
    let f = h k p x e in
    record {
      store = f.store;
      is_store = f.is_store;
      belongs = f.belongs;
      agrees = f.agrees;
      not_closed = λ c. f.not_closed (c.0, (same.leaves f.store c.0).1 c.1, c.2);
      forced = λ q z h. (same.spent f.store p x).0 (f.forced q z ((same.spent f.store q z).1 h));
    }

pub later_by : {A : Type 0} (P : Instance) (served : A → Serves) (lines : A → Leaves) (symbols : A → Spent) (v w : A) (a b : Progress) → IsSame served lines symbols v w → IsLater P (lines w) (symbols w) a b → IsLater P (lines v) (symbols v) a b
later_by P served lines symbols v w a b same l = record {
  same_aim = l.same_aim;
  forced = λ h. forced_by P served lines symbols w v b.aim.opening b.lines.items (same_back served lines symbols v w same) (l.forced (forced_by P served lines symbols v w a.aim.opening a.lines.items same h));
  no_few = l.no_few;
}

pub next_by : {A : Type 0} (P : Instance) (served : A → Serves) (lines : A → Leaves) (symbols : A → Spent) (v w : A) (a b : Progress) → IsSame served lines symbols v w → IsNextStep P (lines w) (symbols w) a b → IsNextStep P (lines v) (symbols v) a b
next_by P served lines symbols v w a b same h = record { later = later_by P served lines symbols v w a b same h.later; longer = h.longer }

pub later_on : (P : Instance) (leaves : Leaves) (spent : Spent) (a b c : Progress) → IsLater P leaves spent a b → IsLater P leaves spent b c → IsLater P leaves spent a c
later_on P leaves spent a b c first second = record {
  same_aim = second.same_aim ∙ first.same_aim;
  forced = λ h. second.forced (first.forced h);
  no_few = λ h. second.no_few (first.no_few h);
}

pub sight_by : {A : Type 0} (P : Instance) (goal : Option ℕ) (served : A → Serves) (lines : A → Leaves) (symbols : A → Spent) (v w : A) (S : Store) (sight : Sight) → IsSame served lines symbols v w → IsSight P goal (lines v S) (symbols v S) S sight → IsSight P goal (lines w S) (symbols w S) S sight
sight_by P goal served lines symbols v w S sight same h = by_kind sight h
  where
    still_open : IsOpen P goal (lines v S) S → IsOpen P goal (lines w S) S
    still_open u = (λ c. u.0 (c.0, (same.leaves S c.0).1 c.1, c.2), u.1)

    by_kind : (sight : Sight) → IsSight P goal (lines v S) (symbols v S) S sight → IsSight P goal (lines w S) (symbols w S) S sight
    by_kind (Leaf line) h = h
    by_kind (Cut p x line) h = (
      still_open h.0,
      record { is_spent = (same.spent S p x).0 h.1.is_spent; position = h.1.position; useful = h.1.useful; unweighed = h.1.unweighed; leaf = h.1.leaf },
    )
    by_kind Quiet h = (still_open h.0, λ p x spent. h.1 p x ((same.spent S p x).1 spent))

-- behind lines that the propagator was told of
pub searching_on : {A : Type 0} (P : Instance) (served : A → Serves) (tracked : A → Store → Type 0) (lines : A → Leaves) (symbols : A → Spent) (v w : A) (a b : Progress) → served v P → HasPlainLeaves P (lines v) → AreUnweighed a.aim.goal (lines v) → IsSame served lines symbols v w → b.aim ≡ a.aim → tracked w b.walk.store → IsUnderWay P b → IsSearching P served tracked lines w b
searching_on P served tracked lines symbols v w a b serves plain light same aim tracks u = record {
  serves = (same.serves P).0 serves;
  tracks = tracks;
  plain = record {
    windows = λ S number p len fits. (same.leaves S (Closing (Window number p len))).0 (plain.windows S number p len fits);
    days = λ S j x over fits. (same.leaves S (Closing (Day j x over))).0 (plain.days S j x over fits);
  };
  unweighed = subst (λ (m : Aim). AreUnweighed m.goal (lines w)) (sym aim) (unweighed_by a.aim.goal (lines v) (lines w) (λ S line. (same.leaves S line).1) light);
  under_way = u;
}
