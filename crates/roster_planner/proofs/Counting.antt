-- What is found where blocks are counted.
use Rattle.std.proofs.Common.{◌≡◌, ℕ, ◌<◌, [], ◌∷◌, Bool, true, false, Option, Some, None, refl, sym, ◌∙◌, subst, inl, inr}
use Rattle.std.specs.Prelude.{◌↔◌, IsTrue, MatchOption, Result, Ok, Err, IfOk}
use Rattle.std.specs.declared.alloc.AllocError.{AllocError}
use Rattle.rwsp_terms.specs.declared.data.Symbol.{Symbol}
use Rattle.rwsp_terms.specs.Instance.{Instance, cells}
use Rattle.refutation_terms.specs.declared.lines.Line.{Line}
use Rattle.refutation_terms.specs.declared.lines.Line.TheVariants.{Closing}
use Rattle.refutation_terms.specs.declared.lines.Leaf.{Leaf}
use Rattle.refutation_terms.specs.declared.lines.Leaf.TheVariants.{Window, Day, Blocks}
use Rattle.refutation_terms.specs.declared.lines.Opening.{Opening}
use Rattle.refutation_terms.specs.declared.lines.Opening.TheVariants.{Full, Turned, Given}
use Rattle.refutation_terms.specs.Word.{Domains, AreSame}
use Rattle.refutation_terms.specs.BlocksLeaf.{IsFirstBlocks, NoBlocksHold}
use Rattle.refutation_terms.specs.Tree.{opening}
use Rattle.refutation_terms.specs.Log.{Log, Passes, NamesOnlyCited, GoalFits, CountsFit, IsAllowed}
use Rattle.refutation_terms.specs.Leaves.{LeafFits}
use Rattle.refutation_terms.proofs.SameDomains.{turned_round, same_holds}
use Rattle.domain_store.specs.Store.{Store, has_domain}
use Rattle.domain_store.specs.Looks.{Closes, HasPlainLeaves, IsLook}
use Rattle.domain_store.specs.declared.look.Look.{Look}
use Rattle.domain_store.specs.declared.look.Look.TheVariants.{Quiet, Closed, Cut}
use Rattle.refutation_log.specs.declared.found.Found.{Found}
use Rattle.refutation_log.specs.declared.found.Found.TheVariants.{Roster, NoRoster, Undecided}
use Rattle.refutation_log.specs.declared.best_found.BestFound.{BestFound}
use Rattle.refutation_log.specs.declared.best_found.BestFound.TheVariants as Bests
use Rattle.refutation_log.specs.Planned.{IsPlain, IsBlocksTree, NoPlainLeafHolds, IsCountingLog, IsCountedLog, IsCounted}
use Rattle.refutation_log.specs.Bests.{IsBestCounted}
use Rattle.refutation_log.specs.OneLeaf.{ClosesAll}
use Rattle.propagators.specs.Days.{IsDaySpent}
use Rattle.roster_search.proofs.Logs.{fits_either}
use Rattle.roster_search.proofs.Reaching.{unweighed_leaf}
use Rattle.roster_search.specs.Founds.{IsFound, gives_cells}
use Rattle.roster_planner.specs.CaseReasons.{AreCaseReasons, ArePlain}
use Rattle.roster_planner.specs.Counted.{IsCountedProof, IsPlainProof, IsPlainLeaf, IsPlainLook}
use Rattle.roster_planner.proofs.Unweighed.{plain_unweighed}

-- a look at windows and days

no_plain : (P : Instance) (leaves : Store → Line → Type 0) (S : Store) → HasPlainLeaves P leaves → (Closes P (leaves S) S → ⊥) → NoPlainLeafHolds P (has_domain S)
no_plain P leaves S plain quiet = (
  λ h. quiet (Closing (Window h.0 h.1 h.2), plain.windows S h.0 h.1 h.2 h.3, h.4),
  λ h. quiet (Closing (Day h.0 h.1 h.2), plain.days S h.0 h.1 h.2 h.3, h.4),
)

plain_look : (P : Instance) (leaves : Store → Line → Type 0) (spent : ℕ → Symbol → Type 0) (S : Store) (look : Look) → HasPlainLeaves P leaves → ArePlain leaves → IsLook P (leaves S) spent S look → IsPlainLook P S look
plain_look P leaves spent S Quiet plain only h = no_plain P leaves S plain h.0
plain_look P leaves spent S (Closed line) plain only h = (h.1, only S line h.0)
plain_look P leaves spent S (Cut p x line) plain only h = no_plain P leaves S plain h.0

-- what is said of each problem that is served is said of this one. Symbols are spent for days alone
pub if_plain_look : (P : Instance) (serves : Instance → Type 0) (leaves : Store → Line → Type 0) (spent : Store → ℕ → Symbol → Type 0) (S : Store) (r : Result Look AllocError) → HasPlainLeaves P leaves → ArePlain leaves → ((T : Store) (p : ℕ) (x : Symbol) → spent T p x ↔ IsDaySpent P (has_domain T) p x) → serves P → IfOk r (λ look. (Q : Instance) → serves Q → IsLook Q (leaves S) (spent S) S look) → IfOk r (IsPlainLook P S)
if_plain_look P serves leaves spent S (Ok look) plain only days served h = plain_look P leaves (spent S) S look plain only (h P served)
if_plain_look P serves leaves spent S (Err e) plain only days served h = tt

-- under equal domains the same leaves hold
same_plain : (P : Instance) (D E : Domains) (leaf : Leaf) → 0 < cells P → AreSame P D E → IsPlainLeaf P D leaf → IsPlainLeaf P E leaf
same_plain P D E leaf some same h = (
  record { leaf = h.0.leaf; fits = h.0.fits; short = h.0.short; holds = same_holds P None false D E (Closing leaf) some tt h.0.fits same h.0.holds },
  h.1,
)

same_no_plain : (P : Instance) (D E : Domains) → 0 < cells P → AreSame P D E → NoPlainLeafHolds P D → NoPlainLeafHolds P E
same_no_plain P D E some same none =
    let back = turned_round P D E same in (
      λ h. none.0 (h.0, h.1, h.2, h.3, same_holds P None false E D (Closing (Window h.0 h.1 h.2)) some tt h.3 back h.4),
      λ h. none.1 (h.0, h.1, h.2, h.3, same_holds P None false E D (Closing (Day h.0 h.1 h.2)) some tt h.3 back h.4),
    )

pub leaf_at_start : (P : Instance) (S : Store) (o : Opening) (found : Option Leaf) → 0 < cells P → AreSame P (has_domain S) (opening P o) → MatchOption found (NoPlainLeafHolds P (has_domain S)) (IsPlainLeaf P (has_domain S)) → MatchOption found (NoPlainLeafHolds P (opening P o)) (IsPlainLeaf P (opening P o))
leaf_at_start P S o None some same h = same_no_plain P (has_domain S) (opening P o) some same h
leaf_at_start P S o (Some leaf) some same h = same_plain P (has_domain S) (opening P o) leaf some same h

-- logs

-- the tree of a log of such a leaf is no leaf of blocks
not_blocks : (leaf : Leaf) (x : Symbol) → leaf ≡ Blocks x → IsPlain (Closing leaf) → ⊥
not_blocks leaf x is h = absurd (subst (λ (l : Leaf). IsPlain (Closing l)) is h)

only_one : (a b : Leaf) → Closing a ∷ [] ≡ Closing b ∷ [] → a ≡ b
only_one a b e = cc e

plain_counts : (P : Instance) (leaf : Leaf) (g : Log) → g.counts ≡ false → g.lines ≡ Closing leaf ∷ [] → IsPlain (Closing leaf) → IsCountingLog P g
plain_counts P leaf g none lines plain =
    let no_tree : IsBlocksTree P g → ⊥ = λ h. not_blocks leaf h.0 (only_one leaf (Blocks h.0) (sym lines ∙ h.2)) plain in
    record {
      may_count = (λ counts. let no : IsTrue false = subst IsTrue none counts in absurd (cc no), λ h. absurd (no_tree h));
      counted_first = inr (inr (Closing leaf, plain, lines));
    }

pub blocks_count : (P : Instance) (o : Opening) (x : Symbol) (g : Log) → g.opening ≡ o → g.counts ≡ true → g.lines ≡ Closing (Blocks x) ∷ [] → IsFirstBlocks P x → NoPlainLeafHolds P (opening P o) → IsCountingLog P g
blocks_count P o x g opened counts lines first none = record {
  may_count = (λ h. (x, first, lines), λ h. counts);
  counted_first = inr (inl ((x, first, lines), subst (λ t. NoPlainLeafHolds P (opening P t)) (sym opened) none));
}

-- such a leaf fits every log, and closes all cases where it holds before the first line
pub plain_fits : (P : Instance) (o : Opening) (goal : Option ℕ) (counts : Bool) (leaf : Leaf) → IsPlainLeaf P (opening P o) leaf → LeafFits P goal counts leaf
plain_fits P o goal counts leaf h = fits_either P goal counts (Closing leaf) (unweighed_leaf P goal (opening P o) (Closing leaf) h.0 (plain_unweighed (Closing leaf) h.1)).fits

pub plain_closes : (P : Instance) (o : Opening) (goal : Option ℕ) (leaf : Leaf) → GoalFits P o goal → IsAllowed P o → IsPlainLeaf P (opening P o) leaf → ClosesAll P o goal leaf
plain_closes P o goal leaf fits allowed h =
    let any = unweighed_leaf P goal (opening P o) (Closing leaf) h.0 (plain_unweighed (Closing leaf) h.1) in
    record { goal_fits = fits; allowed = allowed; short = any.short; holds = any.holds }

-- so does the first leaf of blocks
pub blocks_close : (P : Instance) (o : Opening) (goal : Option ℕ) (x : Symbol) → GoalFits P o goal → IsAllowed P o → IsFirstBlocks P x → ClosesAll P o goal (Blocks x)
blocks_close P o goal x fits allowed first = record { goal_fits = fits; allowed = allowed; short = tt; holds = first.holds }

-- the logs that are made of them
pub plain_proof : (P : Instance) (o : Opening) (goal : Option ℕ) (leaf : Leaf) (r : Result Log AllocError) → IsPlain (Closing leaf) → IfOk r (λ g. g.opening ≡ o) → IfOk r (λ g. g.goal ≡ goal) → IfOk r (λ g. g.counts ≡ gives_cells o) → IfOk r (λ g. g.lines ≡ Closing leaf ∷ []) → IfOk r (NamesOnlyCited P) → IfOk r (Passes P) → IfOk r (IsPlainProof P o goal)
plain_proof P o goal leaf (Ok g) plain opened same counts lines cited passes = record {
  passes = passes;
  is_log = record { same_opening = opened; same_goal = same; may_count = counts; cited = cited };
  leaf = leaf;
  plain = plain;
  lines = lines;
}
plain_proof P o goal leaf (Err e) plain opened same counts lines cited passes = tt

-- an opening with which a log may count or not gives no cells
pub gives_none : (o : Opening) → ((counts : Bool) → CountsFit o counts) → gives_cells o ≡ false
gives_none Full either = refl
gives_none (Turned t) either = refl
gives_none (Given given) either = let no : false ≡ true = either false in absurd (cc no)

pub plain_counted : (P : Instance) (o : Opening) (goal : Option ℕ) (r : Result Log AllocError) → ((counts : Bool) → CountsFit o counts) → IfOk r (IsPlainProof P o goal) → IfOk r (IsCountedProof P o goal)
plain_counted P o goal (Ok g) either h = record {
  passes = h.passes;
  same_opening = h.is_log.same_opening;
  same_goal = h.is_log.same_goal;
  cited = h.is_log.cited;
  one_leaf = (h.leaf, h.lines);
  counted = plain_counts P h.leaf g (h.is_log.may_count ∙ gives_none o either) h.lines h.plain;
}
plain_counted P o goal (Err e) either h = tt

pub blocks_proof : (P : Instance) (o : Opening) (goal : Option ℕ) (x : Symbol) (r : Result Log AllocError) → IsFirstBlocks P x → NoPlainLeafHolds P (opening P o) → IfOk r (λ g. g.opening ≡ o) → IfOk r (λ g. g.goal ≡ goal) → IfOk r (λ g. g.counts ≡ true) → IfOk r (λ g. g.lines ≡ Closing (Blocks x) ∷ []) → IfOk r (NamesOnlyCited P) → IfOk r (Passes P) → IfOk r (IsCountedProof P o goal)
blocks_proof P o goal x (Ok g) first none opened same counts lines cited passes = record {
  passes = passes;
  same_opening = opened;
  same_goal = same;
  cited = cited;
  one_leaf = (Blocks x, lines);
  counted = blocks_count P o x g opened counts lines first none;
}
blocks_proof P o goal x (Err e) first none opened same counts lines cited passes = tt

-- the logs of a search that begins with full domains may not count
pub if_uncounted : (P : Instance) (goal : Option ℕ) (budget : ℕ) (leaves : Store → Line → Type 0) (spent : Store → ℕ → Symbol → Type 0) (r : Result Found AllocError) → AreCaseReasons P leaves spent → IfOk r (IsFound P Full goal budget leaves spent) → IfOk r (IsCounted P false)
if_uncounted P goal budget leaves spent (Ok (Roster s)) reasons h = tt
if_uncounted P goal budget leaves spent (Ok (NoRoster g)) reasons h = h.2.is_log.may_count
if_uncounted P goal budget leaves spent (Ok (Undecided g)) reasons h = h.1.is_log.may_count
if_uncounted P goal budget leaves spent (Err e) reasons h = tt

-- where no leaf of blocks holds, a log that may not count is as one of a search that counts
search_counts : (P : Instance) (counts : Bool) (g : Log) → (IsTrue counts → NoBlocksHold P) → g.counts ≡ false → IsCountedLog P counts g
search_counts P false g none uncounts = uncounts
search_counts P true g none uncounts = record {
  may_count = (λ may. let never : IsTrue false = subst IsTrue uncounts may in absurd (cc never), λ h. absurd (none refl h.0 h.1.symbol h.1.holds));
  counted_first = inl (none refl);
}

pub if_found_counts : (P : Instance) (counts : Bool) (r : Result Found AllocError) → (IsTrue counts → NoBlocksHold P) → IfOk r (IsCounted P false) → IfOk r (IsCounted P counts)
if_found_counts P counts (Ok (Roster s)) none h = tt
if_found_counts P counts (Ok (NoRoster g)) none h = search_counts P counts g none h
if_found_counts P counts (Ok (Undecided g)) none h = search_counts P counts g none h
if_found_counts P counts (Err e) none h = tt

pub if_best_counts : (P : Instance) (counts : Bool) (r : Result BestFound AllocError) → (IsTrue counts → NoBlocksHold P) → IfOk r (IsBestCounted P false) → IfOk r (IsBestCounted P counts)
if_best_counts P counts (Ok (Bests.Best s g)) none h = search_counts P counts g none h
if_best_counts P counts (Ok (Bests.NoRoster g)) none h = search_counts P counts g none h
if_best_counts P counts (Ok (Bests.Undecided s g)) none h = search_counts P counts g none h
if_best_counts P counts (Err e) none h = tt
