-- Lines and rosters of a search, with a goal or without one.
use Rattle.std.proofs.Common.{◌≡◌, ℕ, ◌+◌, ◌*◌, ◌<◌, Option, Some, None, false, refl, sym, subst, arith}
use Rattle.rwsp_terms.specs.Instance.{Instance, cells}
use Rattle.refutation_terms.specs.declared.lines.Line.{Line}
use Rattle.refutation_terms.specs.declared.lines.Line.TheVariants.{Closing}
use Rattle.refutation_terms.specs.declared.lines.Leaf.TheVariants.{Few, Words}
use Rattle.refutation_terms.specs.declared.lines.WordClaim.TheVariants.{Light}
use Rattle.refutation_terms.specs.declared.lines.Opening.{Opening}
use Rattle.refutation_terms.specs.declared.lines.Opening.TheVariants.{Full}
use Rattle.refutation_terms.specs.Word.{Domains, AreSame}
use Rattle.refutation_terms.specs.FewLeaf.{FewHolds}
use Rattle.refutation_terms.specs.Log.{LineFits, GoalFits, Holds}
use Rattle.refutation_terms.proofs.SameDomains.{turned_round, same_holds}
use Rattle.domain_store.specs.Store.{Store}
use Rattle.domain_store.specs.Leaves.{IsHoldingLeaf}
use Rattle.domain_store.specs.Looks.{IsUnweighed}
use Rattle.roster_search.specs.Guides.{AreUnweighed}

-- a line that weighs no words fits and holds for any goal
unweighed_stands : (P : Instance) (goal : Option ℕ) (D : Domains) (line : Line) → IsUnweighed line → LineFits P None false line → Holds P None D line → LineFits P goal false line × Holds P goal D line
unweighed_stands P goal D (Closing (Words p R (Light turns reward y))) light fits h = absurd light
unweighed_stands P goal D (Closing Few) light fits h = absurd fits
unweighed_stands P goal D line light fits h = (fits, h)

pub unweighed_leaf : (P : Instance) (goal : Option ℕ) (D : Domains) (line : Line) → IsHoldingLeaf P None D line → IsUnweighed line → IsHoldingLeaf P goal D line
unweighed_leaf P goal D line h light =
    let stands = unweighed_stands P goal D line light h.fits h.holds in
    record { leaf = h.leaf; fits = stands.0; short = h.short; holds = stands.1 }

-- the leaf of few weeks
pub few_leaf : (P : Instance) (goal : Option ℕ) (D : Domains) → FewHolds P goal D → IsHoldingLeaf P goal D (Closing Few)
few_leaf P None D h = absurd h
few_leaf P (Some goal) D h = record { leaf = tt; fits = tt; short = tt; holds = h }

pub unweighed_by : (goal : Option ℕ) (leaves leaves' : Store → Line → Type 0) → ((S : Store) (line : Line) → leaves' S line → leaves S line) → AreUnweighed goal leaves → AreUnweighed goal leaves'
unweighed_by None leaves leaves' back light = tt
unweighed_by (Some goal) leaves leaves' back light = λ S line among. light S line (back S line among)

-- what is said of domains rests on their positions alone

pub weekend_within : (P : Instance) (i : ℕ) → P.days ≡ 7 → i < P.weeks → i * 7 + 6 < cells P
weekend_within P i week less = subst (λ d. i * 7 + 6 < P.weeks * d) (sym week) (omega (arith, less))

-- what fits an opening fits a log that begins with all symbols
pub goal_fits_full : (P : Instance) (start : Opening) (goal : Option ℕ) → GoalFits P start goal → GoalFits P Full goal
goal_fits_full P start None fits = tt
goal_fits_full P start (Some goal) fits = (refl, fits.1, fits.2)

-- a leaf that holds under the one holds under the other
pub same_leaf : (P : Instance) (start : Opening) (goal : Option ℕ) (D E : Domains) (line : Line) → 0 < cells P → GoalFits P start goal → AreSame P D E → IsHoldingLeaf P goal D line → IsHoldingLeaf P goal E line
same_leaf P start goal D E line some goal_fits same h = record {
  leaf = h.leaf;
  fits = h.fits;
  short = h.short;
  holds = same_holds P goal false D E line some (goal_fits_full P start goal goal_fits) h.fits same h.holds;
}

-- few weeks don't hold under the other either
pub still_not_few : (P : Instance) (start : Opening) (goal : Option ℕ) (D E : Domains) → 0 < cells P → GoalFits P start goal → AreSame P D E → (FewHolds P goal D → ⊥) → FewHolds P goal E → ⊥
still_not_few P start goal D E some goal_fits same none h =
    none (same_leaf P start goal E D (Closing Few) some goal_fits (turned_round P D E same) (few_leaf P goal E h)).holds
