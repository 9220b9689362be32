-- The reasons by which the search of a plan closes cases.
use Rattle.std.specs.Prelude.{ℕ}
use Rattle.rwsp_terms.specs.declared.data.Symbol.{Symbol}
use Rattle.rwsp_terms.specs.Instance.{Instance}
use Rattle.refutation_terms.specs.declared.lines.Line.{Line}
use Rattle.refutation_terms.specs.declared.lines.Opening.{Opening}
use Rattle.refutation_terms.specs.Word.{AreSame}
use Rattle.refutation_terms.specs.Tree.{opening}
use Rattle.domain_store.specs.Store.{Store, has_domain}
use Rattle.propagators.specs.TopBounds.{IsTopBound}
use Rattle.roster_planner.specs.CaseReasons.{AreCaseReasons}

-- the reasons of cases, and under the opening domains the bounds of one turn
pub record AreReasons (P : Instance) (start : Opening) (leaves : Store → Line → Type 0)
    (spent : Store → ℕ → Symbol → Type 0) : Type 0 where
  pub cases : AreCaseReasons P leaves spent
  pub top : (S : Store) (line : Line) → AreSame P (has_domain S) (opening P start) → IsTopBound P (opening P start) line
      → leaves S line
