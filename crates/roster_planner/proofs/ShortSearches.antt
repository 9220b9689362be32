-- What is found by reasons that are the same.
use Rattle.std.proofs.Common.{ℕ, Option, Some, None}
use Rattle.std.specs.Prelude.{Result, Ok, Err, IfOk}
use Rattle.std.specs.Option.{IfSome}
use Rattle.std.specs.declared.alloc.AllocError.{AllocError}
use Rattle.rwsp_terms.specs.declared.data.Symbol.{Symbol}
use Rattle.rwsp_terms.specs.Instance.{Instance}
use Rattle.refutation_terms.specs.declared.lines.Line.{Line}
use Rattle.refutation_terms.specs.declared.lines.Opening.{Opening}
use Rattle.refutation_terms.specs.Log.{Log}
use Rattle.domain_store.specs.Store.{Store}
use Rattle.domain_store.specs.Looks.{IsSame}
use Rattle.roster_search.specs.Founds.{IsFound, IsSearchLog}
use Rattle.refutation_log.specs.declared.found.Found.{Found}
use Rattle.refutation_log.specs.declared.found.Found.TheVariants.{Roster, NoRoster, Undecided}

abbrev Leaves : Type 1
Leaves = Store → Line → Type 0

abbrev Spent : Type 1
Spent = Store → ℕ → Symbol → Type 0

log_by : {A : Type 0} (P : Instance) (start : Opening) (goal : Option ℕ) (served : A → Instance → Type 0) (lines : A → Leaves) (symbols : A → Spent) (v w : A) (g : Log) → IsSame served lines symbols v w → IsSearchLog P start goal (lines w) (symbols w) g → IsSearchLog P start goal (lines v) (symbols v) g
log_by P start goal served lines symbols v w g same h = record {
  is_log = h.is_log;
  splits = λ k p x e.
      let f = h.splits k p x e in
      record {
        store = f.store;
        is_store = f.is_store;
        belongs = f.belongs;
        agrees = f.agrees;
        not_closed = λ c. f.not_closed (c.0, (same.leaves f.store c.0).0 c.1, c.2);
        forced = λ q z t. (same.spent f.store p x).1 (f.forced q z ((same.spent f.store q z).0 t));
      };
  no_few = h.no_few;
}

found_by : {A : Type 0} (P : Instance) (start : Opening) (goal : Option ℕ) (budget : ℕ) (served : A → Instance → Type 0) (lines : A → Leaves) (symbols : A → Spent) (v w : A) (found : Found) → IsSame served lines symbols v w → IsFound P start goal budget (lines w) (symbols w) found → IsFound P start goal budget (lines v) (symbols v) found
found_by P start goal budget served lines symbols v w (Roster s) same h = h
found_by P start goal budget served lines symbols v w (NoRoster g) same h = (h.0, h.1, log_by P start goal served lines symbols v w g same h.2)
found_by P start goal budget served lines symbols v w (Undecided g) same h = (h.0, log_by P start goal served lines symbols v w g same h.1)

pub if_found_by : {A : Type 0} (P : Instance) (start : Opening) (goal : Option ℕ) (budget : ℕ) (served : A → Instance → Type 0) (lines : A → Leaves) (symbols : A → Spent) (v w : A) (r : Result Found AllocError) → IsSame served lines symbols v w → IfOk r (IsFound P start goal budget (lines w) (symbols w)) → IfOk r (IsFound P start goal budget (lines v) (symbols v))
if_found_by P start goal budget served lines symbols v w (Ok found) same h = found_by P start goal budget served lines symbols v w found same h
if_found_by P start goal budget served lines symbols v w (Err e) same h = tt

pub some_found_by : {A : Type 0} (P : Instance) (start : Opening) (goal : Option ℕ) (budget : ℕ) (served : A → Instance → Type 0) (lines : A → Leaves) (symbols : A → Spent) (v w : A) (found : Option Found) → IsSame served lines symbols v w → IfSome found (IsFound P start goal budget (lines w) (symbols w)) → IfSome found (IsFound P start goal budget (lines v) (symbols v))
some_found_by P start goal budget served lines symbols v w (Some found) same h = found_by P start goal budget served lines symbols v w found same h
some_found_by P start goal budget served lines symbols v w None same h = tt
