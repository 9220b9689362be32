-- What holds of every page.
use Rattle.std.specs.Prelude.{◌≡◌, ℕ, List}
use Rattle.rwsp_terms.specs.Instance.{Instance}
use Rattle.rwsp_terms.specs.Roster.{IsRoster}
use Rattle.rwsp_terms.specs.declared.data.Symbol.{Symbol}
use Rattle.rwsp_model.specs.Validity.{KeepsLimits}
use Rattle.roster_page.specs.Escaped.{escaped, unescaped}
use Rattle.roster_page.specs.PageText.{IsPage}
use Rattle.roster_page.specs.ReadPage.{IsReadBack}

-- read back from its whole text, a page has the weeks of its roster
abbrev pub PagesAreReadBack : Type 0
PagesAreReadBack =
    (P : Instance) (s : List Symbol) (text : List ℕ) → KeepsLimits P → IsRoster P s → IsPage P s text
    → IsReadBack P s text

-- the cells of a page are those of one roster
abbrev pub PagesShowOneRoster : Type 0
PagesShowOneRoster =
    (P : Instance) (s t : List Symbol) (text : List ℕ) → KeepsLimits P → IsRoster P s → IsRoster P t
    → IsPage P s text → IsPage P t text → s ≡ t

-- a name is read back from its text
abbrev pub NamesAreReadBack : Type 0
NamesAreReadBack = (name : List ℕ) → unescaped (escaped name) ≡ name
