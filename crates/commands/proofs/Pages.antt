-- The bytes of a roster have one page.
use Rattle.std.proofs.Common.{◌≡◌, ℕ, List, ap, subst}
use Rattle.rwsp_terms.specs.Instance.{Instance}
use Rattle.rwsp_terms.specs.declared.data.Symbol.{Symbol}
use Rattle.roster_print.proofs.Spelling.{one_roster}
use Rattle.roster_page.specs.PageText.{IsPage}
use Rattle.roster_page.proofs.OnePage.{one_page_text}
use Rattle.commands.specs.Verify.{SpellsRight}
use Rattle.commands.specs.Page.{IsPageOf, IsPageAnswer}
use Rattle.commands.specs.declared.page.Answer.{Answer}
use Rattle.commands.specs.declared.page.Answer.TheVariants.{Shown, Fails}
use Rattle.commands.proofs.Rosters.{one_fault, right_or_fault}

one_text : (P : Instance) (bytes text other : List ℕ) → IsPageOf P bytes text → IsPageOf P bytes other → text ≡ other
one_text P bytes text other h k =
    let same : k.0 ≡ h.0 = one_roster P bytes k.0 h.0 k.1 h.1 in
    one_page_text P h.0 text other h.3 (subst (λ (s : List Symbol). IsPage P s other) same k.3)

right : (P : Instance) (bytes text : List ℕ) → IsPageOf P bytes text → SpellsRight P bytes
right P bytes text h = (h.0, h.1, h.2)

pub one_page : (P : Instance) (bytes : List ℕ) (a b : Answer) → IsPageAnswer P bytes a → IsPageAnswer P bytes b → a ≡ b
one_page P bytes (Shown text) (Shown other) h k = ap Shown (one_text P bytes text other h k)
one_page P bytes (Shown text) (Fails fault) h k = absurd (right_or_fault P bytes fault (right P bytes text h) k)
one_page P bytes (Fails fault) (Shown text) h k = absurd (right_or_fault P bytes fault (right P bytes text k) h)
one_page P bytes (Fails fault) (Fails other) h k = ap Fails (one_fault P bytes fault other h k)
