-- The laws of turned rosters.
use Rattle.refutation_terms.specs.Laws.{TurningKeepsRules, TurningKeepsLists, SomeTurnHasIt}
use Rattle.refutation_terms.proofs.Turning.{turned-IsRoster, turned-meets, turned-meets_back, turned_to, demanded_somewhere}
use Rattle.refutation_terms.proofs.Named.{named-IsRule}

pub turning_keeps_rules : TurningKeepsRules
turning_keeps_rules P k r s some roster is = (turned-meets P k r s some roster is, turned-meets_back P k r s some roster is)

pub turning_keeps_lists : TurningKeepsLists
turning_keeps_lists P k R s some roster = (
  λ m. record { is_roster = turned-IsRoster P k s some roster; rules = λ r n. turned-meets P k r s some roster (named-IsRule P R r n) (m.rules r n) },
  λ m. record { is_roster = roster; rules = λ r n. turned-meets_back P k r s some roster (named-IsRule P R r n) (m.rules r n) },
)

pub some_turn_has_it : SomeTurnHasIt
some_turn_has_it P s j x roster day small met demanded =
    turned_to P s j x (demanded_somewhere P s j x day small met demanded) roster day small met demanded
