-- The tree that the lines of a log form, and the domains at a line.
use Rattle.std.specs.Prelude.{◌≡◌, ℕ, zero, suc, ◌-◌, List, [], ◌∷◌, ◌++◌, take, Bool, true, Option, Some, None, ◌&&◌, ◌||◌, ◌==◌, not}
use Rattle.std.specs.List.{list_all}
use Rattle.rwsp_terms.specs.declared.data.Symbol.{Symbol}
use Rattle.rwsp_terms.specs.Instance.{Instance}
use Rattle.refutation_terms.specs.declared.lines.Line.{Line}
use Rattle.refutation_terms.specs.declared.lines.Line.TheVariants.{Split}
use Rattle.refutation_terms.specs.declared.lines.Opening.{Opening}
use Rattle.refutation_terms.specs.declared.lines.Opening.TheVariants.{Full, Turned, Given}
use Rattle.refutation_terms.specs.declared.cells.GivenCell.{GivenCell}
use Rattle.refutation_terms.specs.Word.{Domains, full}
use Rattle.refutation_terms.specs.DayLeaf.{is_only}

-- every line but a split
abbrev pub IsLeaf : Line → Type 0
IsLeaf (Split p x) = ⊥
IsLeaf line = Unit {0}

-- a tree is one leaf, or a split with a tree for each of its sides
pub data Tree : Type 0 where
  Leaf : (line : Line) → IsLeaf line → Tree
  Node : (p : ℕ) (x : Symbol) (first second : Tree) → Tree

-- its lines, a split before its sides
abbrev pub lines_in : Tree → List Line
lines_in (Leaf line is_leaf) = line ∷ []
lines_in (Node p x first second) = Split p x ∷ lines_in first ++ lines_in second

-- the lines are those of one whole tree
abbrev pub IsTree : List Line → Type 0
IsTree lines = (t : Tree) × (lines_in t ≡ lines)

-- what follows the first n whole trees of the lines, or None where the lines end before.
-- The laws `trees_are_as_said` and `domains_are_as_said` tie this walk from the front, and what rests on it, to words
abbrev pub after_trees : ℕ → List Line → Option (List Line)
after_trees zero lines = Some lines
after_trees (suc n) [] = None
after_trees (suc n) (Split p x ∷ lines) = after_trees (suc (suc n)) lines
after_trees (suc n) (leaf ∷ lines) = after_trees n lines

-- the side of a split that a later line is in
pub data Side : Type 0 where
  First : Side
  Second : Side
  Neither : Side

-- by what follows one whole tree, and what follows two
abbrev pub side_of : Option (List Line) → Option (List Line) → Side
side_of None two = First
side_of (Some rest) None = Second
side_of (Some rest) (Some left) = Neither

-- the side by the lines between: the first until they have a whole tree in front, then the second until they have two
abbrev pub side : List Line → Side
side between = side_of (after_trees 1 between) (after_trees 2 between)

-- the same in words: a line is in the first side of a split where no front of the lines between is a whole tree
abbrev pub InFirst : List Line → Type 0
InFirst between = (front rest : List Line) → between ≡ front ++ rest → IsTree front → ⊥

-- and in the second side where a whole tree is in front, and no front of what follows is one
abbrev pub InSecond : List Line → Type 0
InSecond between = (front : List Line) × (rest : List Line) × (between ≡ front ++ rest) × IsTree front × InFirst rest

-- the first side takes the symbol of the split alone, the second side all others
abbrev pub side_takes : Side → Bool → Bool
side_takes First same = same
side_takes Second same = not same
side_takes Neither same = true

-- what a line leaves of the domains at a later line in this side of it: a split bears on its own position, a leaf on
-- none
abbrev pub line_leaves : Line → Side → Domains
line_leaves (Split q x) s p z = not (q == p) || side_takes s (z == x.number)
line_leaves leaf s p z = true

-- the domains in a side of a line that is read under other domains
abbrev pub narrowed : Domains → Line → Side → Domains
narrowed D line s p z = D p z && line_leaves line s p z

-- what all earlier lines leave of the domains
abbrev pub lines_leave : List Line → Domains
lines_leave [] p z = true
lines_leave (line ∷ later) p z = line_leaves line (side later) p z && lines_leave later p z

-- what given cells leave: at the position of each its symbol alone
abbrev pub cells_leave : List GivenCell → Domains
cells_leave given p z = list_all (λ c. not (c.p == p) || (z == c.x.number)) given

-- what is known before the first line leaves of the domains: with a turn to x on day j, position j - 1 has x alone
abbrev pub opening_leaves : Opening → Domains
opening_leaves Full p z = true
opening_leaves (Turned t) p z = not ((t.day - 1) == p) || (z == t.x.number)
opening_leaves (Given given) p z = cells_leave given p z

-- the domains at the first line
abbrev pub opening : Instance → Opening → Domains
opening P o p z = full P p z && opening_leaves o p z

-- the domains at line k, counted from 0
abbrev pub domains_at : Instance → Opening → List Line → ℕ → Domains
domains_at P o lines k p z = opening P o p z && lines_leave (take k lines) p z

-- a split is idle where its symbol isn't in the domain, or is alone there
abbrev pub is_idle : Instance → Domains → ℕ → ℕ → Bool
is_idle P D p x = not (D p x) || is_only P D p x
