-- The draws that a number begins.
use Rattle.std.specs.Prelude.{ℕ, zero, suc, ◌+◌, ◌-◌, ◌*◌, ◌/◌, ◌%◌, ◌^◌}

-- the state that a draw leaves, of 64 bits
unfoldable pub next_state : ℕ → ℕ
next_state x = (6364136223846793005 * x + 1442695040888963407) % 2 ^ 64

-- the state of a number after some draws
abbrev pub state_after : ℕ → ℕ → ℕ
state_after number zero = number
state_after number (suc count) = next_state (state_after number count)

-- what a draw gives: the upper 32 bits of the state that it leaves
unfoldable pub drawn : ℕ → ℕ
drawn x = next_state x / 2 ^ 32

-- a number from low to high by one draw
abbrev pub drawn_between : ℕ → ℕ → ℕ → ℕ
drawn_between x low high = low + drawn x % (high + 1 - low)
