-- A step of the generator as the machine takes it.
use Rattle.std.proofs.Common.{◌≡◌, ℕ, ◌+◌, ◌*◌, ◌/◌, ◌%◌, ◌^◌, ap, ◌∙◌}
use Rattle.std.proofs.Math.Nat.{mod-add-mod, mul_comm}
use Rattle.made_problems.specs.Draws.{next_state, drawn}

pub stepped : (x : ℕ) → (x * 6364136223846793005 % 2 ^ 64 + 1442695040888963407) % 2 ^ 64 ≡ next_state x
unfolding next_state
stepped x =
    mod-add-mod (x * 6364136223846793005) (2 ^ 64) 1442695040888963407
    ∙ ap (λ y. (y + 1442695040888963407) % 2 ^ 64) (mul_comm x 6364136223846793005)

pub halved : (x : ℕ) → (x * 6364136223846793005 % 2 ^ 64 + 1442695040888963407) % 2 ^ 64 / 2 ^ 32 ≡ drawn x
unfolding drawn
halved x = ap (λ y. y / 2 ^ 32) (stepped x)
