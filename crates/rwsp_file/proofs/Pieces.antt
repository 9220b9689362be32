-- A text that grows by pieces.
use Rattle.std.proofs.Common.{◌≡◌, ℕ, List, ◌++◌, refl, append_assoc}

pub three_pieces : (old v w new a b c : List ℕ) → v ≡ old ++ a → w ≡ v ++ b → new ≡ w ++ c → new ≡ old ++ ((a ++ b) ++ c)
three_pieces old v w new a b c p q r = rw (r, q, p) (simp (append_assoc) refl)

pub two_and_two : (old v w new a b c d : List ℕ) → v ≡ old ++ a → w ≡ v ++ b → new ≡ w ++ (c ++ d) → new ≡ old ++ (((a ++ b) ++ c) ++ d)
two_and_two old v w new a b c d p q r = rw (r, q, p) (simp (append_assoc) refl)
