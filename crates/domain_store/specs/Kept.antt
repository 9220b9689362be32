-- What domains keep of their fields.
use Rattle.std.specs.Prelude.{◌≡◌, ℕ, ◌*◌, ◌≤◌}
use Rattle.domain_store.specs.Store.{Store, IsStoreThroughout, spare}

-- a store with the count of the symbols to spare, and a trail with room for all changes that there can be
pub record IsKept (S : Store) (count capacity : ℕ) : Type 0 where
  pub store : IsStoreThroughout S
  pub counted : count ≡ spare S.sets
  -- each change takes a symbol
  pub room : S.weeks * S.days * S.shifts ≤ capacity
