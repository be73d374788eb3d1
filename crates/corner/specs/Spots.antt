-- The samples of a place. Assumes nothing.
use Rattle.std.specs.Prelude.{◌≡◌, ℕ, ◌<◌}
use Rattle.corner.specs.declared.Spot.{Spot}
use Rattle.corner.specs.Layout.{places, seat, left, above, diagonal}

-- s has the samples of place p
pub record Located (w c total p : ℕ) (s : Spot) : Type 0 where
  pub within : p < places w c total
  pub at_seat : s.seat ≡ seat w c p
  pub at_left : s.left ≡ left w c p
  pub at_above : s.above ≡ above w c p
  pub at_diagonal : s.diagonal ≡ diagonal w c p
