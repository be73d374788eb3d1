-- The corner carrier: the lower right sample of each block of 2 x 2 pixels, by its distance from a prediction that its
-- block's other samples make. Assumes nothing.
use Rattle.std.specs.Prelude.{ℕ, min, List, map, length, ℤ, pos, ◌-ℤ◌, neg_ℤ, slice_index}
use Rattle.std.specs.List.{range_with_len}
use Rattle.carrier.specs.Blanked.{blanked}
use Rattle.carrier.specs.Meaning.{Site}
use Rattle.carrier.specs.Plain.{most}
use Rattle.corner.specs.Layout.{places, seat, left, above, diagonal}
use Rattle.corner.specs.Predictor.{predicted}

-- what a corner carrier keeps: its greatest value, its width and channels, and the picture with 0 at every seat
pub record CornerRest : Type 0 where
  pub maximum : ℕ
  pub width : ℕ
  pub channels : ℕ
  pub others : List ℕ

-- the number of places in a picture of these samples
abbrev pub corner_count : ℕ → ℕ → List ℕ → ℕ
corner_count w c samples = places w c (min most (length samples))

-- the seats of all places, in their order
unfoldable pub corner_seats : ℕ → ℕ → List ℕ → List ℕ
corner_seats w c samples = map (seat w c) (range_with_len 0 (corner_count w c samples))

-- the prediction for place p
abbrev pub prediction : ℕ → ℕ → List ℕ → ℕ → ℕ
prediction w c samples p = predicted (slice_index samples (left w c p)) (slice_index samples (above w c p)) (slice_index samples (diagonal w c p))

-- a place whose seat is k and for which n is predicted takes what makes its sample 0 to the maximum
abbrev pub corner_site : ℕ → ℕ → ℕ → Site
corner_site maximum n k = record { low = neg_ℤ (pos n); high = pos maximum -ℤ pos n; seat = k }

-- its code is the sample minus the prediction
abbrev pub corner_code : ℕ → ℕ → ℤ
corner_code n sample = pos sample -ℤ pos n

-- the sites of all places, in their order; predictions need no seat
unfoldable pub corner_sites : CornerRest → List Site
corner_sites r =
    map (λ p. corner_site r.maximum (prediction r.width r.channels r.others p) (seat r.width r.channels p))
    (range_with_len 0 (corner_count r.width r.channels r.others))

-- the codes of all places
unfoldable pub corner_codes : ℕ → ℕ → List ℕ → List ℤ
corner_codes w c samples = map (λ p. corner_code (prediction w c samples p) (slice_index samples (seat w c p))) (range_with_len 0 (corner_count w c samples))

-- the rest of the corner carrier with this maximum, width and channel count, over a picture of these samples
unfoldable pub corner_rest : ℕ → ℕ → ℕ → List ℕ → CornerRest
corner_rest maximum w c samples = record { maximum = maximum; width = w; channels = c; others = blanked (corner_seats w c samples) samples }

-- a corner carrier has height 0
abbrev pub corner_level : CornerRest → ℕ
corner_level r = 0
