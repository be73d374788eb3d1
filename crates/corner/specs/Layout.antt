-- Where the places of a corner carrier lie: w is the width in pixels, c the channels, and `total` the number of samples
-- that are used. In antt a division by 0 gives 0. Assumes nothing.
use Rattle.std.specs.Prelude.{ℕ, ◌+◌, ◌*◌, ◌/◌, ◌%◌}

-- the number of the sample of channel ch in row y and column x
abbrev pub at_pixel : ℕ → ℕ → ℕ → ℕ → ℕ → ℕ
at_pixel w c y x ch = (y * w + x) * c + ch

-- the whole rows of the picture, none if the width is 0
abbrev pub rows : ℕ → ℕ → ℕ → ℕ
rows w c total = total / (w * c)

-- blocks of 2 x 2 pixels side by side; an odd last column has none
abbrev pub across : ℕ → ℕ
across w = w / 2

-- the number of places: one for each channel of each block; an odd last row has none
abbrev pub places : ℕ → ℕ → ℕ → ℕ
places w c total = rows w c total / 2 * across w * c

-- place p has this channel
abbrev pub channel : ℕ → ℕ → ℕ
channel c p = p % c

-- and lies in the block of this number; blocks are numbered row by row
abbrev pub block : ℕ → ℕ → ℕ
block c p = p / c

-- the row of blocks, and the place in that row
abbrev pub block_row : ℕ → ℕ → ℕ → ℕ
block_row w c p = block c p / across w

abbrev pub block_column : ℕ → ℕ → ℕ → ℕ
block_column w c p = block c p % across w

-- the seat of place p: the lower right sample of its block, in its channel
abbrev pub seat : ℕ → ℕ → ℕ → ℕ
seat w c p = at_pixel w c (2 * block_row w c p + 1) (2 * block_column w c p + 1) (channel c p)

-- its neighbours in the block: to the left, above and above left
abbrev pub left : ℕ → ℕ → ℕ → ℕ
left w c p = at_pixel w c (2 * block_row w c p + 1) (2 * block_column w c p) (channel c p)

abbrev pub above : ℕ → ℕ → ℕ → ℕ
above w c p = at_pixel w c (2 * block_row w c p) (2 * block_column w c p + 1) (channel c p)

abbrev pub diagonal : ℕ → ℕ → ℕ → ℕ
diagonal w c p = at_pixel w c (2 * block_row w c p) (2 * block_column w c p) (channel c p)
