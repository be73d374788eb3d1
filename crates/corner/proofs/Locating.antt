-- The four samples of a place, as they are computed. Assumes nothing.
use Rattle.std.proofs.Common.{◌≡◌, ℕ, ◌+◌, ◌*◌, ◌<◌, ◌≤◌, sym, ap, ⊎_elim, mul_assoc, add-mul, mul-pos, one-mul, arith}
use Rattle.std.proofs.lemmas.Bool.{cases_lt}
use Rattle.carrier.specs.Plain.{most}
use Rattle.corner.specs.declared.Spot.{Spot}
use Rattle.corner.specs.Layout.{at_pixel, across, places, channel, block_row, block_column, seat, left, above, diagonal}
use Rattle.corner.specs.Numbering.{some_across, rows_within, is_place, four_to_a_place}
use Rattle.corner.specs.Spots.{Located}

module _ (w c total p : ℕ) where
  -- a quarter of the samples are places at most
  pub past_limit : total ≤ most → 16777216 ≤ p → places w c total ≤ p
  past_limit few far = omega (arith, four_to_a_place w c total)

  pub past_blocks : across w ≡ 0 → places w c total ≤ p
  past_blocks none =
      ⊎_elim (λ (here : p < places w c total). absurd (omega (arith, some_across w c total p here, none))) (λ over. over) (cases_lt p (places w c total))

  abbrev row : ℕ
  row = block_row w c p

  abbrev column : ℕ
  column = block_column w c p

  abbrev line : ℕ
  line = w * c

  two_rows : 2 * row * line + 2 * line ≡ (2 * row + 2) * line
  two_rows = sym (add-mul (2 * row) 2 line)

  pub past_end : total < 2 * row * line + 2 * line → places w c total ≤ p
  past_end short =
      ⊎_elim (λ (here : p < places w c total). absurd (omega (arith, rows_within w c total p here, two_rows))) (λ over. over) (cases_lt p (places w c total))

  -- the upper left sample of the block
  corner_is : 2 * row * line + 2 * column * c + channel c p ≡ diagonal w c p
  corner_is = omega (arith, add-mul (2 * row * w) (2 * column) c, mul_assoc (2 * row) w c)

  right : (y x : ℕ) → at_pixel w c y (x + 1) (channel c p) ≡ at_pixel w c y x (channel c p) + c
  right y x = omega (arith, ap (λ n. n * c) (one_more (y * w) x), add-mul (y * w + x) 1 c, one-mul c)
    where
      one_more : (a b : ℕ) → a + (b + 1) ≡ a + b + 1
      one_more a b = omega arith

  down : (y x : ℕ) → at_pixel w c (y + 1) x (channel c p) ≡ at_pixel w c y x (channel c p) + line
  down y x = omega (arith, ap (λ n. (n + x) * c) (add-mul y 1 w), ap (λ n. (y * w + n + x) * c) (one-mul w), ap (λ n. n * c) (turned (y * w) w x), add-mul (y * w + x) w c)
    where
      turned : (a b d : ℕ) → a + b + d ≡ a + d + b
      turned a b d = omega arith

  -- the neighbours come before the seat
  pub left_before : left w c p ≤ seat w c p
  left_before = omega (arith, right (2 * row + 1) (2 * column))

  pub above_before : above w c p ≤ seat w c p
  above_before = omega (arith, down (2 * row) (2 * column + 1))

  pub diagonal_before : diagonal w c p ≤ seat w c p
  diagonal_before = omega (arith, right (2 * row) (2 * column), above_before)

  pub located : (few : total ≤ most) → 0 < c → 0 < across w → 2 * row * line + 2 * line ≤ total → (s : Spot) → s.seat ≡ 2 * row * line + 2 * column * c + channel c p + line + c → s.left ≡ 2 * row * line + 2 * column * c + channel c p + line → s.above ≡ 2 * row * line + 2 * column * c + channel c p + c → s.diagonal ≡ 2 * row * line + 2 * column * c + channel c p → Located w c total p s
  located few channels blocks whole s seats lefts aboves diagonals =
      record {
        within = is_place w c total p (mul-pos {m = w} {n = c} (omega (arith, blocks)) channels) channels blocks (omega (arith, two_rows));
        at_seat = omega (arith, seats, corner_is, right (2 * row + 1) (2 * column), down (2 * row) (2 * column));
        at_left = omega (arith, lefts, corner_is, down (2 * row) (2 * column));
        at_above = omega (arith, aboves, corner_is, right (2 * row) (2 * column));
        at_diagonal = omega (arith, diagonals, corner_is);
      }
