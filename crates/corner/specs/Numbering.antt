-- That the seats of a corner carrier are different samples of the picture, and its neighbours are no seats. Assumes
-- nothing.
use Rattle.std.specs.Prelude.{◌≡◌, ℕ, zero, suc, ◌+◌, ◌*◌, ◌/◌, ◌%◌, ◌<◌, ◌≤◌, ◌≢◌}
use Rattle.std.proofs.Common.{sym, ap, ◌∙◌, ⊎_elim, mul-zero, zero-mul, mul_comm, mul_assoc, mul_right_comm, div-add-mod', div-mul-le_self, div-lt_iff_lt-mul, arith}
use Rattle.std.proofs.Math.Nat.{mul-mul-mul_comm}
use Rattle.std.proofs.lemmas.Nat.{mul-le, le-div, div_below, mul-add-lt, div-mul-add, mod-mul-add, mod_below}
use Rattle.std.proofs.lemmas.Bool.{cases_lt}
use Rattle.corner.specs.Layout.{at_pixel, rows, across, places, channel, block, block_row, block_column, seat, left, above, diagonal}

-- a sample's number tells its row, its column and its channel
module _ (w c y x ch : ℕ) (inside : x < w) (some : ch < c) where
  pub row_of : at_pixel w c y x ch / c / w ≡ y
  row_of = ap (λ n. n / w) (div-mul-add (y * w + x) c ch some) ∙ div-mul-add y w x inside

  pub column_of : (at_pixel w c y x ch / c) % w ≡ x
  column_of = ap (λ n. n % w) (div-mul-add (y * w + x) c ch some) ∙ mod-mul-add y w x inside

  pub channel_of : at_pixel w c y x ch % c ≡ ch
  channel_of = mod-mul-add (y * w + x) c ch some

  -- it is below the first sample of the next row
  pub before_next : at_pixel w c y x ch < (y + 1) * (w * c)
  before_next =
      let row : y * w + x < w * (y + 1) = mul-add-lt y w x (y + 1) (omega arith) inside in
      let all : at_pixel w c y x ch < c * (w * (y + 1)) = mul-add-lt (y * w + x) c ch (w * (y + 1)) row some in
      omega (arith, mul_comm c (w * (y + 1)), mul_comm w (y + 1), mul_assoc (y + 1) w c, ap (λ n. n * c) (mul_comm w (y + 1)))

-- where there is a place, there are channels and blocks
pub some_channel : (w c total p : ℕ) → p < places w c total → 0 < c
some_channel w zero total p h = absurd (omega (arith, mul-zero (rows w zero total / 2 * across w)))
some_channel w (suc c) total p h = omega arith

pub some_across : (w c total p : ℕ) → p < places w c total → 0 < across w
some_across w c total p h =
    ⊎_elim (λ one. one)
    (λ none.
    let no : across w ≡ 0 = omega (arith, none) in
    absurd (omega (arith, ap (λ n. rows w c total / 2 * n * c) no, ap (λ n. n * c) (mul-zero (rows w c total / 2)), zero-mul c)))
    (cases_lt 0 (across w))

-- a place's channel and column are within the picture
module _ (w c total p : ℕ) (here : p < places w c total) where
  channels : 0 < c
  channels = some_channel w c total p here

  blocks : 0 < across w
  blocks = some_across w c total p here

  pub channel_below : channel c p < c
  channel_below = mod_below p c channels

  pub column_below : 2 * block_column w c p + 1 < w
  column_below = omega (arith, mod_below (block c p) (across w) blocks)

  pub even_column_below : 2 * block_column w c p < w
  even_column_below = omega (arith, column_below)

  -- the block's two rows are whole rows of the picture
  pub rows_within : (2 * block_row w c p + 2) * (w * c) ≤ total
  rows_within =
      let low : block c p < rows w c total / 2 * across w = div_below p c (rows w c total / 2 * across w) channels here in
      let row : block_row w c p < rows w c total / 2 = div_below (block c p) (across w) (rows w c total / 2) blocks low in
      let two : 2 * block_row w c p + 2 ≤ rows w c total = omega arith in
      let whole : rows w c total * (w * c) ≤ total = div-mul-le_self total (w * c) in
      let all : (2 * block_row w c p + 2) * (w * c) ≤ rows w c total * (w * c) = mul-le (2 * block_row w c p + 2) (w * c) (rows w c total) (w * c) two (omega arith) in
      omega arith

  pub seat_below : seat w c p < total
  seat_below =
      let next = before_next w c (2 * block_row w c p + 1) (2 * block_column w c p + 1) (channel c p) column_below channel_below in
      omega (arith, rows_within, next, ap (λ n. n * (w * c)) (two_more (block_row w c p)))
    where
      two_more : (r : ℕ) → 2 * r + 1 + 1 ≡ 2 * r + 2
      two_more r = omega arith

  -- place p by the parts of its number
  pub parts : p ≡ (block_row w c p * across w + block_column w c p) * c + channel c p
  parts = sym (div-add-mod' p c) ∙ ap (λ n. n * c + channel c p) (sym (div-add-mod' (block c p) (across w)))

-- the converse of `rows_within`
pub is_place : (w c total p : ℕ) → 0 < w * c → 0 < c → 0 < across w → (2 * block_row w c p + 2) * (w * c) ≤ total → p < places w c total
is_place w c total p line channels blocks whole =
    let two : 2 * block_row w c p + 2 ≤ rows w c total = le-div (2 * block_row w c p + 2) total (w * c) line whole in
    let row : block_row w c p < rows w c total / 2 = omega arith in
    let low : block c p < rows w c total / 2 * across w = (div-lt_iff_lt-mul {k = across w} {x = block c p} {y = rows w c total / 2} blocks).0 row in
    (div-lt_iff_lt-mul {k = c} {x = p} {y = rows w c total / 2 * across w} channels).0 low

-- different places have different seats
pub seats_apart : (w c total p q : ℕ) → p < places w c total → q < places w c total → seat w c p ≡ seat w c q → p ≡ q
seats_apart w c total p q here there same =
    let r = block_row w c in
    let x = block_column w c in
    let rows : 2 * r p + 1 ≡ 2 * r q + 1 = sym (row_of w c _ _ _ (column_below w c total p here) (channel_below w c total p here)) ∙ ap (λ n. n / c / w) same ∙ row_of w c _ _ _ (column_below w c total q there) (channel_below w c total q there) in
    let columns : 2 * x p + 1 ≡ 2 * x q + 1 = sym (column_of w c _ _ _ (column_below w c total p here) (channel_below w c total p here)) ∙ ap (λ n. (n / c) % w) same ∙ column_of w c _ _ _ (column_below w c total q there) (channel_below w c total q there) in
    let chans : channel c p ≡ channel c q = sym (channel_of w c _ _ _ (column_below w c total p here) (channel_below w c total p here)) ∙ ap (λ n. n % c) same ∙ channel_of w c _ _ _ (column_below w c total q there) (channel_below w c total q there) in
    let row : r p ≡ r q = omega (arith, rows) in
    let column : x p ≡ x q = omega (arith, columns) in
    parts w c total p here ∙ (λ i. (row i * across w + column i) * c + chans i) ∙ sym (parts w c total q there)

-- an even number is not an odd one
even_odd : (m n : ℕ) → 2 * m ≢ 2 * n + 1
even_odd m n e = omega arith

-- a neighbour is the seat of no place: its column or its row is even
module _ (w c total p q : ℕ) (here : p < places w c total) (there : q < places w c total) where
  pub left_no_seat : seat w c q ≡ left w c p → ⊥
  left_no_seat same =
      even_odd (block_column w c p) (block_column w c q)
      (sym (column_of w c _ _ _ (even_column_below w c total p here) (channel_below w c total p here)) ∙ ap (λ n. (n / c) % w) (sym same) ∙ column_of w c _ _ _ (column_below w c total q there) (channel_below w c total q there))

  pub above_no_seat : seat w c q ≡ above w c p → ⊥
  above_no_seat same =
      even_odd (block_row w c p) (block_row w c q)
      (sym (row_of w c _ _ _ (column_below w c total p here) (channel_below w c total p here)) ∙ ap (λ n. n / c / w) (sym same) ∙ row_of w c _ _ _ (column_below w c total q there) (channel_below w c total q there))

  pub diagonal_no_seat : seat w c q ≡ diagonal w c p → ⊥
  diagonal_no_seat same =
      even_odd (block_row w c p) (block_row w c q)
      (sym (row_of w c _ _ _ (even_column_below w c total p here) (channel_below w c total p here)) ∙ ap (λ n. n / c / w) (sym same) ∙ row_of w c _ _ _ (column_below w c total q there) (channel_below w c total q there))

-- four samples to a place
pub four_to_a_place : (w c total : ℕ) → 4 * places w c total ≤ total
four_to_a_place w c total =
    let h = rows w c total in
    let blocks : (h / 2 * 2) * (across w * 2) ≤ h * w = mul-le (h / 2 * 2) (across w * 2) h w (omega arith) (omega arith) in
    let line : (h / 2 * 2) * (across w * 2) * c ≤ h * w * c = mul-le ((h / 2 * 2) * (across w * 2)) c (h * w) c blocks (omega arith) in
    let whole : h * (w * c) ≤ total = div-mul-le_self total (w * c) in
    omega (arith, four (h / 2) (across w) c, mul_assoc h w c)
  where
    four : (a b d : ℕ) → (a * 2) * (b * 2) * d ≡ 4 * (a * b * d)
    four a b d = ap (λ n. n * d) (mul-mul-mul_comm a 2 b 2) ∙ mul_right_comm (a * b) 4 d ∙ mul_comm (a * b * d) 4
