-- The plain carrier: place i is sample i. Assumes nothing.
use Rattle.std.specs.Prelude.{ℕ, min, List, map, length, take, drop, ℤ, pos}
use Rattle.std.specs.List.{range_with_len}
use Rattle.carrier.specs.Meaning.{Site}

-- a carrier uses at most this many samples of its picture
abbrev pub most : ℕ
most = 67108864

-- what a plain carrier keeps: its greatest value, the number of places, and the samples past the last place
pub record PlainRest : Type 0 where
  pub maximum : ℕ
  pub count : ℕ
  pub beyond : List ℕ

-- place i has seat i and takes values from 0 to the maximum
abbrev pub plain_site : ℕ → ℕ → Site
plain_site maximum i = record { low = pos 0; high = pos maximum; seat = i }

-- the sites of all places, in their order
unfoldable pub plain_sites : PlainRest → List Site
plain_sites r = map (plain_site r.maximum) (range_with_len 0 r.count)

-- the code of a place is its sample
unfoldable pub plain_codes : List ℕ → List ℤ
plain_codes samples = map pos (take most samples)

-- the rest of the plain carrier with this maximum, over a picture of these samples
unfoldable pub plain_rest : ℕ → List ℕ → PlainRest
plain_rest maximum samples = record { maximum = maximum; count = min most (length samples); beyond = drop most samples }

-- a plain carrier has height 0
abbrev pub plain_level : PlainRest → ℕ
plain_level r = 0
