-- The turn: every code is negated. Assumes nothing.
use Rattle.std.specs.Prelude.{List, map, ℤ, neg_ℤ}
use Rattle.carrier.specs.Meaning.{Site}

-- a site below, as the turn shows it: from the negated high to the negated low, at the same seat
abbrev pub turned_site : Site → Site
turned_site s = record { low = neg_ℤ s.high; high = neg_ℤ s.low; seat = s.seat }

-- the sites of a turn over a carrier with these sites
unfoldable pub turned_sites : List Site → List Site
turned_sites sites = map turned_site sites

-- the codes of a turn over a carrier with these codes
unfoldable pub turned_codes : List ℤ → List ℤ
turned_codes codes = map neg_ℤ codes
