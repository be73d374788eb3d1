-- What a turn says of its places, by what is said of them below. Assumes nothing.
use Rattle.std.proofs.Common.{◌≡◌, ℕ, ◌<◌, ◌≤◌, List, length, ℤ, neg_ℤ, sym, ap, ◌∙◌, subst, arith}
use Rattle.std.proofs.lemmas.Int.{ints}
use Rattle.carrier.specs.declared.interface.Place.{Place}
use Rattle.carrier.specs.Meaning.{Site, Describes, site_of}
use Rattle.layer.specs.Turn.{turned_site, turned_sites, turned_codes}
use Rattle.layer.specs.TurnMeaning.{length-turned_codes, turned_code_at, turned_site_at}

-- a turn has as many places as the carrier below
pub as_many : (n : ℕ) (codes : List ℤ) → n ≡ length codes → n ≡ length (turned_codes codes)
as_many n codes e = e ∙ sym (length-turned_codes codes)

pub past : (codes : List ℤ) (i : ℕ) → length codes ≤ i → length (turned_codes codes) ≤ i
past codes i h = omega (arith, length-turned_codes codes)

-- p shows what `at` is below
pub described : (sites : List Site) (codes : List ℤ) (i : ℕ) (at p : Place) → Describes sites codes i at → p.code ≡ neg_ℤ at.code → site_of p ≡ turned_site (site_of at) → Describes (turned_sites sites) (turned_codes codes) i p
described sites codes i at p d code site =
    let low = ap (λ (q : Site). q.low) site in
    let high = ap (λ (q : Site). q.high) site in
    record {
      within = subst (λ n. i < n) (sym (length-turned_codes codes)) d.within;
      code = code ∙ ap neg_ℤ d.code ∙ sym (turned_code_at codes i);
      site = site ∙ ap turned_site d.site ∙ sym (turned_site_at sites i);
      code_range = omega (arith, ints);
      low_range = omega (arith, ints);
      high_range = omega (arith, ints);
    }
