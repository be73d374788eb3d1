-- What a window says of its places, by what is said of them below. Assumes nothing.
use Rattle.std.proofs.Common.{◌≡◌, ℕ, ◌+◌, ◌-◌, ◌<◌, ◌≤◌, min, List, length, slice_index_or, ℤ, pos, Some, None, Option, ◌^◌, sym, ap, ◌∙◌, arith}
use Rattle.carrier.specs.declared.interface.Place.{Place}
use Rattle.carrier.specs.Meaning.{Site, Describes, Looked, no_site}
use Rattle.layer.specs.Window.{windowed}
use Rattle.layer.specs.WindowMeaning.{length-windowed, windowed_at}

-- a window has as many places as are left below from its start, or as it shows
pub as_many : (start shown n : ℕ) (codes : List ℤ) → n ≡ min (length codes - start) shown → n ≡ length (windowed start shown codes)
as_many start shown n codes e = omega (arith, e, length-windowed start shown codes)

-- past the last place below there is none
pub past : (start shown : ℕ) (codes : List ℤ) (i : ℕ) → length codes ≤ start + i → length (windowed start shown codes) ≤ i
past start shown codes i h = omega (arith, length-windowed start shown codes)

-- nor past what is shown
pub unshown : (start shown : ℕ) (codes : List ℤ) (i : ℕ) → shown ≤ i → length (windowed start shown codes) ≤ i
unshown start shown codes i h = omega (arith, length-windowed start shown codes)

-- place i of the window is place k below
pub described : (start shown : ℕ) (sites : List Site) (codes : List ℤ) (i k : ℕ) (at : Place) → i < shown → k ≡ start + i → Describes sites codes k at → Describes (windowed start shown sites) (windowed start shown codes) i at
described start shown sites codes i k at h e d = record {
  within = omega (arith, length-windowed start shown codes, d.within);
  code = d.code ∙ ap (λ n. slice_index_or codes n (pos 0)) e ∙ sym (windowed_at start shown codes i (pos 0) h);
  site = d.site ∙ ap (λ n. slice_index_or sites n no_site) e ∙ sym (windowed_at start shown sites i no_site h);
  code_range = d.code_range;
  low_range = d.low_range;
  high_range = d.high_range;
}

-- what the window shows at place i is what is said of place k below
pub shows : (start shown : ℕ) (sites : List Site) (codes : List ℤ) (i k : ℕ) (r : Option Place) → length codes ≤ 67108864 → i < shown → k ≡ min (start + i) (2 ^ 64 - 1) → Looked sites codes k r → Looked (windowed start shown sites) (windowed start shown codes) i r
shows start shown sites codes i k (Some at) few low sum there =
    let within = there.within in
    described start shown sites codes i k at low (omega arith) there
shows start shown sites codes i k None few low sum beyond = past start shown codes i (omega arith)
