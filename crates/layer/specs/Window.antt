-- The window: some places in a row of those below. Assumes nothing.
use Rattle.std.specs.Prelude.{ℕ, List, map, take, drop, ℤ}
use Rattle.carrier.specs.Blanked.{blanked}
use Rattle.carrier.specs.Meaning.{Site}
use Rattle.layer.specs.Over.{raised}

-- as many of these as are shown, from number `start` on; fewer where the end comes first
unfoldable pub windowed : {X : Type 0} → ℕ → ℕ → List X → List X
windowed start shown xs = take shown (drop start xs)

-- what a window keeps over a carrier whose rest is an R
pub record WindowRest (R : Type 0) : Type 0 where
  -- the rest below
  pub below : R
  pub start : ℕ
  pub shown : ℕ
  -- the hidden codes in front of the window, and behind it
  pub before : List ℤ
  pub after : List ℤ
  -- the picture with 0 at each of the window's own seats
  pub others : List ℕ

-- the seats of these sites
unfoldable pub seats_of : List Site → List ℕ
seats_of sites = map (λ s. s.seat) sites

-- the rest of a window over a carrier with this rest, these codes and this picture
abbrev pub window_rest : {R : Type 0} → (R → List Site) → R → ℕ → ℕ → List ℤ → List ℕ → WindowRest R
window_rest sites below start shown codes picture =
    record {
      below = below;
      start = start;
      shown = shown;
      before = take start codes;
      after = drop shown (drop start codes);
      others = blanked (seats_of (windowed start shown (sites below))) picture;
    }

-- the sites of a window, by those that the rest below tells
abbrev pub window_sites : {R : Type 0} → (R → List Site) → WindowRest R → List Site
window_sites sites r = windowed r.start r.shown (sites r.below)

-- the height of a window, by the height that the rest below tells
abbrev pub window_level : {R : Type 0} → (R → ℕ) → WindowRest R → ℕ
window_level level r = raised (level r.below)
