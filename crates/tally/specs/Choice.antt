-- The pair that the survey chooses for a mark. Assumes nothing.
use Rattle.std.specs.Prelude.{ℕ, suc, ◌+◌, ◌*◌, ◌<◌, ◌≤◌, List, take, drop, ℤ, pos, neg_ℤ, ◌≤ℤ◌, ◌<ℤ◌, nat_lt}
use Rattle.carrier.specs.Meaning.{Site}
use Rattle.mark.specs.Rows.{slots, map_bits_of}
use Rattle.tally.specs.declared.Surveyed.{Surveyed}
use Rattle.tally.specs.Tally.{occurs, tallied, tally, first_best}

-- where the tally has the peak: the first greatest count of all but the last code
abbrev pub peak_at : ℕ → List ℕ → ℕ
peak_at reach counts = first_best (λ x y. nat_lt y x) (take (2 * reach) counts)

-- and the zero: the first least count after the peak
abbrev pub zero_at : ℕ → List ℕ → ℕ
zero_at reach counts = suc (peak_at reach counts) + first_best (λ x y. nat_lt x y) (drop (suc (peak_at reach counts)) counts)

-- the codes that stand there
abbrev pub peak_of : ℕ → List Site → List ℤ → ℤ
peak_of reach sites codes = tallied reach (peak_at reach (tally reach sites codes))

abbrev pub zero_of : ℕ → List Site → List ℤ → ℤ
zero_of reach sites codes = tallied reach (zero_at reach (tally reach sites codes))

-- what the survey answers: the pair, and what a mark with it would find
abbrev pub surveyed : ℕ → List Site → List ℤ → Surveyed
surveyed reach sites codes =
    let p = peak_of reach sites codes in
    let z = zero_of reach sites codes in
    record {
      pair = record { peak = p; zero = z };
      counts = record { slots = slots p z sites codes; map_bits = map_bits_of p z sites codes };
    }

-- The same in words that need no tally. No code from -reach to reach - 1 occurs more often than the peak, and the
-- smaller ones occur less often.
pub record IsPeak (reach : ℕ) (sites : List Site) (codes : List ℤ) (p : ℤ) : Type 0 where
  pub low : neg_ℤ (pos reach) ≤ℤ p
  pub high : p <ℤ pos reach
  pub most : (c : ℤ) → neg_ℤ (pos reach) ≤ℤ c → c <ℤ pos reach → occurs sites codes c ≤ occurs sites codes p
  pub first : (c : ℤ) → neg_ℤ (pos reach) ≤ℤ c → c <ℤ p → occurs sites codes c < occurs sites codes p

-- No code above the peak, up to reach, occurs less often than the zero, and those below the zero occur more often.
pub record IsZero (reach : ℕ) (sites : List Site) (codes : List ℤ) (p z : ℤ) : Type 0 where
  pub low : p <ℤ z
  pub high : z ≤ℤ pos reach
  pub least : (c : ℤ) → p <ℤ c → c ≤ℤ pos reach → occurs sites codes z ≤ occurs sites codes c
  pub first : (c : ℤ) → p <ℤ c → c <ℤ z → occurs sites codes z < occurs sites codes c
