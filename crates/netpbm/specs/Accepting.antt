-- Which files are accepted, in words that need no reading. Assumes nothing.
use Rattle.std.specs.Prelude.{◌≡◌, ℕ, List}
use Rattle.refusal.specs.Answers.{accepted}
use Rattle.netpbm.specs.declared.Header.{Header}
use Rattle.netpbm.specs.File.{IsPicture}
use Rattle.netpbm.specs.Reading.{reading}

-- the file is accepted with a header exactly if it is a picture with that header
abbrev pub AcceptedPictures : List ℕ → Type 0
AcceptedPictures file = (h : Header) → (reading file ≡ accepted h → IsPicture file h) × (IsPicture file h → reading file ≡ accepted h)
