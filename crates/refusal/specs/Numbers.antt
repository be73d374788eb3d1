-- Each refusal's number, its text, and the values that it tells. Assumes nothing.
use Rattle.std.specs.Prelude.{◌≡◌, ℕ, List, [], ◌∷◌, ◌++◌, codes, decimal}
use Rattle.refusal.specs.declared.Refusal.{Refusal}
use Rattle.refusal.specs.declared.Refusal.TheVariants.{NoSuchPlace, ValueOutOfBounds, NotAPicture, NotAHeader, SizeOutOfBounds, MaximumOutOfBounds, WrongLength, SampleAboveMaximum, InputTooLong}

-- the number by which users know a refusal
abbrev pub number_of : Refusal → ℕ
number_of (NoSuchPlace height place) = 12
number_of (ValueOutOfBounds height seat) = 13
number_of NotAPicture = 14
number_of NotAHeader = 15
number_of SizeOutOfBounds = 16
number_of MaximumOutOfBounds = 17
number_of WrongLength = 18
number_of (SampleAboveMaximum sample) = 19
number_of InputTooLong = 20

-- the text that `{}` writes
abbrev pub refusal_text : Refusal → List ℕ
refusal_text e = codes "refused " ++ decimal (number_of e)

-- the values that it tells, in the order in which they are shown
abbrev pub values_of : Refusal → List ℕ
values_of (NoSuchPlace height place) = height ∷ place ∷ []
values_of (ValueOutOfBounds height seat) = height ∷ seat ∷ []
values_of NotAPicture = []
values_of NotAHeader = []
values_of SizeOutOfBounds = []
values_of MaximumOutOfBounds = []
values_of WrongLength = []
values_of (SampleAboveMaximum sample) = sample ∷ []
values_of InputTooLong = []

-- the refusal e has number n and tells the values vs
abbrev pub Says : Refusal → ℕ → List ℕ → Type 0
Says e n vs = (number_of e ≡ n) × (values_of e ≡ vs)
