-- A carrier that is reached through something else, as a reference. Assumes nothing.
use Rattle.std.specs.Prelude.{ℕ, List, ℤ}
use Rattle.carrier.specs.Meaning.{Site, Meaning}

-- a type T that leads to a carrier has that carrier's meaning
pub meaning_through : {T S R : Type 0} (f : T → S) {rest : S → R} {codes : S → List ℤ} {sites : R → List Site} {picture : S → List ℕ} → Meaning rest codes sites picture → Meaning (λ t. rest (f t)) (λ t. codes (f t)) sites (λ t. picture (f t))
meaning_through f m = record {
  few = λ s. m.few (f s);
  paired = λ s. m.paired (f s);
  seated = λ s. m.seated (f s);
  apart = λ s. m.apart (f s);
  follows = λ s t. m.follows (f s) (f t);
  told_length = λ s t. m.told_length (f s) (f t);
  told = λ s t. m.told (f s) (f t);
}
