-- What a put through a layer answers and leaves. Assumes nothing.
use Rattle.std.proofs.Common.{◌≡◌, ℕ, ◌≤◌, Bool, true, false, if◌then◌else◌, List, [], ◌∷◌, length, ℤ, Err, refl}
use Rattle.std.proofs.lemmas.Bool.{le-ltb}
use Rattle.refusal.specs.declared.Refusal.{Refusal}
use Rattle.refusal.specs.Numbers.{Says}
use Rattle.refusal.specs.Answers.{refused}
use Rattle.carrier.specs.Meaning.{Site, Puts}
use Rattle.carrier.proofs.Putting.{stays}

-- a function of the codes after a put, by what it is of the codes with v
pub cond_alike : {A B : Type 0} (f : A → B) (b : Bool) (x y : A) (z : B) → (b ≡ true → f x ≡ z) → f (if b then x else y) ≡ (if b then z else f y)
cond_alike f true x y z same = same refl
cond_alike f false x y z same = refl

-- a put at a place that is not there
pub unplaced : (e : Refusal) (height : ℕ) (sites : List Site) (i : ℕ) (v : ℤ) (codes : List ℤ) (picture : List ℕ) → (length codes ≤ i) × Says e 12 (height ∷ i ∷ []) → Puts height sites i v codes codes picture picture (Err e)
unplaced e height sites i v codes picture (past, says) =
    let no_place = le-ltb i (length codes) past in
    record {
      says = rw no_place (λ j. refused (says.0 j) (says.1 j));
      code = rw no_place;
      moves = stays sites i codes picture;
    }
