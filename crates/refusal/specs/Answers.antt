-- What a call answers, and how its questions follow each other. Assumes nothing.
use Rattle.std.specs.Prelude.{ℕ, Bool, true, false, List, [], ◌∷◌, Some, None, Ok, Err, Option, Result}
use Rattle.refusal.specs.declared.Refusal.{Refusal}
use Rattle.refusal.specs.Numbers.{number_of, values_of}

-- a call goes through with a value, or it is refused with a number and values
pub data Answer (A : Type 0) : Type 0 where
  accepted : A → Answer A
  refused : ℕ → List ℕ → Answer A

-- what a `Result` of a call says, in these terms
abbrev pub answer : {A : Type 0} → Result A Refusal → Answer A
answer (Ok x) = accepted x
answer (Err e) = refused (number_of e) (values_of e)

-- question n only has to hold: then the next one is put
abbrev pub holds : {B : Type 0} → ℕ → Bool → Answer B → Answer B
holds n true next = next
holds n false next = refused n []

-- question n only has to hold; else it tells these values
abbrev pub tells : {B : Type 0} → ℕ → List ℕ → Bool → Answer B → Answer B
tells n values true next = next
tells n values false next = refused n values

-- question n also yields a value that the next ones use
abbrev pub given : {A B : Type 0} → ℕ → Option A → (A → Answer B) → Answer B
given n None next = refused n []
given n (Some x) next = next x

-- question n holds if nothing is found that breaks it; else it tells the number of the first
abbrev pub none_found : {B : Type 0} → ℕ → Option ℕ → Answer B → Answer B
none_found n None next = next
none_found n (Some i) next = refused n (i ∷ [])
