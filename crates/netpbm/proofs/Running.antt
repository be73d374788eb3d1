-- What the machine's states stand for, and what one byte does to that. Assumes nothing.
use Rattle.std.proofs.Common.{◌≡◌, ℕ, ◌+◌, ◌-◌, ◌*◌, ◌<◌, ◌≤◌, true, false, nat_le, slice_index, if◌then◌else◌, List, [], ◌∷◌, length, take, drop, Some, None, fold, Option, refl, subst, sym, arith}
use Rattle.std.specs.List.{prefix_len}
use Rattle.std.proofs.lemmas.List.{at_drop_more, at_drop_all}
use Rattle.std.proofs.lemmas.Bool.Decides.{nat_tests}
use Rattle.std.proofs.lemmas.Grind.{common_steps}
use Rattle.netpbm.specs.declared.machine.State.{State}
use Rattle.netpbm.specs.declared.machine.State.TheVariants.{Before, Gap, Comment, Digits, Ended, Failed}
use Rattle.netpbm.specs.Bytes.{digit}
use Rattle.netpbm.specs.Reading.{after_gap, digits, number}
use Rattle.netpbm.specs.States.{stepped, Sound}

-- the first n bytes of bs go on the digits of the number v, of which there are k
abbrev pub going_on : ℕ → ℕ → List ℕ → ℕ → Option (ℕ × List ℕ)
going_on v k bs n = if nat_le (k + n) 5 then Some (fold (λ m d. 10 * m + (d - 48)) v (take n bs), drop n bs) else None

-- what is read of the bytes bs from a state on
abbrev pub from : State → List ℕ → Option (ℕ × List ℕ)
from Before bs = number bs
from Gap bs = digits (after_gap false bs)
from Comment bs = digits (after_gap true bs)
from (Digits v k) bs = going_on v k bs (prefix_len digit bs)
from (Ended v) bs = Some (v, bs)
from Failed bs = None

-- the same for a state that the byte b led to: where a number has ended, b is not part of it
abbrev pub resumed : State → ℕ → List ℕ → Option (ℕ × List ℕ)
resumed (Ended v) b bs = Some (v, b ∷ bs)
resumed s b bs = from s bs

-- at the first byte after a gap
at_digit : (b : ℕ) (bs : List ℕ) → digits (b ∷ bs) ≡ resumed (if digit b then Digits (b - 48) 1 else Failed) b bs
unfolding digits
at_digit b bs = grind (arith, nat_tests)

-- at a byte after a digit
in_digits : (v k b : ℕ) (bs : List ℕ) → k ≤ 5 → from (Digits v k) (b ∷ bs) ≡ resumed (stepped (Digits v k) b) b bs
in_digits v k b bs few = grind (arith, nat_tests)

-- what a state reads of the bytes is what the next state reads of those after the first
pub turn : (s : State) (b : ℕ) (bs : List ℕ) → Sound s → from s (b ∷ bs) ≡ resumed (stepped s b) b bs
unfolding number after_gap
turn Before b bs ok = grind (arith, nat_tests)
turn Gap b bs ok = grind (arith, nat_tests, at_digit b bs)
turn Comment b bs ok = grind (arith, nat_tests)
turn (Digits v k) b bs ok = in_digits v k b bs ok.0
turn (Ended v) b bs ok = refl
turn Failed b bs ok = refl

-- every byte keeps a state sound
pub sound_more : (s : State) (b : ℕ) → Sound s → Sound (stepped s b)
sound_more Before b ok = grind (arith, nat_tests)
sound_more Gap b ok = grind (arith, nat_tests)
sound_more Comment b ok = grind (arith, nat_tests)
sound_more (Digits v k) b ok = grind (arith, nat_tests, common_steps)
sound_more (Ended v) b ok = tt
sound_more Failed b ok = tt

-- the machine has read the first bytes, up to the place `at`, and is in the state s
pub record Reads (s : State) (at : ℕ) (bytes : List ℕ) : Type 0 where
  pub sound : Sound s
  pub going : (v : ℕ) → s ≡ Ended v → ⊥
  pub same : from s (drop at bytes) ≡ number bytes

-- the same, and reading has not failed
pub record ReadsOn (s : State) (at : ℕ) (bytes : List ℕ) : Type 0 where
  pub reads : Reads s at bytes
  pub live : s ≡ Failed → ⊥

-- where reading goes on, the byte has been read
resumed_going : (s : State) (b : ℕ) (bs : List ℕ) → ((v : ℕ) → s ≡ Ended v → ⊥) → resumed s b bs ≡ from s bs
resumed_going (Ended v) b bs going = absurd (going v refl)
resumed_going Before b bs going = refl
resumed_going Gap b bs going = refl
resumed_going Comment b bs going = refl
resumed_going (Digits v k) b bs going = refl
resumed_going Failed b bs going = refl

-- one turn of the loop: the next byte leads from s to s'
module _ (s s' : State) (at : ℕ) (bytes : List ℕ) (r : Reads s at bytes) (in' : at < length bytes) (next : s' ≡ stepped s (slice_index bytes at)) where
  -- the answer, from the next state on
  on : number bytes ≡ resumed s' (slice_index bytes at) (drop (at + 1) bytes)
  on =
      let read = at_drop_more (from s) bytes at 0 in' in
      let turned = turn s (slice_index bytes at) (drop (at + 1) bytes) r.sound in
      cc

  -- no number has ended
  pub reads_more : ((v : ℕ) → s' ≡ Ended v → ⊥) → Reads s' (at + 1) bytes
  reads_more going = record {
    sound = subst Sound (sym next) (sound_more s (slice_index bytes at) r.sound);
    going = going;
    same = let e = on in let f = resumed_going s' (slice_index bytes at) (drop (at + 1) bytes) going in cc;
  }

  -- reading goes on
  pub reads_on : ((v : ℕ) → s' ≡ Ended v → ⊥) → (s' ≡ Failed → ⊥) → ReadsOn s' (at + 1) bytes
  reads_on going live = record { reads = reads_more going; live = live }

  -- there is no number
  pub reads_failure : s' ≡ Failed → number bytes ≡ None
  reads_failure e = let f = on in cc

-- outside digits, nothing more gives no number
none_left : (s : State) → ((v : ℕ) → s ≡ Ended v → ⊥) → ((v k : ℕ) → s ≡ Digits v k → ⊥) → from s [] ≡ None
unfolding number after_gap digits
none_left Before going none = refl
none_left Gap going none = refl
none_left Comment going none = refl
none_left (Digits v k) going none = absurd (none v k refl)
none_left (Ended v) going none = absurd (going v refl)
none_left Failed going none = refl

-- the bytes end before a digit
pub reads_nothing : (s : State) (at : ℕ) (bytes : List ℕ) → Reads s at bytes → length bytes ≤ at → ((v k : ℕ) → s ≡ Digits v k → ⊥) → number bytes ≡ None
reads_nothing s at bytes r all none = let e = at_drop_all (from s) bytes at all in let f = none_left s r.going none in cc
