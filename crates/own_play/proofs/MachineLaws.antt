-- A party that is there, and its turn as a step of the lock.
use Rattle.std.proofs.Common.{◌≡◌, ℕ, ◌<◌, length, List, Some, Ok, refl}
use Rattle.std.specs.Prelude.{slice_get, slice_set}
use Rattle.std.proofs.lemmas.Option.{slice_get_within}
use Rattle.own_play.specs.Names.{Event, Input, Lock}
use Rattle.own_play.specs.Machine.{State, state_of, turn, step, words_after, failed_after}
use Rattle.own_play.specs.declared.machine.Machine.{Machine}
use Rattle.own_play.specs.declared.machine.Party.{Party}

pub within : {A : Type 0} (xs : List A) (k : ℕ) (x : A) → slice_get xs k ≡ Some x → k < length xs
within xs k x is = slice_get_within xs k x is

pub stepped_so :
    (lock : Lock) (s : State) (number : ℕ) (input : Input ℕ) (party after : Party) (e : Event ℕ) (m : Machine) → slice_get s.parties number ≡ Some party → turn lock number party s.words input ≡ Ok (e, after) →
    m.parties.items ≡ slice_set s.parties number after → m.words ≡ words_after e.act s.words → m.failed ≡ failed_after e.act s.failed → Ok (e, state_of m) ≡ step lock s number input
stepped_so lock s number input party after e m h1 h2 h3 h4 h5 = rw (h1, h2, h3, h4, h5) refl
