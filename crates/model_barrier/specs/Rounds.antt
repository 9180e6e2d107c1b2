-- Rounds: what a barrier's word says of them, and which round an arrival is in.
use Rattle.std.specs.Prelude.{◌≡◌, ◌<◌, ℕ, ◌+◌, ◌*◌, ◌/◌, ◌%◌, ◌^◌, ◌==◌, Bool, List, if◌then◌else◌}
use Rattle.model_barrier.specs.Names.{Word, Act, Event, is_done_exchange, acts_in}

-- The word.

-- how many rounds were opened, modulo 2 ^ 32
abbrev pub epoch_of : ℕ → ℕ
epoch_of word = word / 2 ^ 32

-- how many have arrived in the round that is not full
abbrev pub count_of : ℕ → ℕ
count_of word = word % 2 ^ 32

-- the word when the next round opens: nobody has arrived in it
abbrev pub opened : ℕ → ℕ
opened word = (epoch_of word + 1) % 2 ^ 32 * 2 ^ 32

-- the word with one arrival more: the one that makes n opens the next round
abbrev pub with_arrival : ℕ → ℕ → ℕ
with_arrival n word = if count_of word + 1 == n then opened word else word + 1

-- The arrivals.

-- an exchange that is done
abbrev pub is_arrival : {T : Type 0} → Act T → Bool
is_arrival act = is_done_exchange Word.State act

-- Arrivals are numbered from 0 in the order of the run, so that this is also the number of the next.
abbrev pub arrivals_in : {T : Type 0} → List (Event T) → ℕ
arrivals_in past = acts_in is_arrival past

-- the round of the arrival of this number
abbrev pub round_of : ℕ → ℕ → ℕ
round_of n arrival = arrival / n

-- a round is full when its n arrivals stand in the run
abbrev pub IsFull : {T : Type 0} → ℕ → ℕ → List (Event T) → Type 0
IsFull n round past = (arrival : ℕ) → round_of n arrival ≡ round → arrival < arrivals_in past

-- how many rounds are full
abbrev pub full_rounds : {T : Type 0} → ℕ → List (Event T) → ℕ
full_rounds n past = arrivals_in past / n

-- the word counts the rounds that are full, modulo 2 ^ 32, and the arrivals of the next one
abbrev pub CountsArrivals : ℕ → ℕ → ℕ → Type 0
CountsArrivals n arrivals word = word ≡ arrivals / n % 2 ^ 32 * 2 ^ 32 + arrivals % n
