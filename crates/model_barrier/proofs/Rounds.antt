-- Which round an arrival is in, and what the word tells of it.
use Rattle.model_barrier.proofs.Names.{◌≡◌, ◌≢◌, ℕ, ◌+◌, ◌*◌, ◌/◌, ◌%◌, ◌^◌, ◌<◌, ◌==◌, refl, Bool, true, false, cond, add-mul, arith, eqb-true, nat_tests, eqb-false, epoch_of, count_of, opened, with_arrival, CountsArrivals}
use Rattle.std.proofs.Math.Nat.{zero-div, zero-mod}
use Rattle.std.proofs.lemmas.Nat.{div-add-mod', div-mul-add, mod-mul-add, mod_below, le-div, mul-le}

-- The word at so many arrivals.

unpacked : (rounds rest w : ℕ) → rest < 2 ^ 32 → w ≡ rounds % 2 ^ 32 * 2 ^ 32 + rest → (w % 2 ^ 32 ≡ rest) × (w / 2 ^ 32 ≡ rounds % 2 ^ 32)
unpacked rounds rest w below is = (omega (arith, below, is), omega (arith, below, is))

rest_fits : (n arrivals : ℕ) → 0 < n → n < 2 ^ 32 → arrivals % n < 2 ^ 32
rest_fits n arrivals some fits = omega (arith, mod_below arrivals n some, fits)

pub count_is : (n arrivals w : ℕ) → 0 < n → n < 2 ^ 32 → CountsArrivals n arrivals w → count_of w ≡ arrivals % n
count_is n arrivals w some fits counts = (unpacked (arrivals / n) (arrivals % n) w (rest_fits n arrivals some fits) counts).0

pub epoch_is : (n arrivals w : ℕ) → 0 < n → n < 2 ^ 32 → CountsArrivals n arrivals w → epoch_of w ≡ arrivals / n % 2 ^ 32
epoch_is n arrivals w some fits counts = (unpacked (arrivals / n) (arrivals % n) w (rest_fits n arrivals some fits) counts).1

pub counts_none : (n : ℕ) → CountsArrivals n 0 0
counts_none n = rw (zero-div n, zero-mod n) refl

-- One arrival more.

-- so many rounds and so many more
packed : (n arrivals rounds rest w : ℕ) → rest < n → rounds * n + rest ≡ arrivals → w ≡ rounds % 2 ^ 32 * 2 ^ 32 + rest → CountsArrivals n arrivals w
packed n arrivals rounds rest w h1 h2 h3 = grind (arith, nat_tests, eqb-true, eqb-false, div-mul-add, mod-mul-add)

pub counts_more : (n arrivals w : ℕ) → n < 2 ^ 32 → count_of w < n → CountsArrivals n arrivals w → CountsArrivals n (arrivals + 1) (with_arrival n w)
counts_more n arrivals w fits below counts = by_test (count_of w + 1 == n) refl
  where
    some : 0 < n
    some = omega (arith, below)

    rest : count_of w ≡ arrivals % n
    rest = count_is n arrivals w some fits counts

    by_test : (fills : Bool) → (count_of w + 1 == n) ≡ fills → CountsArrivals n (arrivals + 1) (cond fills (opened w) (w + 1))
    by_test true is =
        packed n (arrivals + 1) (arrivals / n + 1) 0 (opened w) some
        (omega (arith, add-mul (arrivals / n) 1 n, div-add-mod' arrivals n, rest, eqb-true (count_of w + 1) n is))
        (omega (arith, epoch_is n arrivals w some fits counts))
    by_test false is =
        let more : arrivals % n + 1 < n = grind (arith, nat_tests) in
        packed n (arrivals + 1) (arrivals / n) (arrivals % n + 1) (w + 1) more (omega (arith, div-add-mod' arrivals n)) (omega (arith, counts))

-- Later rounds.

-- where the word has another epoch than that from which a call arrived, the call's round is before the present one
pub later_epoch : (n arrivals own w v : ℕ) → 0 < n → n < 2 ^ 32 → own < arrivals → CountsArrivals n arrivals w → CountsArrivals n own v → epoch_of w ≢ epoch_of v → own / n < arrivals / n
later_epoch n arrivals own w v h1 h2 h3 h4 h5 h6 = grind (arith, nat_tests, eqb-true, eqb-false, le-div, div-add-mod', epoch_is)

-- and so it is where the call's own arrival made n
pub filled_round : (n arrivals own v : ℕ) → 0 < n → n < 2 ^ 32 → own < arrivals → CountsArrivals n own v → count_of v + 1 ≡ n → own / n < arrivals / n
filled_round n arrivals own v h1 h2 h3 h4 h5 = grind (arith, nat_tests, eqb-true, eqb-false, count_is, add-mul, div-add-mod', le-div)

-- a round before the present one is full
pub is_full : (n arrivals round : ℕ) → 0 < n → round < arrivals / n → (arrival : ℕ) → arrival / n ≡ round → arrival < arrivals
is_full n arrivals round h1 h2 arrival h3 = grind (arith, nat_tests, eqb-true, eqb-false, mul-le, add-mul, div-add-mod', mod_below)
