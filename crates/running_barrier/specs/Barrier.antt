-- What the passes of a barrier count and know, the model that it plays, and that this follows the run.
use Rattle.std.specs.Prelude.{◌≡◌, ℕ, ◌+◌, ◌-◌, ◌*◌, ◌/◌, ◌%◌, ◌^◌, ◌<◌, ◌≤◌, ◌==◌, true, max, if◌then◌else◌, List, [], slice_index, ◌≢◌, suc, Bool, false, cond, ◌∷◌}
use Rattle.model_events.specs.Integers.{u64_arithmetic}
use Rattle.model_events.specs.Past.{word_in}
use Rattle.model_events.specs.Rows.{carried_out}
use Rattle.model_events.specs.Runs.{IsPast}
use Rattle.model_events.specs.declared.event.Act.{Act}
use Rattle.model_events.specs.declared.event.Call.{Call}
use Rattle.model_events.specs.declared.event.Event.{Event}
use Rattle.model_events.specs.declared.event.Word.{Word}
use Rattle.running_model.specs.Models.{Model}
use Rattle.running_model.specs.Passes.{StaysOnNoWord, SameOnNoWord, GoesOnByActs}
use Rattle.running_model.specs.Words.{IsOnNoWord, on_no_word}
use Rattle.running_passes.specs.Tallies.{IsTally}
use Rattle.std.proofs.Common.{arith, refl, sym, ap, subst, ◌∙◌, add-mul}
use Rattle.std.proofs.lemmas.Bool.{eqb-true, eqb-false}
use Rattle.std.proofs.lemmas.Bool.Decides.{nat_tests}
use Rattle.std.specs.List.{sum}
use Rattle.running_barrier.specs.declared.rounds.Rounds.{Rounds}
use Rattle.running_model.specs.CountLists.{one_more, both_counts, counts_swap, counts_group}
use Rattle.model_barrier.specs.Law.{KeepsBarrier}
use Rattle.std.proofs.Math.Nat.{zero-div, zero-mod}
use Rattle.std.proofs.lemmas.List.Sums.{sum_by-cons}
use Rattle.std.proofs.lemmas.Nat.{div-add-mod', div-mul-add, mod-mul-add, mod_below}
use mathlib.Core.Logic.{dite}
use native.Mathlib.Decide.{ℕ_discrete}
use Rattle.running_model.specs.CountLists.{more_in_both, more_here, more_elsewhere}
use Rattle.model_barrier.proofs.Laws.{keeps_barrier}
use Rattle.model_barrier.specs.Rounds.{arrivals_in, full_rounds, count_of, is_arrival, epoch_of, CountsArrivals}
use Rattle.model_barrier.specs.Table.{barrier_table, barrier_intent}
use Rattle.model_barrier.specs.declared.BarrierPlace.{BarrierPlace}

-- What a pass counts, and what all passes count together.

-- how many arrivals a list of counts has in this round
abbrev pub in_round : ℕ → List ℕ → ℕ
in_round round counts = slice_index counts round

abbrev pub rounds : List ℕ → ℕ → ℕ → Rounds
rounds arrivals reached opened = record { arrivals = arrivals; reached = reached; opened = opened }

abbrev pub no_rounds : Rounds
no_rounds = rounds [] 0 0

abbrev pub both_rounds : Rounds → Rounds → Rounds
both_rounds t u = rounds (both_counts t.arrivals u.arrivals) (max t.reached u.reached) (t.opened + u.opened)

-- what a copy keeps: which rounds are known to be open
abbrev pub known_rounds : Rounds → Rounds
known_rounds t = rounds [] t.reached 0

-- what a tally says of the word, where no other pass has counted anything
abbrev pub word_of : ℕ → Rounds → ℕ
word_of n t = t.opened % 2 ^ 32 * 2 ^ 32 + (sum t.arrivals - t.opened * n)

-- What an act makes of it.

-- so many rounds are known to be open
abbrev pub reaching : ℕ → Rounds → Rounds
reaching round t = rounds t.arrivals round t.opened

-- how many rounds an arrival from this value opens: the one that makes n opens the next
abbrev pub opens_by : ℕ → ℕ → ℕ
opens_by n from = if count_of from + 1 == n then 1 else 0

-- an arrival in this round, from this value
abbrev pub arrived : ℕ → ℕ → ℕ → Rounds → Rounds
arrived n from round t = rounds (one_more round t.arrivals) (round + opens_by n from) (t.opened + opens_by n from)

-- Where so many rounds are open, an exchange that is done arrives in the next. Whoever sees the word knows that they are.
abbrev pub rounds_with : ℕ → ℕ → Act ℕ → Rounds → Rounds
rounds_with n round (Act.Exchange Word.State from to found true) t = arrived n from round t
rounds_with n round (Act.Exchange word from to found done) t = reaching round t
rounds_with n round (Act.Load word found) t = reaching round t
rounds_with n round act t = t

-- after a run
abbrev pub rounds_after : ℕ → List (Event ℕ) → Act ℕ → Call ℕ → Rounds → Rounds
rounds_after n past act call t = rounds_with n (full_rounds n past) act t

-- Of so many arrivals each n fill a round: the rounds that were opened have n each, the next one the rest, and later ones none. Each round that a
-- pass knows to be open is.
pub record AreRounds (n arrivals : ℕ) (t : Rounds) : Type 0 where
  pub all : sum t.arrivals ≡ arrivals
  pub opened : t.opened ≡ arrivals / n
  pub full : (round : ℕ) → round < arrivals / n → in_round round t.arrivals ≡ n
  pub filling : in_round (arrivals / n) t.arrivals ≡ arrivals % n
  pub later : (round : ℕ) → arrivals / n < round → in_round round t.arrivals ≡ 0
  pub known : t.reached ≤ arrivals / n

-- so the arrivals of the run
abbrev pub AreRoundsIn : ℕ → List (Event ℕ) → Rounds → Type 0
AreRoundsIn n past t = AreRounds n (arrivals_in past) t

-- The model that it plays.

abbrev pub barrier_model : ℕ → Model ℕ BarrierPlace
barrier_model n = record { arithmetic = u64_arithmetic; table = barrier_table n; law = KeepsBarrier n }

-- every run keeps the barrier's law, for whatever number of waiters
pub barrier_lawful : (key parties : ℕ) (past : List (Event ℕ)) → IsPast u64_arithmetic (barrier_table (key % 2 ^ 32)) parties past → KeepsBarrier (key % 2 ^ 32) past
barrier_lawful key parties past run = keeps_barrier u64_arithmetic (key % 2 ^ 32) parties past (omega arith) run

-- What the passes count adds up, and follows the run.

max_group : (a b c : ℕ) → max (max a b) c ≡ max a (max b c)
max_group a b c = omega arith

same_rounds : (xs ys : List ℕ) (a b c d : ℕ) → xs ≡ ys → a ≡ b → c ≡ d → rounds xs a c ≡ rounds ys b d
same_rounds xs ys a b c d counts first second = λ i. rounds (counts i) (first i) (second i)

pub rounds_add_up : IsTally no_rounds both_rounds known_rounds
rounds_add_up = grind (arith, nat_tests, eqb-true, eqb-false, counts_group, counts_swap, max_group, same_rounds)

-- the arrivals of a list of counts

pub sum_cons : (x : ℕ) (xs : List ℕ) → sum (x ∷ xs) ≡ x + sum xs
sum_cons x xs = sum_by-cons (λ (y : ℕ). y) x xs

pub sum_more : (round : ℕ) (xs : List ℕ) → sum (one_more round xs) ≡ sum xs + 1
sum_more (suc round) [] = let a = sum_cons 0 (one_more round []) in let b = sum_more round [] in omega arith
sum_more (suc round) (x ∷ xs) = let a = sum_cons x (one_more round xs) in let b = sum_cons x xs in let c = sum_more round xs in omega arith
sum_more round xs = grind (arith, nat_tests, eqb-true, eqb-false, sum_cons)

-- acts on no word

no_arrival : (act : Act ℕ) → IsOnNoWord act → is_arrival act ≡ false
no_arrival = on_no_word (λ (a : Act ℕ). is_arrival a ≡ false) (λ call. refl) (λ action. refl) (λ choice. refl) (λ wake. refl) refl (λ value. refl)

-- they are no arrivals
same_arrivals : (past : List (Event ℕ)) (e : Event ℕ) → IsOnNoWord e.act → arrivals_in (e ∷ past) ≡ arrivals_in past
same_arrivals past e quiet = let none : ◌≡◌ {A = ℕ} (cond (is_arrival e.act) 1 0) 0 = ap (λ (b : Bool). cond b 1 0) (no_arrival e.act quiet) in omega (arith, none)

pub rounds_stay : (n : ℕ) → StaysOnNoWord (AreRoundsIn n)
rounds_stay n past e counts quiet is = subst (λ (a : ℕ). AreRounds n a counts) (sym (same_arrivals past e quiet)) is

-- and each act makes the same after them
pub rounds_same : (n : ℕ) → SameOnNoWord {P = BarrierPlace} (λ past _. rounds_after n past)
rounds_same n past e place act call counts quiet = ap (λ (a : ℕ). rounds_with n (a / n) act counts) (same_arrivals past e quiet)

pub no_rounds_first : (n : ℕ) → AreRoundsIn n [] no_rounds
no_rounds_first n = grind (arith, nat_tests, eqb-true, eqb-false, zero-div, zero-mod)

-- an arrival more

divided : (n arrivals rounds rest : ℕ) → rest < n → rounds * n + rest ≡ arrivals → (arrivals / n ≡ rounds) × (arrivals % n ≡ rest)
divided n arrivals rounds rest below is = (ap (λ a. a / n) (sym is) ∙ div-mul-add rounds n rest below, ap (λ a. a % n) (sym is) ∙ mod-mul-add rounds n rest below)

-- it opens the next round, or not
pub by_count : (n from : ℕ) (A : Type 0) → (count_of from + 1 ≡ n → opens_by n from ≡ 1 → A) → (count_of from + 1 ≢ n → opens_by n from ≡ 0 → A) → A
by_count n from A h1 h2 = grind (arith, nat_tests, eqb-true, eqb-false)

module _ (n a : ℕ) where
  -- the same arrivals, where the rounds that are known to be open are
  pub again : (s u : Rounds) → AreRounds n a s → u.arrivals ≡ s.arrivals → u.opened ≡ s.opened → u.reached ≤ a / n → AreRounds n a u
  again s u h1 h2 h3 h4 = grind (arith, nat_tests, eqb-true, eqb-false)

  pub arrives : (from : ℕ) (t : Rounds) → 0 < n → count_of from ≡ a % n → AreRounds n a t → AreRounds n (1 + a) (arrived n from (a / n) t)
  arrives from t some count is = by_count n from (AreRounds n (1 + a) (arrived n from (a / n) t))
      (λ fills one. let next = divided n (1 + a) (a / n + 1) 0 some (omega (arith, add-mul (a / n) 1 n, div-add-mod' a n, count, fills)) in let quotient = next.0 in record {
        all = omega (arith, more, is.all);
        opened = omega (arith, quotient, one, is.opened);
        full = λ round below. dite (ℕ_discrete round (a / n))
            (λ same. ap (λ (r : ℕ). in_round r (one_more (a / n) t.arrivals)) same ∙ (let e : in_round (a / n) (one_more (a / n) t.arrivals) ≡ n = omega (arith, here, is.filling, count, fills) in e))
            (λ other. more_elsewhere (a / n) round t.arrivals other ∙ is.full round (omega (arith, quotient, below, other)));
        filling = ap (λ (r : ℕ). in_round r (one_more (a / n) t.arrivals)) quotient ∙ more_elsewhere (a / n) (a / n + 1) t.arrivals (λ same. omega (arith, same)) ∙ is.later (a / n + 1) (omega arith) ∙ sym next.1;
        later = λ round above. more_elsewhere (a / n) round t.arrivals (λ same. omega (arith, same, above, quotient)) ∙ is.later round (omega (arith, above, quotient));
        known = omega (arith, one, quotient);
      })
      (λ early none. let room : a % n + 1 < n = omega (arith, mod_below a n some, count, early) in
      let next = divided n (1 + a) (a / n) (a % n + 1) room (omega (arith, div-add-mod' a n)) in let quotient = next.0 in record {
        all = omega (arith, more, is.all);
        opened = omega (arith, quotient, none, is.opened);
        full = λ round below. more_elsewhere (a / n) round t.arrivals (λ same. omega (arith, same, below, quotient)) ∙ is.full round (omega (arith, below, quotient));
        filling = ap (λ (r : ℕ). in_round r (one_more (a / n) t.arrivals)) quotient ∙ (let e : in_round (a / n) (one_more (a / n) t.arrivals) ≡ (1 + a) % n = omega (arith, here, is.filling, next.1) in e);
        later = λ round above. more_elsewhere (a / n) round t.arrivals (λ same. omega (arith, same, above, quotient)) ∙ is.later round (omega (arith, above, quotient));
        known = omega (arith, none, quotient);
      })
    where
      more : sum (one_more (a / n) t.arrivals) ≡ sum t.arrivals + 1
      more = sum_more (a / n) t.arrivals

      here : in_round (a / n) (one_more (a / n) t.arrivals) ≡ in_round (a / n) t.arrivals + 1
      here = more_here (a / n) t.arrivals

-- what the word says of the arrivals, also where there are none

pub word_says : (n a w : ℕ) → n < 2 ^ 32 → CountsArrivals n a w → (n ≡ 0 → a ≡ 0) → (count_of w ≡ a % n) × (epoch_of w ≡ a / n % 2 ^ 32)
word_says n a w h1 h2 h3 = grind (arith, nat_tests, eqb-true, eqb-false, mod_below, zero-mod)

-- each step of a barrier, by its place
module _ (n : ℕ) (past : List (Event ℕ)) (call : Call ℕ) (t rest : Rounds) where
  abbrev a : ℕ
  a = arrivals_in past

  abbrev Goes : Act ℕ → Type 0
  Goes act = (n ≡ 0 → cond (is_arrival act) 1 0 + a ≡ 0) → AreRounds n (cond (is_arrival act) 1 0 + a) (both_rounds (rounds_after n past act call t) rest)

  not_more : (u : Rounds) → AreRounds n a u → AreRounds n (0 + a) u
  not_more u = subst (λ (b : ℕ). AreRounds n b u) (let same : a ≡ 0 + a = omega arith in same)

  sees : AreRounds n a (both_rounds t rest) → AreRounds n (0 + a) (both_rounds (reaching (a / n) t) rest)
  sees is = let known = is.known in not_more (both_rounds (reaching (a / n) t) rest) (again n a (both_rounds t rest) (both_rounds (reaching (a / n) t) rest) is refl refl (omega (arith, known)))

  arrives_more : (w from : ℕ) → n < 2 ^ 32 → CountsArrivals n a w → (n ≡ 0 → a ≡ 0) → AreRounds n a (both_rounds t rest) → w ≡ from → (n ≡ 0 → 1 + a ≡ 0) → AreRounds n (1 + a) (both_rounds (arrived n from (a / n) t) rest)
  arrives_more w from fits counts nobody is there nil =
      let some : 0 < n = dite (ℕ_discrete n 0) (λ none_come. absurd (let e = nil none_come in omega (arith, e))) (λ other. omega (arith, other)) in
      let count : count_of from ≡ a % n = ap count_of (sym there) ∙ (word_says n a w fits counts nobody).0 in
      let all = arrives n a from (both_rounds t rest) some count is in
      let now = all.known in let known = is.known in
      again n (1 + a) (arrived n from (a / n) (both_rounds t rest)) (both_rounds (arrived n from (a / n) t) rest) all (more_in_both (a / n) t.arrivals rest.arrivals) (omega arith) (omega (arith, now, known))

pub rounds_go_on : (n : ℕ) → n < 2 ^ 32 → GoesOnByActs (barrier_model n) both_rounds (AreRoundsIn n) (λ past _. rounds_after n past) (λ _ _. Unit {0})
rounds_go_on n fits call place hold past e found step t rest needs is =
    let law = (keeps_barrier u64_arithmetic n step.parties (e ∷ past) fits step.run).law in
    subst (Goes n past call t rest) (sym (step.act ∙ step.found_is)) (goes_at place) (λ nil. (law.nobody nil).0)
  where
    exchanged : (from to : ℕ) (done : Bool) → (word_in (barrier_table n) past Word.State == from) ≡ done → Goes n past call t rest (Act.Exchange Word.State from to (word_in (barrier_table n) past Word.State) done)
    exchanged from to false test nil = sees n past call t rest is
    exchanged from to true test nil =
        arrives_more n past call t rest (word_in (barrier_table n) past Word.State) from fits step.law.law.counts (λ nil. (step.law.law.nobody nil).0) is (eqb-true (word_in (barrier_table n) past Word.State) from test) nil

    goes_at : (place : BarrierPlace) → Goes n past call t rest (carried_out (barrier_intent Word.State place) (word_in (barrier_table n) past))
    goes_at (BarrierPlace.Look m) nil = sees n past call t rest is
    goes_at (BarrierPlace.Arrive m seen to) nil = exchanged seen to (word_in (barrier_table n) past Word.State == seen) refl nil
    goes_at BarrierPlace.Wake nil = not_more n past call t rest (both_rounds t rest) is
    goes_at (BarrierPlace.Stay epoch spins) nil = sees n past call t rest is

pub waiters_fit : (key : ℕ) → key % 2 ^ 32 < 2 ^ 32
waiters_fit key = omega arith
