-- A text whose `run` would borrow its end from a later line has another output.
use Rattle.sync_play.proofs.Names.{◌≡◌, ℕ, true, List, [], ◌∷◌, length, Some, Result, Ok, Err, refl, sym, ap, ◌∙◌, arith, decimal_digit, codes, Act, Answer, Call, Event, Input, Object, Then, Wake, Word, IsRun, FaultyLine, Task, header_of, command_of, task_of, lines_of, u64_numerals, steps_of, last_line, LinesAsk, IsRunOfText, EndsInItsLine}
use Rattle.model_events.specs.Integers.{u64_arithmetic}
use Rattle.sync_play.proofs.RunsAreOutputs.{runs_are_outputs}

abbrev Ev : Type 0
Ev = Event ℕ

abbrev text : List ℕ
text = codes "mutex 2\n1 try_lock\n1 go\n1 unlock\n1 run\n2 lock\n2 go\n"

abbrev event : ℕ → Act ℕ → Then ℕ → Ev
event party act stand = record { party = party; act = act; «then» = stand }

-- the events of the text's run
abbrev taken : Ev
taken = event 0 (Act.Exchange Word.State 0 1 0 true) (Then.Answers Answer.Success)

abbrev released : Ev
released = event 0 (Act.Store Word.State 0) Then.GoesOn

abbrev woken : Ev
woken = event 0 (Act.Woke Wake.One) (Then.Answers Answer.Done)

abbrev taken_again : Ev
taken_again = event 1 (Act.Exchange Word.State 0 1 0 true) (Then.Answers Answer.Success)

abbrev begun : ℕ → Act ℕ → Ev
begun party act = event party act Then.GoesOn

-- the inputs and the events of all lines
abbrev inputs : List (ℕ × Input ℕ)
inputs = (0, Input.Begin Call.TryLock) ∷ (0, Input.Go) ∷ (0, Input.Begin Call.Unlock) ∷ (0, Input.Go) ∷ (0, Input.Go) ∷ (1, Input.Begin Call.Lock) ∷ (1, Input.Go) ∷ []

abbrev events : List Ev
events = begun 0 (Act.Begun Call.TryLock) ∷ taken ∷ begun 0 (Act.Begun Call.Unlock) ∷ released ∷ woken ∷ begun 1 (Act.Begun Call.Lock) ∷ taken_again ∷ []

is_run : IsRun u64_arithmetic Object.Mutex 2 [] inputs events
is_run = (record { allowed = refl; values = tt; party_is = refl; form = refl; moved = refl }, (record { allowed = refl; values = tt; party_is = refl; form = refl; moved = refl }, (record { allowed = refl; values = tt; party_is = refl; form = refl; moved = refl }, (record { allowed = refl; values = tt; party_is = refl; form = refl; moved = refl }, (record { allowed = refl; values = tt; party_is = refl; form = refl; moved = refl }, (record { allowed = refl; values = tt; party_is = refl; form = refl; moved = refl }, (record { allowed = refl; values = tt; party_is = refl; form = refl; moved = refl }, tt)))))))

abbrev lines : List (List ℕ)
lines = codes "1 try_lock" ∷ codes "1 go" ∷ codes "1 unlock" ∷ codes "1 run" ∷ codes "2 lock" ∷ codes "2 go" ∷ []

asks : LinesAsk u64_numerals Object.Mutex lines inputs events
unfolding command_of task_of steps_of
asks = (
  (0, Input.Begin Call.TryLock) ∷ [],
  _,
  begun 0 (Act.Begun Call.TryLock) ∷ [],
  _,
  refl,
  refl,
  refl,
  (Some (record { party = 0; task = Task.Give (Input.Begin Call.TryLock) }), refl, refl),
  (
    (0, Input.Go) ∷ [],
    _,
    taken ∷ [],
    _,
    refl,
    refl,
    refl,
    (Some (record { party = 0; task = Task.Go 1 }), refl, refl),
    (
      (0, Input.Begin Call.Unlock) ∷ [],
      _,
      begun 0 (Act.Begun Call.Unlock) ∷ [],
      _,
      refl,
      refl,
      refl,
      (Some (record { party = 0; task = Task.Give (Input.Begin Call.Unlock) }), refl, refl),
      (
        (0, Input.Go) ∷ (0, Input.Go) ∷ [],
        _,
        released ∷ woken ∷ [],
        _,
        refl,
        refl,
        refl,
        (Some (record { party = 0; task = Task.Run 100000 }), refl, (2, omega arith, refl, (refl, refl))),
        (
          (1, Input.Begin Call.Lock) ∷ [],
          _,
          begun 1 (Act.Begun Call.Lock) ∷ [],
          _,
          refl,
          refl,
          refl,
          (Some (record { party = 1; task = Task.Give (Input.Begin Call.Lock) }), refl, refl),
          (
            (1, Input.Go) ∷ [],
            [],
            taken_again ∷ [],
            [],
            refl,
            refl,
            refl,
            (Some (record { party = 1; task = Task.Go 1 }), refl, refl),
            refl,
          ),
        ),
      ),
    ),
  ),
)

abbrev output : List ℕ
output = codes "1 success\n1 wakes one\n1 done\n2 success\nword 1 failed 0\n"

is_run_of_text : IsRunOfText text output
unfolding header_of last_line
is_run_of_text =
    record { first = codes "mutex 2"; others = lines; lines_are = refl; header = record { object = Object.Mutex; parties = 2 }; names = refl; schedule = inputs; events = events; asks = asks; run = is_run; bytes_are = rw (decimal_digit 0 (omega arith), decimal_digit 1 (omega arith), decimal_digit 2 (omega arith)) refl }

abbrev output_length : Result (List ℕ) FaultyLine → ℕ
output_length (Ok bytes) = length bytes
output_length (Err fault) = 0

differ : ◌≡◌ {A = Result (List ℕ) FaultyLine} (Ok output) (Ok (codes "1 success\n2 success\nword 1 failed 0\n")) → ⊥
differ e = let same : output_length (Ok output) ≡ output_length (Ok (codes "1 success\n2 success\nword 1 failed 0\n")) = ap output_length e in absurd (omega arith)

pub ends_in_its_line : EndsInItsLine
ends_in_its_line other =
    let meant = runs_are_outputs u64_arithmetic u64_numerals (lines_of text) output is_run_of_text in
    let told = runs_are_outputs u64_arithmetic u64_numerals (lines_of text) (codes "1 success\n2 success\nword 1 failed 0\n") other in
    differ (sym meant ∙ told)
