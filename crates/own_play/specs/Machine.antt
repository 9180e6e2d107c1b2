-- A lock of one's own and its parties at a moment, and what an input makes of them: the rows say it, by the definitions of any table of rows.
use Rattle.std.specs.Prelude.{ℕ, ◌+◌, ◌-◌, ◌^◌, min, Bool, true, false, ◌&&◌, is_some, is_none, List, replicate, slice_get, slice_set, get_or, Option, Some, None, Result, Ok, Err, if◌then◌else◌}
use Rattle.own_play.specs.Names.{event, carried_out, value_told, outcome_of, same_word, word_at, WaitAction, Act, Call, Event, Input, StepFault, Then, Word, HoldKind, After, Words, intent_in, way_in, after_in, answered_in, HoldChange, OwnPlace, Row, Way, Entry, entries_of, Lock, Calls}
use Rattle.own_play.specs.declared.machine.Doing.{Doing}
use Rattle.own_play.specs.declared.machine.Party.{Party}
use Rattle.own_play.specs.declared.machine.Machine.{Machine}

pub record State : Type 0 where
  pub parties : List Party
  pub words : Words
  pub failed : ℕ

abbrev pub state_of : Machine → State
state_of m = record { parties = m.parties.items; words = m.words; failed = m.failed }

abbrev pub first_of : Entry → OwnPlace
first_of entry = record { row = entry.row; kept = 0; patience = record { spins = 0; keep = true } }

-- a party begins a call at the row where its entry says
abbrev pub begun : ℕ → Party → Call ℕ → Entry → Event ℕ × Party
begun number party call entry = (event number (Act.Begun call) Then.GoesOn, record { doing = Some (record { place = first_of entry; waits = false }); hold = party.hold })

abbrev pub begin_by : ℕ → Party → Call ℕ → Option Entry → Result (Event ℕ × Party) StepFault
begin_by number party call None = Err StepFault.OtherObject
begin_by number party call (Some entry) =
    if (entry.takes_hold && is_some party.hold)
    then Err StepFault.Holding
    else (if (entry.needs_hold && is_none party.hold) then Err StepFault.NoHold else Ok (begun number party call entry))

abbrev pub begin_turn : Calls → ℕ → Party → Call ℕ → Result (Event ℕ × Party) StepFault
begin_turn calls number party call = if is_some party.doing then Err StepFault.Busy else begin_by number party call (entries_of calls call)

abbrev pub doing_after : After ℕ OwnPlace → Option Doing
doing_after (After.At place) = Some (record { place = place; waits = false })
doing_after (After.Waits place seen) = Some (record { place = place; waits = true })
doing_after (After.Chooses place old) = Some (record { place = place; waits = true })
doing_after (After.Ends answer) = None

abbrev pub hold_by : HoldChange → Option HoldKind → Option HoldKind
hold_by HoldChange.Keeps hold = hold
hold_by (HoldChange.Takes kind) hold = Some kind
hold_by HoldChange.Ends hold = None

abbrev pub hold_after : Option Way → Option HoldKind → Option HoldKind
hold_after None hold = hold
hold_after (Some way) hold = hold_by way.change hold

-- the step of a row did this
abbrev pub stepped : List Row → ℕ → OwnPlace → Option HoldKind → Act ℕ → Event ℕ × Party
stepped rows number place hold act =
    (event number act (outcome_of (after_in {T = ℕ} rows place (value_told act))), record { doing = doing_after (after_in rows place (value_told act)); hold = hold_after (way_in rows place (value_told act)) hold })

abbrev pub go_by : List Row → ℕ → Option Doing → Option HoldKind → Words → Result (Event ℕ × Party) StepFault
go_by rows number None hold words = Err StepFault.Idle
go_by rows number (Some doing) hold words = if doing.waits then Err StepFault.WaitingForAnswer else Ok (stepped rows number doing.place hold (carried_out (intent_in rows doing.place) (word_at words)))

abbrev pub go_turn : List Row → ℕ → Party → Words → Result (Event ℕ × Party) StepFault
go_turn rows number party words = go_by rows number party.doing party.hold words

abbrev pub answer_by : ℕ → Option Doing → Option HoldKind → WaitAction → Result (Event ℕ × Party) StepFault
answer_by number None hold action = Err StepFault.NotWaiting
answer_by number (Some doing) hold action =
    if doing.waits
    then Ok (event number (Act.Answered action) Then.GoesOn, record { doing = Some (record { place = answered_in doing.place action; waits = false }); hold = hold })
    else Err StepFault.NotWaiting

abbrev pub answer_turn : ℕ → Party → WaitAction → Result (Event ℕ × Party) StepFault
answer_turn number party action = answer_by number party.doing party.hold action

-- what an input makes of a party; no call asks for a choice
abbrev pub turn : Lock → ℕ → Party → Words → Input ℕ → Result (Event ℕ × Party) StepFault
turn lock number party words (Input.Begin call) = begin_turn lock.calls number party call
turn lock number party words Input.Go = go_turn lock.rows number party words
turn lock number party words (Input.Answer action) = answer_turn number party action
turn lock number party words (Input.Choose choice) = Err StepFault.NotWaiting

abbrev pub if_on : Word → Word → ℕ → ℕ → ℕ
if_on on word put value = if same_word on word then put else value

-- what an act leaves in a word that held this value
abbrev pub after_act : Word → Act ℕ → ℕ → ℕ
after_act word (Act.Store on put) value = if_on on word put value
after_act word (Act.Swap on old put) value = if_on on word put value
after_act word (Act.Add on old put) value = if_on on word put value
after_act word (Act.Exchange on from to found true) value = if_on on word to value
after_act word act value = value

abbrev pub words_after : Act ℕ → Words → Words
words_after act words =
    record {
      state = after_act Word.State act words.state;
      counter = after_act Word.Counter act words.counter;
      waiters = after_act Word.Waiters act words.waiters;
      value = after_act Word.Value act words.value;
      low = after_act Word.Low act words.low;
      high = after_act Word.High act words.high;
    }

-- the count of exchanges that failed
abbrev pub failed_after : Act ℕ → ℕ → ℕ
failed_after (Act.Exchange word from to found false) failed = min (failed + 1) (2 ^ 64 - 1)
failed_after act failed = failed

abbrev pub after_turn : State → ℕ → Result (Event ℕ × Party) StepFault → Result (Event ℕ × State) StepFault
after_turn s number (Err fault) = Err fault
after_turn s number (Ok it) = Ok (it.0, record { parties = slice_set s.parties number it.1; words = words_after it.0.act s.words; failed = failed_after it.0.act s.failed })

abbrev pub step_of : Lock → State → ℕ → Input ℕ → Option Party → Result (Event ℕ × State) StepFault
step_of lock s number input None = Err StepFault.NoParty
step_of lock s number input (Some party) = after_turn s number (turn lock number party s.words input)

-- the event that an input of a party gives, and what is then; or why it is refused
abbrev pub step : Lock → State → ℕ → Input ℕ → Result (Event ℕ × State) StepFault
step lock s number input = step_of lock s number input (slice_get s.parties number)

abbrev pub with_state : Result (Event ℕ) StepFault → Machine → Result (Event ℕ × State) StepFault
with_state (Ok e) m = Ok (e, state_of m)
with_state (Err fault) m = Err fault

abbrev pub opening_at : List ℕ → ℕ → ℕ
opening_at opening at = get_or opening at 0

-- each word holds what it opens with, and nobody has begun a call
abbrev pub start : Lock → ℕ → State
start lock parties =
    record {
      parties = replicate parties (record { doing = None; hold = None });
      words = record {
        state = opening_at lock.opening 0;
        counter = opening_at lock.opening 1;
        waiters = opening_at lock.opening 2;
        value = opening_at lock.opening 3;
        low = opening_at lock.opening 4;
        high = opening_at lock.opening 5;
      };
      failed = 0;
    }
