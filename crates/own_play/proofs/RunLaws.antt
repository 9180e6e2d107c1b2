-- What is played is a run of the table.
use Rattle.std.proofs.Common.{◌≡◌, ◌≢◌, ℕ, zero, suc, ◌+◌, ◌<◌, ◌≤◌, ◌==◌, ◌&&◌, Bool, true, false, is_some, is_none, List, [], ◌∷◌, length, Option, Some, None, Result, Ok, Err, ◌⊎◌, inl, inr, refl, ap, sym, subst, ◌∙◌, arith, if◌then◌else◌}
use Rattle.std.proofs.lemmas.Bool.{eqb-true, eqb-false}
use Rattle.std.proofs.lemmas.Bool.Decides.{nat_tests, eqb_tells}
use Rattle.std.specs.Prelude.{◌-◌, ◌^◌, min, nat_lt, slice_get, slice_set, replicate}
use Rattle.std.proofs.lemmas.List.{length-set, length-replicate, get_or-set_same, get_or-set_other, get_or-replicate}
use Rattle.std.proofs.lemmas.Option.{slice_get_within, slice_get-get_or, get_or_from_slice_get}
use Rattle.model_events.specs.Exports.{Table, PendingCall, Hold, call_of, call_after, call_going_on, stage_of, next_stage, latest_outcome, hold_among, hold_of, fault_at, fault_of, hold_fault, begin_fault, go_fault, answer_fault, move_of, is_step, is_locking, HasForm, InputValues, CallValues, u64_arithmetic, carried_out, value_told, outcome_of, place_after, word_in, word_after, failures_by, failures_in, IsNext}
use Rattle.model_events.specs.declared.row.Intent.{Intent}
use Rattle.model_events.proofs.Exports.{call_of_same, call_of_other, some_same, carried_is_step, carried_goes_on, carried_stage, no_holds}
use Rattle.model_events.proofs.Holds.{hold_among-without_other, hold_among-without_same}
use Rattle.model_own.specs.Rows.{first_place, way_of, led_by, led_to}
use Rattle.model_own.specs.Holds.{changed, change_at, change_by, change_of, BeginsBy, BegunBy, own_holds}
use Rattle.own_play.specs.Names.{event, intent_in, way_in, after_in, answered_in, entries_of, goes_on, word_at, Act, Call, Event, Input, StepFault, Then, Word, WaitAction, HoldKind, HoldChange, After, Words, OwnPlace, Row, Way, Entry, Command, Task, LineFault, Lock, words_of}
use Rattle.own_play.specs.Machine.{State, first_of, begin_by, begin_turn, doing_after, hold_by, hold_after, stepped, go_by, answer_by, turn, after_act, words_after, failed_after, after_turn, step_of, step, start}
use Rattle.own_play.specs.Walk.{Walk, Seen, step_then, go_walk, run_walk, task_walk, asked_walk, asked_of, lines_walk}
use Rattle.own_play.specs.Law.{table_in, LeadsTo, AreRun, WalksAreRuns}
use Rattle.own_play.specs.declared.machine.Doing.{Doing}
use Rattle.own_play.specs.declared.machine.Party.{Party}

-- whether a call that was left so stands at its wait closure
abbrev waits : Then ℕ → Option Bool
waits Then.GoesOn = Some false
waits (Then.Waits seen) = Some true
waits other = None

may_go : (left : Then ℕ) → waits left ≡ Some false → go_fault left ≡ None
may_go left h1 = grind (arith)

may_answer : (left : Then ℕ) → waits left ≡ Some true → answer_fault left ≡ None
may_answer left h1 = grind (arith)

both_kept : (b : Bool) → b && false ≡ false
both_kept true = refl
both_kept false = refl

-- Only these calls may a lock have, and they bring no value.
valued : (lock : Lock) (call : Call ℕ) (entry : Entry) → entries_of lock.calls call ≡ Some entry → CallValues u64_arithmetic call
valued lock Call.Lock entry is = tt
valued lock Call.TryLock entry is = tt
valued lock Call.Unlock entry is = tt
valued lock call entry is = absurd cc

same_carried : (intent : Intent ℕ) (m n : Word → ℕ) → ((word : Word) → m word ≡ n word) → carried_out intent m ≡ carried_out intent n
same_carried (Intent.Load word) m n same = rw (same word) refl
same_carried (Intent.Store word put) m n same = refl
same_carried (Intent.Swap word put) m n same = rw (same word) refl
same_carried (Intent.Add word more) m n same = rw (same word) refl
same_carried (Intent.Subtract word less) m n same = rw (same word) refl
same_carried (Intent.Exchange word from to) m n same = rw (same word) refl
same_carried (Intent.Wake wake) m n same = refl
same_carried Intent.End m n same = refl
same_carried (Intent.ReadCell value) m n same = refl

same_put : (word : Word) (act : Act ℕ) (value : ℕ) → after_act word act value ≡ word_after word act value
same_put word act value = grind (arith, nat_tests, eqb-true, eqb-false)

same_words : (act : Act ℕ) (words : Words) (word : Word) → word_at (words_after act words) word ≡ word_after word act (word_at words word)
same_words act words Word.State = same_put Word.State act words.state
same_words act words Word.Counter = same_put Word.Counter act words.counter
same_words act words Word.Waiters = same_put Word.Waiters act words.waiters
same_words act words Word.Value = same_put Word.Value act words.value
same_words act words Word.Low = same_put Word.Low act words.low
same_words act words Word.High = same_put Word.High act words.high

set_there : {X : Type 0} (xs : List X) (p : ℕ) (y : X) → p < length xs → slice_get (slice_set xs p y) p ≡ Some y
set_there xs p y within = slice_get-get_or (slice_set xs p y) p y (subst (λ (n : ℕ). p < n) (sym (length-set xs p y)) within) ∙ ap (λ z. Some z) (get_or-set_same xs p y y within)

set_elsewhere : {X : Type 0} (xs : List X) (p q : ℕ) (y z : X) → p ≢ q → slice_get (slice_set xs p y) q ≡ Some z → slice_get xs q ≡ Some z
set_elsewhere xs p q y z apart at =
    slice_get-get_or xs q z (subst (λ (n : ℕ). q < n) (length-set xs p y) (slice_get_within _ q z at))
    ∙ ap (λ z. Some z) (sym (get_or-set_other xs p q y z (λ is. apart (sym is))) ∙ get_or_from_slice_get _ q z z at)

changed_other : (p q : ℕ) (change : HoldChange) (holds : List Hold) → q ≢ p → hold_among q (changed p change holds) ≡ hold_among q holds
changed_other p q change holds h1 = grind (arith, nat_tests, eqb-true, eqb-false, hold_among-without_other)

module _ (lock : Lock) where
  abbrev t : Table ℕ OwnPlace
  t = table_in lock

  -- the call under way of a party is where it is
  abbrev IsDoing : Option (PendingCall ℕ) → Option Doing → Type 0
  IsDoing None None = Unit {0}
  IsDoing (Some c) (Some doing) = (stage_of t c ≡ Some doing.place) × (waits (latest_outcome c.own) ≡ Some doing.waits)
  IsDoing call doing = ⊥

  module _ (p : ℕ) (holds : List Hold) (memory : Word → ℕ) where
    -- what a turn of a party did is what the table has next, and leaves its call and hold so
    record Turned (call : Option (PendingCall ℕ)) (input : Input ℕ) (e : Event ℕ) (party : Party) : Type 0 where
      party_is : e.party ≡ p
      allowed : fault_at t call None input ≡ None
      values : InputValues u64_arithmetic input
      form : HasForm input e.act
      moved : move_of t call None memory input ≡ Some (record { act = e.act; outcome = e.then })
      begun : BegunBy (entries_of lock.calls) e.act (hold_among p holds)
      doing : IsDoing (call_after e.then e call) party.doing
      hold : party.hold ≡ hold_among p (changed p (change_by t lock.rows e.act call) holds)

    abbrev Fine : Option (PendingCall ℕ) → Input ℕ → Result (Event ℕ × Party) StepFault → Type 0
    Fine call input (Ok it) = Turned call input it.0 it.1
    Fine call input (Err fault) = Unit {0}

    -- A call begins.
    begins : (call : Call ℕ) (party : Party) (entry : Option Entry) → entries_of lock.calls call ≡ entry → party.hold ≡ hold_among p holds → Fine None (Input.Begin call) (begin_by p party call entry)
    begins call party None is has = tt
    begins call party (Some entry) is has = by (entry.takes_hold && is_some party.hold) (entry.needs_hold && is_none party.hold) refl refl
      where
        begun_by : (entry.takes_hold && is_some party.hold) ≡ false → (entry.needs_hold && is_none party.hold) ≡ false → BeginsBy (Some entry) party.hold
        begun_by h1 h2 = grind (arith)

        by : (a b : Bool) → (entry.takes_hold && is_some party.hold) ≡ a → (entry.needs_hold && is_none party.hold) ≡ b →
            Fine None (Input.Begin call) (if a then Err StepFault.Holding else (if b then Err StepFault.NoHold else Ok (event p (Act.Begun call) Then.GoesOn, record { doing = Some (record { place = first_of entry; waits = false }); hold = party.hold })))
        by true b h1 h2 = tt
        by false true h1 h2 = tt
        by false false h1 h2 =
            record {
              party_is = refl;
              allowed = rw is (rw (both_kept (is_locking call)) refl);
              values = valued lock call entry is;
              form = refl;
              moved = refl;
              begun = subst (λ (h : Option HoldKind). BeginsBy (entries_of lock.calls call) h) has (subst (λ (e : Option Entry). BeginsBy e party.hold) (sym is) (begun_by h1 h2));
              doing = (ap first_place is, refl);
              hold = has;
            }

    begins_so : (k : Option (PendingCall ℕ)) (call : Call ℕ) (party : Party) → IsDoing k party.doing → party.hold ≡ hold_among p holds → Fine k (Input.Begin call) (begin_turn lock.calls p party call)
    begins_so k call party is has = by k party.doing is
      where
        by : (k : Option (PendingCall ℕ)) (doing : Option Doing) → IsDoing k doing → Fine k (Input.Begin call) (if is_some doing then Err StepFault.Busy else begin_by p party call (entries_of lock.calls call))
        by None None is = begins call party (entries_of lock.calls call) refl has
        by (Some c) (Some doing) is = tt
        by None (Some doing) is = tt
        by (Some c) None is = absurd is

    -- The wait closure answers.
    answers : (k : Option (PendingCall ℕ)) (doing : Option Doing) (hold : Option HoldKind) (action : WaitAction) → IsDoing k doing → hold ≡ hold_among p holds → Fine k (Input.Answer action) (answer_by p doing hold action)
    answers k None hold action is has = tt
    answers None (Some doing) hold action is has = absurd is
    answers (Some c) (Some doing) hold action is has = by doing.waits refl
      where
        by : (b : Bool) → doing.waits ≡ b →
            Fine (Some c) (Input.Answer action) (if b then Ok (event p (Act.Answered action) Then.GoesOn, record { doing = Some (record { place = answered_in doing.place action; waits = false }); hold = hold }) else Err StepFault.NotWaiting)
        by false at = tt
        by true at =
            record {
              party_is = refl;
              allowed = may_answer (latest_outcome c.own) (is.1 ∙ ap (λ (b : Bool). Some b) at);
              values = tt;
              form = refl;
              moved = refl;
              begun = tt;
              doing = (ap (next_stage t (Act.Answered action)) is.0, refl);
              hold = has;
            }

    -- A step. No row asks for a choice.
    no_choice : (place next : OwnPlace) (told : Option ℕ) (old : ℕ) → after_in {T = ℕ} lock.rows place told ≡ After.Chooses next old → ⊥
    no_choice place next told old h1 = grind (arith, nat_tests, eqb-true, eqb-false)

    hold_so : (change : HoldChange) (hold : Option HoldKind) → hold ≡ hold_among p holds → hold_by change hold ≡ hold_among p (changed p change holds)
    hold_so change hold h1 = grind (arith, nat_tests, eqb-true, eqb-false, hold_among-without_same)

    module _ (c : PendingCall ℕ) (doing : Doing) (is : stage_of t c ≡ Some doing.place) where
      abbrev made : Act ℕ
      made = carried_out (intent_in lock.rows doing.place) memory

      abbrev next : After ℕ OwnPlace
      next = after_in lock.rows doing.place (value_told made)

      on : (place : OwnPlace) (b : Bool) (a : After ℕ OwnPlace) → next ≡ a → place_after a ≡ Some place → waits (outcome_of a) ≡ Some b → IsDoing (call_going_on made (event p made (outcome_of a)) (Some c)) (Some (record { place = place; waits = b }))
      on place b a leads to left =
          subst (λ (k : Option (PendingCall ℕ)). IsDoing k (Some (record { place = place; waits = b }))) (sym (carried_goes_on (intent_in lock.rows doing.place) memory (event p made (outcome_of a)) c))
          (ap (next_stage t made) is ∙ carried_stage t doing.place (intent_in lock.rows doing.place) memory ∙ ap place_after leads ∙ to, left)

      doing_so : (a : After ℕ OwnPlace) → next ≡ a → IsDoing (call_after (outcome_of a) (event p made (outcome_of a)) (Some c)) (doing_after a)
      doing_so (After.At place) leads = on place false (After.At place) leads refl refl
      doing_so (After.Waits place seen) leads = on place true (After.Waits place seen) leads refl refl
      doing_so (After.Chooses place old) leads = absurd (no_choice doing.place place (value_told made) old leads)
      doing_so (After.Ends answer) leads = tt

      change_so : change_by t lock.rows made (Some c) ≡ change_of (way_in lock.rows doing.place (value_told made))
      change_so = ap (λ b. if b then change_at lock.rows (stage_of t c) (value_told made) else HoldChange.Keeps) (carried_is_step (intent_in lock.rows doing.place) memory) ∙ ap (λ s. change_at lock.rows s (value_told made)) is

      way_so : (way : Option Way) (hold : Option HoldKind) → hold_after way hold ≡ hold_by (change_of way) hold
      way_so None hold = refl
      way_so (Some way) hold = refl

      begun_so : (intent : Intent ℕ) → BegunBy (entries_of lock.calls) (carried_out intent memory) (hold_among p holds)
      begun_so intent = grind (arith)

      made_fine : (hold : Option HoldKind) → hold ≡ hold_among p holds → waits (latest_outcome c.own) ≡ Some false → Fine (Some c) Input.Go (Ok (stepped lock.rows p doing.place hold made))
      made_fine hold has left =
          record {
            party_is = refl;
            allowed = may_go (latest_outcome c.own) left;
            values = tt;
            form = carried_is_step (intent_in lock.rows doing.place) memory;
            moved = rw is refl;
            begun = begun_so (intent_in lock.rows doing.place);
            doing = doing_so next refl;
            hold = way_so (way_in lock.rows doing.place (value_told made)) hold ∙ hold_so (change_of (way_in lock.rows doing.place (value_told made))) hold has
                ∙ ap (λ change. hold_among p (changed p change holds)) (sym change_so);
          }

    goes : (k : Option (PendingCall ℕ)) (doing : Option Doing) (hold : Option HoldKind) (words : Words) → ((word : Word) → word_at words word ≡ memory word) → IsDoing k doing → hold ≡ hold_among p holds → Fine k Input.Go (go_by lock.rows p doing hold words)
    goes k None hold words same is has = tt
    goes None (Some doing) hold words same is has = absurd is
    goes (Some c) (Some doing) hold words same is has = by doing.waits refl
      where
        by : (b : Bool) → doing.waits ≡ b → Fine (Some c) Input.Go (if b then Err StepFault.WaitingForAnswer else Ok (stepped lock.rows p doing.place hold (carried_out (intent_in lock.rows doing.place) (word_at words))))
        by true at = tt
        by false at =
            subst (λ (act : Act ℕ). Fine (Some c) Input.Go (Ok (stepped lock.rows p doing.place hold act))) (sym (same_carried (intent_in lock.rows doing.place) (word_at words) memory same))
            (made_fine c doing is.0 hold has (is.1 ∙ ap (λ (b : Bool). Some b) at))

    turns : (k : Option (PendingCall ℕ)) (party : Party) (words : Words) (input : Input ℕ) → ((word : Word) → word_at words word ≡ memory word) → IsDoing k party.doing → party.hold ≡ hold_among p holds → Fine k input (turn lock p party words input)
    turns k party words (Input.Begin call) same is has = begins_so k call party is has
    turns k party words Input.Go same is has = goes k party.doing party.hold words same is has
    turns k party words (Input.Answer action) same is has = answers k party.doing party.hold action is has
    turns k party words (Input.Choose choice) same is has = tt

  -- The lock and its parties after a run.
  record Stands (parties : ℕ) (past : List (Event ℕ)) (s : State) : Type 0 where
    leads : LeadsTo lock parties past s
    count : length s.parties ≡ parties
    calls : (q : ℕ) (party : Party) → slice_get s.parties q ≡ Some party → IsDoing (call_of q past) party.doing

  no_hold : (q : ℕ) (past : List (Event ℕ)) → hold_of t q past ≡ None
  no_hold q past = ap (hold_among q) (no_holds t (λ call from to. refl) past)

  module _ (parties : ℕ) (past : List (Event ℕ)) (s : State) (before : Stands parties past s) (p : ℕ) (party : Party) (there : slice_get s.parties p ≡ Some party) where
    abbrev holds : List Hold
    holds = own_holds t lock.rows past

    allowed_so : (input : Input ℕ) → fault_at t (call_of p past) None input ≡ None → fault_of t parties past p input ≡ None
    allowed_so input fine = rw (no_hold p past) (fault_there (slice_get_within s.parties p party there))
      where
        fault_there : p < length s.parties → (if nat_lt p parties then fault_at t (call_of p past) None input else Some StepFault.NoParty) ≡ None
        fault_there within = let b : nat_lt p parties ≡ true = grind (arith, nat_tests, within, before.count) in rw b fine

    stands_after : (input : Input ℕ) (act : Act ℕ) (left : Then ℕ) (after : Party) → Turned p holds (word_in t past) (call_of p past) input (event p act left) after →
        Stands parties (event p act left ∷ past) (record { parties = slice_set s.parties p after; words = words_after act s.words; failed = failed_after act s.failed })
    stands_after input act left after it =
        record {
          leads = record {
            run = record {
              run = ((input, record { allowed = allowed_so input it.allowed; values = it.values; party_is = refl; form = it.form; moved = subst (λ (h : Option HoldKind). move_of t (call_of p past) h (word_in t past) input ≡ Some (record { act = act; outcome = left })) (sym (no_hold p past)) it.moved }), before.leads.run.run);
              begins = (it.begun, before.leads.run.begins);
            };
            words = λ word. same_words act s.words word ∙ ap (word_after word act) (before.leads.words word);
            holds = λ q other at. holds_by q other at (eqb_tells p q);
            failed = failed_so act s.failed (failures_in past) before.leads.failed;
          };
          count = length-set s.parties p after ∙ before.count;
          calls = λ q other at. calls_by q other at (eqb_tells p q);
        }
      where
        failed_so : (act : Act ℕ) (failed n : ℕ) → failed ≡ min n (2 ^ 64 - 1) → failed_after act failed ≡ min (failures_by act + n) (2 ^ 64 - 1)
        failed_so act failed n h1 = grind (arith, nat_tests, eqb-true, eqb-false)

        at_same : (other : Party) → slice_get (slice_set s.parties p after) p ≡ Some other → after ≡ other
        at_same other at = some_same after other (sym (set_there s.parties p after (slice_get_within s.parties p party there)) ∙ at)

        at_other : (q : ℕ) (other : Party) → p ≢ q → slice_get (slice_set s.parties p after) q ≡ Some other → slice_get s.parties q ≡ Some other
        at_other q other apart at = set_elsewhere s.parties p q after other apart at

        holds_by : (q : ℕ) (other : Party) → slice_get (slice_set s.parties p after) q ≡ Some other → (((p == q) ≡ true) × (p ≡ q)) ⊎ (((p == q) ≡ false) × (p ≢ q)) →
            other.hold ≡ hold_among q (own_holds t lock.rows (event p act left ∷ past))
        holds_by q other at (inl is) = subst (λ (q : ℕ). slice_get (slice_set s.parties p after) q ≡ Some other → other.hold ≡ hold_among q (own_holds t lock.rows (event p act left ∷ past))) is.1 (λ at. ap (λ (x : Party). x.hold) (sym (at_same other at)) ∙ it.hold) at
        holds_by q other at (inr apart) = before.leads.holds q other (at_other q other apart.1 at) ∙ sym (changed_other p q (change_by t lock.rows act (call_of p past)) holds (λ is. apart.1 (sym is)))

        calls_by : (q : ℕ) (other : Party) → slice_get (slice_set s.parties p after) q ≡ Some other → (((p == q) ≡ true) × (p ≡ q)) ⊎ (((p == q) ≡ false) × (p ≢ q)) →
            IsDoing (call_of q (event p act left ∷ past)) other.doing
        calls_by q other at (inl is) =
            subst (λ (q : ℕ). slice_get (slice_set s.parties p after) q ≡ Some other → IsDoing (call_of q (event p act left ∷ past)) other.doing) is.1
            (λ at. subst (λ (x : Party). IsDoing (call_of p (event p act left ∷ past)) x.doing) (at_same other at) (subst (λ (k : Option (PendingCall ℕ)). IsDoing k after.doing) (sym (call_of_same p act left past)) it.doing)) at
        calls_by q other at (inr apart) = subst (λ (k : Option (PendingCall ℕ)). IsDoing k other.doing) (sym (call_of_other p q act left past (λ is. apart.1 (sym is)))) (before.calls q other (at_other q other apart.1 at))

    abbrev after_event : Event ℕ → Party → State
    after_event e after = record { parties = slice_set s.parties p after; words = words_after e.act s.words; failed = failed_after e.act s.failed }

    turned : (input : Input ℕ) (e : Event ℕ) (after : Party) → Turned p holds (word_in t past) (call_of p past) input e after → Stands parties (e ∷ past) (after_event e after)
    turned input e after it =
        let same : e ≡ event p e.act e.then = ap (λ (q : ℕ). event q e.act e.then) it.party_is in
        subst (λ (x : Event ℕ). Stands parties (x ∷ past) (after_event x after)) (sym same)
        (stands_after input e.act e.then after (subst (λ (x : Event ℕ). Turned p holds (word_in t past) (call_of p past) input x after) same it))

  -- A walk.
  module _ (parties : ℕ) where
    abbrev Runs : (State → Walk) → Type 0
    Runs others = (past : List (Event ℕ)) (s : State) → Stands parties past s → AreRun lock parties past (others s).steps

    one_more : (line p : ℕ) (input : Input ℕ) (others : Event ℕ → State → Walk) → ((e : Event ℕ) → Runs (others e)) → Runs (λ s. step_then line (step lock s p input) others)
    one_more line p input others rest past s before = by_party (slice_get s.parties p) refl
      where
        by_turn : (party : Party) → slice_get s.parties p ≡ Some party → (r : Result (Event ℕ × Party) StepFault) → Fine p (own_holds t lock.rows past) (word_in t past) (call_of p past) input r → AreRun lock parties past (step_then line (after_turn s p r) others).steps
        by_turn party there (Err fault) it = tt
        by_turn party there (Ok r) it = let on = turned parties past s before p party there input r.0 r.1 it in (on.leads, rest r.0 (r.0 ∷ past) _ on)

        by_party : (at : Option Party) → slice_get s.parties p ≡ at → AreRun lock parties past (step_then line (step_of lock s p input at) others).steps
        by_party None there = tt
        by_party (Some party) there = by_turn party there (turn lock p party s.words input) (turns p (own_holds t lock.rows past) (word_in t past) (call_of p past) party s.words input before.leads.words (before.calls p party there) (before.leads.holds p party there))

    go_runs : (line p steps : ℕ) (others : State → Walk) → Runs others → Runs (λ s. go_walk lock line p steps s others)
    go_runs line p zero others rest past s before = rest past s before
    go_runs line p (suc steps) others rest past s before = one_more line p Input.Go (λ _ after. go_walk lock line p steps after others) (λ _. go_runs line p steps others rest) past s before

    either : (first second : State → Walk) → Runs first → Runs second → (b : Bool) → Runs (λ s. if b then first s else second s)
    either first second one other true = one
    either first second one other false = other

    run_runs : (line p limit : ℕ) (others : State → Walk) → Runs others → Runs (λ s. run_walk lock line p limit s others)
    run_runs line p zero others rest past s before = tt
    run_runs line p (suc limit) others rest past s before =
        let on = run_runs line p limit others rest in
        one_more line p Input.Go (λ e after. if goes_on e.then then run_walk lock line p limit after others else others after) (λ e. either (λ after. run_walk lock line p limit after others) others on rest (goes_on e.then)) past s before

    task_runs : (line p : ℕ) (task : Task ℕ) (others : State → Walk) → Runs others → Runs (λ s. task_walk lock line p task s others)
    task_runs line p (Task.Give input) others rest = one_more line p input (λ _ after. others after) (λ _. rest)
    task_runs line p (Task.Go steps) others rest = go_runs line p steps others rest
    task_runs line p (Task.Run limit) others rest = run_runs line p limit others rest

    asked_runs : (line : ℕ) (asks : Result (Command ℕ) LineFault) (others : State → Walk) → Runs others → Runs (λ s. asked_walk lock line asks s others)
    asked_runs line (Ok command) others rest past s before = task_runs line command.party command.task others rest past s before
    asked_runs line (Err fault) others rest past s before = tt

    lines_run : (line : ℕ) (lines : List (List ℕ)) → Runs (lines_walk lock line lines)
    lines_run line [] past s before = tt
    lines_run line (first ∷ lines) past s before = asked_runs line (asked_of lock (words_of first)) _ (lines_run (line + 1) lines) past s before

  started : (parties : ℕ) → Stands parties [] (start lock parties)
  started parties =
      record {
        leads = record { run = record { run = tt; begins = tt }; words = opens; holds = λ q party at. ap (λ (x : Party). x.hold) (idle q party at); failed = refl };
        count = length-replicate parties _;
        calls = λ q party at. subst (λ (x : Party). IsDoing None x.doing) (sym (idle q party at)) tt;
      }
    where
      opens : (word : Word) → word_at (start lock parties).words word ≡ word_in t [] word
      opens word = grind (arith)

      idle : (q : ℕ) (party : Party) → slice_get (replicate parties (record { doing = None; hold = None })) q ≡ Some party → party ≡ record { doing = None; hold = None }
      idle q party at =
          let within : q < parties = subst (λ (n : ℕ). q < n) (length-replicate parties _) (slice_get_within _ q party at) in
          sym (get_or_from_slice_get _ q party party at) ∙ get_or-replicate parties q _ party within

pub walks_run : WalksAreRuns
walks_run lock parties line lines = lines_run lock parties line lines [] (start lock parties) (started lock parties)
