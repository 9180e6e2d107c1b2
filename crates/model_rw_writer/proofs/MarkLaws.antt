-- A writer stands only where the lock is blocked.
use Rattle.model_rw_writer.proofs.Names.{eqb-false, eqb-true, nat_tests, ◌≡◌, ℕ, refl, ◌∙◌, Bool, true, false, List, ◌∷◌, Option, Some, ◌⊎◌, arith, by_move, MatchBool, MatchOption, Word, Call, Act, Event, HoldKind, After, Arithmetic, value_told, outcome_of, PendingCall, call_of, hold_of, word_in, Move, step_at, stage_of, IsPast, is_sight, stands_at_wait, RwWriterPlace, is_blocked, rw_writer_table, is_blocked_after, StandsWhereBlocked}
use Rattle.model_rw_writer.proofs.PlaceLaws.{here}
use Rattle.model_rw_writer.proofs.DebtLaws.{IsPlain, LoadsCount, StandsNow, write_step, blocked_at}

-- Where a writer stands.

-- what the law says of a move of the party
abbrev StandsBy : {T : Type 0} → Bool → Option (PendingCall T) → Move T → Type 0
StandsBy blocked pending x = MatchBool (stands_at_wait x.outcome) (MatchOption pending ⊥ (λ c. c.call ≡ Call.WriteLock → (is_sight Word.State x.act ≡ true) × (blocked ≡ true))) (Unit {0})

-- of all that a writer does only its last look stands
step_stands :
    {T : Type 0} (counter w : ℕ) (place : RwWriterPlace) (act : Act T) (a : After T RwWriterPlace) → IsPlain a ⊎ (LoadsCount counter act a ⊎ StandsNow w place act a) → stands_at_wait (outcome_of a) ≡ true →
    (is_sight Word.State act ≡ true) × (is_blocked w ≡ true)
step_stands counter w place act a h1 h2 = grind (arith, nat_tests, eqb-true, eqb-false)

pub event_stands : {T : Type 0} (z : Arithmetic T) (parties : ℕ) (past : List (Event T)) (e : Event T) → IsPast z rw_writer_table parties (e ∷ past) → StandsWhereBlocked (e ∷ past)
event_stands {T} z parties past e run =
    by_move rw_writer_table (call_of e.party past) (hold_of rw_writer_table e.party past) (word_in rw_writer_table past) (λ (k : Option (PendingCall T)) (x : Move T). StandsBy (is_blocked_after past) k x)
    run.0.0 (record { act = e.act; outcome = e.then }) (λ call _. tt) (λ action _. tt) (λ choice _. tt)
    (λ c place _ called stage. stepped c place called stage)
    run.0.1.moved
  where
    stepped : (c : PendingCall T) (place : RwWriterPlace) → call_of e.party past ≡ Some c → stage_of rw_writer_table c ≡ Some place →
        StandsBy (is_blocked_after past) (Some c) (step_at rw_writer_table place (hold_of rw_writer_table e.party past) (word_in rw_writer_table past))
    stepped c place called stage = by_test (stands_at_wait (outcome_of a)) refl
      where
        hold : Option HoldKind
        hold = hold_of rw_writer_table e.party past

        memory : Word → ℕ
        memory = word_in rw_writer_table past

        act : Act T
        act = (step_at {T = T} rw_writer_table place hold memory).act

        a : After T RwWriterPlace
        a = rw_writer_table.after place (value_told act)

        seen : stands_at_wait (outcome_of a) ≡ true → c.call ≡ Call.WriteLock → (is_sight Word.State act ≡ true) × (is_blocked_after past ≡ true)
        seen stands writes =
            let so = step_stands (memory Word.Counter) (memory Word.State) place act a (write_step place c hold memory (here z parties past run.1 e.party c place called stage) writes) stands in
            (so.0, blocked_at z parties past run.1 ∙ so.1)

        by_test : (b : Bool) → stands_at_wait (outcome_of a) ≡ b → MatchBool b (c.call ≡ Call.WriteLock → (is_sight Word.State act ≡ true) × (is_blocked_after past ≡ true)) (Unit {0})
        by_test true stands = seen stands
        by_test false stands = tt
