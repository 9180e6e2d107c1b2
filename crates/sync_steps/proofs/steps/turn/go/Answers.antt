use Rattle.sync_steps.proofs.Names.{◌≡◌, ℕ, sym, ◌∙◌, false, is_some, Option, Some, Ok, Act, Object, Then, Word, HoldKind, After, Intent, Arithmetic, carried_out, value_told, outcome_of, Doing, Party, Place, intent_at, after_at, new_hold, moved_on, go_turn}
use Rattle.sync_steps.proofs.steps.turn.go.Goals as goal

-- the step, by what each call in it answers
goes :
    {T : Type 0} (z : Arithmetic T) (o : Object T) (party : Party T) (memory : Word → ℕ) {doing : Doing T} {intent : Intent T} {act : Act T} {told : Option ℕ} {after : After T (Place T)} {new : Option (Doing T)} {hold : Option HoldKind} {outcome : Then T} →
    party.doing ≡ Some doing → is_some doing.stands ≡ false →
    intent ≡ intent_at z doing.place party.hold → act ≡ carried_out intent memory → told ≡ value_told act → after ≡ after_at z doing.place told →
    hold ≡ new_hold z o doing.call act party.hold → new ≡ moved_on party.doing after → outcome ≡ outcome_of after →
    go_turn z o party memory ≡ Ok (record { act = act; outcome = outcome; party = record { doing = new; hold = hold } })
goes z o party memory {doing} is free intends acts tells goes_on holds moves ends =
    rw moves (rw holds (rw ends (rw is (rw free (rw goes_on (rw tells (rw acts (rw intends))))))))

pub returns : goal.returns
returns g c =
    goes g.T.AtomicInteger.arithmetic c.args.object.now c.args.party.now _ c.in-Some.is (sym c.is_some.ensures ∙ c.if-is_some.false) c.intent.ensures c.carry_out-act.ensures c.told.ensures c.after-after.ensures c.hold_after-party.ensures c.move_on.ensures c.outcome.ensures
