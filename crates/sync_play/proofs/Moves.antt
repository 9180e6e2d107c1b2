-- In a run each call under way has a next step, so an input that is not refused gives an event.
use Rattle.sync_play.proofs.Names.{◌≡◌, ℕ, List, [], ◌∷◌, None, Event, Input, Object, Arithmetic, after, table_of, fault_of, move_of, IsNext, IsRun}
use Rattle.model_events.proofs.Parties.{HavePlaces, next_has_places, gives_event}

module _ {T : Type 0} (z : Arithmetic T) where
  abbrev Ev : Type 0
  Ev = Event T

  -- each call under way is at a place of the object's table
  abbrev pub HavePlacesAt : Object T → List Ev → Type 0
  HavePlacesAt o past = HavePlaces (table_of z o) past

  pub none_have_places : (o : Object T) → HavePlacesAt o []
  none_have_places o party = tt

  pub next_has_places_at : (o : Object T) (parties : ℕ) (past : List Ev) (party : ℕ) (input : Input T) (e : Ev) → HavePlacesAt o past → IsNext z o parties past party input e → HavePlacesAt o (e ∷ past)
  next_has_places_at o parties past party input e had next = next_has_places z (table_of z o) parties past party input e had next

  pub run_has_places : (o : Object T) (parties : ℕ) (past : List Ev) (schedule : List (ℕ × Input T)) (events : List Ev) → HavePlacesAt o past → IsRun z o parties past schedule events → HavePlacesAt o (after events past)
  run_has_places o parties past [] [] had run = had
  run_has_places o parties past [] (e ∷ events) had run = absurd run
  run_has_places o parties past (turn ∷ schedule) [] had run = absurd run
  run_has_places o parties past (turn ∷ schedule) (e ∷ events) had run = run_has_places o parties (e ∷ past) schedule events (next_has_places_at o parties past turn.0 turn.1 e had run.0) run.1

  pub allowed_moves : (o : Object T) (parties : ℕ) (past : List Ev) (party : ℕ) (input : Input T) → HavePlacesAt o past → fault_of z o parties past party input ≡ None → move_of z o past party input ≡ None → ⊥
  allowed_moves o parties past party input had allowed none = gives_event (table_of z o) parties past party input had allowed none
