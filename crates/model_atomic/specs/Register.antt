-- An atomic as one register: a value, and the acts of its calls, in the order of their last data accesses.
use Rattle.std.specs.Prelude.{◌≡◌, is_some, ℕ, Bool, true, false, ◌+◌, ◌==◌, ◌||◌, if◌then◌else◌, not, List, [], ◌∷◌, ◌++◌, Option, Some, None}
use Rattle.model_atomic.specs.Names.{Word, Call, Act, Answer, Event, Arithmetic, PendingCall, call_of, is_sight, is_write}

-- what an act answers, and the register's new value
abbrev pub Outcome : Type 0 → Type 0
Outcome T = Answer T × T

abbrev pub swapped : {T : Type 0} → T → T → Outcome T
swapped old new = (Answer.Value old, new)

abbrev pub compared : {T : Type 0} → Bool → T → T → Outcome T
compared same old new = if same then (Answer.OkOld old, new) else (Answer.ErrOld old, old)

abbrev pub updated : {T : Type 0} → Option (Option T) → T → Outcome T
updated (Some (Some new)) old = (Answer.OkOld old, new)
updated other old = (Answer.ErrOld old, old)

-- a call's act at a register of this value, with its choice where it was given one
abbrev pub act_of : {T : Type 0} → Arithmetic T → Call T → Option (Option T) → T → Outcome T
act_of z Call.Load choice old = (Answer.Value old, old)
act_of z (Call.Store x) choice old = (Answer.Done, x)
act_of z (Call.Swap x) choice old = swapped old x
act_of z (Call.CompareExchange c x) choice old = compared (z.same old c) old x
act_of z (Call.CompareExchangeWeak c x) choice old = compared (z.same old c) old x
act_of z (Call.FetchAdd x) choice old = swapped old (z.add old x)
act_of z (Call.FetchSub x) choice old = swapped old (z.subtract old x)
act_of z (Call.FetchAnd x) choice old = swapped old (z.and old x)
act_of z (Call.FetchOr x) choice old = swapped old (z.or old x)
act_of z (Call.FetchXor x) choice old = swapped old (z.xor old x)
act_of z (Call.FetchNand x) choice old = swapped old (z.inverse (z.and old x))
act_of z (Call.FetchMax x) choice old = swapped old (z.greater old x)
act_of z (Call.FetchMin x) choice old = swapped old (z.lesser old x)
act_of z Call.FetchUpdate choice old = updated choice old
act_of z other choice old = (Answer.Done, old)

-- a call at a register, with its choice where its closure was asked for one
pub record RegisterAct (T : Type 0) : Type 0 where
  pub call : Call T
  pub choice : Option (Option T)

-- a call that asks nobody
abbrev pub plain : {T : Type 0} → Call T → RegisterAct T
plain call = record { call = call; choice = None }

-- a `fetch_update` whose closure chose this
abbrev pub update : {T : Type 0} → Option T → RegisterAct T
update choice = record { call = Call.FetchUpdate; choice = Some choice }

-- what the register answers, and what it is then
abbrev pub answer_to : {T : Type 0} → Arithmetic T → RegisterAct T → T → Answer T
answer_to z a old = (act_of z a.call a.choice old).0

abbrev pub value_after : {T : Type 0} → Arithmetic T → RegisterAct T → T → T
value_after z a old = (act_of z a.call a.choice old).1

-- the register after these acts, the first one first, where it began with v
abbrev pub after_acts : {T : Type 0} → Arithmetic T → T → List (RegisterAct T) → T
after_acts z v [] = v
after_acts z v (a ∷ acts) = after_acts z (value_after z a v) acts

-- the choice that the call was given
abbrev pub choice_in : {T : Type 0} → Act T → Option (Option T) → Option (Option T)
choice_in (Act.Chosen choice) before = Some choice
choice_in other before = before

abbrev pub choice_of : {T : Type 0} → List (Event T) → Option (Option T)
choice_of [] = None
choice_of (e ∷ own) = choice_in e.act (choice_of own)

-- the low word that the call was told
abbrev pub low_in : {T : Type 0} → Act T → ℕ → ℕ
low_in (Act.Load Word.Low seen) before = seen
low_in other before = before

abbrev pub low_told : {T : Type 0} → List (Event T) → ℕ
low_told [] = 0
low_told (e ∷ own) = low_in e.act (low_told own)

-- whether a load of the high word, by which the old value is known, is the call's last data access
abbrev pub ends_at_look : {T : Type 0} → Arithmetic T → Call T → Option (Option T) → T → Bool
ends_at_look z Call.Load choice old = true
ends_at_look z (Call.CompareExchange c x) choice old = not (z.same old c)
ends_at_look z (Call.CompareExchangeWeak c x) choice old = not (z.same old c)
ends_at_look z Call.FetchUpdate (Some choice) old = true
ends_at_look z other choice old = false

-- the act is the call's last data access: its store of the high word, or the load of it after which it stores nothing
abbrev pub is_last : {T : Type 0} → Arithmetic T → PendingCall T → Act T → Bool
is_last z c (Act.Store Word.High put) = true
is_last z c (Act.Load Word.High seen) = ends_at_look z c.call (choice_of c.own) (z.of_words (low_told c.own) seen)
is_last z c other = false

abbrev pub acted : {T : Type 0} → Arithmetic T → Option (PendingCall T) → Act T → T → T
acted z None act old = old
acted z (Some c) act old = if is_last z c act then (act_of z c.call (choice_of c.own) old).1 else old

-- the choice that a call acts with: only a `FetchUpdate` has one
abbrev pub choice_for : {T : Type 0} → Call T → Option (Option T) → Option (Option T)
choice_for Call.FetchUpdate choice = choice
choice_for other choice = None

abbrev pub act_by : {T : Type 0} → PendingCall T → RegisterAct T
act_by c = record { call = c.call; choice = choice_for c.call (choice_of c.own) }

-- the act that an event of this call is, where it is its last data access
abbrev pub acts_at : {T : Type 0} → Arithmetic T → Option (PendingCall T) → Act T → List (RegisterAct T)
acts_at z None act = []
acts_at z (Some c) act = if is_last z c act then act_by c ∷ [] else []

-- the acts of a run, the first one first
abbrev pub acts_of_run : {T : Type 0} → Arithmetic T → List (Event T) → List (RegisterAct T)
acts_of_run z [] = []
acts_of_run z (e ∷ past) = acts_of_run z past ++ acts_at z (call_of e.party past) e.act

-- the register's value after the events, where it began with v
abbrev pub register_after : {T : Type 0} → Arithmetic T → T → List (Event T) → T
register_after z v [] = v
register_after z v (e ∷ past) = acted z (call_of e.party past) e.act (register_after z v past)

-- what the register answered the party's call under way, once that has acted
abbrev pub answer_in : {T : Type 0} → Arithmetic T → Option (PendingCall T) → Act T → T → Option (Answer T) → Option (Answer T)
answer_in z None act old before = None
answer_in z (Some c) act old before = if is_last z c act then Some (act_of z c.call (choice_of c.own) old).0 else before

abbrev pub answer_of : {T : Type 0} → Arithmetic T → T → ℕ → List (Event T) → Option (Answer T)
answer_of z v party [] = None
answer_of z v party (e ∷ past) =
    if e.party == party
    then answer_in z (call_of party past) e.act (register_after z v past) (answer_of z v party past)
    else answer_of z v party past

-- a `FetchUpdate` acts with its choice, and so once its closure has answered
abbrev pub HasChosen : {T : Type 0} → Call T → Option (Option T) → Type 0
HasChosen Call.FetchUpdate choice = is_some choice ≡ true
HasChosen other choice = Unit {0}

-- how often a call has acted
abbrev pub acts_made : {T : Type 0} → Arithmetic T → Call T → List (Event T) → ℕ
acts_made z call [] = 0
acts_made z call (e ∷ own) = (if is_last z (record { call = call; own = own }) e.act then 1 else 0) + acts_made z call own

-- an act that writes a data word, or tells or writes one
abbrev pub is_data_write : {T : Type 0} → Act T → Bool
is_data_write act = is_write Word.Low act || is_write Word.High act

abbrev pub is_data_access : {T : Type 0} → Act T → Bool
is_data_access act = is_data_write act || (is_sight Word.Low act || is_sight Word.High act)
