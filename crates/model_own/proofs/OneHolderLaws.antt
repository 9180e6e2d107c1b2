-- Any lock whose rows fit has one holder at most.
use Rattle.std.proofs.Common.{◌≡◌, ◌≢◌, ℕ, ◌==◌, zero, suc, refl, sym, ◌∙◌, subst, ap, Bool, true, false, is_some, List, [], ◌∷◌, Option, Some, None, ◌⊎◌, inl, inr, arith}
use Rattle.std.proofs.lemmas.Bool.{eqb-true, eqb-false}
use Rattle.std.proofs.lemmas.Bool.Decides.{nat_tests, eqb_tells}
use Rattle.std.proofs.lemmas.Option.{slice_get_past}
use Rattle.model_events.specs.Exports.{Arithmetic, IsPast, Move, call_of, call_after, call_going_on, hold_of, event, outcome_of, place_after, next_stage, step_at, move_of, begin_fault, fault_at, hold_fault, word_in, IsExclusive}
use Rattle.model_events.specs.declared.event.Input.{Input}
use Rattle.model_events.specs.declared.event.StepFault.{StepFault}
use Rattle.model_events.specs.declared.event.Then.{Then}
use Rattle.model_events.proofs.Exports.{eqb_other, some_same, call_of_same, call_of_other, fault_at_none, by_move, carried_is_step, carried_goes_on, carried_stage}
use Rattle.model_events.proofs.Holds.{hold_among-without_other}
use Rattle.std.specs.Prelude.{if◌then◌else◌, slice_get, length, ◌≤◌}
use Rattle.model_events.specs.Exports.{carried_out, word_after}
use Rattle.model_own.specs.Names.{Table, PendingCall, stage_of, hold_among, Hold, HoldKind, same_word, value_told, WaitAction, Word, Act, Call, Event, After, Number, Test, Operation, HoldChange, Next, Way, Row, Role, OwnPlace, Entry}
use Rattle.model_own.specs.Rows.{passes, intent_by, intent_of, way_of, led_to, led_by, after_in, answered_in, first_place, Entries, own_table}
use Rattle.model_own.specs.Holds.{changed, change_of, change_at, change_by, BeginsBy, BegunBy, HaveBegunByHolds, IsOwnPast, own_holds}
use Rattle.model_own.specs.OneHolder.{asks_for, if_kept, if_ended, if_taken_at_zero, if_ended_at, stores, swaps, exchanges, works, is_on, leaves, fits_role, fits_next, fits_ways, fits_row, Fit, fits_begin, fits_call, EntriesFit, IsOwnLock, Tells, AnswersTell}

-- what a party has in a role
abbrev pub RoleHolds : Role → Option HoldKind → Type 0
RoleHolds Role.Out hold = hold ≡ None
RoleHolds Role.In hold = is_some hold ≡ true
RoleHolds Role.Any hold = Unit {0}

-- the word is 0 and nobody has a hold, or it is not and one party has
abbrev pub IsFreeOrHeld : ℕ → List Hold → Type 0
IsFreeOrHeld w holds = ((w ≡ 0) × (holds ≡ [])) ⊎ ((p : ℕ) × (w ≢ 0) × (holds ≡ (p, HoldKind.Write) ∷ []))

abbrev pub way_by : Row → Bool → Way
way_by row b = if b then row.passed else row.failed

abbrev pub role_by : Role × Role → Bool → Role
role_by after true = after.0
role_by after false = after.1

-- a step of a party that found the old value, left the new one and passed its test or not keeps that, and leaves its party's hold as its role
abbrev pub KeepsRule : Row → Role × Role → ℕ → List Hold → Bool → ℕ → Type 0
KeepsRule row after p holds b new = IsFreeOrHeld new (changed p (way_by row b).change holds) × RoleHolds (role_by after b) (hold_among p (changed p (way_by row b).change holds))

in_held : (p old : ℕ) (holds : List Hold) → RoleHolds Role.In (hold_among p holds) → IsFreeOrHeld old holds → old ≢ 0
in_held p old holds h1 h2 = grind (arith, nat_tests, eqb-true, eqb-false)

module _ (row : Row) (after : Role × Role) (p old new : ℕ) (holds : List Hold) (b : Bool) (rule : IsFreeOrHeld old holds) where
  kept : (role : Role) → if_kept role row ≡ Some after → RoleHolds role (hold_among p holds) → (new ≡ old) ⊎ ((old ≢ 0) × (new ≢ 0)) → KeepsRule row after p holds b new
  kept role h1 h2 h3 = grind (arith, nat_tests, eqb-true, eqb-false)

  ended : if_ended row ≡ Some after → RoleHolds Role.In (hold_among p holds) → new ≡ 0 → KeepsRule row after p holds b new
  ended h1 h2 h3 = grind (arith, nat_tests, eqb-true, eqb-false)

  taken : if_taken_at_zero row ≡ Some after → RoleHolds Role.Out (hold_among p holds) → b ≡ (old == 0) → new ≢ 0 → KeepsRule row after p holds b new
  taken h1 h2 h3 h4 = grind (arith, nat_tests, eqb-true, eqb-false)

  ended_at : (n : ℕ) → if_ended_at n row ≡ Some after → RoleHolds Role.In (hold_among p holds) → b ≡ (old == n) → (old ≡ n → new ≡ 0) → (old ≢ n → new ≡ old) → KeepsRule row after p holds b new
  ended_at n h1 h2 h3 h4 h5 = grind (arith, nat_tests, eqb-true, eqb-false)

-- no row beyond the last has to fit
pub fits_beyond : (word : Word) (roles : List Role) (rows : List Row) (i : ℕ) → length roles ≡ length rows → length rows ≤ i → fits_row word roles (slice_get roles i) (slice_get rows i) ≡ true
fits_beyond word roles rows i h1 h2 = let a = slice_get_past rows i h2 in let b = slice_get_past roles i (omega (arith, h1, h2)) in rw a (rw b refl)

-- What a step finds, where its test asks for a number.
asked : (n kept found : ℕ) (test : Test) → asks_for n test ≡ true → passes test kept (Some found) ≡ (found == n)
asked n kept found test h1 = grind (arith, nat_tests, eqb-true, eqb-false)

asks_at_zero : (row : Row) (after : Role × Role) → if_taken_at_zero row ≡ Some after → asks_for 0 row.test ≡ true
asks_at_zero row after h1 = grind (arith)

asks_at : (n : ℕ) (row : Row) (after : Role × Role) → if_ended_at n row ≡ Some after → asks_for n row.test ≡ true
asks_at n row after h1 = grind (arith)

same_is : (a b : Word) → same_word a b ≡ true → a ≡ b
same_is a b h1 = grind (arith)

module _ (row : Row) (after : Role × Role) (p old kept_value : ℕ) (holds : List Hold) (rule : IsFreeOrHeld old holds) where
  passed : Option ℕ → Bool
  passed told = passes row.test kept_value told

  stored : (role : Role) (put : ℕ) (b : Bool) → stores role put row ≡ Some after → RoleHolds role (hold_among p holds) → KeepsRule row after p holds b put
  stored Role.In zero b fits has = ended row after p old 0 holds b rule fits has refl
  stored Role.In (suc n) b fits has = kept row after p old (suc n) holds b rule Role.In fits has (inr (in_held p old holds has rule, λ no. cc))
  stored Role.Out put b fits has = absurd cc
  stored Role.Any put b fits has = absurd cc

  swapped : (role : Role) (put : ℕ) → swaps role put row ≡ Some after → RoleHolds role (hold_among p holds) → KeepsRule row after p holds (passes row.test kept_value (Some old)) put
  swapped Role.Out zero fits has = absurd cc
  swapped Role.Out (suc n) fits has = taken row after p old (suc n) holds _ rule fits has (asked 0 kept_value old row.test (asks_at_zero row after fits)) (λ no. cc)
  swapped Role.In put fits has = stored Role.In put _ fits has
  swapped Role.Any put fits has = absurd cc

  exchanged : (role : Role) (from to : ℕ) → exchanges role from to row ≡ Some after → RoleHolds role (hold_among p holds) →
      KeepsRule row after p holds (passes row.test kept_value (Some old)) (if (old == from) then to else old)
  exchanged Role.Out zero (suc n) fits has = taken row after p old _ holds _ rule fits has (asked 0 kept_value old row.test (asks_at_zero row after fits)) (grind (arith, nat_tests, eqb-true, eqb-false))
  exchanged Role.Out (suc m) (suc n) fits has = kept row after p old _ holds _ rule Role.Out fits has (grind (arith, nat_tests, eqb-true, eqb-false))
  exchanged Role.In (suc m) zero fits has = ended_at row after p old _ holds _ rule (suc m) fits has (asked (suc m) kept_value old row.test (asks_at (suc m) row after fits)) (λ is. grind (arith, nat_tests, eqb-true, eqb-false)) (λ no. grind (arith, nat_tests, eqb-true, eqb-false))
  exchanged Role.In (suc m) (suc n) fits has = kept row after p old _ holds _ rule Role.In fits has (grind (arith, nat_tests, eqb-true, eqb-false))
  exchanged Role.Any (suc m) (suc n) fits has = kept row after p old _ holds _ rule Role.Any fits has (grind (arith, nat_tests, eqb-true, eqb-false))
  exchanged Role.Out zero zero fits has = absurd cc
  exchanged Role.Out (suc m) zero fits has = absurd cc
  exchanged Role.In zero to fits has = absurd cc
  exchanged Role.Any zero to fits has = absurd cc
  exchanged Role.Any (suc m) zero fits has = absurd cc

module _ (T : Type 0) (word : Word) (row : Row) (after : Role × Role) (p kept_value : ℕ) (holds : List Hold) (memory : Word → ℕ) (rule : IsFreeOrHeld (memory word) holds) where
  abbrev act : Operation → Act T
  act operation = carried_out (intent_by operation kept_value) memory

  abbrev Keeps : Operation → Type 0
  Keeps operation = KeepsRule row after p holds (passes row.test kept_value (value_told (act operation))) (word_after word (act operation) (memory word))

  -- a step on another word
  apart : (role : Role) (operation : Operation) → is_on word operation ≡ false → if_kept role row ≡ Some after → RoleHolds role (hold_among p holds) → Keeps operation
  apart role operation off fits has = kept row after p (memory word) _ holds _ rule role fits has (inl (same_word_value operation off))
    where
      same_word_value : (operation : Operation) → is_on word operation ≡ false → word_after word (act operation) (memory word) ≡ memory word
      same_word_value operation off = grind (arith, nat_tests, eqb-true, eqb-false)

  -- one on the word itself
  there : (role : Role) (operation : Operation) → is_on word operation ≡ true → works role operation row ≡ Some after → RoleHolds role (hold_among p holds) → Keeps operation
  there role (Operation.Load w) on fits has = kept row after p (memory word) _ holds _ rule role fits has (inl refl)
  there role (Operation.Store w (Number.Is n)) on fits has = rw on (stored row after p (memory word) kept_value holds rule role n false fits has)
  there role (Operation.Swap w (Number.Is n)) on fits has =
      let same : w ≡ word = same_is w word on in
      rw on (subst (λ v. KeepsRule row after p holds (passes row.test kept_value (Some (memory v))) n) (sym same) (swapped row after p (memory word) kept_value holds rule role n fits has))
  there role (Operation.Exchange w (Number.Is m) (Number.Is n)) on fits has =
      let same : w ≡ word = same_is w word on in
      let found : KeepsRule row after p holds (passes row.test kept_value (Some (memory w))) (if (memory w == m) then n else memory word) =
      subst (λ v. KeepsRule row after p holds (passes row.test kept_value (Some (memory v))) (if (memory v == m) then n else memory word)) (sym same) (exchanged row after p (memory word) kept_value holds rule role m n fits has) in
      rw on found
  there role (Operation.Wake wake) on fits has = absurd cc
  there role (Operation.Store w (Number.Kept more)) on fits has = absurd cc
  there role (Operation.Swap w (Number.Kept more)) on fits has = absurd cc
  there role (Operation.Add w more) on fits has = absurd cc
  there role (Operation.Subtract w less) on fits has = absurd cc
  there role (Operation.Exchange w (Number.Kept more) to) on fits has = absurd cc
  there role (Operation.Exchange w (Number.Is m) (Number.Kept more)) on fits has = absurd cc

  pub step_keeps : (role : Role) → leaves word role row ≡ Some after → RoleHolds role (hold_among p holds) → Keeps row.operation
  step_keeps role fits has = by (is_on word row.operation) refl fits
    where
      by : (b : Bool) → is_on word row.operation ≡ b → (if b then works role row.operation row else if_kept role row) ≡ Some after → Keeps row.operation
      by true on fits = there role row.operation on fits has
      by false off fits = apart role row.operation off fits has

-- Of a run: what is kept of each party.

abbrev pub ByRole : Option Role → Option HoldKind → Type 0
ByRole None hold = hold ≡ None
ByRole (Some role) hold = RoleHolds role hold

fits_holds : (role : Role) (at : Option Role) (hold : Option HoldKind) → fits_role role at ≡ true → RoleHolds role hold → ByRole at hold
fits_holds role at hold h1 h2 = grind (arith)

begins_in : (at : Option Role) (takes_hold needs_hold : Bool) (hold : Option HoldKind) → fits_begin takes_hold needs_hold at ≡ true → (takes_hold ≡ true → hold ≡ None) → (needs_hold ≡ true → is_some hold ≡ true) → ByRole at hold
begins_in at takes_hold needs_hold hold h1 h2 h3 = grind (arith)

leads_on : (T : Type 0) (roles : List Role) (role : Role) (place there : OwnPlace) (told : Option ℕ) (next : Next) → fits_next roles role next ≡ true → place_after (led_to {T = T} place told next) ≡ Some there → fits_role role (slice_get roles there.row) ≡ true
leads_on T roles role place there told next h1 h2 = grind (arith, nat_tests, eqb-true, eqb-false)

-- a call that ends there tells whether its party has the hold
ends_as : (T : Type 0) (roles : List Role) (role : Role) (place : OwnPlace) (told : Option ℕ) (next : Next) (hold : Option HoldKind) → fits_next roles role next ≡ true → RoleHolds role hold → Tells (outcome_of (led_to {T = T} place told next)) hold
ends_as T roles role place told next hold h1 h2 = grind (arith, nat_tests, eqb-true, eqb-false)

fits_way : (roles : List Role) (after : Role × Role) (row : Row) (b : Bool) → fits_ways roles (Some after) row ≡ true → fits_next roles (role_by after b) (way_by row b).next ≡ true
fits_way roles after row b h1 = grind (arith)

changed_other : (p q : ℕ) (change : HoldChange) (holds : List Hold) → q ≢ p → hold_among q (changed p change holds) ≡ hold_among q holds
changed_other p q HoldChange.Keeps holds other = refl
changed_other p q (HoldChange.Takes kind) holds other = rw (eqb_other p q other) refl
changed_other p q HoldChange.Ends holds other = hold_among-without_other p q holds other

module _ {T : Type 0} (word : Word) (opening : Word → ℕ) (entries : Entries T) (roles : List Role) (rows : List Row) (fit : Fit word roles rows) (begin : EntriesFit roles entries) where
  abbrev t : Table T OwnPlace
  t = own_table opening entries rows

  -- its call under way is at a row whose role its hold is as
  abbrev Here : Option (PendingCall T) → Option HoldKind → Type 0
  Here None hold = Unit {0}
  Here (Some c) hold = (place : OwnPlace) × (stage_of t c ≡ Some place) × ByRole (slice_get roles place.row) hold

  module _ (p : ℕ) (holds : List Hold) (memory : Word → ℕ) (rule : IsFreeOrHeld (memory word) holds) where
    abbrev Moved : Option (PendingCall T) → Move T → Type 0
    Moved k x =
        let after = changed p (change_by t rows x.act k) holds in
        Here k (hold_among p holds) → BegunBy entries x.act (hold_among p holds) →
        IsFreeOrHeld (word_after word x.act (memory word)) after × Here (call_after x.outcome (event p x.act x.outcome) k) (hold_among p after) × Tells x.outcome (hold_among p after)

    begun : (pending : Option (PendingCall T)) (hold : Option HoldKind) (call : Call T) → begin_fault t pending hold call ≡ None → Moved pending (record { act = Act.Begun call; outcome = Then.GoesOn })
    begun (Some c) hold call allowed here by_hold = absurd cc
    begun None hold call allowed here by_hold = (rule, at_first (entries call) refl (begin call) by_hold allowed, tt)
      where
        at_first : (e : Option Entry) → entries call ≡ e → fits_call roles e ≡ true → BeginsBy e (hold_among p holds) → (if is_some (first_place e) then hold_fault t call hold else Some StepFault.OtherObject) ≡ None →
            (place : OwnPlace) × (first_place (entries call) ≡ Some place) × ByRole (slice_get roles place.row) (hold_among p holds)
        at_first None is fits by_hold allowed = absurd cc
        at_first (Some entry) is fits by_hold allowed = (_, ap first_place is, begins_in (slice_get roles entry.row) entry.takes_hold entry.needs_hold (hold_among p holds) fits by_hold.0 by_hold.1)

    answered_on : (pending : Option (PendingCall T)) (hold : Option HoldKind) (action : WaitAction) → fault_at t pending hold (Input.Answer action) ≡ None → Moved pending (record { act = Act.Answered action; outcome = Then.GoesOn })
    answered_on None hold action allowed here by_hold = absurd cc
    answered_on (Some c) hold action allowed here by_hold = (rule, (answered_in here.0 action, ap (next_stage t (Act.Answered action)) here.1, here.2), tt)

    chosen_on : (pending : Option (PendingCall T)) (hold : Option HoldKind) (choice : Option T) → fault_at t pending hold (Input.Choose choice) ≡ None → Moved pending (record { act = Act.Chosen choice; outcome = Then.GoesOn })
    chosen_on None hold choice allowed here by_hold = absurd cc
    chosen_on (Some c) hold choice allowed here by_hold = (rule, (here.0, ap (next_stage t (Act.Chosen choice)) here.1, here.2), tt)

    module _ (c : PendingCall T) (place : OwnPlace) (hold : Option HoldKind) (stage : stage_of t c ≡ Some place) where
      abbrev made : Act T
      made = (step_at t place hold memory).act

      abbrev told : Option ℕ
      told = value_told made

      -- where the call goes on, if it does
      goes_on : (a : After T OwnPlace) (after_hold : Option HoldKind) → after_in rows place told ≡ a → ((next : OwnPlace) → place_after a ≡ Some next → ByRole (slice_get roles next.row) after_hold) → Here (call_after (outcome_of a) (event p made (outcome_of a)) (Some c)) after_hold
      goes_on a after_hold is roles_on = by a is roles_on
        where
          on : (a : After T OwnPlace) (next : OwnPlace) → after_in rows place told ≡ a → place_after a ≡ Some next → ByRole (slice_get roles next.row) after_hold → Here (call_going_on made (event p made (outcome_of a)) (Some c)) after_hold
          on a next is to role =
              let e = event p made (outcome_of a) in
              let staged : next_stage t made (stage_of t c) ≡ Some next = ap (next_stage t made) stage ∙ carried_stage t place (t.intent place hold) memory ∙ ap place_after is ∙ to in
              subst (λ (k : Option (PendingCall T)). Here k after_hold) (sym (carried_goes_on (t.intent place hold) memory e c)) (next, staged, role)

          by : (a : After T OwnPlace) → after_in rows place told ≡ a → ((next : OwnPlace) → place_after a ≡ Some next → ByRole (slice_get roles next.row) after_hold) → Here (call_after (outcome_of a) (event p made (outcome_of a)) (Some c)) after_hold
          by (After.At next) is roles_on = on (After.At next) next is refl (roles_on next refl)
          by (After.Waits next seen) is roles_on = on (After.Waits next seen) next is refl (roles_on next refl)
          by (After.Chooses next old) is roles_on = on (After.Chooses next old) next is refl (roles_on next refl)
          by (After.Ends answer) is roles_on = tt

      -- the step at a row, which fits its role
      abbrev told_at : Option Row → Option ℕ
      told_at found = value_told (carried_out {T = T} (intent_of found place.kept) memory)

      abbrev changed_at : Option Row → List Hold
      changed_at found = changed p (change_of (way_of found place.kept (told_at found))) holds

      at_row :
          (found : Option Row) (at : Option Role) → fits_row word roles at found ≡ true → ByRole at (hold_among p holds) →
          IsFreeOrHeld (word_after word (carried_out {T = T} (intent_of found place.kept) memory) (memory word)) (changed_at found)
          × ((next : OwnPlace) → place_after (led_by {T = T} place (told_at found) (way_of found place.kept (told_at found))) ≡ Some next → ByRole (slice_get roles next.row) (hold_among p (changed_at found)))
          × Tells (outcome_of (led_by {T = T} place (told_at found) (way_of found place.kept (told_at found)))) (hold_among p (changed_at found))
      at_row None None fits has = (rule, λ next no. absurd cc, has)
      at_row (Some row) (Some role) fits has = by (leaves word role row) refl fits
        where
          by : (left : Option (Role × Role)) → leaves word role row ≡ left → fits_ways roles left row ≡ true →
              IsFreeOrHeld (word_after word (carried_out {T = T} (intent_of (Some row) place.kept) memory) (memory word)) (changed_at (Some row))
              × ((next : OwnPlace) → place_after (led_by {T = T} place (told_at (Some row)) (way_of (Some row) place.kept (told_at (Some row)))) ≡ Some next → ByRole (slice_get roles next.row) (hold_among p (changed_at (Some row))))
              × Tells (outcome_of (led_by {T = T} place (told_at (Some row)) (way_of (Some row) place.kept (told_at (Some row))))) (hold_among p (changed_at (Some row)))
          by None is fits = absurd cc
          by (Some after) is fits =
              let b = passes row.test place.kept (told_at (Some row)) in
              let keeps = step_keeps T word row after p place.kept holds memory rule role is has in (
                keeps.0,
                λ next to. fits_holds (role_by after b) (slice_get roles next.row) _ (leads_on T roles (role_by after b) place next (told_at (Some row)) (way_by row b).next (fits_way roles after row b fits) to) keeps.1,
                ends_as T roles (role_by after b) place (told_at (Some row)) (way_by row b).next _ (fits_way roles after row b fits) keeps.1,
              )
      at_row None (Some role) fits has = absurd cc
      at_row (Some row) None fits has = absurd cc

      stepped : Moved (Some c) (step_at t place hold memory)
      stepped here by_hold =
          let same : here.0 ≡ place = some_same here.0 place (sym here.1 ∙ stage) in
          let has : ByRole (slice_get roles place.row) (hold_among p holds) = subst (λ (q : OwnPlace). ByRole (slice_get roles q.row) (hold_among p holds)) same here.2 in
          let went = at_row (slice_get rows place.row) (slice_get roles place.row) (fit place.row) has in
          let is : change_by t rows made (Some c) ≡ change_of (way_of (slice_get rows place.row) place.kept told) =
          ap (λ b. if b then change_at rows (stage_of t c) (value_told made) else HoldChange.Keeps) (carried_is_step (t.intent place hold) memory) ∙ ap (λ s. change_at rows s (value_told made)) stage in
          subst (λ (change : HoldChange). IsFreeOrHeld (word_after word made (memory word)) (changed p change holds) × Here (call_after (step_at t place hold memory).outcome (event p made (step_at t place hold memory).outcome) (Some c)) (hold_among p (changed p change holds))
          × Tells (step_at t place hold memory).outcome (hold_among p (changed p change holds)))
          (sym is) (went.0, goes_on (t.after place told) _ refl went.1, went.2)

    moved :
        (pending : Option (PendingCall T)) (hold : Option HoldKind) (input : Input T) (m : Move T) → fault_at t pending hold input ≡ None → move_of t pending hold memory input ≡ Some m → Moved pending m
    moved pending hold input m allowed is =
        by_move t pending hold memory Moved input m
        (λ call on. begun pending hold call (subst (λ i. fault_at t pending hold i ≡ None) on allowed))
        (λ action on. answered_on pending hold action (subst (λ i. fault_at t pending hold i ≡ None) on allowed))
        (λ choice on. chosen_on pending hold choice (subst (λ i. fault_at t pending hold i ≡ None) on allowed))
        (λ c place on same stage. stepped c place hold stage)
        is

  abbrev Kept : List (Event T) → Type 0
  Kept past = IsFreeOrHeld (word_in t past word) (own_holds t rows past) × ((q : ℕ) → Here (call_of q past) (hold_among q (own_holds t rows past)))

  one_more : (past : List (Event T)) (e : Event T) → Kept past → IsFreeOrHeld (word_in t (e ∷ past) word) (own_holds t rows (e ∷ past)) → Here (call_after e.then e (call_of e.party past)) (hold_among e.party (own_holds t rows (e ∷ past))) → Kept (e ∷ past)
  one_more past e before rule own = (rule, λ q. by_party q (eqb_tells e.party q))
    where
      mine : Here (call_of e.party (e ∷ past)) (hold_among e.party (own_holds t rows (e ∷ past)))
      mine = subst (λ (k : Option (PendingCall T)). Here k (hold_among e.party (own_holds t rows (e ∷ past)))) (sym (call_of_same e.party e.act e.then past)) own

      theirs : (q : ℕ) → q ≢ e.party → Here (call_of q (e ∷ past)) (hold_among q (own_holds t rows (e ∷ past)))
      theirs q other =
          subst (λ (k : Option (PendingCall T)). Here k (hold_among q (own_holds t rows (e ∷ past)))) (sym (call_of_other e.party q e.act e.then past other))
          (subst (λ (h : Option HoldKind). Here (call_of q past) h) (sym (changed_other e.party q (change_by t rows e.act (call_of e.party past)) (own_holds t rows past) other)) (before.1 q))

      by_party : (q : ℕ) → (((e.party == q) ≡ true) × (e.party ≡ q)) ⊎ (((e.party == q) ≡ false) × (e.party ≢ q)) → Here (call_of q (e ∷ past)) (hold_among q (own_holds t rows (e ∷ past)))
      by_party q (inl is) = subst (λ r. Here (call_of r (e ∷ past)) (hold_among r (own_holds t rows (e ∷ past)))) is.1 mine
      by_party q (inr other) = theirs q (λ is. other.1 (sym is))

  -- what the newest event left
  newest : (z : Arithmetic T) (parties : ℕ) (past : List (Event T)) (e : Event T) → Kept past → IsPast z t parties (e ∷ past) → BegunBy entries e.act (hold_among e.party (own_holds t rows past)) →
      IsFreeOrHeld (word_in t (e ∷ past) word) (own_holds t rows (e ∷ past)) × Here (call_after e.then e (call_of e.party past)) (hold_among e.party (own_holds t rows (e ∷ past))) × Tells e.then (hold_among e.party (own_holds t rows (e ∷ past)))
  newest z parties past e before run begins =
      moved e.party (own_holds t rows past) (word_in t past) before.0 (call_of e.party past) (hold_of t e.party past) run.0.0 (record { act = e.act; outcome = e.then })
      (fault_at_none t parties past e.party run.0.0 run.0.1.allowed) run.0.1.moved (before.1 e.party) begins

  kept_at : (z : Arithmetic T) (parties : ℕ) → opening word ≡ 0 → (past : List (Event T)) → IsPast z t parties past → HaveBegunByHolds entries t rows past → Kept past
  kept_at z parties opens [] run begins = (inl (opens, refl), λ q. tt)
  kept_at z parties opens (e ∷ past) run begins =
      let before = kept_at z parties opens past run.1 begins.1 in
      let own = newest z parties past e before run begins.0 in
      one_more past e before own.0 own.1

  exclusive : (w : ℕ) (holds : List Hold) → IsFreeOrHeld w holds → IsExclusive holds
  exclusive w holds h1 = grind (arith, nat_tests, eqb-true, eqb-false)

  tell : (z : Arithmetic T) (parties : ℕ) → opening word ≡ 0 → (past : List (Event T)) → IsPast z t parties past → HaveBegunByHolds entries t rows past → AnswersTell t rows past
  tell z parties opens [] run begins = tt
  tell z parties opens (e ∷ past) run begins = (newest z parties past e (kept_at z parties opens past run.1 begins.1) run begins.0).2

module _ {T : Type 0} (z : Arithmetic T) (word : Word) (opening : Word → ℕ) (entries : Entries T) (roles : List Role) (rows : List Row) (parties : ℕ) (past : List (Event T)) (is : IsOwnLock word opening entries roles rows)
    (run : IsOwnPast z opening entries rows parties past) where
  pub one_holder : IsExclusive (own_holds (own_table opening entries rows) rows past)
  one_holder = exclusive word opening entries roles rows is.fit is.begin _ _ (kept_at word opening entries roles rows is.fit is.begin z parties is.opens past run.run run.begins).0

  pub answers_tell : AnswersTell (own_table opening entries rows) rows past
  answers_tell = tell word opening entries roles rows is.fit is.begin z parties is.opens past run.run run.begins
