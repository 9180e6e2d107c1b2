-- A spin is the run of its tries: each does the same, and leads to the next.
use Rattle.sync_steps.proofs.Names.{◌≡◌, ℕ, zero, suc, ◌+◌, ◌*◌, ◌-◌, ◌^◌, ◌<◌, ◌≤◌, min, refl, sym, ◌∙◌, ap, subst, List, [], ◌∷◌, length, Bool, true, cond, Option, Some, None, Ok, slice_get, slice_set, arith, length-set, eqb-true, eqb-false, nat_tests, replicate, Act, Event, Input, Object, Then, Word, Intent, Arithmetic, word_after, is_failure, failures_by, event, carried_out, value_told, word_at, Doing, Party, Place, Configuration, Steps, Plays, HasTurned, intent_at, turn_at, Strides, is_quiet, spun_party, HasSpun}
use Rattle.sync_steps.specs.Machine.Places.{spins_at, spun_at}
use Rattle.sync_steps.proofs.Objects.{headline}
use Rattle.sync_steps.proofs.Stands.{slice_get-set_same, turns_step}

-- Lists.

set_both : {A : Type 0} (xs : List A) (i : ℕ) (v w : A) → slice_set (slice_set xs i v) i w ≡ slice_set xs i w
set_both [] i v w = refl
set_both (x ∷ xs) zero v w = refl
set_both {A} (x ∷ xs) (suc i) v w = ap (λ (l : List A). x ∷ l) (set_both xs i v w)

got_below : {A : Type 0} (xs : List A) (i : ℕ) (v : A) → slice_get xs i ≡ Some v → i < length xs
got_below [] i v got = absurd cc
got_below (x ∷ xs) zero v got = omega arith
got_below (x ∷ xs) (suc i) v got = let within = got_below xs i v got in omega (arith, within)

-- A quiet act.

quiet_word : {T : Type 0} (i : Intent T) (memory : Word → ℕ) (word : Word) → is_quiet (carried_out i memory) ≡ true → word_after word (carried_out i memory) (memory word) ≡ memory word
quiet_word i memory word h1 = grind (arith, nat_tests, eqb-true, eqb-false)

-- The tries.

counted : (f failed count : ℕ) → failed ≡ min count (2 ^ 64 - 1) → min (1 * f + failed) (2 ^ 64 - 1) ≡ min (f + count) (2 ^ 64 - 1)
counted f failed count is = omega (arith, is)

-- so many more failures, one before the others
counted_both : (b : Bool) (n failed : ℕ) → min (suc (suc n) * cond b 1 0 + failed) (2 ^ 64 - 1) ≡ min (suc n * cond b 1 0 + min (1 * cond b 1 0 + failed) (2 ^ 64 - 1)) (2 ^ 64 - 1)
counted_both b n failed = grind (arith, nat_tests, eqb-true, eqb-false)

-- the machine after so many tries of a party that had made i of them
record Tried {T : Type 0} (party : ℕ) (found : Party T) (doing : Doing T) (act : Act T) (n i : ℕ) (old new : Configuration T) : Type 0 where
  object : new.object ≡ old.object
  parties : new.parties ≡ slice_set old.parties party (spun_party found doing (i + n))
  words : new.words ≡ old.words
  failed : new.failed ≡ min (n * failures_by act + old.failed) (2 ^ 64 - 1)

-- where the party is in its tries
record IsTrying {T : Type 0} (z : Arithmetic T) (party : ℕ) (found : Party T) (doing : Doing T) (act : Act T) (n i : ℕ) (m : Configuration T) : Type 0 where
  below : party < length m.parties
  there : slice_get m.parties party ≡ Some (spun_party found doing i)
  act_is : act ≡ carried_out (intent_at z doing.place found.hold) (word_at m.words)
  quiet : is_quiet act ≡ true
  most : i + n ≤ spins_at doing.place (value_told act)

spun_at_none : {T : Type 0} (place : Place T) (told : Option ℕ) → 0 < spins_at place told → spun_at 0 place ≡ place
spun_at_none place told h1 = grind (arith, nat_tests, eqb-true, eqb-false)

try_turns : {T : Type 0} (z : Arithmetic T) (o : Object T) (found : Party T) (doing : Doing T) (act : Act T) (i : ℕ) (memory : Word → ℕ) → act ≡ carried_out (intent_at z doing.place found.hold) memory → is_quiet act ≡ true → i < spins_at doing.place (value_told act) →
    turn_at z o (spun_party found doing i) memory Input.Go ≡ Ok (record { act = act; outcome = Then.GoesOn; party = spun_party found doing (i + 1) })
try_turns z o found doing act i memory h1 h2 h3 = grind (arith, nat_tests, eqb-true, eqb-false)

one_try : {T : Type 0} (z : Arithmetic T) (party : ℕ) (found : Party T) (doing : Doing T) (act : Act T) (n i : ℕ) (old new : Configuration T) → IsTrying z party found doing act (suc n) i old → Tried party found doing act 1 i old new →
    HasTurned z party Input.Go old new (event party act Then.GoesOn)
one_try {T} z party found doing act n i old new t made =
    let most = t.most in
    let below : i < spins_at doing.place (value_told act) = omega (arith, most) in
    record {
      found = spun_party found doing i;
      there = t.there;
      turn = record { act = act; outcome = Then.GoesOn; party = spun_party found doing (i + 1) };
      is = try_turns z old.object found doing act i (word_at old.words) t.act_is t.quiet below;
      made_is = refl;
      applied = record {
        object = made.object;
        parties = made.parties;
        words = λ word. ap (λ w. word_at w word) made.words
            ∙ sym (ap (λ (a : Act T). word_after word a (word_at old.words word)) t.act_is ∙ quiet_word (intent_at z doing.place found.hold) (word_at old.words) word (subst (λ (a : Act T). is_quiet a ≡ true) t.act_is t.quiet));
        failed = λ count is. made.failed ∙ counted (failures_by act) old.failed count is;
      };
    }

-- nothing is played yet
pub plays_none : {T : Type 0} (z : Arithmetic T) (m : Configuration T) → Plays z [] m [] m
plays_none z m o parties past at = record { run = tt; stands = at; prefixes = headline z o parties past at.run }

plays_first : {T : Type 0} (z : Arithmetic T) (party : ℕ) (input : Input T) (e : Event T) (schedule : List (ℕ × Input T)) (events : List (Event T)) (old mid new : Configuration T) →
    Steps z old party input e mid → Plays z schedule mid events new → Plays z ((party, input) ∷ schedule) old (e ∷ events) new
plays_first z party input e schedule events old mid new steps plays o parties past at =
    let one = steps o parties past at in
    let rest = plays o parties (e ∷ past) one.1 in
    record { run = (one.0, rest.run); stands = rest.stands; prefixes = (headline z o parties past at.run, rest.prefixes) }

-- the machine after one try
tried : {T : Type 0} → ℕ → Party T → Doing T → Act T → ℕ → Configuration T → Configuration T
tried party found doing act i m =
    record { object = m.object; parties = slice_set m.parties party (spun_party found doing (i + 1)); words = m.words; failed = min (1 * failures_by act + m.failed) (2 ^ 64 - 1) }

tries : {T : Type 0} (z : Arithmetic T) (party : ℕ) (found : Party T) (doing : Doing T) (act : Act T) (n i : ℕ) (old new : Configuration T) → IsTrying z party found doing act (suc n) i old → Tried party found doing act (suc n) i old new →
    Strides z old party (event party act Then.GoesOn) (suc n) new
unfolding tried
tries {T} z party found doing act zero i old new t made =
    let e : Event T = event party act Then.GoesOn in
    plays_first z party Input.Go e [] [] old new new (turns_step z party Input.Go Input.Go old new (Ok e) t.below tt refl (one_try z party found doing act zero i old new t made)) (plays_none z new)
tries {T} z party found doing act (suc n) i old new t made =
    let e : Event T = event party act Then.GoesOn in
    let mid = tried party found doing act i old in
    let most = t.most in
    let next : i + 1 + suc n ≡ i + suc (suc n) = omega arith in
    let first : Tried party found doing act 1 i old mid = record { object = refl; parties = refl; words = refl; failed = refl } in
    let below : party < length mid.parties = subst (λ (k : ℕ). party < k) (sym (length-set old.parties party (spun_party found doing (i + 1)))) t.below in
    let on : IsTrying z party found doing act (suc n) (i + 1) mid =
    record { below = below; there = slice_get-set_same old.parties party (spun_party found doing (i + 1)) t.below; act_is = t.act_is; quiet = t.quiet; most = subst (λ (k : ℕ). k ≤ spins_at doing.place (value_told act)) (sym next) most } in
    let others : Tried party found doing act (suc n) (i + 1) mid new =
    record {
      object = made.object;
      parties = made.parties ∙ ap (λ (k : ℕ). slice_set old.parties party (spun_party found doing k)) (sym next) ∙ sym (set_both old.parties party (spun_party found doing (i + 1)) (spun_party found doing (i + 1 + suc n)));
      words = made.words;
      failed = made.failed ∙ counted_both (is_failure act) n old.failed;
    } in
    plays_first z party Input.Go e (replicate (suc n) (party, Input.Go)) (replicate (suc n) e) old mid new
    (turns_step z party Input.Go Input.Go old mid (Ok e) t.below tt refl (one_try z party found doing act (suc n) i old mid t first)) (tries z party found doing act n (i + 1) mid new on others)

-- a spin of a machine
pub spins_stride : {T : Type 0} (z : Arithmetic T) (party : ℕ) (e : Event T) (times : ℕ) (old new : Configuration T) → HasSpun z party e times old new → Strides z old party e times new
spins_stride {T} z party e zero old new h = let often = h.spins.often in absurd (omega (arith, often))
spins_stride {T} z party e (suc n) old new h =
    let below = got_below old.parties party h.found h.there in
    let s = h.spins in
    let doing = s.doing in
    let most = s.most in
    let some : 0 < spins_at doing.place (value_told h.act) = omega (arith, most) in
    let none : spun_at 0 doing.place ≡ doing.place = spun_at_none doing.place (value_told h.act) some in
    let found_is : h.found ≡ spun_party h.found doing 0 = party_is h.found doing s.has s.goes none in
    let t : IsTrying z party h.found doing h.act (suc n) 0 old =
    record { below = below; there = h.there ∙ ap (λ (p : Party T). Some p) found_is; act_is = s.act_is; quiet = s.quiet; most = omega (arith, most) } in
    let counts : 0 + suc n ≡ suc n = omega arith in
    let made : Tried party h.found doing h.act (suc n) 0 old new =
    record {
      object = h.object;
      parties = h.parties ∙ ap (slice_set old.parties party) (s.new_is ∙ ap (spun_party h.found doing) (sym counts));
      words = h.words;
      failed = h.failed;
    } in
    subst (λ (x : Event T). Strides z old party x (suc n) new) (sym h.made_is) (tries z party h.found doing h.act n 0 old new t made)
  where
    party_is : (found : Party T) (doing : Doing T) → found.doing ≡ Some doing → doing.stands ≡ None → spun_at 0 doing.place ≡ doing.place → found ≡ spun_party found doing 0
    party_is found doing has goes none =
        ap (λ (d : Option (Doing T)). record { doing = d; hold = found.hold })
        (has ∙ ap (λ (c : Option _). Some (record { call = doing.call; place = doing.place; stands = c })) goes ∙ ap (λ (p : Place T). Some (record { call = doing.call; place = p; stands = None })) (sym none))

-- one step
pub step_strides : {T : Type 0} (z : Arithmetic T) (party : ℕ) (e : Event T) (old new : Configuration T) → Steps z old party Input.Go e new → Strides z old party e 1 new
step_strides z party e old new steps = plays_first z party Input.Go e [] [] old new new steps (plays_none z new)
