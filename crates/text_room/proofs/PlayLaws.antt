-- A walk is played and printed, one more stride at a time.
use Rattle.text_room.proofs.Names.{nat_tests, eqb-true, eqb-false, ◌≡◌, ℕ, zero, suc, ◌+◌, ◌<◌, true, List, [], ◌∷◌, ◌++◌, Option, Some, None, Result, Ok, Err, IfSome, refl, sym, ap, subst, ◌∙◌, append_assoc, arith, append-nil, replicate, Arithmetic, after, Object, ◌>>=◌, IsFaultOf, lines_of, Numerals, FaultyLine, TextFault, RoomEvent, Seating, StandsAt, all_of, printed, event_lines, act_line, output_unless, IsQuiet, is_quiet, Act}
use Rattle.sync_play.proofs.TextLaws.{after_both}
use Rattle.text_room.specs.declared.walk.Rest.{Rest}
use Rattle.text_room.specs.declared.walk.Step.{Step}
use Rattle.text_room.specs.declared.walk.Stride.{Stride}
use Rattle.text_room.specs.Walk.{Walk, Opened, steps_then, nothing, opened, rest_walk, lines_walk, IsNextStride, after_times}
use Rattle.text_room.specs.Output.{events_in, output_in, room_output, last_lines, PrintsAll, IsPrinted}
unfoldable use Rattle.text_room.specs.Walk.{go_walk}

module _ {T : Type 0} (z : Arithmetic T) (numerals : Numerals T) (names : List (List ℕ)) (objects : List (Object T)) (parties : ℕ) where
  abbrev Ev : Type 0
  Ev = RoomEvent T

  -- what the steps of a walk print
  abbrev shown : Walk T → List ℕ
  shown walk = printed numerals (all_of (events_in walk.steps))

  -- Some steps of the walk were played and printed, and the others are still to come.
  pub record IsHalfway (past : List Ev) (first rest : Rest T) (old new : List ℕ) (room : Seating T) : Type 0 where
    pub here : List Ev
    pub stands : StandsAt z objects parties here room
    pub output : old ++ shown (rest_walk z numerals names objects parties past first) ≡ new ++ shown (rest_walk z numerals names objects parties here rest)
    pub fault : (rest_walk z numerals names objects parties past first).fault ≡ (rest_walk z numerals names objects parties here rest).fault
    pub events : after (events_in (rest_walk z numerals names objects parties past first).steps) past ≡ after (events_in (rest_walk z numerals names objects parties here rest).steps) here

  pub begins : (past : List Ev) (rest : Rest T) (out : List ℕ) (room : Seating T) → StandsAt z objects parties past room → IsHalfway past rest rest out out room
  begins past rest out room stands = record { here = past; stands = stands; output = refl; fault = refl; events = refl }

  -- a stride, whatever run stands at the room
  abbrev Strides : Rest T → Rest T → Seating T → Seating T → Result (Option (Stride T)) FaultyLine → Type 0
  Strides old new room room' told = (parties : ℕ) (past : List Ev) → StandsAt z objects parties past room → IsNextStride z numerals names objects parties past old new room' told

  events_then : (n : ℕ) (step : Step T) (walk : Walk T) → events_in (steps_then (replicate n step) walk).steps ≡ replicate n step.event ++ events_in walk.steps
  events_then zero step walk = refl
  events_then (suc n) step walk = ap (λ (l : List Ev). step.event ∷ l) (events_then n step walk)

  pub fault_then : (n : ℕ) (step : Step T) (walk : Walk T) → (steps_then (replicate n step) walk).fault ≡ walk.fault
  fault_then zero step walk = refl
  fault_then (suc n) step walk = fault_then n step walk

  -- An event that leaves all as it is prints nothing.

  quiet_act : (party : ℕ) (act : Act T) → is_quiet act ≡ true → act_line party act ≡ []
  quiet_act party act h1 = grind (arith, nat_tests, eqb-true, eqb-false)

  quiet_prints : (e : Ev) → IsQuiet e.event → event_lines numerals e.event ≡ []
  quiet_prints e quiet = rw (quiet_act e.event.party e.event.act quiet.act, quiet.goes_on) refl

  nothing_printed : (n : ℕ) (e : Ev) (events : List Ev) → event_lines numerals e.event ≡ [] → printed numerals (all_of (replicate n e ++ events)) ≡ printed numerals (all_of events)
  nothing_printed zero e events none = refl
  nothing_printed (suc n) e events none = ap (λ (l : List ℕ). l ++ printed numerals (all_of (replicate n e ++ events))) none ∙ nothing_printed n e events none

  -- so what several equal ones print is what the first does
  stride_prints : (n : ℕ) (e : Ev) (events : List Ev) → 0 < n → (1 < n → IsQuiet e.event) → printed numerals (all_of (replicate n e ++ events)) ≡ event_lines numerals e.event ++ printed numerals (all_of events)
  stride_prints zero e events some quiet = absurd (omega (arith, some))
  stride_prints (suc zero) e events some quiet = refl
  stride_prints (suc (suc n)) e events some quiet = ap (λ (l : List ℕ). event_lines numerals e.event ++ l) (nothing_printed (suc n) e events (quiet_prints e (quiet (omega arith))))

  pub goes_on : (past : List Ev) (first rest rest' : Rest T) (old out out' : List ℕ) (room room' : Seating T) (told : Option (Stride T)) (stride : Stride T) → told ≡ Some stride → IsHalfway past first rest old out room →
      Strides rest rest' room room' (Ok told) → IfSome told (λ s. 0 < s.times) → IfSome told (λ s. 1 < s.times → IsQuiet s.step.event.event) → out' ≡ out ++ event_lines numerals stride.step.event.event → IsHalfway past first rest' old out' room'
  goes_on past first rest rest' old out out' room room' told stride some before strides often quiet prints =
      let here = before.here in
      let e = stride.step.event in
      let others = rest_walk z numerals names objects parties (after_times stride.times e here) rest' in
      let told_is = subst (λ (t : Option (Stride T)). IsNextStride z numerals names objects parties here rest rest' room' (Ok t)) some (strides parties here before.stands) in
      let is_some : 0 < stride.times = subst (λ (t : Option (Stride T)). IfSome t (λ s. 0 < s.times)) some often in
      let is_quiet : 1 < stride.times → IsQuiet e.event = subst (λ (t : Option (Stride T)). IfSome t (λ s. 1 < s.times → IsQuiet s.step.event.event)) some quiet in
      record {
        here = after_times stride.times e here;
        stands = told_is.1;
        output = before.output ∙ ap (λ (w : Walk T). out ++ shown w) told_is.0
            ∙ ap (λ (l : List Ev). out ++ printed numerals (all_of l)) (events_then stride.times stride.step others)
            ∙ ap (λ (l : List ℕ). out ++ l) (stride_prints stride.times e (events_in others.steps) is_some is_quiet)
            ∙ sym (append_assoc out (event_lines numerals e.event) (shown others))
            ∙ ap (λ (l : List ℕ). l ++ shown others) (sym prints);
        fault = before.fault ∙ ap (λ (w : Walk T). w.fault) told_is.0 ∙ fault_then stride.times stride.step others;
        events = before.events ∙ ap (λ (w : Walk T). after (events_in w.steps) here) told_is.0
            ∙ ap (λ (l : List Ev). after l here) (events_then stride.times stride.step others) ∙ after_both (replicate stride.times e) (events_in others.steps) here;
      }

  pub ends : (past : List Ev) (first rest rest' : Rest T) (old out : List ℕ) (room room' : Seating T) (told : Option (Stride T)) → told ≡ None → IsHalfway past first rest old out room → Strides rest rest' room room' (Ok told) →
      PrintsAll z numerals objects parties past (rest_walk z numerals names objects parties past first) old out room'
  ends past first rest rest' old out room room' told h1 h2 h3 = grind (arith, nat_tests, eqb-true, eqb-false, append-nil)

  pub fails : (past : List Ev) (first rest rest' : Rest T) (old out : List ℕ) (room room' : Seating T) (fault : FaultyLine) → IsHalfway past first rest old out room → Strides rest rest' room room' (Err fault) →
      output_in z numerals names objects past (rest_walk z numerals names objects parties past first) ≡ Err fault
  fails past first rest rest' old out room room' fault h1 h2 = grind (arith, nat_tests, eqb-true, eqb-false)

module _ {T : Type 0} (z : Arithmetic T) (numerals : Numerals T) where
  -- A text is walked from the line on after those that name objects.

  text_walk : (lines : List (List ℕ)) (found : Opened T) (rest : Rest T) → opened numerals lines ≡ Ok found → rest.left ≡ nothing → found.line ≡ rest.line → found.lines ≡ lines_of rest.lines.now →
      room_output z numerals lines ≡ output_in z numerals found.names found.objects [] (rest_walk z numerals found.names found.objects found.parties [] rest)
  unfolding go_walk
  text_walk lines found rest is left line rest_is =
      let walk_is : lines_walk z numerals found.names found.objects found.parties (found.line + 1) found.lines [] ≡ rest_walk z numerals found.names found.objects found.parties [] rest = rw (left, line, rest_is) refl in
      ap (λ r. r >>= λ found. output_in z numerals found.names found.objects [] (lines_walk z numerals found.names found.objects found.parties (found.line + 1) found.lines [])) is
      ∙ ap (output_in z numerals found.names found.objects []) walk_is

  pub opens_none : (lines : List (List ℕ)) (fault : TextFault) → IsFaultOf fault (opened numerals lines) → IsFaultOf fault (room_output z numerals lines)
  opens_none lines (TextFault.Line line fault) is = ap (λ r. r >>= λ found. output_in z numerals found.names found.objects [] (lines_walk z numerals found.names found.objects found.parties (found.line + 1) found.lines [])) is
  opens_none lines TextFault.Memory is = tt

  pub faults_so : (lines : List (List ℕ)) (found : Opened T) (rest : Rest T) (fault : TextFault) → opened numerals lines ≡ Ok found → rest.left ≡ nothing → found.line ≡ rest.line → found.lines ≡ lines_of rest.lines.now →
      IsFaultOf fault (output_in z numerals found.names found.objects [] (rest_walk z numerals found.names found.objects found.parties [] rest)) → IsFaultOf fault (room_output z numerals lines)
  faults_so lines found rest fault is left line rest_is h = rw (text_walk lines found rest is left line rest_is) h

  -- the names and objects that are played are those that were opened
  pub plays_so : (found : Opened T) (rest : Rest T) (names : List (List ℕ)) (objects : List (Object T)) (old new : List ℕ) (room room' : Seating T) (told : Result (Unit {0}) TextFault) → names ≡ found.names → objects ≡ found.objects →
      StandsAt z found.objects found.parties [] room →
      ((parties : ℕ) (past : List (RoomEvent T)) → StandsAt z objects parties past room → IsPrinted z numerals names objects parties past (rest_walk z numerals names objects parties past rest) old new room' told) →
      IsPrinted z numerals found.names found.objects found.parties [] (rest_walk z numerals found.names found.objects found.parties [] rest) old new room' told
  plays_so found rest names objects old new room room' told names_is objects_is stands plays =
      subst (λ (n : List (List ℕ)). IsPrinted z numerals n found.objects found.parties [] (rest_walk z numerals n found.objects found.parties [] rest) old new room' told) names_is
      (subst (λ (o : List (Object T)). IsPrinted z numerals names o found.parties [] (rest_walk z numerals names o found.parties [] rest) old new room' told) objects_is
      (plays found.parties [] (subst (λ (o : List (Object T)). StandsAt z o found.parties [] room) (sym objects_is) stands)))

  -- what was printed, and then the last lines
  pub text_is_printed : (lines : List (List ℕ)) (found : Opened T) (rest : Rest T) (none out end : List ℕ) (room : Seating T) → opened numerals lines ≡ Ok found → rest.left ≡ nothing → found.line ≡ rest.line → found.lines ≡ lines_of rest.lines.now →
      none ≡ [] → PrintsAll z numerals found.objects found.parties [] (rest_walk z numerals found.names found.objects found.parties [] rest) none out room →
      ((objects : List (Object T)) (parties : ℕ) (past : List (RoomEvent T)) → StandsAt z objects parties past room → end ≡ out ++ last_lines z numerals 0 found.names objects past) → room_output z numerals lines ≡ Ok end
  text_is_printed lines found rest none out end room is left line rest_is empty p prints =
      let walk = rest_walk z numerals found.names found.objects found.parties [] rest in
      let last = last_lines z numerals 0 found.names found.objects (after (events_in walk.steps) []) in
      let shown : List ℕ = printed numerals (all_of (events_in walk.steps)) in
      let front : out ≡ shown = p.output ∙ ap (λ (l : List ℕ). l ++ shown) empty in
      text_walk lines found rest is left line rest_is ∙ ap (λ (f : Option FaultyLine). output_unless f (shown ++ last)) p.faultless
      ∙ ap (λ (l : List ℕ). Ok l) (ap (λ (l : List ℕ). l ++ last) (sym front) ∙ sym (prints found.objects found.parties _ p.stands))
