-- A walk is played and printed, one more stride at a time.
use Rattle.sync_play.proofs.Names.{nat_tests, eqb-true, eqb-false, ◌≡◌, ℕ, zero, suc, ◌<◌, true, List, [], ◌∷◌, ◌++◌, Option, Some, None, Result, Ok, Err, IfSome, refl, sym, ap, subst, ◌∙◌, append_assoc, arith, append-nil, replicate, Act, Event, Object, Arithmetic, after, Configuration, StandsAt, is_quiet, IsQuiet, FaultyLine, TextFault, Header, IsFaultOf, lines_of, Numerals, printed, act_line, event_lines, last_line, typed_output, Walk, steps_then, nothing, go_walk, lines_walk, opened, rest_walk, after_times, IsNextStride, events_in, output_unless, output_in, output_opened, PrintsAll}
use Rattle.sync_play.specs.declared.walk.Rest.{Rest}
use Rattle.sync_play.specs.declared.walk.Step.{Step}
use Rattle.sync_play.specs.declared.walk.Stride.{Stride}
use Rattle.sync_play.proofs.TextLaws.{after_both}
use Rattle.sync_play.proofs.WalksAreOutputs.{walks_print}

module _ {T : Type 0} (z : Arithmetic T) (numerals : Numerals T) where
  abbrev Ev : Type 0
  Ev = Event T

  -- Some steps of the walk were played and printed, and the others are still to come.
  pub record IsHalfway (o : Object T) (parties : ℕ) (past : List Ev) (first rest : Rest T) (old new : List ℕ) (machine : Configuration T) : Type 0 where
    pub here : List Ev
    pub stands : StandsAt z o parties here machine
    pub output : old ++ printed numerals (events_in (rest_walk z numerals o parties past first).steps) ≡ new ++ printed numerals (events_in (rest_walk z numerals o parties here rest).steps)
    pub fault : (rest_walk z numerals o parties past first).fault ≡ (rest_walk z numerals o parties here rest).fault
    pub events : after (events_in (rest_walk z numerals o parties past first).steps) past ≡ after (events_in (rest_walk z numerals o parties here rest).steps) here

  pub begins : (o : Object T) (parties : ℕ) (past : List Ev) (rest : Rest T) (out : List ℕ) (machine : Configuration T) → StandsAt z o parties past machine → IsHalfway o parties past rest rest out out machine
  begins o parties past rest out machine stands = record { here = past; stands = stands; output = refl; fault = refl; events = refl }

  -- a stride, whatever run stands at the machine
  abbrev Strides : Rest T → Rest T → Configuration T → Configuration T → Result (Option (Stride T)) FaultyLine → Type 0
  Strides old new machine machine' told = (o : Object T) (parties : ℕ) (past : List Ev) → StandsAt z o parties past machine → IsNextStride z numerals o parties past old new machine' told

  pub events_then : (n : ℕ) (step : Step T) (walk : Walk T) → events_in (steps_then (replicate n step) walk).steps ≡ replicate n step.event ++ events_in walk.steps
  events_then zero step walk = refl
  events_then (suc n) step walk = ap (λ (l : List Ev). step.event ∷ l) (events_then n step walk)

  pub fault_then : (n : ℕ) (step : Step T) (walk : Walk T) → (steps_then (replicate n step) walk).fault ≡ walk.fault
  fault_then zero step walk = refl
  fault_then (suc n) step walk = fault_then n step walk

  -- An event that leaves all as it is prints nothing.

  quiet_act : (party : ℕ) (act : Act T) → is_quiet act ≡ true → act_line party act ≡ []
  quiet_act party act h1 = grind (arith, nat_tests, eqb-true, eqb-false)

  quiet_prints : (e : Ev) → IsQuiet e → event_lines numerals e ≡ []
  quiet_prints e quiet = rw (quiet_act e.party e.act quiet.act, quiet.goes_on) refl

  nothing_printed : (n : ℕ) (e : Ev) (events : List Ev) → event_lines numerals e ≡ [] → printed numerals (replicate n e ++ events) ≡ printed numerals events
  nothing_printed zero e events none = refl
  nothing_printed (suc n) e events none = ap (λ (l : List ℕ). l ++ printed numerals (replicate n e ++ events)) none ∙ nothing_printed n e events none

  -- so what several equal ones print is what the first does
  stride_prints : (n : ℕ) (e : Ev) (events : List Ev) → 0 < n → (1 < n → IsQuiet e) → printed numerals (replicate n e ++ events) ≡ event_lines numerals e ++ printed numerals events
  stride_prints zero e events some quiet = absurd (omega (arith, some))
  stride_prints (suc zero) e events some quiet = refl
  stride_prints (suc (suc n)) e events some quiet = ap (λ (l : List ℕ). event_lines numerals e ++ l) (nothing_printed (suc n) e events (quiet_prints e (quiet (omega arith))))

  pub goes_on : (o : Object T) (parties : ℕ) (past : List Ev) (first rest rest' : Rest T) (old out out' : List ℕ) (machine machine' : Configuration T) (told : Option (Stride T)) (stride : Stride T) → told ≡ Some stride →
      IsHalfway o parties past first rest old out machine → Strides rest rest' machine machine' (Ok told) → IfSome told (λ s. 0 < s.times) → IfSome told (λ s. 1 < s.times → IsQuiet s.step.event) →
      out' ≡ out ++ event_lines numerals stride.step.event → IsHalfway o parties past first rest' old out' machine'
  goes_on o parties past first rest rest' old out out' machine machine' told stride some before strides often quiet prints =
      let here = before.here in
      let e = stride.step.event in
      let others = rest_walk z numerals o parties (after_times stride.times e here) rest' in
      let told_is = subst (λ (t : Option (Stride T)). IsNextStride z numerals o parties here rest rest' machine' (Ok t)) some (strides o parties here before.stands) in
      let is_some : 0 < stride.times = subst (λ (t : Option (Stride T)). IfSome t (λ s. 0 < s.times)) some often in
      let is_quiet : 1 < stride.times → IsQuiet e = subst (λ (t : Option (Stride T)). IfSome t (λ s. 1 < s.times → IsQuiet s.step.event)) some quiet in
      record {
        here = after_times stride.times e here;
        stands = told_is.1;
        output = before.output ∙ ap (λ (w : Walk T). out ++ printed numerals (events_in w.steps)) told_is.0
            ∙ ap (λ (l : List Ev). out ++ printed numerals l) (events_then stride.times stride.step others)
            ∙ ap (λ (l : List ℕ). out ++ l) (stride_prints stride.times e (events_in others.steps) is_some is_quiet)
            ∙ sym (append_assoc out (event_lines numerals e) (printed numerals (events_in others.steps)))
            ∙ ap (λ (l : List ℕ). l ++ printed numerals (events_in others.steps)) (sym prints);
        fault = before.fault ∙ ap (λ (w : Walk T). w.fault) told_is.0 ∙ fault_then stride.times stride.step others;
        events = before.events ∙ ap (λ (w : Walk T). after (events_in w.steps) here) told_is.0
            ∙ ap (λ (l : List Ev). after l here) (events_then stride.times stride.step others) ∙ after_both (replicate stride.times e) (events_in others.steps) here;
      }

  pub ends : (o : Object T) (parties : ℕ) (past : List Ev) (first rest rest' : Rest T) (old out : List ℕ) (machine machine' : Configuration T) (told : Option (Stride T)) → told ≡ None → IsHalfway o parties past first rest old out machine →
      Strides rest rest' machine machine' (Ok told) → PrintsAll z numerals o parties past (rest_walk z numerals o parties past first) old out machine'
  ends o parties past first rest rest' old out machine machine' told h1 h2 h3 = grind (arith, nat_tests, eqb-true, eqb-false, append-nil)

  pub fails : (o : Object T) (parties : ℕ) (past : List Ev) (first rest rest' : Rest T) (old out : List ℕ) (machine machine' : Configuration T) (fault : FaultyLine) → IsHalfway o parties past first rest old out machine →
      Strides rest rest' machine machine' (Err fault) → output_in z numerals o past (rest_walk z numerals o parties past first) ≡ Err fault
  fails o parties past first rest rest' old out machine machine' fault h1 h2 = grind (arith, nat_tests, eqb-true, eqb-false)

  -- A text is walked from its first line on.

  pub text_walk : (lines : List (List ℕ)) (header : Header T) (rest : Rest T) → opened numerals (lines) ≡ Ok (header, lines_of rest.lines.now) → rest.line ≡ 1 → rest.left ≡ nothing → typed_output z numerals lines ≡ output_in z numerals header.object [] (rest_walk z numerals header.object header.parties [] rest)
  unfolding go_walk
  text_walk lines header rest is line left =
      let same : rest_walk z numerals header.object header.parties [] rest ≡ lines_walk z numerals header.object header.parties 2 (lines_of rest.lines.now) [] = rw (line, left) refl in
      walks_print z numerals lines ∙ ap (output_opened z numerals) is ∙ ap (output_in z numerals header.object []) (sym same)

  pub opens_none : (lines : List (List ℕ)) (fault : FaultyLine) → opened numerals (lines) ≡ Err fault → typed_output z numerals lines ≡ Err fault
  opens_none lines fault is = walks_print z numerals lines ∙ ap (output_opened z numerals) is

  pub faults_so : (lines : List (List ℕ)) (header : Header T) (rest : Rest T) (fault : TextFault) → opened numerals (lines) ≡ Ok (header, lines_of rest.lines.now) → rest.line ≡ 1 → rest.left ≡ nothing →
      IsFaultOf fault (output_in z numerals header.object [] (rest_walk z numerals header.object header.parties [] rest)) → IsFaultOf fault (typed_output z numerals lines)
  faults_so lines header rest fault is line left h = rw (text_walk lines header rest is line left) h

  -- what was printed, and then the last line
  pub text_is_printed : (lines : List (List ℕ)) (header : Header T) (rest : Rest T) (none out end : List ℕ) (machine : Configuration T) → opened numerals (lines) ≡ Ok (header, lines_of rest.lines.now) → rest.line ≡ 1 → rest.left ≡ nothing → none ≡ [] →
      PrintsAll z numerals header.object header.parties [] (rest_walk z numerals header.object header.parties [] rest) none out machine →
      ((o : Object T) (parties : ℕ) (past : List Ev) → StandsAt z o parties past machine → end ≡ out ++ last_line z numerals o past) → typed_output z numerals lines ≡ Ok end
  text_is_printed lines header rest none out end machine is line left empty p prints =
      let walk = rest_walk z numerals header.object header.parties [] rest in
      let last = last_line z numerals header.object (after (events_in walk.steps) []) in
      let front : out ≡ printed numerals (events_in walk.steps) = p.output ∙ ap (λ (l : List ℕ). l ++ printed numerals (events_in walk.steps)) empty in
      text_walk lines header rest is line left ∙ ap (λ (f : Option FaultyLine). output_unless f (printed numerals (events_in walk.steps) ++ last)) p.faultless
      ∙ ap (λ (l : List ℕ). Ok l) (ap (λ (l : List ℕ). l ++ last) (sym front) ∙ sym (prints header.object header.parties _ p.stands))
