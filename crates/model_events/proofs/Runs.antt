-- Playing one more input, at one object as at several.
use Rattle.model_events.proofs.Names.{◌≡◌, ℕ, ◌+◌, ◌<◌, refl, sym, ◌∙◌, ap, subst, List, [], ◌∷◌, length, get_or, Option, Some, arith, eqb-true, eqb-false, nat_tests}
use Rattle.std.proofs.Common.{◌++◌, take, slice_get}
use Rattle.std.proofs.lemmas.List.{take_more}
use Rattle.std.proofs.lemmas.Option.{slice_get-get_or}
use Rattle.model_events.specs.Runs.{IsRunBy, after, AtEveryPrefix, ContinuesBy, ContinuesUpTo}

after_more : {E : Type 0} (events : List E) (e : E) (past : List E) → after (events ++ e ∷ []) past ≡ e ∷ after events past
after_more [] e past = refl
after_more (d ∷ events) e past = after_more events e (d ∷ past)

prefixes_more : {E : Type 0} (Holds : List E → Type 0) (past events : List E) (e : E) → AtEveryPrefix Holds past events → Holds (e ∷ after events past) → AtEveryPrefix Holds past (events ++ e ∷ [])
prefixes_more Holds past [] e before holds = (before, holds)
prefixes_more Holds past (d ∷ events) e before holds = (before.0, prefixes_more Holds (d ∷ past) events e before.1 holds)

run_more : {E I : Type 0} (Next : List E → I → E → Type 0) (past : List E) (schedule : List I) (events : List E) (input : I) (e : E) → IsRunBy Next past schedule events → Next (after events past) input e → IsRunBy Next past (schedule ++ input ∷ []) (events ++ e ∷ [])
run_more Next past [] [] input e run next = (next, tt)
run_more Next past (t ∷ schedule) (d ∷ events) input e run next = (run.0, run_more Next (d ∷ past) schedule events input e run.1 next)
run_more Next past [] (d ∷ events) input e run next = absurd run
run_more Next past (t ∷ schedule) [] input e run next = absurd run

module _ {E I M : Type 0} {Next : List E → I → E → Type 0} {Stands : List E → M → Type 0} {Holds : List E → Type 0} where
  -- one more input of the schedule is played
  pub plays_next :
      (past : List E) (schedule : List I) (i : ℕ) (mid new : M) (events : List E) (input : I) (e : E) → i < length schedule → input ≡ get_or schedule i input → ContinuesBy Next Stands Holds past (take i schedule) events mid →
      Next (after events past) input e → Stands (e ∷ after events past) new → Holds (e ∷ after events past) → ContinuesBy Next Stands Holds past (take (i + 1) schedule) (events ++ e ∷ []) new
  plays_next past schedule i mid new events input e below is before next stands holds =
      let taken : take (i + 1) schedule ≡ take i schedule ++ input ∷ [] = take_more schedule i input below ∙ ap (λ (t : I). take i schedule ++ t ∷ []) (sym is) in
      record {
        run = subst (λ (s : List I). IsRunBy Next past s (events ++ e ∷ [])) (sym taken) (run_more Next past (take i schedule) events input e before.run next);
        stands = subst (λ (p : List E). Stands p new) (sym (after_more events e past)) stands;
        prefixes = prefixes_more Holds past events e before.prefixes holds;
      }

  -- the next input of the schedule is refused
  pub refuses_next :
      {F : Type 0} (fault_of : List E → I → Option F) (past : List E) (schedule : List I) (i : ℕ) (mid new : M) (events : List E) (input : I) (fault : F) → i < length schedule → input ≡ get_or schedule i input → length events ≡ i →
      ContinuesBy Next Stands Holds past (take i schedule) events mid → new ≡ mid → fault_of (after events past) input ≡ Some fault → ContinuesUpTo Next Stands Holds fault_of past schedule events fault new
  refuses_next fault_of past schedule i mid new events input fault h1 h2 h3 h4 h5 h6 = grind (arith, nat_tests, eqb-true, eqb-false, take, slice_get, slice_get-get_or)
