-- What a line asks brings values of the text's type.
use Rattle.text_lines.proofs.Names.{nat_tests, eqb-true, eqb-false, ◌≡◌, ℕ, ◌-◌, ◌^◌, Bool, cond, List, [], ◌∷◌, Option, Some, None, Result, Ok, subst, arith, bytes_eq, Call, Object, Arithmetic, LineFault, ◌>>=◌, calls_of, named, number_within}
use Rattle.model_events.specs.Moves.{CallValues, InputValues}
use Rattle.text_lines.specs.declared.command.Command.{Command}
use Rattle.text_lines.specs.declared.command.Form.{Form}
use Rattle.text_lines.specs.declared.command.Task.{Task}
use Rattle.text_lines.specs.declared.command.Values.{Values}
use Rattle.text_lines.specs.Command.{verbs, with_these, task_by, task_if, task_of, party_of, command_of}
use Rattle.text_lines.specs.Lexer.{find}
use Rattle.text_lines.specs.Numerals.{Numerals, ReadsValues}
use Rattle.text_lines.proofs.FaultLaws.{ok_is, bind_ok}

module _ {T : Type 0} (z : Arithmetic T) (numerals : Numerals T) (reads : ReadsValues z numerals) where
  abbrev pub HasValues : Task T → Type 0
  HasValues (Task.Give input) = InputValues z input
  HasValues (Task.Go n) = Unit {0}
  HasValues (Task.Run limit) = Unit {0}

  abbrev MakesValues : Result (Task T) LineFault → Type 0
  MakesValues r = (t : Task T) → r ≡ Ok t → HasValues t

  -- a verb that asks a task without a number asks one with values
  abbrev FormValues : Form T → Type 0
  FormValues (Form.Alone task) = HasValues task
  FormValues other = Unit {0}

  abbrev RowValues : List (List ℕ × Form T) → Type 0
  RowValues [] = Unit {0}
  RowValues (row ∷ rows) = FormValues row.1 × RowValues rows

  either_form : (b : Bool) (form found : Form T) (rest : Option (Form T)) → FormValues form → (rest ≡ Some found → FormValues found) → cond b (Some form) rest ≡ Some found → FormValues found
  either_form b form found rest h1 h2 h3 = grind (arith, nat_tests, eqb-true, eqb-false)

  found_values : (name : List ℕ) (rows : List (List ℕ × Form T)) (form : Form T) → RowValues rows → find name rows ≡ Some form → FormValues form
  found_values name [] form values e = absurd cc
  found_values name (row ∷ rows) form values e = either_form (bytes_eq name row.0) row.1 form (find name rows) values.0 (found_values name rows form values.1) e

  verb_values : RowValues verbs
  verb_values = (tt, (tt, (tt, (tt, (tt, (tt, tt))))))

  form_makes : (form : Form T) (words : List (List ℕ)) → FormValues form → MakesValues (task_by numerals form words)
  form_makes form words h1 = grind (arith, nat_tests, eqb-true, eqb-false, bind_ok, ok_is)

  -- a call that is read brings values of the type
  abbrev MakesCall : Result (Call T) LineFault → Type 0
  MakesCall r = (c : Call T) → r ≡ Ok c → CallValues z c

  these_make : (call : Call Unit) (these : Values) (words : List (List ℕ)) → MakesCall (with_these numerals call these words)
  these_make call these words = grind (arith, nat_tests, eqb-true, eqb-false, bind_ok, ok_is)

  asked_makes : (form : Option (Form T)) (call : Option (Call Unit)) (words : List (List ℕ)) → ((found : Form T) → form ≡ Some found → FormValues found) → MakesValues (task_if numerals form call words)
  asked_makes form call words h1 = grind (arith, nat_tests, eqb-true, eqb-false, form_makes, bind_ok, ok_is, these_make)

  task_makes : (o : Object T) (verb : List ℕ) (words : List (List ℕ)) → MakesValues (task_of numerals o verb words)
  unfolding task_of
  task_makes o verb words = asked_makes (find verb verbs) (named verb (calls_of o)) words (λ form e. found_values verb verbs form verb_values e)

  none_is_some : {A : Type 0} {x : A} → ◌≡◌ {A = Result (Option A) LineFault} (Ok None) (Ok (Some x)) → ⊥
  none_is_some e = cc

  some_is : {A : Type 0} (x y : A) → Some x ≡ Some y → x ≡ y
  some_is x y e = cc

  pub command_values : (o : Object T) (words : List (List ℕ)) (command : Command T) → command_of numerals o words ≡ Ok (Some command) → HasValues command.task
  unfolding command_of
  command_values o [] command e = absurd (none_is_some e)
  command_values o (party ∷ []) command e = absurd cc
  command_values o (party ∷ verb ∷ words) command e =
      let a = bind_ok (task_of numerals o verb words) (λ task. number_within 0 (2 ^ 64 - 1) party >>= λ number. party_of number >>= λ from_zero. Ok (Some (record { party = from_zero; task = task }))) (Some command) e in
      let b = bind_ok (number_within 0 (2 ^ 64 - 1) party) (λ number. party_of number >>= λ from_zero. Ok (Some (record { party = from_zero; task = a.0 }))) (Some command) a.2 in
      let d = bind_ok (party_of b.0) (λ from_zero. Ok (Some (record { party = from_zero; task = a.0 }))) (Some command) b.2 in
      let made : Command T = record { party = d.0; task = a.0 } in
      subst (λ (x : Command T). HasValues x.task) (some_is made command (ok_is (Some made) (Some command) d.2)) (task_makes o verb words a.0 a.1)
