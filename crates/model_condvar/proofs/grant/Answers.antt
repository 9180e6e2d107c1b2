use Rattle.model_condvar.proofs.Names.{◌≡◌, ◌≢◌, ◌∙◌, ℕ, refl, Call, mutex_grant, condvar_grant}
use Rattle.model_condvar.proofs.grant.Goals as goal

of_others : {T : Type 0} (call : Call T) (from to : ℕ) → call ≢ Call.Wait → mutex_grant call from to ≡ condvar_grant call from to
of_others Call.Wait from to other = absurd (other refl)
of_others call from to other = refl

-- of every call but `Wait`
pub returns-in_default : goal.returns-in_default
returns-in_default g c = λ from to. c.grant.ensures from to ∙ of_others c.args.call.now from to c.in_default.not-Wait
