use Rattle.running_guarded.proofs.Names.{ℕ, ◌≡◌, None, Some, true, Often, HasStayed}
use denote.Param.Always.{always_mut}
use Rattle.running_condvar.specs.CondShown.{HasStayed as HasWaitedAtMost}
use Rattle.running_guarded.specs.Acting.{LooksOnce}
use Rattle.running_guarded.specs.GuardedWord.{object_shown}
use Rattle.running_guarded.specs.GuardedShown.{id_of}
use Rattle.running_guarded.proofs.guarded.Guarded.when_by.Given as goal

abbrev pub invariant-loop : goal.invariant-loop
invariant-loop g l = record {
  stayed : HasStayed l.fn.pass l.pass;
  waited : HasWaitedAtMost l.fn.changed_pass l.changed_pass;
  looked : (waits : ℕ) × Often (LooksOnce g.F.FnMut g.K.FnMut g.W.FnMut (λ seen. object_shown seen ≡ id_of l.self) l.word.shown l.changed None (Some true)) waits (l.fn.pass, l.fn.changed_pass, l.fn.wake_one, l.fn.wait, l.fn.act) (l.pass, l.changed_pass, l.wake, l.asked, l.act);
  callable : always_mut g.F.FnMut l.act;
  wakes : always_mut g.K.FnMut l.wake;
  asks : always_mut g.W.FnMut l.asked;
}
