use Rattle.running_rw_reader.proofs.Names.{HoldKind, parties_of, ◌≡◌, true, sym, subst, has_hold, Unlocks}
use Rattle.running_rw_reader.proofs.RwReaderPlays.{is_to_wake, unlock_is_over}
use Rattle.running_model.proofs.Questions.{says_of}
use Rattle.running_rw_reader.proofs.RwLockReaderPreference.unlock_write.Goals as goal

pub wake-woken-requires-clause-wakes : goal.wake-woken-requires-clause-wakes
wake-woken-requires-clause-wakes g c = is_to_wake HoldKind.Write _ _ _ c.word.ensures.index (subst (λ p. has_hold HoldKind.Write (parties_of p) ≡ true) (sym c.begin_held-begun.ensures.still) c.requires.has) c.leave_writing-turn.ensures.played

pub end_aside-requires-clause-over : goal.end_aside-requires-clause-over
end_aside-requires-clause-over g c = unlock_is_over HoldKind.Write _ _ c.requires.has (subst (λ q. Unlocks HoldKind.Write (parties_of c.args.pass.now) (parties_of q)) (sym c.wake-woken.ensures.still) (subst (λ p. Unlocks HoldKind.Write (parties_of p) (parties_of c.leave_writing-turn.result.pass.now)) c.begin_held-begun.ensures.still c.leave_writing-turn.ensures.played))

pub returns-clause-woke : goal.returns-clause-woke
returns-clause-woke g c = record { word = _; of = (c.word.ensures.object, c.word.ensures.index); says = says_of _ g.W.Fn _ _ _ _ (λ a e. (g.met.W.FnMut.1.post_iff _ _ _).1 (_, e)) c.wake-woken.ensures.woke }
