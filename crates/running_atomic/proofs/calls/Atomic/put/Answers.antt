use Rattle.running_atomic.proofs.AtomicPlays.{may_put_low, puts_low, may_put_high, at_put_high, puts_high, may_leave, has_put}
use Rattle.running_atomic.proofs.calls.Atomic.put.Goals as goal

pub store_low-stored-requires-clause-may : goal.store_low-stored-requires-clause-may
store_low-stored-requires-clause-may g c κs within = may_put_low _ _ _ _ _ _ _ c.to_words-low.ensures.low c.requires.may

pub end_store-acted-requires-clause-may : goal.end_store-acted-requires-clause-may
end_store-acted-requires-clause-may g c κs within = may_put_high _ _ _ _ _ _ _ _ c.to_words-low.ensures.high c.requires.may (puts_low _ _ _ _ _ _ _ c.to_words-low.ensures.low c.store_low-stored.ensures.went)

pub end_store-acted-requires-clause-puts : goal.end_store-acted-requires-clause-puts
end_store-acted-requires-clause-puts g c κs within = at_put_high _ _ _ _ _ _ _ _ c.to_words-low.ensures.high c.requires.may (puts_low _ _ _ _ _ _ _ c.to_words-low.ensures.low c.store_low-stored.ensures.went)

pub leave_write-requires-clause-may : goal.leave_write-requires-clause-may
leave_write-requires-clause-may g c κs within = let may = c.requires.may in
    may_leave _ _ _ may.0 may.1 _ (puts_high _ _ _ _ _ _ _ _ (puts_low _ _ _ _ _ _ _ c.to_words-low.ensures.low c.store_low-stored.ensures.went) c.end_store-acted.ensures.went _ may.0 may.1 may.2)

pub returns-clause-put : goal.returns-clause-put
returns-clause-put g c = has_put _ _ _ _ _ _ _ (puts_high _ _ _ _ _ _ _ _ (puts_low _ _ _ _ _ _ _ c.to_words-low.ensures.low c.store_low-stored.ensures.went) c.end_store-acted.ensures.went) c.leave_write.ensures.went
