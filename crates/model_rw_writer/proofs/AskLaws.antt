-- No call of a writer-preferring lock spins more than 10000 times.
use Rattle.model_rw_writer.proofs.Names.{◌≡◌, ℕ, ◌≤◌, sym, subst, true, false, List, [], ◌∷◌, Option, arith, spins_no_more, last_try_bounded, both_kept, eqb-true, eqb-false, nat_tests, Call, Event, HoldKind, Arithmetic, PendingCall, IsPast, SpinsNoMore, Leaver, RwWriterPlace, rw_writer_table, write_spins_in, spins_on}
use Rattle.model_rw_writer.proofs.PlaceLaws.{AtRwWriter, IsLeaver, rw_writer_kept}
use Rattle.model_rw_writer.proofs.SpinLaws.{GivesUp, Leaves, HasSpunAt, spun_kept}

-- No call spins more often.

-- of the latest event it is not told yet whether it is a spin
settled_fewer : {T : Type 0} (own : List (Event T)) (most : ℕ) → write_spins_in false own ≤ most → write_spins_in true own ≤ most
settled_fewer [] most bounded = bounded
settled_fewer (e ∷ own) most bounded = omega (arith, bounded)

-- of a writer that tries
tries_bounded : {T : Type 0} (c : PendingCall T) → c.call ≡ Call.WriteLock → write_spins_in true c.own ≤ 10000 → spins_on c.call c.own ≤ 10000
tries_bounded {T} c write bounded = subst (λ (k : Call T). spins_on k c.own ≤ 10000) (sym write) (last_try_bounded c.own (write_spins_in true c.own) bounded)

-- of one that gives up
gives_up_bounded : {T : Type 0} (c : PendingCall T) → c.call ≡ Call.WriteLock → GivesUp c.own → spins_on c.call c.own ≤ 10000
gives_up_bounded c h1 h2 = grind (arith, nat_tests, eqb-true, eqb-false, settled_fewer)

leaver_bounded : {T : Type 0} (who : Leaver) (c : PendingCall T) → IsLeaver who c → Leaves who c.own → spins_on c.call c.own ≤ 10000
leaver_bounded who c h1 h2 = grind (arith, nat_tests, eqb-true, eqb-false, gives_up_bounded)

spins_bounded : {T : Type 0} (place : RwWriterPlace) (c : PendingCall T) (hold : Option HoldKind) → AtRwWriter place c hold × HasSpunAt place c hold → spins_on c.call c.own ≤ 10000
spins_bounded place c hold h1 = grind (arith, nat_tests, eqb-true, eqb-false, tries_bounded, settled_fewer, gives_up_bounded, leaver_bounded)

pub spins_at_most : {T : Type 0} (z : Arithmetic T) (parties : ℕ) (past : List (Event T)) → IsPast z rw_writer_table parties past → SpinsNoMore spins_on past
spins_at_most z parties past run =
    spins_no_more z rw_writer_table parties (λ place c hold. AtRwWriter place c hold × HasSpunAt place c hold) spins_on (both_kept rw_writer_table AtRwWriter HasSpunAt rw_writer_kept spun_kept) spins_bounded past run
