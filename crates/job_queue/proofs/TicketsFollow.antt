-- Tickets that follow one another still do once a job with the next one stands at their end.
use Rattle.std.proofs.Common.{◌≡◌, ℕ, ◌+◌, List, [], ◌∷◌, ◌++◌, length, ap, arith}
use Rattle.job_queue.specs.Tickets.{tickets_of, tickets_from}

module _ {T : Type 0} where
  pub follow_on : (first : ℕ) (jobs : List (ℕ × T)) (ticket : ℕ) (job : T) →
      tickets_of jobs ≡ tickets_from first (length jobs) → ticket ≡ first + length jobs →
      tickets_of (jobs ++ (ticket, job) ∷ []) ≡ tickets_from first (length (jobs ++ (ticket, job) ∷ []))
  follow_on first [] ticket job follow next = ap (λ n. n ∷ []) (omega (arith, next))
  follow_on first (one ∷ jobs) ticket job follow next =
      let rest = follow_on (first + 1) jobs ticket job (cc follow) (omega (arith, next)) in cc (follow, rest)
