use Prim.Native.Nat.{◌+◌, ◌*◌}
use Rattle.running_sharing.proofs.+shares.Given as goal

abbrev pub decreases-in_threads : goal.decreases-in_threads
decreases-in_threads g l = 2 * l.threads

abbrev pub decreases-front : goal.decreases-front
decreases-front g l = 2 * l.few + 1

abbrev pub decreases-back : goal.decreases-back
decreases-back g l = 2 * l.rest + 1
