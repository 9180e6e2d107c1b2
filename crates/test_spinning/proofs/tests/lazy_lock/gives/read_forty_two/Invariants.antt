use Rattle.std.proofs.Common.{◌≡◌}
use Rattle.test_spinning.proofs.tests.lazy_lock.gives.read_forty_two.Given as goal

abbrev pub ghosts-read_twice : goal.ghosts-read_twice
ghosts-read_twice g a = record { may = λ _. Unit {0}; gives = λ _ n. n ≡ 42 }
