-- What makes tallies add up.
use Rattle.std.specs.Prelude.{◌≡◌}

pub record IsTally {T : Type 0} (none : T) (add : T → T → T) (core : T → T) : Type 0 where
  pub unit : (a : T) → add none a ≡ a
  pub swap : (a b : T) → add a b ≡ add b a
  pub group : (a b c : T) → add (add a b) c ≡ add a (add b c)
  pub copy : (a : T) → add (core a) a ≡ a
