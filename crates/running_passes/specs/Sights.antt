-- What the calls with a pass saw of the word that decides them.
use Rattle.std.specs.Prelude.{◌≡◌, true, ◌⊎◌, ℕ, ◌+◌, ◌≤◌, Bool, true, false, ◌==◌, ◌&&◌, if◌then◌else◌}
use Rattle.running_passes.specs.declared.part.Sights.{Sights}

abbrev pub sights : ℕ → ℕ → Bool → Bool → Sights
sights count last fresh missed = record { count = count; last = last; fresh = fresh; missed = missed }

-- nothing was seen
abbrev pub unseen : Sights
unseen = sights 0 0 false false

-- one more sight, of n
abbrev pub seen : Sights → ℕ → Sights
seen s n = sights (s.count + 1) n true false

-- one more sight, of n, by an exchange from another value, which failed; `missed` tells that the word had just been seen to be that
abbrev pub seen_instead : Sights → ℕ → ℕ → Sights
seen_instead s from n = sights (s.count + 1) n true (s.fresh && (s.last == from))

-- what was seen before a write of one's own
abbrev pub stale : Sights → Sights
stale s = sights s.count s.last false s.missed

-- what the second part of a pass knows, which counts nothing of what the first counts
abbrev pub known : Sights → Sights
known s = sights 0 s.last false s.missed

-- what two passes saw together: both counts, and what the first saw last, if it counts any
abbrev pub seen_by_both : Sights → Sights → Sights
seen_by_both s t = sights (s.count + t.count) (if s.count == 0 then t.last else s.last) false (if s.count == 0 then t.missed else s.missed)

-- nothing was written: more was seen, or nothing
pub record HasOnlyRead (before after : Sights) : Type 0 where
  pub more : before.count ≤ after.count
  pub still : after.count ≡ before.count → after ≡ before

-- the last that was done is a write: more was seen before it, or nothing
pub record HasWritten (before after : Sights) : Type 0 where
  pub more : before.count ≤ after.count
  pub not_fresh : after.fresh ≡ false
  pub still : after.count ≡ before.count → after ≡ stale before

-- the word was seen once; or its last sight is an exchange that failed since another party had written in between
abbrev pub LooksOnceOrMisses : Sights → Sights → Type 0
LooksOnceOrMisses before after = (after.count ≡ before.count + 1) ⊎ (after.missed ≡ true)

-- at least n more sights were counted, and the last of them is of a value that refuses
pub record HasLooked (IsRefusing : ℕ → Type 0) (n : ℕ) (before after : Sights) : Type 0 where
  pub more : before.count + n ≤ after.count
  pub refusing : IsRefusing after.last
