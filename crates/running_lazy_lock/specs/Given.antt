-- What is known of a value by what was kept of the closure that gave it.

module _ {T F : Type 0} where
  -- some closure of which `may` was kept gives it
  pub record IsGiven (may : F → Type 0) (gives : F → T → Type 0) (value : T) : Type 0 where
    pub by : F
    pub may_give : may by
    pub given : gives by value
