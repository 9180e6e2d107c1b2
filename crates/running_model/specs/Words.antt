-- The words of an object, by the names that they have in its model.
use Rattle.std.specs.Prelude.{◌≡◌, ℕ, zero, suc, ◌+◌, ◌-◌, ◌%◌, ◌^◌, ◌==◌, false, if◌then◌else◌, List, [], ◌∷◌, Option}
use Rattle.running_model.specs.Names.{Word, Wake, Call, WaitAction, Intent, Act, same_word, nat_tests, eqb-true, eqb-false, arith}

-- each word holds what the memory tells of its name
abbrev pub AllHold : List Word → List ℕ → (Word → ℕ) → Type 0
AllHold [] [] memory = Unit {0}
AllHold (n ∷ ns) (x ∷ xs) memory = (x ≡ memory n) × AllHold ns xs memory
AllHold [] (x ∷ xs) memory = ⊥
AllHold (n ∷ ns) [] memory = ⊥

abbrev pub IsApart : Word → List Word → Type 0
IsApart w [] = Unit {0}
IsApart w (n ∷ ns) = (same_word n w ≡ false) × (same_word w n ≡ false) × IsApart w ns

-- no two have one name
abbrev pub AreApart : List Word → Type 0
AreApart [] = Unit {0}
AreApart (n ∷ ns) = IsApart n ns × AreApart ns

-- the word at this index has this name
abbrev pub IsNamed : List Word → ℕ → Word → Type 0
IsNamed [] i w = ⊥
IsNamed (n ∷ ns) zero w = n ≡ w
IsNamed (n ∷ ns) (suc i) w = IsNamed ns i w

-- the intent is a step on this word
abbrev pub IsStepOn : {V : Type 0} → Word → Intent V → Type 0
IsStepOn w (Intent.Load v) = v ≡ w
IsStepOn w (Intent.Store v put) = v ≡ w
IsStepOn w (Intent.Swap v put) = v ≡ w
IsStepOn w (Intent.Add v more) = v ≡ w
IsStepOn w (Intent.Subtract v less) = v ≡ w
IsStepOn w (Intent.Exchange v from to) = v ≡ w
IsStepOn w other = ⊥

-- the intent is a step on no word: a wake, a closure's end or a read of a cell
abbrev pub IsAside : {V : Type 0} → Intent V → Type 0
IsAside (Intent.Wake who) = Unit {0}
IsAside Intent.End = Unit {0}
IsAside (Intent.ReadCell value) = Unit {0}
IsAside other = ⊥

-- the act is on no word: a call begins, its closure has answered or chosen, or it wakes, ends its closure or reads a cell
abbrev pub IsOnNoWord : {V : Type 0} → Act V → Type 0
IsOnNoWord (Act.Begun call) = Unit {0}
IsOnNoWord (Act.Answered action) = Unit {0}
IsOnNoWord (Act.Chosen choice) = Unit {0}
IsOnNoWord (Act.Woke wake) = Unit {0}
IsOnNoWord Act.Ended = Unit {0}
IsOnNoWord (Act.ReadCell value) = Unit {0}
IsOnNoWord other = ⊥

-- what is so of each of these acts is so of every act on no word
pub on_no_word : {V : Type 0} (Says : Act V → Type 0) → ((call : Call V) → Says (Act.Begun call)) → ((action : WaitAction) → Says (Act.Answered action)) → ((choice : Option V) → Says (Act.Chosen choice)) →
    ((wake : Wake) → Says (Act.Woke wake)) → Says Act.Ended → ((value : V) → Says (Act.ReadCell value)) → (act : Act V) → IsOnNoWord act → Says act
on_no_word Says h1 h2 h3 h4 h5 h6 act h7 = grind (arith, nat_tests, eqb-true, eqb-false)

-- what it leaves in the word
abbrev pub effect : {V : Type 0} → Intent V → ℕ → ℕ
effect (Intent.Store v put) n = put
effect (Intent.Swap v put) n = put
effect (Intent.Add v more) n = (n + more) % 2 ^ 64
effect (Intent.Subtract v less) n = (n + (2 ^ 64 - less)) % 2 ^ 64
effect (Intent.Exchange v from to) n = if n == from then to else n
effect other n = n
