-- What is known of the history, and which places of it are own acts.
use Rattle.std.specs.Prelude.{◌≡◌, ℕ, Bool, List, [], ◌∷◌, Some, None}
use Rattle.running_atomic.specs.Names.{Held, Free, TellsSame, both_held, both_counts, counts_swap, counts_group, refl, zero, suc, IsTally, held_adds_up, Content, AtomicAct, Place, Heard, AtomicTally, arith, nat_tests, eqb-true, eqb-false}
use Rattle.running_atomic.specs.Alike.{Tells, same_by, told_by, number_at}
use Rattle.running_atomic.specs.Agree.{merge, merge_idem, merge_comm, merge_assoc}

abbrev pub content : ℕ → ℕ → Content
content low high = record { low = low; high = high }

-- two words, as numbers before others
abbrev words_of : Content → List ℕ → List ℕ
words_of x ns = x.low ∷ x.high ∷ ns

abbrev content_at : List ℕ → ℕ → Content
content_at ns i = content (number_at ns i) (number_at ns (suc i))

abbrev pub content_numbers : Content → List ℕ
content_numbers x = words_of x []

abbrev pub same_content : Content → Content → Bool
same_content = same_by content_numbers

pub tells_same_content : TellsSame same_content
tells_same_content = grind (arith, nat_tests, eqb-true, eqb-false)

-- an act as numbers: which it is, and what it was handed
abbrev pub act_numbers : AtomicAct → List ℕ
act_numbers AtomicAct.Load = 0 ∷ []
act_numbers (AtomicAct.Store x) = 1 ∷ words_of x []
act_numbers (AtomicAct.Swap x) = 2 ∷ words_of x []
act_numbers (AtomicAct.CompareExchange x y) = 3 ∷ words_of x (words_of y [])
act_numbers (AtomicAct.CompareExchangeWeak x y) = 4 ∷ words_of x (words_of y [])
act_numbers (AtomicAct.FetchAdd x) = 5 ∷ words_of x []
act_numbers (AtomicAct.FetchSub x) = 6 ∷ words_of x []
act_numbers (AtomicAct.FetchAnd x) = 7 ∷ words_of x []
act_numbers (AtomicAct.FetchOr x) = 8 ∷ words_of x []
act_numbers (AtomicAct.FetchXor x) = 9 ∷ words_of x []
act_numbers (AtomicAct.FetchNand x) = 10 ∷ words_of x []
act_numbers (AtomicAct.FetchMax x) = 11 ∷ words_of x []
act_numbers (AtomicAct.FetchMin x) = 12 ∷ words_of x []
act_numbers (AtomicAct.FetchUpdate None) = 13 ∷ []
act_numbers (AtomicAct.FetchUpdate (Some x)) = 14 ∷ words_of x []

-- the act in this place
abbrev pick : ℕ → List AtomicAct → AtomicAct
pick n [] = AtomicAct.Load
pick zero (a ∷ others) = a
pick (suc n) (a ∷ others) = pick n others

abbrev act_by : ℕ → Content → Content → AtomicAct
act_by which x y =
    pick which (
    AtomicAct.Load ∷ AtomicAct.Store x ∷ AtomicAct.Swap x ∷ AtomicAct.CompareExchange x y ∷ AtomicAct.CompareExchangeWeak x y ∷ AtomicAct.FetchAdd x ∷ AtomicAct.FetchSub x ∷ AtomicAct.FetchAnd x ∷ AtomicAct.FetchOr x ∷ AtomicAct.FetchXor x ∷ AtomicAct.FetchNand x
    ∷ AtomicAct.FetchMax x ∷ AtomicAct.FetchMin x ∷ AtomicAct.FetchUpdate None ∷ AtomicAct.FetchUpdate (Some x) ∷ [])

abbrev read_back : List ℕ → AtomicAct
read_back ns = act_by (number_at ns 0) (content_at ns 1) (content_at ns 3)

reads_back : (a : AtomicAct) → read_back (act_numbers a) ≡ a
reads_back a = grind (arith, nat_tests, eqb-true, eqb-false)

abbrev pub same_act : AtomicAct → AtomicAct → Bool
same_act = same_by act_numbers

pub acts_tell : Tells same_act
acts_tell = told_by act_numbers read_back reads_back

abbrev pub heard : List (Place AtomicAct) → List ℕ → Heard
heard seen own = record { seen = seen; own = own }

abbrev pub both_heard : Heard → Heard → Heard
both_heard a b = heard (merge same_act a.seen b.seen) (both_counts a.own b.own)

-- what a copy keeps: what was seen, and no act of its own
abbrev pub seen_of : Heard → Heard
seen_of a = heard a.seen []

abbrev pub heard_adds_up : IsTally (heard [] []) both_heard seen_of
heard_adds_up = record {
  unit = λ a. refl;
  swap = λ a b. λ i. heard (merge_comm same_act acts_tell a.seen b.seen i) (counts_swap a.own b.own i);
  group = λ a b c. λ i. heard (merge_assoc same_act acts_tell a.seen b.seen c.seen i) (counts_group a.own b.own c.own i);
  copy = λ a. λ i. heard (merge_idem same_act acts_tell a.seen i) a.own;
}

-- with the hold of the lock inside

abbrev pub atomic_tally : Held Content → Heard → AtomicTally
atomic_tally hold heard = record { hold = hold; heard = heard }

abbrev pub no_acts : AtomicTally
no_acts = atomic_tally Free (heard [] [])

abbrev pub both_tallies : AtomicTally → AtomicTally → AtomicTally
both_tallies a b = atomic_tally (both_held same_content a.hold b.hold) (both_heard a.heard b.heard)

-- what a copy keeps: what was seen
abbrev pub known_tally : AtomicTally → AtomicTally
known_tally a = atomic_tally Free (seen_of a.heard)

pub tallies_add_up : IsTally no_acts both_tallies known_tally
tallies_add_up = let held = held_adds_up same_content tells_same_content in record {
  unit = λ a. refl;
  swap = λ a b. λ i. atomic_tally (held.swap a.hold b.hold i) (heard_adds_up.swap a.heard b.heard i);
  group = λ a b c. λ i. atomic_tally (held.group a.hold b.hold c.hold i) (heard_adds_up.group a.heard b.heard c.heard i);
  copy = λ a. λ i. atomic_tally a.hold (heard_adds_up.copy a.heard i);
}
