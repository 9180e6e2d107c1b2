-- Lines and words cut from the front, and numbers read digit by digit, are those of the definitions.
use Rattle.text_lines.proofs.Names.{◌≡◌, ◌≢◌, ℕ, suc, ◌+◌, ◌*◌, ◌-◌, ◌<◌, ◌≤◌, Bool, true, false, ◌&&◌, ◌==◌, eqb, ltb, cond, not, List, [], ◌∷◌, ◌++◌, length, get_or, take, drop, Option, Some, None, refl, sym, ap, ◌∙◌, arith, add-one, drop-cons, le-ltb, eqb-true, eqb-false, nat_tests, is_ascii_digit, lines_of, onto_line, cut_line, words_of, is_blank, onto_word, before_bytes, number_from, fitting}
use Rattle.std.proofs.lemmas.List.{take_all, length-drop}
use Rattle.std.specs.List.{position, position_or_len}

-- Before the first element that passes, and from it on.

abbrev pub before : {A : Type 0} → (A → Bool) → List A → List A
before p [] = []
before p (x ∷ xs) = cond (p x) [] (x ∷ before p xs)

abbrev pub from : {A : Type 0} → (A → Bool) → List A → List A
from p [] = []
from p (x ∷ xs) = cond (p x) (x ∷ xs) (from p xs)

before_step : {A : Type 0} (b : Bool) (x : A) (xs : List A) (n : ℕ) (ys : List A) → take n xs ≡ ys → take (cond (not b) (1 + n) 0) (x ∷ xs) ≡ cond b [] (x ∷ ys)
before_step b x xs n ys h1 = grind (arith, nat_tests, eqb-true, eqb-false)

before_is : {A : Type 0} (p : A → Bool) (xs : List A) → take (position_or_len p xs) xs ≡ before p xs
before_is p [] = refl
before_is p (x ∷ xs) = before_step (p x) x xs (position_or_len p xs) (before p xs) (before_is p xs)

from_step : {A : Type 0} (b : Bool) (x : A) (xs : List A) (n : ℕ) (ys : List A) → drop n xs ≡ ys → drop (cond (not b) (1 + n) 0) (x ∷ xs) ≡ cond b (x ∷ xs) ys
from_step b x xs n ys h1 = grind (arith, nat_tests, eqb-true, eqb-false)

from_is : {A : Type 0} (p : A → Bool) (xs : List A) → drop (position_or_len p xs) xs ≡ from p xs
from_is p [] = refl
from_is p (x ∷ xs) = from_step (p x) x xs (position_or_len p xs) (from p xs) (from_is p xs)

chosen_none : (b : Bool) (n : ℕ) → cond b (Some n) None ≡ None → b ≡ false
chosen_none b n h1 = grind (arith, nat_tests, eqb-true, eqb-false)

-- where the place of the first is known
pub record CutsAt {A : Type 0} (p : A → Bool) (xs : List A) (i : ℕ) : Type 0 where
  pub front : take i xs ≡ before p xs
  pub back : drop i xs ≡ from p xs
  pub within : i < length xs

pub cut_at : {A : Type 0} (p : A → Bool) (xs : List A) (i : ℕ) → Some i ≡ position p xs → CutsAt p xs i
cut_at p xs i h1 = grind (arith, nat_tests, eqb-true, eqb-false, ltb, length, before_is, from_is)

-- where there is none
all_step : {A : Type 0} (b : Bool) (x : A) (xs front back : List A) (n : ℕ) → suc (length xs) ≤ cond (not b) (1 + n) 0 → (length xs ≤ n → (front ≡ xs) × (back ≡ []))
    → (cond b [] (x ∷ front) ≡ x ∷ xs) × (cond b (x ∷ xs) back ≡ [])
all_step b x xs front back n h1 h2 = grind (arith, nat_tests, eqb-true, eqb-false)

all_before : {A : Type 0} (p : A → Bool) (xs : List A) → length xs ≤ position_or_len p xs → (before p xs ≡ xs) × (from p xs ≡ [])
all_before p [] h = (refl, refl)
all_before p (x ∷ xs) h = all_step (p x) x xs (before p xs) (from p xs) (position_or_len p xs) h (all_before p xs)

pub uncut : {A : Type 0} (p : A → Bool) (xs : List A) → None ≡ position p xs → (before p xs ≡ xs) × (from p xs ≡ [])
uncut p xs e = all_before p xs (let g = chosen_none (ltb (position_or_len p xs) (length xs)) (position_or_len p xs) (sym e) in grind (arith, g))

head_step : {A : Type 0} (p : A → Bool) (b : Bool) (x : A) (xs rest : List A) (y : A) (ys : List A) → p x ≡ b → (rest ≡ y ∷ ys → p y ≡ true) → cond b (x ∷ xs) rest ≡ y ∷ ys → p y ≡ true
head_step p b x xs rest y ys h1 h2 h3 = grind (arith, nat_tests, eqb-true, eqb-false)

-- what stands first from there on passes
pub from_head : {A : Type 0} (p : A → Bool) (xs : List A) (y : A) (ys : List A) → from p xs ≡ y ∷ ys → p y ≡ true
from_head p [] y ys e = absurd cc
from_head p (x ∷ xs) y ys e = head_step p (p x) x xs (from p xs) y ys refl (from_head p xs y ys) e

-- what is left behind a place
pub rest_is : (xs : List ℕ) (i : ℕ) → take (length xs - i) (drop i xs) ≡ drop i xs
rest_is xs i = take_all (length xs - i) (drop i xs) (omega (arith, length-drop i xs))

-- Lines.

abbrev pub is_feed : ℕ → Bool
is_feed byte = eqb byte 10

from_tail : (b : Bool) (x : ℕ) (xs rest : List ℕ) → cond b (x ∷ xs) rest ≡ [] → rest ≡ []
from_tail b x xs rest h1 = grind (arith, nat_tests, eqb-true, eqb-false)

from_first : (b : Bool) (x : ℕ) (xs rest : List ℕ) → cond b (x ∷ xs) rest ≡ [] → b ≡ false
from_first b x xs rest h1 = grind (arith, nat_tests, eqb-true, eqb-false)

last_step : (feed ret start : Bool) (byte : ℕ) (bytes rest : List ℕ) (lines : List (List ℕ)) (front : List ℕ) → cond feed (byte ∷ bytes) rest ≡ [] → start ≡ false
    → onto_line byte lines ≡ (byte ∷ front) ∷ [] → cond feed ([] ∷ lines) (cond (ret && start) lines (onto_line byte lines)) ≡ cond feed [] (byte ∷ front) ∷ []
last_step feed ret start byte bytes rest lines front h1 h2 h3 = grind (arith, nat_tests, eqb-true, eqb-false)

-- a text without a line feed is one line
pub one_line : (text : List ℕ) → text ≢ [] → from is_feed text ≡ [] → lines_of text ≡ before is_feed text ∷ []
one_line [] h e = absurd (h refl)
one_line (byte ∷ []) h e = last_step (eqb byte 10) (eqb byte 13) false byte [] [] [] [] e refl refl
one_line (byte ∷ next ∷ more) h e =
    let tail = from_tail (eqb byte 10) byte (next ∷ more) (from is_feed (next ∷ more)) e in
    let start = from_first (eqb next 10) next more (from is_feed more) tail in
    let known = one_line (next ∷ more) (λ k. absurd cc) tail in
    last_step (eqb byte 10) (eqb byte 13) (eqb next 10) byte (next ∷ more) (from is_feed (next ∷ more)) (lines_of (next ∷ more)) (before is_feed (next ∷ more)) e start (ap (onto_line byte) known)

ret_step : (ret start : Bool) (byte next : ℕ) (front : List ℕ) (lines after : List (List ℕ)) → eqb byte 13 ≡ ret → lines ≡ cut_line (cond start [] (next ∷ front)) ∷ after
    → cond (ret && start) lines (onto_line byte lines) ≡ cut_line (byte ∷ cond start [] (next ∷ front)) ∷ after
ret_step ret start byte next front lines after h1 h2 = grind (arith, nat_tests, eqb-true, eqb-false)

feed_step : (feed : Bool) (byte f : ℕ) (bytes rest tail front : List ℕ) (inner : List (List ℕ)) → cond feed (byte ∷ bytes) tail ≡ f ∷ rest
    → (tail ≡ f ∷ rest → inner ≡ cut_line (byte ∷ front) ∷ lines_of rest)
    → cond feed ([] ∷ lines_of bytes) inner ≡ cut_line (cond feed [] (byte ∷ front)) ∷ lines_of rest
feed_step feed byte f bytes rest tail front inner h1 h2 = grind (arith, nat_tests, eqb-true, eqb-false)

-- up to the first line feed stands the first line
pub first_line : (text : List ℕ) (f : ℕ) (rest : List ℕ) → from is_feed text ≡ f ∷ rest → lines_of text ≡ cut_line (before is_feed text) ∷ lines_of rest
first_line [] f rest e = absurd cc
first_line (byte ∷ []) f rest e =
    feed_step (eqb byte 10) byte f [] rest [] [] (cond (eqb byte 13 && false) [] ((byte ∷ []) ∷ [])) e (λ k. absurd cc)
first_line (byte ∷ next ∷ more) f rest e =
    feed_step (eqb byte 10) byte f (next ∷ more) rest (from is_feed (next ∷ more)) (before is_feed (next ∷ more)) (cond (eqb byte 13 && eqb next 10) (lines_of (next ∷ more)) (onto_line byte (lines_of (next ∷ more)))) e
    (λ k. ret_step (eqb byte 13) (eqb next 10) byte next (before is_feed more) (lines_of (next ∷ more)) (lines_of rest) refl (first_line (next ∷ more) f rest k))

pub next_from : (xs : List ℕ) (i : ℕ) → i < length xs → drop i xs ≡ get_or xs i 0 ∷ drop (i + 1) xs
next_from xs i h = rw (add-one, drop-cons xs i 0) refl

cut_more : (byte last : ℕ) (front : List ℕ) → cut_line (byte ∷ front ++ (last ∷ [])) ≡ byte ∷ cut_line (front ++ (last ∷ []))
cut_more byte last [] = refl
cut_more byte last (next ∷ front) = refl

under_cond : (b : Bool) (byte : ℕ) (x y : List ℕ) → byte ∷ cond b x y ≡ cond b (byte ∷ x) (byte ∷ y)
under_cond b byte x y = grind (arith, nat_tests, eqb-true, eqb-false)

-- a carriage return at the end is cut off, and any other byte stays
pub cut_last : (front : List ℕ) (last : ℕ) → cut_line (front ++ (last ∷ [])) ≡ cond (eqb last 13) front (front ++ (last ∷ []))
cut_last [] last = refl
cut_last (byte ∷ front) last = cut_more byte last front ∙ ap (λ (l : List ℕ). byte ∷ l) (cut_last front last) ∙ under_cond (eqb last 13) byte front (front ++ (last ∷ []))

pub text_cut : (text line : List ℕ) (i : ℕ) → Some i ≡ position is_feed text → line ≡ cut_line (take i text) → lines_of text ≡ line ∷ lines_of (take (length text - (i + 1)) (drop (i + 1) text))
text_cut text line i e h =
    let cut = cut_at is_feed text i e in
    let within = cut.within in
    let whole = first_line text (get_or text i 0) (drop (i + 1) text) (sym cut.back ∙ next_from text i within) in
    rw (h, cut.front, rest_is text (i + 1)) whole

pub text_whole : (text : List ℕ) → (length text == 0) ≡ false → None ≡ position is_feed text → lines_of text ≡ text ∷ []
text_whole [] h e = absurd cc
text_whole (byte ∷ bytes) h e =
    let none = uncut is_feed (byte ∷ bytes) e in
    one_line (byte ∷ bytes) (λ k. absurd cc) none.1 ∙ ap (λ (line : List ℕ). line ∷ []) none.0

pub return_cut : (line front : List ℕ) (last : ℕ) → line ≡ front ++ (last ∷ []) → last ≡ 13 → front ≡ cut_line line
return_cut line front last e h = rw (e, h, cut_last front 13) refl

pub return_kept : (line front : List ℕ) (last : ℕ) → line ≡ front ++ (last ∷ []) → eqb last 13 ≡ false → line ≡ cut_line line
return_kept line front last e h = rw e (sym (rw (cut_last front last, h) refl))

-- Words.

blanks_step : (b : Bool) (byte : ℕ) (bytes rest : List ℕ) → is_blank byte ≡ b → words_of bytes ≡ words_of rest
    → cond b (words_of bytes) (before_bytes byte bytes (words_of bytes)) ≡ words_of (cond (not b) (byte ∷ bytes) rest)
blanks_step b byte bytes rest h1 h2 = grind (arith, nat_tests, eqb-true, eqb-false)

pub skip_blanks : (line : List ℕ) → words_of line ≡ words_of (from (λ byte. not (is_blank byte)) line)
skip_blanks [] = refl
skip_blanks (byte ∷ bytes) = blanks_step (is_blank byte) byte bytes (from (λ byte. not (is_blank byte)) bytes) refl (skip_blanks bytes)

word_step : (b : Bool) (byte next : ℕ) (more front rest : List ℕ) (words : List (List ℕ)) → (b ≡ false → words ≡ (next ∷ front) ∷ words_of rest) → words_of (next ∷ more) ≡ words
    → cond b ((byte ∷ []) ∷ words) (onto_word byte words) ≡ (byte ∷ cond b [] (next ∷ front)) ∷ words_of (cond b (next ∷ more) rest)
word_step b byte next more front rest words h1 h2 = grind (arith, nat_tests, eqb-true, eqb-false)

-- up to the first blank stands the first word
pub first_word : (byte : ℕ) (bytes : List ℕ) → is_blank byte ≡ false → words_of (byte ∷ bytes) ≡ (byte ∷ before is_blank bytes) ∷ words_of (from is_blank bytes)
first_word byte [] h = rw h refl
first_word byte (next ∷ more) h = rw h (word_step (is_blank next) byte next more (before is_blank more) (from is_blank more) (words_of (next ∷ more)) (first_word next more) refl)

pub no_word : (line : List ℕ) → None ≡ position (λ byte. not (is_blank byte)) line → words_of line ≡ []
no_word line e = let none = uncut (λ byte. not (is_blank byte)) line e in skip_blanks line ∙ ap words_of none.1

not_true : (b : Bool) → not b ≡ true → b ≡ false
not_true b h1 = grind (arith, nat_tests, eqb-true, eqb-false)

-- bytes that begin with no blank
known_word : (words : List ℕ) → ((byte : ℕ) (bytes : List ℕ) → words ≡ byte ∷ bytes → not (is_blank byte) ≡ true) → 0 < length words → words_of words ≡ before is_blank words ∷ words_of (from is_blank words)
known_word [] h k = absurd (omega arith)
known_word (byte ∷ bytes) h k = let dark : is_blank byte ≡ false = not_true (is_blank byte) (h byte bytes refl) in rw (first_word byte bytes dark, dark) refl

words_at : (line : List ℕ) (i : ℕ) → Some i ≡ position (λ byte. not (is_blank byte)) line → let words = drop i line in words_of line ≡ before is_blank words ∷ words_of (from is_blank words)
words_at line i e =
    let cut = cut_at (λ byte. not (is_blank byte)) line i e in
    skip_blanks line ∙ ap words_of (sym cut.back) ∙ known_word (drop i line) (λ byte bytes k. from_head (λ b. not (is_blank b)) line byte bytes (sym cut.back ∙ k)) (let inside = cut.within in omega (arith, length-drop i line))

pub word_and_rest : (line words : List ℕ) (i j : ℕ) → words ≡ drop i line → Some i ≡ position (λ byte. not (is_blank byte)) line → Some j ≡ position is_blank words → words_of line ≡ take j words ∷ words_of (take (length words - j) (drop j words))
word_and_rest line words i j same e f =
    let cut = cut_at is_blank words j f in
    rw (rest_is words j, cut.front, cut.back, same) (words_at line i e)

pub word_alone : (line words : List ℕ) (i : ℕ) → words ≡ drop i line → Some i ≡ position (λ byte. not (is_blank byte)) line → None ≡ position is_blank words → words_of line ≡ words ∷ []
word_alone line words i same e f =
    let none = uncut is_blank words f in
    let whole : words_of line ≡ before is_blank words ∷ words_of (from is_blank words) = rw same (words_at line i e) in
    whole ∙ rw (none.0, none.1) refl

-- Numbers.

unless_digit : (bound : ℕ) (b : Bool) (read : Option ℕ) → fitting bound read ≡ None → fitting bound (cond b read None) ≡ None
unless_digit bound b read h1 = grind (arith, nat_tests, eqb-true, eqb-false)

-- digits only make a number larger
too_large : (bound n : ℕ) (bytes : List ℕ) → bound ≤ n → fitting bound (number_from n bytes) ≡ None
too_large bound n [] h = rw (le-ltb n bound h) refl
too_large bound n (byte ∷ bytes) h = unless_digit bound (is_ascii_digit byte) (number_from (n * 10 + (byte - 48)) bytes) (too_large bound (n * 10 + (byte - 48)) bytes (omega (arith, h)))

-- the number with one digit more is too large
pub digit_too_large : (bound n i : ℕ) (word : List ℕ) (read : Option ℕ) → i < length word → bound ≤ n * 10 + (get_or word i 0 - 48) → fitting bound (number_from n (drop i word)) ≡ read → read ≡ None
digit_too_large bound n i word read h1 h2 h3 = grind (arith, nat_tests, eqb-true, eqb-false, drop, get_or, add-one, drop-cons, unless_digit, too_large)
