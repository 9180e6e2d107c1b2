-- Text, openings and markup stay what they are when more is written.
use Rattle.draw_markup.proofs.Names.{◌≡◌, ◌+◌, ◌<◌, ◌≤◌, ℕ, Bool, true, false, if◌then◌else◌, List, [], ◌∷◌, ◌++◌, length, take, get_or, refl, sym, ap, subst, ◌∙◌, append_assoc, arith, append-nil, take_all, take_more, map-append, encode_ascii, codes, flat_map, titles_of, shown, tag_words, key_words, Attribute, Tree, Nothing, Character, Element, Group, attribute_bytes, opening_bytes, closing_bytes, written, group_titles, IsWords, IsOpening, IsMarkup, IsElement}
use Rattle.std.proofs.Math.Logic.{∥∥₁_map, ∥∥₁_map₂}
use Rattle.std.proofs.lemmas.List.Concat.{flat_map-append}
use Rattle.std.specs.Str.{chars, encode_utf8_all}
use Rattle.draw_markup.specs.declared.group.Group.{Group as Gr}
use Rattle.draw_markup.specs.declared.name.Tag.{Tag}
use Rattle.draw_markup.specs.declared.name.Key.{Key}

-- Text.

pub words_same : (bytes bytes' : List ℕ) → ∥ IsWords bytes ∥₁ → bytes' ≡ bytes → ∥ IsWords bytes' ∥₁
words_same bytes bytes' h e = ∥∥₁_map h (λ w. (w.0, e ∙ w.1))

pub words_of : (bytes bytes' chars : List ℕ) → bytes ≡ [] → bytes' ≡ bytes ++ flat_map shown chars → ∥ IsWords bytes' ∥₁
words_of bytes bytes' chars none e = ∣ (chars, e ∙ ap (λ (l : List ℕ). l ++ flat_map shown chars) none) ∣₁

-- Markup.

-- one after the other
pub join : Tree → Tree → Tree
join Nothing more = more
join (Character char rest) more = Character char (join rest more)
join (Element tag attributes inside rest) more = Element tag attributes inside (join rest more)
join (Group title inside rest) more = Group title inside (join rest more)

written_both : (tree more : Tree) → written (join tree more) ≡ written tree ++ written more
unfolding join
written_both Nothing more = refl
written_both (Character char rest) more = ap (λ (l : List ℕ). shown char ++ l) (written_both rest more) ∙ sym (append_assoc (shown char) (written rest) (written more))
written_both (Element tag attributes inside rest) more =
    let whole = opening_bytes tag attributes ++ (codes ">" ++ (written inside ++ closing_bytes tag)) in
    ap (λ (l : List ℕ). whole ++ l) (written_both rest more) ∙ sym (append_assoc whole (written rest) (written more))
written_both (Group title inside rest) more =
    let whole = codes "<g><title>" ++ (flat_map shown title ++ (codes "</title>" ++ (written inside ++ codes "</g>"))) in
    ap (λ (l : List ℕ). whole ++ l) (written_both rest more) ∙ sym (append_assoc whole (written rest) (written more))

titles_both : (tree more : Tree) → group_titles (join tree more) ≡ group_titles tree ++ group_titles more
unfolding join
titles_both Nothing more = refl
titles_both (Character char rest) more = titles_both rest more
titles_both (Element tag attributes inside rest) more =
    ap (λ (l : List (List ℕ)). group_titles inside ++ l) (titles_both rest more) ∙ sym (append_assoc (group_titles inside) (group_titles rest) (group_titles more))
titles_both (Group title inside rest) more =
    ap (λ (l : List (List ℕ)). encode_utf8_all title ∷ (group_titles inside ++ l)) (titles_both rest more)
    ∙ ap (λ (l : List (List ℕ)). encode_utf8_all title ∷ l) (sym (append_assoc (group_titles inside) (group_titles rest) (group_titles more)))

pub of_words : List ℕ → Tree
of_words [] = Nothing
of_words (char ∷ chars) = Character char (of_words chars)

written_words : (chars : List ℕ) → written (of_words chars) ≡ flat_map shown chars
unfolding of_words
written_words [] = refl
written_words (char ∷ chars) = ap (λ (l : List ℕ). shown char ++ l) (written_words chars)

titles_words : (chars : List ℕ) → group_titles (of_words chars) ≡ []
unfolding of_words
titles_words [] = refl
titles_words (char ∷ chars) = titles_words chars

pub markup_none : (bytes : List ℕ) → bytes ≡ [] → ∥ IsMarkup [] bytes ∥₁
markup_none bytes e = ∣ (Nothing, e, refl) ∣₁

pub markup_same : (titles : List (List ℕ)) (bytes bytes' : List ℕ) → ∥ IsMarkup titles bytes ∥₁ → bytes' ≡ bytes → ∥ IsMarkup titles bytes' ∥₁
markup_same titles bytes bytes' h e = ∥∥₁_map h (λ m. (m.0, e ∙ m.1, m.2))

pub markup_both : (titles others : List (List ℕ)) (bytes more bytes' : List ℕ) → ∥ IsMarkup titles bytes ∥₁ → ∥ IsMarkup others more ∥₁ → bytes' ≡ bytes ++ more → ∥ IsMarkup (titles ++ others) bytes' ∥₁
markup_both titles others bytes more bytes' h k e =
    ∥∥₁_map₂ h k (λ m n. (
      join m.0 n.0,
      e ∙ ap (λ (l : List ℕ). l ++ more) m.1 ∙ ap (λ (l : List ℕ). written m.0 ++ l) n.1 ∙ sym (written_both m.0 n.0),
      titles_both m.0 n.0 ∙ ap (λ (l : List (List ℕ)). l ++ group_titles n.0) m.2 ∙ ap (λ (l : List (List ℕ)). titles ++ l) n.2,
    ))

-- markup more, where there was memory for it
pub markup_tried : (ok : Bool) (bytes more bytes' : List ℕ) → ∥ IsMarkup [] bytes ∥₁ → ∥ IsMarkup [] more ∥₁ → bytes' ≡ (if ok then bytes ++ more else bytes) → ∥ IsMarkup [] bytes' ∥₁
markup_tried false bytes more bytes' h k e = markup_same [] bytes bytes' h e
markup_tried true bytes more bytes' h k e = markup_both [] [] bytes more bytes' h k e

pub markup_of_words : (bytes : List ℕ) → ∥ IsWords bytes ∥₁ → ∥ IsMarkup [] bytes ∥₁
markup_of_words bytes h = ∥∥₁_map h (λ w. (of_words w.0, w.1 ∙ sym (written_words w.0), titles_words w.0))

-- Groups.

-- a group and the end of its line
group_line : List ℕ → List ℕ → List ℕ
group_line chars inside = codes "<g><title>" ++ (flat_map shown chars ++ (codes "</title>" ++ (inside ++ (codes "</g>" ++ shown 10))))

line_joined : (chars inside : List ℕ) → group_line chars inside ≡ (codes "<g><title>" ++ (flat_map shown chars ++ (codes "</title>" ++ (inside ++ codes "</g>")))) ++ shown 10
unfolding group_line
line_joined chars inside = sym (five (codes "<g><title>") (flat_map shown chars) (codes "</title>") inside (codes "</g>") (shown 10))
  where
    five : (a b c d e f : List ℕ) → (a ++ (b ++ (c ++ (d ++ e)))) ++ f ≡ a ++ (b ++ (c ++ (d ++ (e ++ f))))
    five a b c d e f = simp append_assoc

group_is_markup : (title inside : List ℕ) → encode_utf8_all (chars title) ≡ title → ∥ IsMarkup [] inside ∥₁ → ∥ IsMarkup (title ∷ []) (group_line (chars title) inside) ∥₁
unfolding group_line
group_is_markup title inside same h =
    ∥∥₁_map h (λ m. (
      Group (chars title) m.0 (Character 10 Nothing),
      ap (λ (l : List ℕ). group_line (chars title) l) m.1 ∙ line_joined (chars title) (written m.0)
          ∙ ap (λ (l : List ℕ). (codes "<g><title>" ++ (flat_map shown (chars title) ++ (codes "</title>" ++ (written m.0 ++ codes "</g>")))) ++ l) (sym (append-nil (shown 10))),
      ap (λ (l : List (List ℕ)). encode_utf8_all (chars title) ∷ (l ++ [])) m.2 ∙ ap (λ (l : List ℕ). l ∷ []) same,
    ))

-- a group more
pub group_more : (titles : List (List ℕ)) (title inside b0 b1 b2 b3 b4 b5 : List ℕ) → ∥ IsMarkup titles b0 ∥₁ → ∥ IsMarkup [] inside ∥₁ → encode_utf8_all (chars title) ≡ title → b1 ≡ b0 ++ codes "<g><title>" →
    b2 ≡ b1 ++ flat_map shown (chars title) → b3 ≡ b2 ++ codes "</title>" → b4 ≡ b3 ++ inside → b5 ≡ b4 ++ codes "</g>\n" → ∥ IsMarkup (titles ++ title ∷ []) b5 ∥₁
unfolding group_line
group_more titles title inside b0 b1 b2 b3 b4 b5 h k same e1 e2 e3 e4 e5 =
    markup_both titles (title ∷ []) b0 (group_line (chars title) inside) b5 h (group_is_markup title inside same k) whole
  where
    six' : (a b c d e f : List ℕ) → ((((a ++ b) ++ c) ++ d) ++ e) ++ f ≡ a ++ (b ++ (c ++ (d ++ (e ++ f))))
    six' a b c d e f = simp append_assoc

    end : codes "</g>\n" ≡ codes "</g>" ++ shown 10
    end = ap (λ (l : List ℕ). codes "</g>" ++ l) (sym (encode_ascii 10 (omega arith)))

    whole : b5 ≡ b0 ++ group_line (chars title) inside
    whole = rw (e5, e4, e3, e2, e1) (six' b0 (codes "<g><title>") (flat_map shown (chars title)) (codes "</title>") inside (codes "</g>\n") ∙ ap (λ (l : List ℕ). b0 ++ (codes "<g><title>" ++ (flat_map shown (chars title) ++ (codes "</title>" ++ (inside ++ l))))) end)

-- the groups so far: all, and one more
pub groups_all : (titles : List (List ℕ)) (groups : List Gr) (i : ℕ) (bytes : List ℕ) → length groups ≤ i → ∥ IsMarkup (titles ++ titles_of (take i groups)) bytes ∥₁ → ∥ IsMarkup (titles ++ titles_of groups) bytes ∥₁
groups_all titles groups i bytes past h = subst (λ (g : List Gr). ∥ IsMarkup (titles ++ titles_of g) bytes ∥₁) (take_all i groups past) h

pub groups_more : (titles : List (List ℕ)) (groups : List Gr) (i : ℕ) (group : Gr) (bytes : List ℕ) → i < length groups → group ≡ get_or groups i group → ∥ IsMarkup ((titles ++ titles_of (take i groups)) ++ group.title.now ∷ []) bytes ∥₁ →
    ∥ IsMarkup (titles ++ titles_of (take (i + 1) groups)) bytes ∥₁
groups_more titles groups i group bytes below is h =
    let more : titles_of (take (i + 1) groups) ≡ titles_of (take i groups) ++ group.title.now ∷ [] =
    ap titles_of (take_more groups i group below ∙ ap (λ (g : Gr). take i groups ++ g ∷ []) (sym is)) ∙ map-append (λ (g : Gr). g.title.now) (take i groups) (group ∷ []) in
    let same : (titles ++ titles_of (take i groups)) ++ group.title.now ∷ [] ≡ titles ++ titles_of (take (i + 1) groups) =
    append_assoc titles (titles_of (take i groups)) (group.title.now ∷ []) ∙ ap (λ (l : List (List ℕ)). titles ++ l) (sym more) in
    subst (λ (l : List (List ℕ)). ∥ IsMarkup l bytes ∥₁) same h

-- groups between other markup
pub markup_around : (titles : List (List ℕ)) (after b1 b2 : List ℕ) → ∥ IsMarkup ([] ++ titles) b1 ∥₁ → ∥ IsMarkup [] after ∥₁ → b2 ≡ b1 ++ after → ∥ IsMarkup titles b2 ∥₁
markup_around titles after b1 b2 h k e = subst (λ (l : List (List ℕ)). ∥ IsMarkup l b2 ∥₁) (append-nil titles) (markup_both titles [] b1 after b2 h k e)

-- Elements.

pub opening_first : (tag : Tag) (bytes : List ℕ) → bytes ≡ codes "<" ++ tag_words tag → ∥ IsOpening tag bytes ∥₁
opening_first tag bytes e = ∣ ([], e ∙ ap (λ (l : List ℕ). codes "<" ++ l) (sym (append-nil (tag_words tag)))) ∣₁

six : (a b c d e f : List ℕ) → ((((a ++ b) ++ c) ++ d) ++ e) ++ f ≡ a ++ (b ++ (c ++ (d ++ (e ++ f))))
six a b c d e f = simp append_assoc

-- an attribute more, at the end of the others
added : (tag : Tag) (attributes : List Attribute) (one : Attribute) → opening_bytes tag (attributes ++ (one ∷ [])) ≡ opening_bytes tag attributes ++ attribute_bytes one
added tag attributes one =
    ap (λ (l : List ℕ). codes "<" ++ (tag_words tag ++ l)) (flat_map-append attribute_bytes attributes (one ∷ []) ∙ ap (λ (l : List ℕ). flat_map attribute_bytes attributes ++ l) (append-nil (attribute_bytes one)))
    ∙ ap (λ (l : List ℕ). codes "<" ++ l) (sym (append_assoc (tag_words tag) (flat_map attribute_bytes attributes) (attribute_bytes one)))

pub opening_more : (tag : Tag) (key : Key) (bytes value bytes' : List ℕ) → ∥ IsOpening tag bytes ∥₁ → ∥ IsWords value ∥₁
    → bytes' ≡ ((((bytes ++ codes " ") ++ key_words key) ++ codes "=\"") ++ value) ++ codes "\"" → ∥ IsOpening tag bytes' ∥₁
opening_more tag key bytes value bytes' h k e =
    ∥∥₁_map₂ h k (λ o w.
    let one : Attribute = record { key = key; value = w.0 } in (
      o.0 ++ (one ∷ []),
      e ∙ six bytes (codes " ") (key_words key) (codes "=\"") value (codes "\"")
          ∙ ap (λ (l : List ℕ). l ++ (codes " " ++ (key_words key ++ (codes "=\"" ++ (value ++ codes "\""))))) o.1
          ∙ ap (λ (l : List ℕ). opening_bytes tag o.0 ++ (codes " " ++ (key_words key ++ (codes "=\"" ++ (l ++ codes "\""))))) w.1
          ∙ sym (added tag o.0 one),
    ))

pub element : (tag : Tag) (titles : List (List ℕ)) (bytes inside bytes' : List ℕ) → ∥ IsOpening tag bytes ∥₁ → ∥ IsMarkup titles inside ∥₁
    → bytes' ≡ ((((bytes ++ codes ">") ++ inside) ++ codes "</") ++ tag_words tag) ++ codes ">" → ∥ IsElement tag titles bytes' ∥₁
element tag titles bytes inside bytes' h k e =
    ∥∥₁_map₂ h k (λ o m. record {
      attributes = o.0;
      inside = m.0;
      titles_are = m.2;
      bytes_are = e ∙ six bytes (codes ">") inside (codes "</") (tag_words tag) (codes ">")
          ∙ ap (λ (l : List ℕ). l ++ (codes ">" ++ (inside ++ (codes "</" ++ (tag_words tag ++ codes ">"))))) o.1
          ∙ ap (λ (l : List ℕ). opening_bytes tag o.0 ++ (codes ">" ++ (l ++ (codes "</" ++ (tag_words tag ++ codes ">"))))) m.1
          ∙ sym (append-nil (opening_bytes tag o.0 ++ (codes ">" ++ (written m.0 ++ closing_bytes tag))));
    })

pub markup_of_element : (tag : Tag) (bytes : List ℕ) → ∥ IsElement tag [] bytes ∥₁ → ∥ IsMarkup [] bytes ∥₁
markup_of_element tag bytes h = ∥∥₁_map h (λ x. (Element tag x.attributes x.inside Nothing, x.bytes_are, append-nil (group_titles x.inside) ∙ x.titles_are))
