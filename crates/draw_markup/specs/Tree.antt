-- What markup is: characters, each of them escaped where it has to be, and elements, each of them closed.
use Rattle.std.specs.Prelude.{◌≡◌, ℕ, Bool, ◌==◌, ◌||◌, ◌&&◌, not, nat_lt, if◌then◌else◌, List, [], ◌∷◌, ◌++◌, codes}
use Rattle.std.specs.List.{flat_map}
use Rattle.std.specs.Char.{encode_utf8}
use Rattle.std.specs.Str.{encode_utf8_all}
use Rattle.draw_markup.specs.declared.name.Tag.{Tag}
use Rattle.draw_markup.specs.declared.name.Key.{Key}

-- Characters.

-- a character that no document may have: a control character, or one of two that mean none
abbrev pub is_forbidden : ℕ → Bool
is_forbidden char = (nat_lt char 32 && not (char == 10)) || char == 65534 || char == 65535

-- How a character stands in text or in a value. The five that mean something in markup are escaped, and of those that no document may
-- have a question mark stands.
abbrev pub shown : ℕ → List ℕ
shown char =
    if char == 34 then codes "&quot;"
    else (if char == 38 then codes "&amp;"
    else (if char == 39 then codes "&#39;"
    else (if char == 60 then codes "&lt;"
    else (if char == 62 then codes "&gt;"
    else (if is_forbidden char then codes "?" else encode_utf8 char)))))

-- Elements.

abbrev pub tag_words : Tag → List ℕ
tag_words Tag.Svg = codes "svg"
tag_words Tag.Title = codes "title"
tag_words Tag.Style = codes "style"
tag_words Tag.Defs = codes "defs"
tag_words Tag.Pattern = codes "pattern"
tag_words Tag.Marker = codes "marker"
tag_words Tag.Rect = codes "rect"
tag_words Tag.Line = codes "line"
tag_words Tag.Circle = codes "circle"
tag_words Tag.Path = codes "path"
tag_words Tag.Text = codes "text"

abbrev pub key_words : Key → List ℕ
key_words Key.Namespace = codes "xmlns"
key_words Key.ViewBox = codes "viewBox"
key_words Key.Width = codes "width"
key_words Key.Height = codes "height"
key_words Key.Role = codes "role"
key_words Key.Id = codes "id"
key_words Key.Class = codes "class"
key_words Key.X = codes "x"
key_words Key.Y = codes "y"
key_words Key.X1 = codes "x1"
key_words Key.Y1 = codes "y1"
key_words Key.X2 = codes "x2"
key_words Key.Y2 = codes "y2"
key_words Key.CenterX = codes "cx"
key_words Key.CenterY = codes "cy"
key_words Key.Radius = codes "r"
key_words Key.Rounding = codes "rx"
key_words Key.Outline = codes "d"
key_words Key.Units = codes "patternUnits"
key_words Key.Transform = codes "patternTransform"
key_words Key.RefX = codes "refX"
key_words Key.RefY = codes "refY"
key_words Key.MarkerWidth = codes "markerWidth"
key_words Key.MarkerHeight = codes "markerHeight"
key_words Key.Orient = codes "orient"

-- an attribute, and the characters of its value
pub record Attribute : Type 0 where
  pub key : Key
  pub value : List ℕ

-- Markup: nothing, a character and what follows it, an element, what is inside it and what follows it, or a group, its title, what
-- else is inside it and what follows it.
pub data Tree : Type 0 where
  Nothing : Tree
  Character : ℕ → Tree → Tree
  Element : Tag → List Attribute → Tree → Tree → Tree
  Group : List ℕ → Tree → Tree → Tree

abbrev pub attribute_bytes : Attribute → List ℕ
attribute_bytes a = codes " " ++ (key_words a.key ++ (codes "=\"" ++ (flat_map shown a.value ++ codes "\"")))

-- an element up to where its attributes end
abbrev pub opening_bytes : Tag → List Attribute → List ℕ
opening_bytes tag attributes = codes "<" ++ (tag_words tag ++ flat_map attribute_bytes attributes)

abbrev pub closing_bytes : Tag → List ℕ
closing_bytes tag = codes "</" ++ (tag_words tag ++ codes ">")

-- Markup, written out.
abbrev pub written : Tree → List ℕ
written Nothing = []
written (Character char rest) = shown char ++ written rest
written (Element tag attributes inside rest) =
    (opening_bytes tag attributes ++ (codes ">" ++ (written inside ++ closing_bytes tag))) ++ written rest
written (Group title inside rest) =
    (codes "<g><title>" ++ (flat_map shown title ++ (codes "</title>" ++ (written inside ++ codes "</g>")))) ++ written rest

-- The titles of all groups, in order, as bytes.
abbrev pub group_titles : Tree → List (List ℕ)
group_titles Nothing = []
group_titles (Character char rest) = group_titles rest
group_titles (Element tag attributes inside rest) = group_titles inside ++ group_titles rest
group_titles (Group title inside rest) = encode_utf8_all title ∷ (group_titles inside ++ group_titles rest)

-- What bytes are.

-- characters, each shown as text has to show it
abbrev pub IsWords : List ℕ → Type 0
IsWords bytes = (chars : List ℕ) × (bytes ≡ flat_map shown chars)

-- an element up to where its attributes end
abbrev pub IsOpening : Tag → List ℕ → Type 0
IsOpening tag bytes = (attributes : List Attribute) × (bytes ≡ opening_bytes tag attributes)

-- text, elements and groups, each of them closed, in which the groups have these titles
abbrev pub IsMarkup : List (List ℕ) → List ℕ → Type 0
IsMarkup titles bytes = (tree : Tree) × (bytes ≡ written tree) × (group_titles tree ≡ titles)

-- one element with all that is in it, and nothing beside it, in which the groups have these titles
pub record IsElement (tag : Tag) (titles : List (List ℕ)) (bytes : List ℕ) : Type 0 where
  pub attributes : List Attribute
  pub inside : Tree
  pub titles_are : group_titles inside ≡ titles
  pub bytes_are : bytes ≡ written (Element tag attributes inside Nothing)
