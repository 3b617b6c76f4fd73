-- texts in HTML: what is written for a text, and what a reader of HTML takes that for
use Rattle.std.specs.Prelude.{ℕ, List, [], ◌∷◌, ◌++◌, map, Bool, false, nat_lt, ◌==◌, ◌&&◌, ◌||◌, not, codes, flat_map, if◌then◌else◌, ◌≡◌}

-- what HTML and XML have no place for: C0 without tab (9) and line feed (10), delete, C1, U+FFFE
-- and U+FFFF
abbrev pub is_placeless : ℕ → Bool
is_placeless c = (nat_lt c 32 && not (c == 9) && not (c == 10)) || (nat_lt 126 c && nat_lt c 160) || (c == 0xFFFE) || (c == 0xFFFF)

-- what is shown of a character: U+FFFD for one of these
abbrev pub shown : ℕ → ℕ
shown c = if is_placeless c then 0xFFFD else c

-- what ends a text or a quoted value of an attribute, or begins a reference: `"` (34), `&` (38),
-- `'` (39), `<` (60), `>` (62)
abbrev pub is_special : ℕ → Bool
is_special c = (c == 34) || (c == 38) || (c == 39) || (c == 60) || (c == 62)

-- the characters that stand for one
abbrev pub written : ℕ → List ℕ
written c =
    if c == 34 then codes "&quot;" else
    if c == 38 then codes "&amp;" else
    if c == 39 then codes "&#39;" else
    if c == 60 then codes "&lt;" else
    if c == 62 then codes "&gt;" else shown c ∷ []

-- the characters that stand for a text of these
abbrev pub html_of : List ℕ → List ℕ
html_of = flat_map written

-- what a reader takes for a text (HTML, 13.2.5.72 "Character reference state"): each reference
-- for its character, and for itself each other character but the special ones, which therefore
-- stand nowhere but in references
pub data Reads : List ℕ → List ℕ → Type 0 where
  ends : Reads [] []
  quote : {html text : List ℕ} → Reads html text → Reads (codes "&quot;" ++ html) (34 ∷ text)
  ampersand : {html text : List ℕ} → Reads html text → Reads (codes "&amp;" ++ html) (38 ∷ text)
  apostrophe : {html text : List ℕ} → Reads html text → Reads (codes "&#39;" ++ html) (39 ∷ text)
  less : {html text : List ℕ} → Reads html text → Reads (codes "&lt;" ++ html) (60 ∷ text)
  greater : {html text : List ℕ} → Reads html text → Reads (codes "&gt;" ++ html) (62 ∷ text)
  other : (c : ℕ) {html text : List ℕ} → is_special c ≡ false → Reads html text → Reads (c ∷ html) (c ∷ text)

-- what is written for a text is read as that text, as far as it can be shown
abbrev pub ReadsBack : Type 0
ReadsBack = (text : List ℕ) → Reads (html_of text) (map shown text)
