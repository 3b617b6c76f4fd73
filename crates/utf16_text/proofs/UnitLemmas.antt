-- Texts in UTF-16: their characters are characters, have as many units, and begin at the units that their clusters name.
use Rattle.std.proofs.Common.{◌≡◌, ◌∙◌, ℕ, zero, suc, ◌+◌, ◌<◌, ◌≤◌, Bool, true, false, ◌&&◌, Option, Some, None, Result, Ok, Err, List, [], ◌∷◌}
use Rattle.std.proofs.Common.{◌++◌, length, map, get_or, take, drop, cond, nat_lt, nat_le, lit<, Fits, w16, refl, ap, sym, subst, arith, append_assoc}
use Rattle.std.proofs.Common.{append-nil, length-append, replicate}
use Rattle.std.proofs.Math.Seq.{drop-length}
use Rattle.std.proofs.Math.Utf8.{encode, scalars, scalar}
use Rattle.std.proofs.lemmas.Bool.{and_parts}
use Rattle.std.proofs.lemmas.Bool.Decides.{nat_tests}
use Rattle.std.proofs.lemmas.List.{drop-append-le}
use Rattle.std.proofs.lemmas.Str.{chars-encodes, chars_past_char}
use Rattle.std.specs.Char.Escape.{encode_utf16}
use Rattle.std.specs.Char.Utf16.{utf16_chars, utf16_lossy_chars, is_high_surrogate, is_low_surrogate, surrogate_pair_char, lone_unit_char}
use Rattle.std.specs.Option.{unwrap_or}
use Rattle.std.specs.Prelude.{encode_utf8_all, string_bytes, All, IfOk, String}
use Rattle.std.specs.Str.{chars, IsUtf8}
use Rattle.shape_common.specs.Positions.{zero_position}
use Rattle.shape_common.specs.declared.positions.GlyphPosition.{GlyphPosition}
use Rattle.shape_items.specs.Buffer.{Buffer}
use Rattle.shape_items.specs.Items.{Item, new_item}
use Rattle.utf16_text.specs.Utf16.{utf16_items_from, utf16_items, IsFirstUnit}

-- how many units characters have
abbrev pub units_in : List ℕ → ℕ
units_in [] = 0
units_in (c ∷ cs) = length (encode_utf16 c) + units_in cs

-- a unit has 16 bits
abbrev pub AreUnits : List ℕ → Type 0
AreUnits us = (k : ℕ) → Fits w16 (get_or us k 0)

-- the character of a unit in no pair
abbrev pub lone_char : ℕ → ℕ
lone_char u = unwrap_or (lone_unit_char u) 0xFFFD

-- what holds of no units, and of a unit in no pair, and of a pair, if it holds of the units behind, holds of all units
module _ (P : List ℕ → Type 0) (none : P [])
    (lone : (u : ℕ) (us : List ℕ) → u < 65536 → utf16_lossy_chars (u ∷ us) ≡ lone_char u ∷ utf16_lossy_chars us → P us → P (u ∷ us))
    (pair : (u v : ℕ) (us : List ℕ) → is_high_surrogate u ≡ true → is_low_surrogate v ≡ true
    → utf16_lossy_chars (u ∷ v ∷ us) ≡ surrogate_pair_char u v ∷ utf16_lossy_chars us → P us → P (u ∷ v ∷ us)) where
  two : (u v : ℕ) (us : List ℕ) (t : Bool) → (is_high_surrogate u && is_low_surrogate v) ≡ t → u < 65536
      → utf16_lossy_chars (u ∷ v ∷ us) ≡ map (λ o. unwrap_or o 0xFFFD) (cond t (Some (surrogate_pair_char u v) ∷ utf16_chars us) (lone_unit_char u ∷ utf16_chars (v ∷ us)))
      → P us → P (v ∷ us) → P (u ∷ v ∷ us)
  two u v us true is below chars_are rest _ = let parts = and_parts _ _ is in pair u v us parts.0 parts.1 chars_are rest
  two u v us false is below chars_are _ rest = lone u (v ∷ us) below chars_are rest

  pub by_units : (us : List ℕ) → AreUnits us → P us
  unfolding utf16_chars
  by_units [] all = none
  by_units (u ∷ []) all = let fits = all 0 in lone u [] (omega arith) refl none
  by_units (u ∷ v ∷ us) all =
      let fits = all 0 in
      two u v us _ refl (omega arith) refl (by_units us (λ k. all (suc (suc k)))) (by_units (v ∷ us) (λ k. all (suc k)))

lone-is : (u : ℕ) (t : Bool) → (nat_le 0xD800 u && nat_lt u 0xE000) ≡ t → u < 65536
    → let c = unwrap_or (cond t None (Some u)) 0xFFFD in (scalar c ≡ true) × (c < 65536)
lone-is u true is below = (refl, lit< tt)
lone-is u false is below = (grind (arith, nat_tests), below)

pair-is : (u v : ℕ) → is_high_surrogate u ≡ true → is_low_surrogate v ≡ true
    → (scalar (surrogate_pair_char u v) ≡ true) × (65536 ≤ surrogate_pair_char u v)
pair-is u v high low = (grind (arith, nat_tests), omega arith)

pub one_unit : (c : ℕ) → c < 65536 → length (encode_utf16 c) ≡ 1
one_unit c below = grind (arith, nat_tests)

pub two_units : (c : ℕ) → 65536 ≤ c → length (encode_utf16 c) ≡ 2
two_units c from = grind (arith, nat_tests)

scalars-lossy : (us : List ℕ) → AreUnits us → scalars (utf16_lossy_chars us) ≡ true
unfolding utf16_chars
scalars-lossy = by_units (λ us. scalars (utf16_lossy_chars us) ≡ true) refl
    (λ u us below is rest. rw (is, (lone-is u _ refl below).0) rest)
    (λ u v us high low is rest. rw (is, (pair-is u v high low).0) rest)

-- the characters of the text in UTF-8
pub chars-utf16 : (us : List ℕ) → AreUnits us → chars (encode_utf8_all (utf16_lossy_chars us)) ≡ utf16_lossy_chars us
chars-utf16 us all = chars-encodes (utf16_lossy_chars us) (scalars-lossy us all)

pub spelled-chars : {E : Type 0} {Z : Type 0} (us : List ℕ) → AreUnits us → (result : Result (String Z) E)
    → IfOk result (λ s. string_bytes s ≡ encode_utf8_all (utf16_lossy_chars us)) → IfOk result (λ s. chars (string_bytes s) ≡ utf16_lossy_chars us)
spelled-chars us all (Ok s) is = ap chars is ∙ chars-utf16 us all
spelled-chars us all (Err e) is = tt

-- they have as many units as the text
pub units_in-lossy : (us : List ℕ) → AreUnits us → units_in (utf16_lossy_chars us) ≡ length us
unfolding utf16_chars
units_in-lossy = by_units (λ us. units_in (utf16_lossy_chars us) ≡ length us) refl
    (λ u us below is rest.
    let sum : units_in (utf16_lossy_chars (u ∷ us)) ≡ length (encode_utf16 (lone_char u)) + units_in (utf16_lossy_chars us) = ap units_in is in
    let one = one_unit (lone_char u) ((lone-is u _ refl below).1) in
    omega (arith, sum, one, rest))
    (λ u v us high low is rest.
    let sum : units_in (utf16_lossy_chars (u ∷ v ∷ us)) ≡ length (encode_utf16 (surrogate_pair_char u v)) + units_in (utf16_lossy_chars us) = ap units_in is in
    let two = two_units (surrogate_pair_char u v) ((pair-is u v high low).1) in
    omega (arith, sum, two, rest))

-- a buffer with more items
abbrev pub with_more : Buffer → List Item → Buffer
with_more b more = record b {
  items = b.items ++ more;
  positions = b.positions ++ replicate (length more) zero_position;
}

pub with_more-none : (b : Buffer) → with_more b [] ≡ b
with_more-none b =
    ap (λ (items : List Item). record b { items = items; positions = b.positions ++ [] }) (append-nil b.items)
    ∙ ap (λ (positions : List GlyphPosition). record b { positions = positions }) (append-nil b.positions)

with_more-one : (b : Buffer) (item : Item) (more : List Item) → with_more (with_more b (item ∷ [])) more ≡ with_more b (item ∷ more)
with_more-one b item more =
    ap (λ (items : List Item). record b { items = items; positions = (b.positions ++ zero_position ∷ []) ++ replicate (length more) zero_position })
    (append_assoc b.items (item ∷ []) more)
    ∙ ap (λ (positions : List GlyphPosition). record b { items = b.items ++ item ∷ more; positions = positions })
    (append_assoc b.positions (zero_position ∷ []) (replicate (length more) zero_position))

-- one more character
module _ (b next : Buffer) (text rest : List ℕ) (c start : ℕ) (is : next ≡ with_more b (new_item c start ∷ [])) where
  pub utf16_step : IsUtf8 text → text ≡ encode c ++ rest → (n : ℕ) → n ≡ length (encode_utf16 c)
      → with_more next (utf16_items_from (start + n) (chars rest)) ≡ with_more b (utf16_items_from start (chars text))
  utf16_step utf8 begins n units =
      ap (λ m. with_more next (utf16_items_from (start + m) (chars rest))) units
      ∙ ap (λ (x : Buffer). with_more x (utf16_items_from (start + length (encode_utf16 c)) (chars rest))) is
      ∙ with_more-one b (new_item c start) (utf16_items_from (start + length (encode_utf16 c)) (chars rest))
      ∙ ap (λ cs. with_more b (utf16_items_from start cs)) (sym (chars_past_char text rest c utf8 begins))

  pub units_step : IsUtf8 text → text ≡ encode c ++ rest → units_in (chars text) ≡ length (encode_utf16 c) + units_in (chars rest)
  units_step utf8 begins = ap units_in (chars_past_char text rest c utf8 begins)

  -- the rest of the buffer stays
  pub settings_step : (first : Buffer) → b ≡ record first { items = b.items; positions = b.positions }
      → next ≡ record first { items = next.items; positions = next.positions }
  settings_step first same =
      subst (λ (x : Buffer). x ≡ record first { items = x.items; positions = x.positions }) (sym is)
      (ap (λ (x : Buffer). record x { items = b.items ++ new_item c start ∷ []; positions = b.positions ++ zero_position ∷ [] }) same)

first_or : {X : Type 0} (P : X → Type 0) (x : X) (xs : List X) → P x → All P xs → All P (x ∷ xs)
first_or P x xs first rest zero d lt = first
first_or P x xs first rest (suc k) d lt = rest k d (omega arith)

-- a character that a unit, and those in `more`, spell behind some units
module _ (front : List ℕ) (u : ℕ) (more us : List ℕ) (c : ℕ) (is : utf16_lossy_chars (u ∷ (more ++ us)) ≡ c ∷ utf16_lossy_chars us) where
  first_unit : IsFirstUnit (front ++ u ∷ (more ++ us)) (new_item c (length front))
  first_unit =
      let behind : drop (length front) (front ++ u ∷ (more ++ us)) ≡ u ∷ (more ++ us) =
      drop-append-le (length front) front _ (omega arith) ∙ ap (λ xs. xs ++ u ∷ (more ++ us)) (drop-length front) in
      record {
        within = rw (length-append front (u ∷ (more ++ us))) (omega arith);
        character = rw (behind, is) refl;
      }

  first_units : length (encode_utf16 c) ≡ length (u ∷ more)
      → All (IsFirstUnit ((front ++ u ∷ more) ++ us)) (utf16_items_from (length (front ++ u ∷ more)) (utf16_lossy_chars us))
      → All (IsFirstUnit (front ++ u ∷ (more ++ us))) (utf16_items_from (length front) (utf16_lossy_chars (u ∷ (more ++ us))))
  first_units long all =
      let moved : (front ++ u ∷ more) ++ us ≡ front ++ u ∷ (more ++ us) = append_assoc front (u ∷ more) us in
      let start : length (front ++ u ∷ more) ≡ length front + length (encode_utf16 c) = omega (arith, length-append front (u ∷ more), long) in
      let rest : All (IsFirstUnit (front ++ u ∷ (more ++ us))) (utf16_items_from (length front + length (encode_utf16 c)) (utf16_lossy_chars us)) =
      subst (λ ws. All (IsFirstUnit ws) (utf16_items_from (length front + length (encode_utf16 c)) (utf16_lossy_chars us))) moved
      (subst (λ n. All (IsFirstUnit ((front ++ u ∷ more) ++ us)) (utf16_items_from n (utf16_lossy_chars us))) start all) in
      rw is (λ k d lt. first_or (IsFirstUnit (front ++ u ∷ (more ++ us))) _ _ first_unit rest k d lt)

firsts : (us : List ℕ) → AreUnits us → (front : List ℕ) → All (IsFirstUnit (front ++ us)) (utf16_items_from (length front) (utf16_lossy_chars us))
unfolding utf16_chars
firsts = by_units (λ us. (front : List ℕ) → All (IsFirstUnit (front ++ us)) (utf16_items_from (length front) (utf16_lossy_chars us)))
    (λ front k d lt. absurd (omega arith))
    (λ u us below is rest front.
    first_units front u [] us (lone_char u) is (one_unit _ ((lone-is u _ refl below).1)) (rest (front ++ u ∷ [])))
    (λ u v us high low is rest front.
    first_units front u (v ∷ []) us (surrogate_pair_char u v) is (two_units _ ((pair-is u v high low).1)) (rest (front ++ u ∷ v ∷ [])))

pub utf16_items-first : (us : List ℕ) → AreUnits us → All (IsFirstUnit us) (utf16_items us)
utf16_items-first us all = firsts us all []

-- how many units a character has
pub len_units : (c n : ℕ) → (c < 65536 → n ≡ 1) → (65536 ≤ c → n ≡ 2) → n ≡ length (encode_utf16 c)
len_units c n one two = grind (arith, nat_tests)
