-- The parts of an expansion, each with the glyph of its character.
use Rattle.std.proofs.Common.{◌≡◌, ℕ, ◌≤◌, Bool, true, false, if◌then◌else◌, List, [], ◌∷◌, ◌++◌, map, reverse, take, Option, None, Some, unwrap_or, IfSome, refl, sym, ap, ap₂, ◌∙◌}
use Rattle.std.proofs.lemmas.List.{take-map, map-append, reverse-append}
use Rattle.std.specs.Option.{option_map, option_map_or, is_some}
use Rattle.canonical_form.specs.Chain.{kept_part}
use Rattle.canonical_form.specs.Decompositions.{Decompositions}
use Rattle.canonical_form.specs.Expansion.{least_supported, chosen_expansion}
use Rattle.canonical_form.proofs.Expanding.ShortestWalkLemmas.{sought_ended}
use Rattle.canonical_form.proofs.Expanding.WalkLemmas.{found_parts, walked}
use Rattle.shape_items.specs.Items.{Item}
use Rattle.shape_common.specs.Unicode.{UnicodeMeaning}
use Rattle.shape_common.specs.declared.flags.ScratchFlags.{ScratchFlags}
use Rattle.shape_common.specs.declared.text_types.GlyphId.{GlyphId}
use Rattle.shape_normalize.specs.Recast.{recast_to, seen_chars, mapped_char, recast, seen_mapped}
use Rattle.shape_normalize.specs.declared.ot_shape_normalize.recast.MappedChar.{MappedChar}

-- the characters of parts
abbrev pub chars_of : List MappedChar → List ℕ
chars_of parts = map (λ part. part.c) parts

-- what was found, by its character
abbrev pub found_chars : Option (MappedChar × ℕ) → Option (ℕ × ℕ)
found_chars found = option_map (λ f. (f.0.c, f.1)) found

reverse-map : {X Y : Type 0} (f : X → Y) (xs : List X) → reverse (map f xs) ≡ map f (reverse xs)
reverse-map f [] = refl
reverse-map f (x ∷ xs) =
    reverse-append (f x ∷ []) (map f xs) ∙ ap (λ l. l ++ f x ∷ []) (reverse-map f xs)
    ∙ sym (map-append f (reverse xs) (x ∷ [])) ∙ ap (map f) (sym (reverse-append (x ∷ []) xs))

-- what was found is within the second parts, by characters too
pub found_within : (found : Option (MappedChar × ℕ)) (n : ℕ) → IfSome found (λ f. f.1 ≤ n) → IfSome (found_chars found) (λ f. f.1 ≤ n)
found_within None n within = tt
found_within (Some f) n within = within

-- a part that was returned, and none
pub part_is : (p q : MappedChar) (t : Bool) → Some p ≡ (if t then Some q else None) → (true ≡ t) × (p ≡ q)
part_is p q true e = (refl, ap (λ o. unwrap_or o q) e)
part_is p q false e = absurd (cc)

pub none_is : (q : MappedChar) (t : Bool) → None ≡ (if t then Some q else None) → false ≡ t
none_is q true e = absurd (cc)
none_is q false e = refl

nothing : {X : Type 0} (o : Option X) → is_some o ≡ false → None ≡ o
nothing None e = refl
nothing (Some x) e = absurd (cc)

-- a walk that has found nothing, and finds nothing
walked_nothing : (r : Option (List ℕ)) → None ≡ walked None [] r → r ≡ None
walked_nothing None e = refl
walked_nothing (Some ys) e = absurd (cc)

-- a character that doesn't split has no expansion
pub chosen-unsplit : (D : Decompositions) (test : ℕ → Bool) (short : Bool) (c : ℕ) → is_some (D.split c) ≡ false
    → chosen_expansion D test short c ≡ None
chosen-unsplit D test false c unsplit =
    walked_nothing _ (sought_ended D.split test false _ None [] (D.height c) c refl (nothing (D.split c) unsplit))
chosen-unsplit D test true c unsplit =
    elim (test c) as (λ t. (if t then None else least_supported D.split test (D.height c) c) ≡ None) [
      | true ↦ refl
      | false ↦ walked_nothing _ (sought_ended D.split test true _ None [] (D.height c) c refl (nothing (D.split c) unsplit))
    ]

module _ (glyph : ℕ → Option GlyphId) where
  pub chars-parts : (cs : List ℕ) → chars_of (map (mapped_char glyph) cs) ≡ cs
  chars-parts [] = refl
  chars-parts (c ∷ cs) = ap (λ l. c ∷ l) (chars-parts cs)

  -- a second part that is kept
  pub grown_chars : (old new : List MappedChar) (b : ℕ) → new ≡ old ++ map (mapped_char glyph) (kept_part b)
      → chars_of new ≡ chars_of old ++ kept_part b
  grown_chars old new b grown =
      ap chars_of grown ∙ map-append (λ (p : MappedChar). p.c) old (map (mapped_char glyph) (kept_part b))
      ∙ ap (λ l. chars_of old ++ l) (chars-parts (kept_part b))

  pub grown_parts : (old new : List MappedChar) (b : ℕ) → old ≡ map (mapped_char glyph) (chars_of old)
      → new ≡ old ++ map (mapped_char glyph) (kept_part b) → new ≡ map (mapped_char glyph) (chars_of new)
  grown_parts old new b each grown =
      grown ∙ ap (λ l. l ++ map (mapped_char glyph) (kept_part b)) each
      ∙ sym (map-append (mapped_char glyph) (chars_of old) (kept_part b))
      ∙ ap (map (mapped_char glyph)) (sym (grown_chars old new b grown))

  -- parts that were found, by their characters
  pub parts_found : (found : Option (MappedChar × ℕ)) (seconds : List MappedChar) → seconds ≡ map (mapped_char glyph) (chars_of seconds)
      → IfSome found (λ f. f.0 ≡ mapped_char glyph f.0.c)
      → option_map (λ f. f.0 ∷ reverse (take f.1 seconds)) found
      ≡ option_map (map (mapped_char glyph)) (found_parts (found_chars found) (chars_of seconds))
  parts_found None seconds each first = refl
  parts_found (Some f) seconds each first =
      ap₂ (λ x xs. Some (x ∷ reverse (take f.1 xs))) first each
      ∙ ap (λ xs. Some (mapped_char glyph f.0.c ∷ xs)) (ap reverse (take-map (mapped_char glyph) f.1 (chars_of seconds))
      ∙ reverse-map (mapped_char glyph) (take f.1 (chars_of seconds)))

  module _ (unicode : UnicodeMeaning) (item : Item) where
    put_chars : (cs : List ℕ) → map (recast unicode item) (map (mapped_char glyph) cs) ≡ map (recast_to unicode glyph item) cs
    put_chars [] = refl
    put_chars (c ∷ cs) = ap (λ l. recast_to unicode glyph item c ∷ l) (put_chars cs)

    -- what an item becomes, by the parts that were kept
    pub expansion_put : (chosen : Option (List ℕ)) (whole : List Item) (parts : List MappedChar)
        → Some parts ≡ option_map (map (mapped_char glyph)) chosen
        → option_map_or (map (recast_to unicode glyph item)) chosen whole ≡ map (recast unicode item) parts
    expansion_put None whole parts e = absurd (cc)
    expansion_put (Some cs) whole parts e =
        let are : parts ≡ map (mapped_char glyph) cs = ap (λ o. unwrap_or o []) e in
        sym (ap (map (recast unicode item)) are ∙ put_chars cs)

    pub expansion_seen : (chosen : Option (List ℕ)) (flags other : ScratchFlags) (parts : List MappedChar)
        → Some parts ≡ option_map (map (mapped_char glyph)) chosen
        → option_map_or (seen_chars unicode flags) chosen other ≡ seen_mapped unicode flags parts
    expansion_seen None flags other parts e = absurd (cc)
    expansion_seen (Some cs) flags other parts e =
        let are : parts ≡ map (mapped_char glyph) cs = ap (λ o. unwrap_or o []) e in
        sym (ap (seen_chars unicode flags) (ap chars_of are ∙ chars-parts cs))

  -- if none is kept, none is chosen
  pub none_chosen : (chosen : Option (List ℕ)) → None ≡ option_map (map (mapped_char glyph)) chosen → chosen ≡ None
  none_chosen None e = refl
  none_chosen (Some cs) e = absurd (cc)
