-- The rows of keys, and of what a cache keeps.
use Rattle.std.proofs.Common.{◌≡◌, ◌≢◌, ◌∙◌, ℕ, ◌+◌, ◌<◌, ◌≤◌, ◌^◌, List, [], ◌∷◌, length, take, string_bytes, refl, sym, ap, arith, inl, inr}
use Rattle.std.proofs.lemmas.List.{length-take, length-replicate}
use Rattle.std.specs.Str.{chars}
use Rattle.shape_items.specs.Buffer.{Buffer}
use Rattle.shape_buffer.specs.Guess.{guessed}
use Rattle.shape_buffer.specs.Text.{text_items}
use Rattle.shape_common.specs.Positions.{zero_position}
use Rattle.shape_pipeline.specs.Headline.{target_of}
use Rattle.shape_pipeline.specs.Shaped.{NormalisingPasses, ShapingPasses, shaped}
use Rattle.shape_plan.specs.Run.{Run}
use Rattle.word_cache.specs.Keys.{key_of, spelled}
use Rattle.word_cache.specs.Shaping.{IsShaped, HoldsShaped, IsTooLongForKey, IsTooLongToShape, IsTooLong}
use Rattle.word_cache.specs.Words.{Entry, entry, entry_bytes, made, total, HasKey, IsFront, Keeps}
use Rattle.word_cache.specs.Worked.Kept.{WorkedKeys, WorkedBytes, WorkedKeeps, WorkedShaped, WorkedHeld, WorkedTooLong, WorkedKept, own_glyphs}
use Rattle.word_cache.specs.declared.words.Word.{Word}

keys : (run : Run) (text : Buffer) (spelling : List ℕ) → WorkedKeys run text spelling
unfolding chars
keys run text spelling = record {
  number = refl;
  characters = refl;
  as_spelled = refl;
  items = refl;
  positions = length-replicate (length (text_items spelling)) zero_position;
}

bytes : (word : Word) (a b : Entry) → WorkedBytes word a b
bytes word a b = record {
  accent = λ spelled_so glyphs. let two : length (string_bytes word.spelling) ≡ 2 = ap length spelled_so in omega (arith, two, glyphs);
  sum = λ x y. omega (arith, x, y);
  no_words = refl;
}

-- the bytes of the first entry
abbrev bytes_of_first : List Entry → ℕ
bytes_of_first [] = 0
bytes_of_first (e ∷ es) = entry_bytes e

-- how many of two entries the first two or one are
count-of : (limit n : ℕ) (a b : Entry) (kept : List Entry) → length kept ≡ n → n ≤ 2 → (front : IsFront limit (b ∷ a ∷ []) kept) → front.count ≡ n
count-of limit n a b kept long few front =
    let same : length kept ≡ length (take front.count (b ∷ a ∷ [])) = ap length front.is in
    omega (arith, long, few, same, length-take front.count (b ∷ a ∷ []), front.within)

not_behind : (a b : Entry) → entry_bytes a ≡ 40 → entry_bytes b ≡ 60 → Keeps b (made (a ∷ []) 100) (made (a ∷ b ∷ []) 100) → ⊥
not_behind a b x y keeps =
    let two = count-of 100 2 a b (a ∷ b ∷ []) refl (omega arith) keeps.front in
    let kept : entry_bytes a ≡ bytes_of_first (take keeps.front.count (b ∷ a ∷ [])) = ap bytes_of_first keeps.front.is in
    let first : bytes_of_first (take keeps.front.count (b ∷ a ∷ [])) ≡ entry_bytes b = ap (λ k. bytes_of_first (take k (b ∷ a ∷ []))) two in
    absurd (omega (arith, kept, first, x, y))

not_without_need : (a b : Entry) → entry_bytes a ≡ 40 → entry_bytes b ≡ 60 → Keeps b (made (a ∷ []) 100) (made (b ∷ []) 100) → ⊥
not_without_need a b x y keeps =
    let one = count-of 100 1 a b (b ∷ []) refl (omega arith) keeps.front in
    let much = (keeps.front.most (omega (arith, one))).1 in
    let both : total (take (keeps.front.count + 1) (b ∷ a ∷ [])) ≡ total (b ∷ a ∷ []) = ap (λ k. total (take (k + 1) (b ∷ a ∷ []))) one in
    absurd (omega (arith, much, both, x, y))

keeps : (a b : Entry) → entry_bytes a ≡ 40 → entry_bytes b ≡ 60 → WorkedKeeps a b
keeps a b x y = record {
  both = record { front = record { count = 2; within = omega arith; is = refl; fit = inr (omega (arith, x, y)); most = λ lt. absurd (omega (arith, lt)) }; limit = refl };
  one_goes = record { front = record { count = 1; within = omega arith; is = refl; fit = inl (omega arith); most = λ lt. (omega arith, omega (arith, x, y)) }; limit = refl };
  not_behind = not_behind a b x y;
  not_without_need = not_without_need a b x y;
  limit_stays = λ kept. let clash : 99 ≡ 100 = kept.limit in absurd (omega (arith, clash));
}

shaped_to : (run : Run) (word : Word) (spelling : List ℕ) → WorkedShaped run word spelling
shaped_to run word spelling = record {
  own = λ own. record { spelling_is = refl; glyphs_are = own };
  other_spelling = λ other is. other is.spelling_is;
  other_glyphs = λ other is. other is.glyphs_are;
}

abbrev first_of : List ℕ → ℕ
first_of [] = 0
first_of (x ∷ xs) = x

not_unshaped : (runs : ℕ → Run) (word : Word) → (word.glyphs ≢ own_glyphs (runs 3) word) → (rest : List ℕ)
    → HoldsShaped runs (made (entry (3 ∷ rest) word ∷ []) 9) → ⊥
not_unshaped runs word other rest held =
    let is : IsShaped runs (entry (3 ∷ rest) word) = held.0 in
    let same : 3 ≡ is.number = ap first_of is.key_is in
    other (is.is_shaped.glyphs_are ∙ ap (λ n. shaped (runs n) (spelled is.spelling)) (sym same)
    ∙ ap (λ s. shaped (runs 3) (spelled s)) (sym is.is_shaped.spelling_is))

held : (runs : ℕ → Run) (word : Word) (spelling : List ℕ) → WorkedHeld runs word spelling
held runs word spelling = record {
  by_its_plan = λ is. (record { number = 3; spelling = spelling; key_is = refl; is_shaped = is }, tt);
  not_unshaped = not_unshaped runs word;
  none = tt;
}

counted : (run : Run) (spelling : List ℕ) → length spelling < 2 ^ 32 → IsTooLongForKey run spelling
    → NormalisingPasses run (target_of run (spelled spelling)) (guessed run.unicode (spelled spelling))
counted run spelling below (inl long) = absurd (omega (arith, below, long))
counted run spelling below (inr passes) = passes

counted_to_shape : (run : Run) (spelling : List ℕ) → length spelling < 2 ^ 32 → IsTooLongToShape run spelling
    → ShapingPasses run (target_of run (spelled spelling)) (guessed run.unicode (spelled spelling))
counted_to_shape run spelling below (inl long) = absurd (omega (arith, below, long))
counted_to_shape run spelling below (inr passes) = passes.1

empty_to_shape : (run : Run) → IsTooLongToShape run [] → ⊥
unfolding chars
empty_to_shape run (inl long) = let le : 4294967296 ≤ 0 = long in omega (arith, le)
empty_to_shape run (inr passes) = passes.0 refl

found : (run : Run) (spelling : List ℕ) (entries : List Entry) → HasKey (key_of run 7 (spelled spelling)) entries → IsTooLong run 7 spelling entries
    → IsTooLongForKey run spelling
found run spelling entries has (inl long) = long
found run spelling entries has (inr long) = absurd (long.0 has)

too_long : (run : Run) (spelling : List ℕ) (entries : List Entry) → WorkedTooLong run spelling entries
too_long run spelling entries = record {
  by_bytes = λ long. inl long;
  by_bytes_to_shape = λ long. inl long;
  by_a_step = λ passes. inr passes;
  counted = counted run spelling;
  counted_to_shape = counted_to_shape run spelling;
  empty_to_shape = empty_to_shape run;
  for_its_key = λ long. inl long;
  found = found run spelling entries;
  not_found = λ none long. inr (none, long);
}

pub worked_kept : WorkedKept
worked_kept = record {
  keys = keys;
  bytes = bytes;
  keeps = keeps;
  shaped_to = shaped_to;
  held = held;
  too_long = too_long;
}
