-- One word more is looked at.
use Rattle.std.proofs.Common.{◌≡◌, ℕ, ◌+◌, ◌<◌, ◌≤◌, ◌^◌, ◌⊎◌, List, [], ◌∷◌, ◌++◌, length, get_or, Option, Some, None, Result, Ok, Err, IsErrAnd, refl, inl, inr, ap, sym, ◌∙◌, subst, arith}
use Rattle.std.proofs.lemmas.List.{get_or_default, get_or_push, length-append}
use Rattle.std.specs.Prelude.{◌↔◌, Bool, IsTrue, IfSome, IfNone, string_bytes}
use Rattle.shape_items.specs.Buffer.{Buffer, limit_of}
use Rattle.shape_buffer.specs.Outcome.{Step, EachWithin, SomePast}
use Rattle.shape_buffer.specs.declared.buffer.error.ShapeError.{ShapeError}
use Rattle.shape_buffer.specs.declared.buffer.error.ShapeError.TheVariants.{Length}
use Rattle.shape_plan.specs.Run.{Run}
use Rattle.shape_normalize.specs.CanonicalForm.{text_of, AreEquivalent}
use Rattle.shape_normalize.specs.RoundOne.{round_one}
use Rattle.shape_plan.specs.Rules.{Rules}
use Rattle.shape_pipeline.specs.Headline.{target_of, prepared_text}
use Rattle.shape_pipeline.specs.Shaped.{Shapes, all_steps, entered}
use Rattle.shape_buffer.specs.Guess.{guessed}
use Rattle.shape_users.specs.Words.{spelled, AreSpelledAlike, IsNowhere, IsPlaceOf, IsTooLong, IsTooLongToPrepare, IsTooLongToShape, FindsTooLong, KeepsTooLong}
use Rattle.shape_users.specs.declared.words.Word.{Word}
use Rattle.shape_users.proofs.ParagraphLemmas.{split}

-- none of the first words is too long to be compared with a spelling, nor is that
abbrev pub NoneTooLong : Run → List Word → ℕ → List ℕ → Type 0
NoneTooLong run words count spelling =
    (k : ℕ) (d : Word) → k < count → IsTooLong run (string_bytes (get_or words k d).spelling) ⊎ IsTooLong run spelling → ⊥

module _ (run : Run) (words : List Word) (place : ℕ) (x : Word) (known spelling : List ℕ) (within : place < length words)
    (value : known ≡ string_bytes (get_or words place x).spelling) where
  read_at : (d : Word) → known ≡ string_bytes (get_or words place d).spelling
  read_at d = value ∙ ap (λ (word : Word). string_bytes word.spelling) (get_or_default words place x d within)

  -- the word that is read is the one at its place
  pub alike_at : AreSpelledAlike run known spelling → (d : Word)
      → AreSpelledAlike run (string_bytes (get_or words place d).spelling) spelling
  alike_at alike d = subst (λ (s : List ℕ). AreSpelledAlike run s spelling) (read_at d) alike

  pub nowhere_more : IsNowhere run words place spelling → (AreSpelledAlike run known spelling → ⊥)
      → IsNowhere run words (place + 1) spelling
  nowhere_more nowhere other = λ k d below alike. elim (split k place) [
    | inl before ↦ nowhere k d before alike
    | inr from ↦
        let same : k ≡ place = omega arith in
        other (subst (λ (s : List ℕ). AreSpelledAlike run s spelling)
        (ap (λ (i : ℕ). string_bytes (get_or words i d).spelling) same ∙ sym (read_at d)) alike)
  ]

  -- if it is compared, it is too long or the spelling is
  pub too_long_at : IsNowhere run words place spelling → IsTooLong run known ⊎ IsTooLong run spelling
      → FindsTooLong run words spelling
  too_long_at nowhere long = (
    place,
    within,
    (nowhere, λ d. subst (λ (s : List ℕ). IsTooLong run s ⊎ IsTooLong run spelling) (read_at d) long),
  )

  pub none_long_more : NoneTooLong run words place spelling → (IsTooLong run known ⊎ IsTooLong run spelling → ⊥)
      → NoneTooLong run words (place + 1) spelling
  none_long_more none here = λ k d below long. elim (split k place) [
    | inl before ↦ none k d before long
    | inr from ↦
        let same : k ≡ place = omega arith in
        here (subst (λ (s : List ℕ). IsTooLong run s ⊎ IsTooLong run spelling)
        (ap (λ (i : ℕ). string_bytes (get_or words i d).spelling) same ∙ sym (read_at d)) long)
  ]

  -- a word was found before anything was too long
  pub found_first : NoneTooLong run words place spelling → (IsTooLong run known ⊎ IsTooLong run spelling → ⊥)
      → AreSpelledAlike run known spelling → FindsTooLong run words spelling → ⊥
  found_first none here alike finds = elim (split place finds.0) [
    | inl before ↦ finds.2.0 place x before (alike_at alike x)
    | inr from ↦
        let looked : finds.0 < place + 1 = omega (arith, from) in
        none_long_more none here finds.0 x looked (finds.2.1 x)
  ]

-- nothing was too long in the whole list
pub none_found : (run : Run) (words : List Word) (spelling : List ℕ) → NoneTooLong run words (length words) spelling
    → FindsTooLong run words spelling → ⊥
none_found run [] spelling none finds = omega (arith, finds.1)
none_found run (word ∷ words) spelling none finds = none finds.0 word finds.1 (finds.2.1 word)

-- an error that is handed on is the one that came
pub refused_for : {T : Type 0} (result : Result T ShapeError) (error : ShapeError) → IsErrAnd result (λ e. e ≡ error)
    → result ≡ Err Length → error ≡ Length
refused_for (Ok value) error gave is = cc
refused_for (Err other) error gave is =
    let same : other ≡ Length = cc in
    sym gave ∙ same

-- if each step is within the limit none passes it
pub none_past : (steps : List Step) (b : Buffer) → EachWithin steps b → SomePast steps b → ⊥
none_past [] b within past = past
none_past (step ∷ steps) b within past = elim past [
  | inl here ↦ omega (arith, within.0, here)
  | inr later ↦ none_past steps (step.makes b) within.1 later
]

-- a word that was found is there, in the list that was looked at
pub place_of : (run : Run) (xs ys : List Word) → xs ≡ ys → (o : Option ℕ) (place : ℕ) (spelling : List ℕ) → o ≡ Some place
    → IfSome o (λ k. IsPlaceOf run xs k spelling) → IsPlaceOf run ys place spelling
place_of run xs ys same None place spelling is found = cc
place_of run xs ys same (Some k) place spelling is found =
    let here : k ≡ place = cc in
    subst (λ (words : List Word). IsPlaceOf run words place spelling) same (subst (λ (i : ℕ). IsPlaceOf run xs i spelling) here found)

-- if none was found there is none, in the list that was looked at
pub none_of : (run : Run) (xs ys : List Word) → xs ≡ ys → (o : Option ℕ) (spelling : List ℕ) → o ≡ None
    → IfNone o (IsNowhere run xs (length xs) spelling) → IsNowhere run ys (length ys) spelling
none_of run xs ys same None spelling is nowhere = subst (λ (words : List Word). IsNowhere run words (length words) spelling) same nowhere
none_of run xs ys same (Some k) spelling is nowhere = cc

-- a word that is at a place is not nowhere
not_nowhere : (run : Run) (words : List Word) (spelling : List ℕ) (place : ℕ) → IsPlaceOf run words place spelling
    → IsNowhere run words (length words) spelling → ⊥
not_nowhere run [] spelling place here nowhere = omega (arith, here.0)
not_nowhere run (word ∷ words) spelling place here nowhere = nowhere place word here.0 (here.1 word)

-- if the search meets nothing too long, neither does keeping the word: it was found, or it isn't too long to shape
pub found_fine : (run : Run) (xs ys : List Word) → xs ≡ ys → (spelling : List ℕ) → (FindsTooLong run xs spelling → ⊥)
    → (o : Option ℕ) (place : ℕ) → o ≡ Some place → IfSome o (λ k. IsPlaceOf run xs k spelling) → KeepsTooLong run ys spelling → ⊥
found_fine run xs ys same spelling none o place is found preserves = elim preserves [
  | inl finds ↦ none (subst (λ (words : List Word). FindsTooLong run words spelling) (sym same) finds)
  | inr shaping ↦
      let here = place_of run xs ys same o place spelling is found in
      not_nowhere run ys spelling place here shaping.0
]

pub none_fine : (run : Run) (xs ys : List Word) → xs ≡ ys → (spelling : List ℕ) → (FindsTooLong run xs spelling → ⊥)
    → (IsTooLongToShape run spelling → ⊥) → KeepsTooLong run ys spelling → ⊥
none_fine run xs ys same spelling none fits preserves = elim preserves [
  | inl finds ↦ none (subst (λ (words : List Word). FindsTooLong run words spelling) (sym same) finds)
  | inr shaping ↦ fits shaping.1
]

-- a spelling that was shaped is not too long for that
pub shaped_fine : (run : Run) (spelling : List ℕ) (glyphs : Buffer) → (2 ^ 32 ≤ length spelling → ⊥)
    → Shapes run (target_of run (spelled spelling)) (guessed run.unicode (spelled spelling)) glyphs
    → IsTooLongToShape run spelling → ⊥
shaped_fine run spelling glyphs counts shapes long = elim long [
  | inl bytes ↦ counts bytes
  | inr passes ↦
      let target = target_of run (spelled spelling) in
      let text = guessed run.unicode (spelled spelling) in
      none_past (all_steps run target) (entered text) (shapes.counted passes.0) passes.1.past
]

-- a word that was put after the others is at the last place
pub place_pushed : (run : Run) (words more : List Word) (word : Word) (place : ℕ) (spelling : List ℕ) → more ≡ words ++ word ∷ []
    → place ≡ length words → string_bytes word.spelling ≡ spelling → IsPlaceOf run more place spelling
place_pushed run words more word place spelling pushed last spells =
    let long : length more ≡ length words + 1 = ap length pushed ∙ length-append words (word ∷ []) in (
      omega (arith, long, last),
      λ d.
          let there : get_or more place d ≡ word = ap (λ (ws : List Word). get_or ws place d) pushed
          ∙ get_or_push words word d place (sym last) in
          let spelled : string_bytes (get_or more place d).spelling ≡ spelling = ap (λ (w : Word). string_bytes w.spelling) there
          ∙ spells in
          subst (λ (s : List ℕ). AreSpelledAlike run s spelling) (sym spelled) refl,
    )

-- a spelling that was prepared, and whose expanded list was within the limit, isn't too long
pub not_too_long : {P : Type 0} (run : Run) (spelling : List ℕ) (b : Buffer) → (IsTooLongToPrepare run spelling → P)
    → b ≡ prepared_text run (spelled spelling) → length (round_one run.rules b).items ≤ limit_of b → IsTooLong run spelling → P
not_too_long run spelling b prepares is counted (inl long) = prepares long
not_too_long run spelling b prepares is counted (inr over) =
    let text = prepared_text run (spelled spelling) in
    let within : length (round_one run.rules text).items ≤ limit_of text =
    subst (λ (b : Buffer). length (round_one run.rules b).items ≤ limit_of b) is counted in
    absurd (omega (arith, within, over))

-- what comparing two buffers says of them, it says of the texts that they are
pub compared-texts : (rules : Rules) (same : Bool) {a b first second : Buffer} → a ≡ first → b ≡ second
    → IsTrue same ↔ AreEquivalent rules (text_of a) (text_of b) → IsTrue same ↔ AreEquivalent rules (text_of first) (text_of second)
compared-texts rules same {a} {b} {first} {second} is_first is_second says =
    subst (λ (x : Buffer). IsTrue same ↔ AreEquivalent rules (text_of x) (text_of second)) is_first
    (subst (λ (y : Buffer). IsTrue same ↔ AreEquivalent rules (text_of a) (text_of y)) is_second says)
