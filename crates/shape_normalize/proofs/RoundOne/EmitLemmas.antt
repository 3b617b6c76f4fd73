-- A piece that is emitted after what was, and the room for it.
use Rattle.std.proofs.Common.{◌≡◌, ℕ, ◌+◌, ◌-◌, ◌<◌, ◌≤◌, List, ◌∷◌, ◌++◌, length, map, reverse, Result, Ok, Err, IsErrAnd, sym, ap, ◌∙◌, arith}
use Rattle.std.proofs.lemmas.List.{length-append, length-map, length-reverse}
use Rattle.shape_buffer.specs.declared.buffer.error.ShapeError.{ShapeError}
use Rattle.shape_buffer.specs.declared.buffer.error.ShapeError.TheVariants.{Length, Memory}

-- a growth that was refused is no `Length`
pub memory_alone : {T : Type 0} (result : Result T ShapeError) → IsErrAnd result (λ e. e ≡ Memory) → result ≡ Err Length → ⊥
memory_alone (Ok value) refused is = cc
memory_alone (Err error) refused is = cc

pub past_room : {A : Type 0} (out piece : List A) (limit : ℕ) → length out ≤ limit → limit - length out < length piece → limit < length (out ++ piece)
past_room out piece limit within past = omega (arith, length-append out piece)

pub within_room : {A : Type 0} (out piece new : List A) (limit : ℕ) → length out ≤ limit → length piece ≤ limit - length out → new ≡ out ++ piece
    → length new ≤ limit
within_room out piece new limit within fits is = omega (arith, ap length is, length-append out piece)

-- what was emitted is the same under two names, and so is the piece
pub put_as : {A : Type 0} (new kept out put piece : List A) → new ≡ kept ++ put → kept ≡ out → piece ≡ put → new ≡ out ++ piece
put_as new kept out put piece is same becomes = is ∙ ap (λ xs. xs ++ put) same ∙ ap (λ xs. out ++ xs) (sym becomes)

pub length_of_parts : {A B : Type 0} (f : A → B) (first : A) (seconds : List A) (piece : List B) → piece ≡ map f (first ∷ reverse seconds)
    → length piece ≡ length seconds + 1
length_of_parts f first seconds piece is = omega (arith, ap length is, length-map (reverse seconds) f, length-reverse seconds)
