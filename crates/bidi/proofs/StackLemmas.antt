-- The directional status stack, one character on.
use Rattle.std.proofs.Common.{◌≡◌, ℕ, ◌+◌, ◌-◌, ◌≤◌, ◌==◌, Bool, true, false, List, [], ◌∷◌, refl, subst, sym, arith, inl, inr}
use Rattle.std.proofs.lemmas.Bool.{cases_Bool, cond-false}
use Rattle.ucd_bidi.specs.declared.BidiClass.{BidiClass}
use Rattle.ucd_bidi.specs.declared.BidiClass.TheVariants.{ArabicLetter, ArabicNumber, ParagraphSeparator, BoundaryNeutral, CommonSeparator}
use Rattle.ucd_bidi.specs.declared.BidiClass.TheVariants.{EuropeanNumber, EuropeanSeparator, EuropeanTerminator, FirstStrongIsolate, LeftToRight}
use Rattle.ucd_bidi.specs.declared.BidiClass.TheVariants.{LeftToRightEmbedding, LeftToRightIsolate, LeftToRightOverride, NonspacingMark, OtherNeutral}
use Rattle.ucd_bidi.specs.declared.BidiClass.TheVariants.{PopDirectionalFormat, PopDirectionalIsolate, RightToLeft, RightToLeftEmbedding}
use Rattle.ucd_bidi.specs.declared.BidiClass.TheVariants.{RightToLeftIsolate, RightToLeftOverride, SegmentSeparator, WhiteSpace}
use Rattle.bidi.specs.Explicit.{Stack, closed, embedded, has_room, isolated, popped, stepped, terminated, up_to_isolate, with_entries}
use Rattle.bidi.specs.declared.explicit.Status.{Status}

-- where no isolate is valid, its direction changes nothing
isolated_alike : (a b : Bool) (stack : Stack) → has_room true stack ≡ false → has_room false stack ≡ false → isolated a stack ≡ isolated b stack
isolated_alike true true stack t f = refl
isolated_alike false false stack t f = refl
isolated_alike true false stack t f = rw (t, f) refl
isolated_alike false true stack t f = rw (t, f) refl

-- a character that is no FSI doesn't ask for the direction after it
pub asks_none : (base : ℕ) (a b : Bool) (class : BidiClass) (stack : Stack) → (class ≡ FirstStrongIsolate → ⊥)
    → stepped base a class stack ≡ stepped base b class stack
asks_none base a b ArabicLetter stack not = refl
asks_none base a b ArabicNumber stack not = refl
asks_none base a b ParagraphSeparator stack not = refl
asks_none base a b BoundaryNeutral stack not = refl
asks_none base a b CommonSeparator stack not = refl
asks_none base a b EuropeanNumber stack not = refl
asks_none base a b EuropeanSeparator stack not = refl
asks_none base a b EuropeanTerminator stack not = refl
asks_none base a b FirstStrongIsolate stack not = absurd (not refl)
asks_none base a b LeftToRight stack not = refl
asks_none base a b LeftToRightEmbedding stack not = refl
asks_none base a b LeftToRightIsolate stack not = refl
asks_none base a b LeftToRightOverride stack not = refl
asks_none base a b NonspacingMark stack not = refl
asks_none base a b OtherNeutral stack not = refl
asks_none base a b PopDirectionalFormat stack not = refl
asks_none base a b PopDirectionalIsolate stack not = refl
asks_none base a b RightToLeft stack not = refl
asks_none base a b RightToLeftEmbedding stack not = refl
asks_none base a b RightToLeftIsolate stack not = refl
asks_none base a b RightToLeftOverride stack not = refl
asks_none base a b SegmentSeparator stack not = refl
asks_none base a b WhiteSpace stack not = refl

pub asks_one : (base : ℕ) (a b : Bool) (class : BidiClass) (stack : Stack) → has_room true stack ≡ false → has_room false stack ≡ false
    → stepped base a class stack ≡ stepped base b class stack
asks_one base a b ArabicLetter stack t f = refl
asks_one base a b ArabicNumber stack t f = refl
asks_one base a b ParagraphSeparator stack t f = refl
asks_one base a b BoundaryNeutral stack t f = refl
asks_one base a b CommonSeparator stack t f = refl
asks_one base a b EuropeanNumber stack t f = refl
asks_one base a b EuropeanSeparator stack t f = refl
asks_one base a b EuropeanTerminator stack t f = refl
asks_one base a b FirstStrongIsolate stack t f = isolated_alike a b stack t f
asks_one base a b LeftToRight stack t f = refl
asks_one base a b LeftToRightEmbedding stack t f = refl
asks_one base a b LeftToRightIsolate stack t f = refl
asks_one base a b LeftToRightOverride stack t f = refl
asks_one base a b NonspacingMark stack t f = refl
asks_one base a b OtherNeutral stack t f = refl
asks_one base a b PopDirectionalFormat stack t f = refl
asks_one base a b PopDirectionalIsolate stack t f = refl
asks_one base a b RightToLeft stack t f = refl
asks_one base a b RightToLeftEmbedding stack t f = refl
asks_one base a b RightToLeftIsolate stack t f = refl
asks_one base a b RightToLeftOverride stack t f = refl
asks_one base a b SegmentSeparator stack t f = refl
asks_one base a b WhiteSpace stack t f = refl

-- no count grows by more than one
pub record Grows (old new : Stack) : Type 0 where
  pub isolates : new.isolates ≤ old.isolates + 1
  pub overflow_isolates : new.overflow_isolates ≤ old.overflow_isolates + 1
  pub overflow_embeddings : new.overflow_embeddings ≤ old.overflow_embeddings + 1

same : (stack : Stack) → Grows stack stack
same stack = record { isolates = omega arith; overflow_isolates = omega arith; overflow_embeddings = omega arith }

grows-embedded : (right : Bool) (forced : BidiClass) (stack : Stack) → Grows stack (embedded right forced stack)
grows-embedded right forced stack = elim (cases_Bool (has_room right stack)) [
  | inl on ↦ rw on (record { isolates = omega arith; overflow_isolates = omega arith; overflow_embeddings = omega arith })
  | inr off ↦ rw off (elim (cases_Bool (stack.overflow_isolates == 0)) [
    | inl none ↦ rw none (record { isolates = omega arith; overflow_isolates = omega arith; overflow_embeddings = omega arith })
    | inr some ↦ rw some (same stack)
  ])
]

grows-isolated : (right : Bool) (stack : Stack) → Grows stack (isolated right stack)
grows-isolated right stack = elim (cases_Bool (has_room right stack)) [
  | inl on ↦ rw on (record { isolates = omega arith; overflow_isolates = omega arith; overflow_embeddings = omega arith })
  | inr off ↦ rw off (record { isolates = omega arith; overflow_isolates = omega arith; overflow_embeddings = omega arith })
]

closing : (stack : Stack) (entries : List Status) → Grows stack (record (with_entries stack entries) { overflow_embeddings = 0; isolates = stack.isolates - 1 })
closing stack [] = record { isolates = omega arith; overflow_isolates = omega arith; overflow_embeddings = omega arith }
closing stack (entry ∷ entries) = record { isolates = omega arith; overflow_isolates = omega arith; overflow_embeddings = omega arith }

grows-closed : (stack : Stack) → Grows stack (closed stack)
grows-closed stack = elim (cases_Bool (stack.overflow_isolates == 0)) [
  | inl none ↦ rw none (elim (cases_Bool (stack.isolates == 0)) [
    | inl no_isolate ↦ rw no_isolate (same stack)
    | inr some ↦ rw some (closing stack (up_to_isolate stack.top stack.below))
  ])
  | inr some ↦ rw some (record { isolates = omega arith; overflow_isolates = omega arith; overflow_embeddings = omega arith })
]

popping : (stack : Stack) (below : List Status) → Grows stack (elim below [
  | [] ↦ stack
  | status ∷ rest ↦ record stack { top = status; below = rest }
])
popping stack [] = same stack
popping stack (entry ∷ entries) = record { isolates = omega arith; overflow_isolates = omega arith; overflow_embeddings = omega arith }

grows-terminated : (stack : Stack) → Grows stack (terminated stack)
grows-terminated stack = elim (cases_Bool (stack.overflow_isolates == 0)) [
  | inl none ↦ rw none (elim (cases_Bool (stack.overflow_embeddings == 0)) [
    | inl no_embedding ↦ rw no_embedding (elim (cases_Bool stack.top.isolate) [
      | inl isolate ↦ rw isolate (record { isolates = omega arith; overflow_isolates = omega arith; overflow_embeddings = omega arith })
      | inr embedding ↦ subst (Grows stack) (sym (cond-false stack.top.isolate stack (popped stack) embedding)) (popping stack stack.below)
    ])
    | inr some ↦ rw some (record { isolates = omega arith; overflow_isolates = omega arith; overflow_embeddings = omega arith })
  ])
  | inr some ↦ rw some (same stack)
]

pub grows : (base : ℕ) (first : Bool) (class : BidiClass) (stack : Stack) → Grows stack (stepped base first class stack)
grows base first ArabicLetter stack = same stack
grows base first ArabicNumber stack = same stack
grows base first ParagraphSeparator stack = record { isolates = omega arith; overflow_isolates = omega arith; overflow_embeddings = omega arith }
grows base first BoundaryNeutral stack = same stack
grows base first CommonSeparator stack = same stack
grows base first EuropeanNumber stack = same stack
grows base first EuropeanSeparator stack = same stack
grows base first EuropeanTerminator stack = same stack
grows base first FirstStrongIsolate stack = grows-isolated first stack
grows base first LeftToRight stack = same stack
grows base first LeftToRightEmbedding stack = grows-embedded false OtherNeutral stack
grows base first LeftToRightIsolate stack = grows-isolated false stack
grows base first LeftToRightOverride stack = grows-embedded false LeftToRight stack
grows base first NonspacingMark stack = same stack
grows base first OtherNeutral stack = same stack
grows base first PopDirectionalFormat stack = grows-terminated stack
grows base first PopDirectionalIsolate stack = grows-closed stack
grows base first RightToLeft stack = same stack
grows base first RightToLeftEmbedding stack = grows-embedded true OtherNeutral stack
grows base first RightToLeftIsolate stack = grows-isolated true stack
grows base first RightToLeftOverride stack = grows-embedded true RightToLeft stack
grows base first SegmentSeparator stack = same stack
grows base first WhiteSpace stack = same stack
