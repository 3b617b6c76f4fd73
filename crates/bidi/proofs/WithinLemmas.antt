-- BD2: the levels of X1 to X8 are at most 125.
use Rattle.std.proofs.Common.{◌≡◌, ℕ, suc, ◌+◌, ◌≤◌, ◌==◌, not, Bool, true, false, List, [], ◌∷◌, length, refl, subst, sym, ap, arith, inl, inr}
use Rattle.std.proofs.lemmas.Bool.Decides.{nat_tests}
use Rattle.std.specs.List.{All, AllByRecursion}
use Rattle.std.specs.Prelude.{⊤, nat_le}
use Rattle.std.proofs.lemmas.List.Elements.{All-from_recursion}
use Rattle.std.proofs.lemmas.Bool.{cases_Bool, cond-true, cond-false, and_parts}
use Rattle.ucd_bidi.specs.declared.BidiClass.{BidiClass}
use Rattle.ucd_bidi.specs.declared.BidiClass.TheVariants.{ArabicLetter, ArabicNumber, ParagraphSeparator, BoundaryNeutral, CommonSeparator}
use Rattle.ucd_bidi.specs.declared.BidiClass.TheVariants.{EuropeanNumber, EuropeanSeparator, EuropeanTerminator, FirstStrongIsolate, LeftToRight}
use Rattle.ucd_bidi.specs.declared.BidiClass.TheVariants.{LeftToRightEmbedding, LeftToRightIsolate, LeftToRightOverride, NonspacingMark, OtherNeutral}
use Rattle.ucd_bidi.specs.declared.BidiClass.TheVariants.{PopDirectionalFormat, PopDirectionalIsolate, RightToLeft, RightToLeftEmbedding}
use Rattle.ucd_bidi.specs.declared.BidiClass.TheVariants.{RightToLeftIsolate, RightToLeftOverride, SegmentSeparator, WhiteSpace}
use Rattle.bidi.specs.Classes.{is, is_removed}
use Rattle.bidi.specs.Explicit.{Stack, closed, embedded, explicit, explicit_from, first_is_right, has_room, isolated, next_level, placed, stack_of, stepped, terminated, up_to_isolate, with_entries}
use Rattle.bidi.specs.Members.{members, members_from}
use Rattle.bidi.specs.Sequences.{AreWithin}
use Rattle.bidi.specs.declared.explicit.Placed.{Placed}
use Rattle.bidi.specs.declared.explicit.Status.{Status}

abbrev AreStatuses : List Status → Type 0
AreStatuses [] = ⊤
AreStatuses (s ∷ below) = (s.level ≤ 125) × AreStatuses below

pub record IsStack (stack : Stack) : Type 0 where
  pub top : stack.top.level ≤ 125
  pub below : AreStatuses stack.below

pub stack_within : (base : ℕ) → base ≤ 125 → IsStack (stack_of base)
stack_within base le = record { top = le; below = tt }

room : (right : Bool) (stack : Stack) → has_room right stack ≡ true → next_level right stack.top.level ≤ 125
room right stack on =
    let test : nat_le (next_level right stack.top.level) 125 ≡ true = (and_parts _ _ (and_parts _ _ on).1).1 in
    grind (arith, nat_tests)

embedded_within : (right : Bool) (forced : BidiClass) (stack : Stack) → IsStack stack → IsStack (embedded right forced stack)
embedded_within right forced stack h = elim (cases_Bool (has_room right stack)) [
  | inl on ↦ subst IsStack (sym (cond-true (has_room right stack) _ _ on)) (record { top = room right stack on; below = (h.top, h.below) })
  | inr off ↦ subst IsStack (sym (cond-false (has_room right stack) _ _ off)) (elim (cases_Bool (stack.overflow_isolates == 0)) [
    | inl none ↦ subst IsStack (sym (cond-true (stack.overflow_isolates == 0) _ _ none)) (record { top = h.top; below = h.below })
    | inr some ↦ subst IsStack (sym (cond-false (stack.overflow_isolates == 0) _ _ some)) h
  ])
]

isolated_within : (right : Bool) (stack : Stack) → IsStack stack → IsStack (isolated right stack)
isolated_within right stack h = elim (cases_Bool (has_room right stack)) [
  | inl on ↦ subst IsStack (sym (cond-true (has_room right stack) _ _ on)) (record { top = room right stack on; below = (h.top, h.below) })
  | inr off ↦ subst IsStack (sym (cond-false (has_room right stack) _ _ off)) (record { top = h.top; below = h.below })
]

entries_within : (top : Status) (below : List Status) → top.level ≤ 125 → AreStatuses below → AreStatuses (up_to_isolate top below)
entries_within top [] le h = (le, tt)
entries_within top (s ∷ below) le h = elim (cases_Bool top.isolate) [
  | inl on ↦ subst AreStatuses (sym (cond-true top.isolate (s ∷ below) (up_to_isolate s below) on)) h
  | inr off ↦ subst AreStatuses (sym (cond-false top.isolate (s ∷ below) (up_to_isolate s below) off)) (entries_within s below h.0 h.1)
]

with_within : (stack : Stack) (entries : List Status) (n : ℕ) → IsStack stack → AreStatuses entries
    → IsStack (record (with_entries stack entries) { overflow_embeddings = 0; isolates = n })
with_within stack [] n h e = record { top = h.top; below = h.below }
with_within stack (s ∷ below) n h e = record { top = e.0; below = e.1 }

closed_within : (stack : Stack) → IsStack stack → IsStack (closed stack)
closed_within stack h = elim (cases_Bool (not (stack.overflow_isolates == 0))) [
  | inl some ↦ subst IsStack (sym (cond-true (not (stack.overflow_isolates == 0)) _ _ some)) (record { top = h.top; below = h.below })
  | inr none ↦ subst IsStack (sym (cond-false (not (stack.overflow_isolates == 0)) _ _ none)) (elim (cases_Bool (stack.isolates == 0)) [
    | inl no_isolate ↦ subst IsStack (sym (cond-true (stack.isolates == 0) _ _ no_isolate)) h
    | inr isolate ↦ subst IsStack (sym (cond-false (stack.isolates == 0) _ _ isolate))
        (with_within stack (up_to_isolate stack.top stack.below) _ h (entries_within stack.top stack.below h.top h.below))
  ])
]

popped_within : (stack : Stack) (below : List Status) → IsStack stack → AreStatuses below → IsStack (elim below [
  | [] ↦ stack
  | status ∷ rest ↦ record stack { top = status; below = rest }
])
popped_within stack [] h e = h
popped_within stack (s ∷ below) h e = record { top = e.0; below = e.1 }

terminated_within : (stack : Stack) → IsStack stack → IsStack (terminated stack)
terminated_within stack h = elim (cases_Bool (not (stack.overflow_isolates == 0))) [
  | inl some ↦ subst IsStack (sym (cond-true (not (stack.overflow_isolates == 0)) _ _ some)) h
  | inr none ↦ subst IsStack (sym (cond-false (not (stack.overflow_isolates == 0)) _ _ none)) (elim (cases_Bool (not (stack.overflow_embeddings == 0))) [
    | inl some ↦ subst IsStack (sym (cond-true (not (stack.overflow_embeddings == 0)) _ _ some)) (record { top = h.top; below = h.below })
    | inr none' ↦ subst IsStack (sym (cond-false (not (stack.overflow_embeddings == 0)) _ _ none')) (elim (cases_Bool stack.top.isolate) [
      | inl isolate ↦ subst IsStack (sym (cond-true stack.top.isolate _ _ isolate)) h
      | inr embedding ↦ subst IsStack (sym (cond-false stack.top.isolate _ _ embedding)) (popped_within stack stack.below h h.below)
    ])
  ])
]

stepped_within : (base : ℕ) (first : Bool) (class : BidiClass) (stack : Stack) → base ≤ 125 → IsStack stack → IsStack (stepped base first class stack)
stepped_within base first ArabicLetter stack le h = h
stepped_within base first ArabicNumber stack le h = h
stepped_within base first ParagraphSeparator stack le h = stack_within base le
stepped_within base first BoundaryNeutral stack le h = h
stepped_within base first CommonSeparator stack le h = h
stepped_within base first EuropeanNumber stack le h = h
stepped_within base first EuropeanSeparator stack le h = h
stepped_within base first EuropeanTerminator stack le h = h
stepped_within base first FirstStrongIsolate stack le h = isolated_within first stack h
stepped_within base first LeftToRight stack le h = h
stepped_within base first LeftToRightEmbedding stack le h = embedded_within false OtherNeutral stack h
stepped_within base first LeftToRightIsolate stack le h = isolated_within false stack h
stepped_within base first LeftToRightOverride stack le h = embedded_within false LeftToRight stack h
stepped_within base first NonspacingMark stack le h = h
stepped_within base first OtherNeutral stack le h = h
stepped_within base first PopDirectionalFormat stack le h = terminated_within stack h
stepped_within base first PopDirectionalIsolate stack le h = closed_within stack h
stepped_within base first RightToLeft stack le h = h
stepped_within base first RightToLeftEmbedding stack le h = embedded_within true OtherNeutral stack h
stepped_within base first RightToLeftIsolate stack le h = isolated_within true stack h
stepped_within base first RightToLeftOverride stack le h = embedded_within true RightToLeft stack h
stepped_within base first SegmentSeparator stack le h = h
stepped_within base first WhiteSpace stack le h = h

placed_within : (base : ℕ) (before after : Status) (class : BidiClass) → base ≤ 125 → before.level ≤ 125 → after.level ≤ 125
    → (placed base before after class).level ≤ 125
placed_within base before after class le b a = elim (cases_Bool (is class PopDirectionalIsolate)) [
  | inl on ↦ subst (λ (p : Placed). p.level ≤ 125) (sym (cond-true (is class PopDirectionalIsolate) _ _ on)) a
  | inr off ↦ subst (λ (p : Placed). p.level ≤ 125) (sym (cond-false (is class PopDirectionalIsolate) _ _ off)) (elim (cases_Bool (is class ParagraphSeparator)) [
    | inl on ↦ subst (λ (p : Placed). p.level ≤ 125) (sym (cond-true (is class ParagraphSeparator) _ _ on)) le
    | inr off' ↦ subst (λ (p : Placed). p.level ≤ 125) (sym (cond-false (is class ParagraphSeparator) _ _ off')) b
  ])
]

abbrev pub ArePlaced : List Placed → Type 0
ArePlaced [] = ⊤
ArePlaced (p ∷ ps) = (p.level ≤ 125) × ArePlaced ps

pub explicit_within : (base : ℕ) (stack : Stack) (classes : List BidiClass) → base ≤ 125 → IsStack stack → ArePlaced (explicit_from base stack classes)
explicit_within base stack [] le h = tt
explicit_within base stack (class ∷ classes) le h =
    let after = stepped_within base (first_is_right false 0 classes) class stack le h in
    (placed_within base stack.top (stepped base (first_is_right false 0 classes) class stack).top class le h.top after.top, explicit_within base (stepped base (first_is_right false 0 classes) class stack) classes le after)

from_within : (base before place : ℕ) (text : List ℕ) (classes : List BidiClass) (ps : List Placed) → ArePlaced ps
    → AreWithin (members_from base before place text classes ps)
from_within base before place [] classes ps h = tt
from_within base before place (c ∷ text) [] ps h = tt
from_within base before place (c ∷ text) (class ∷ classes) [] h = tt
from_within base before place (c ∷ text) (class ∷ classes) (p ∷ ps) h = elim (cases_Bool (is_removed class)) [
  | inl on ↦ subst AreWithin (sym (cond-true (is_removed class) _ _ on)) (from_within base before (place + 1) text classes ps h.1)
  | inr off ↦ subst AreWithin (sym (cond-false (is_removed class) _ _ off)) (h.0, from_within base p.level (place + 1) text classes ps h.1)
]

-- X9 leaves members on levels of at most 125
pub members_within : (base : ℕ) (text : List ℕ) (classes : List BidiClass) → base ≤ 1 → AreWithin (members base text classes (explicit base classes))
members_within base text classes le =
    let within : base ≤ 125 = omega arith in
    from_within base base 0 text classes (explicit base classes) (explicit_within base (stack_of base) classes within (stack_within base within))

-- a level for each character
pub length_explicit : (base : ℕ) (stack : Stack) (classes : List BidiClass) → length (explicit_from base stack classes) ≡ length classes
length_explicit base stack [] = refl
length_explicit base stack (class ∷ classes) =
    ap suc (length_explicit base (stepped base (first_is_right false 0 classes) class stack) classes)

recursion : (ps : List Placed) → ArePlaced ps → AllByRecursion (λ (p : Placed). p.level ≤ 125) ps
recursion [] h = tt
recursion (p ∷ ps) h = (h.0, recursion ps h.1)

pub all_placed : (base : ℕ) (classes : List BidiClass) → base ≤ 125 → All (λ (p : Placed). p.level ≤ 125) (explicit base classes)
all_placed base classes le =
    All-from_recursion (λ (p : Placed). p.level ≤ 125) (explicit base classes)
    (recursion (explicit base classes) (explicit_within base (stack_of base) classes le (stack_within base le)))
