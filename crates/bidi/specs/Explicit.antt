-- The rules P2, P3 and X1 to X8.
use Rattle.std.specs.Prelude.{ℕ, ◌+◌, ◌-◌, ◌%◌, ◌==◌, ◌&&◌, not, Bool, true, false, List, [], ◌∷◌, nat_le, if◌then◌else◌}
use Rattle.ucd_bidi.specs.declared.BidiClass.{BidiClass}
use Rattle.ucd_bidi.specs.declared.BidiClass.TheVariants.{FirstStrongIsolate, LeftToRight, LeftToRightEmbedding, LeftToRightIsolate}
use Rattle.ucd_bidi.specs.declared.BidiClass.TheVariants.{LeftToRightOverride, OtherNeutral, ParagraphSeparator, PopDirectionalFormat}
use Rattle.ucd_bidi.specs.declared.BidiClass.TheVariants.{PopDirectionalIsolate, RightToLeft, RightToLeftEmbedding, RightToLeftIsolate}
use Rattle.ucd_bidi.specs.declared.BidiClass.TheVariants.{RightToLeftOverride}
use Rattle.bidi.specs.Classes.{is, is_initiator, is_strong}
use Rattle.bidi.specs.declared.explicit.Placed.{Placed}
use Rattle.bidi.specs.declared.explicit.Status.{Status}

-- P2, P3: whether the first strong character is R or AL, passing over what stands between isolate initiators and their
-- PDIs; `depth` counts those that are open. Of a whole paragraph, PDIs that match none are passed over; after an FSI the
-- one that matches it ends the search
abbrev pub first_is_right : Bool → ℕ → List BidiClass → Bool
first_is_right whole depth [] = false
first_is_right whole depth (class ∷ classes) =
    if is_initiator class then first_is_right whole (depth + 1) classes
    else if is class PopDirectionalIsolate then
    (if depth == 0 then (if whole then first_is_right whole depth classes else false)
    else first_is_right whole (depth - 1) classes)
    else if is_strong class && depth == 0 then not (is class LeftToRight)
    else first_is_right whole depth classes

-- BD2: the greatest level of an embedding
abbrev pub max_depth : ℕ
max_depth = 125

-- the directional status stack of X1, its last entry apart, and the three counts
pub record Stack : Type 0 where
  pub top : Status
  pub below : List Status
  pub overflow_isolates : ℕ
  pub overflow_embeddings : ℕ
  pub isolates : ℕ

-- X1
abbrev pub stack_of : ℕ → Stack
stack_of level = record {
  top = record { level = level; forced = OtherNeutral; isolate = false };
  below = [];
  overflow_isolates = 0;
  overflow_embeddings = 0;
  isolates = 0;
}

-- the least odd level above a level, or the least even one
abbrev pub next_level : Bool → ℕ → ℕ
next_level right level =
    if right then (if level % 2 == 0 then level + 1 else level + 2)
    else (if level % 2 == 0 then level + 2 else level + 1)

-- whether an embedding or isolate is valid
abbrev pub has_room : Bool → Stack → Bool
has_room right stack =
    stack.overflow_isolates == 0 && (stack.overflow_embeddings == 0 && nat_le (next_level right stack.top.level) max_depth)

abbrev pub pushed : Status → Stack → Stack
pushed status stack = record stack { top = status; below = stack.top ∷ stack.below }

-- the last entry, if another one is there
abbrev pub popped : Stack → Stack
popped stack = elim stack.below [
  | [] ↦ stack
  | status ∷ below ↦ record stack { top = status; below = below }
]

-- X2 to X5
abbrev pub embedded : Bool → BidiClass → Stack → Stack
embedded right forced stack =
    if has_room right stack then pushed (record { level = next_level right stack.top.level; forced = forced; isolate = false }) stack
    else if stack.overflow_isolates == 0 then record stack { overflow_embeddings = stack.overflow_embeddings + 1 }
    else stack

-- X5a to X5c
abbrev pub isolated : Bool → Stack → Stack
isolated right stack =
    if has_room right stack then
    record (pushed (record { level = next_level right stack.top.level; forced = OtherNeutral; isolate = true }) stack) { isolates = stack.isolates + 1 }
    else record stack { overflow_isolates = stack.overflow_isolates + 1 }

-- X6a: the entries up to the last isolate and that isolate are popped
abbrev pub up_to_isolate : Status → List Status → List Status
up_to_isolate top [] = top ∷ []
up_to_isolate top (status ∷ below) = if top.isolate then status ∷ below else up_to_isolate status below

abbrev pub with_entries : Stack → List Status → Stack
with_entries stack [] = stack
with_entries stack (status ∷ below) = record stack { top = status; below = below }

abbrev pub closed : Stack → Stack
closed stack =
    if not (stack.overflow_isolates == 0) then record stack { overflow_isolates = stack.overflow_isolates - 1 }
    else if stack.isolates == 0 then stack
    else record (with_entries stack (up_to_isolate stack.top stack.below)) { overflow_embeddings = 0; isolates = stack.isolates - 1 }

-- X7
abbrev pub terminated : Stack → Stack
terminated stack =
    if not (stack.overflow_isolates == 0) then stack
    else if not (stack.overflow_embeddings == 0) then record stack { overflow_embeddings = stack.overflow_embeddings - 1 }
    else if stack.top.isolate then stack
    else popped stack

-- the stack after a character, given the level of the paragraph and whether text that follows is right to left
abbrev pub stepped : ℕ → Bool → BidiClass → Stack → Stack
stepped base first class stack =
    if is class RightToLeftEmbedding then embedded true OtherNeutral stack
    else if is class LeftToRightEmbedding then embedded false OtherNeutral stack
    else if is class RightToLeftOverride then embedded true RightToLeft stack
    else if is class LeftToRightOverride then embedded false LeftToRight stack
    else if is class RightToLeftIsolate then isolated true stack
    else if is class LeftToRightIsolate then isolated false stack
    else if is class FirstStrongIsolate then isolated first stack
    else if is class PopDirectionalIsolate then closed stack
    else if is class PopDirectionalFormat then terminated stack
    else if is class ParagraphSeparator then stack_of base
    else stack

-- whether none of X2 to X7 acts on a class
abbrev pub is_plain : BidiClass → Bool
is_plain LeftToRightEmbedding = false
is_plain RightToLeftEmbedding = false
is_plain LeftToRightOverride = false
is_plain RightToLeftOverride = false
is_plain PopDirectionalFormat = false
is_plain LeftToRightIsolate = false
is_plain RightToLeftIsolate = false
is_plain FirstStrongIsolate = false
is_plain PopDirectionalIsolate = false
is_plain _ = true

-- X5a to X6a: a character has the level of the last entry, and the class that it forces, if any: that entry is the one
-- before the character, and for a PDI the one after it. X8: a paragraph separator has the level of the paragraph
abbrev pub placed_by : Status → BidiClass → Placed
placed_by top class = record { level = top.level; class = if is top.forced OtherNeutral then class else top.forced }

abbrev pub placed : ℕ → Status → Status → BidiClass → Placed
placed base before after class =
    if is class PopDirectionalIsolate then placed_by after class
    else if is class ParagraphSeparator then record { level = base; class = class }
    else placed_by before class

abbrev pub explicit_from : ℕ → Stack → List BidiClass → List Placed
explicit_from base stack [] = []
explicit_from base stack (class ∷ classes) =
    placed base stack.top (stepped base (first_is_right false 0 classes) class stack).top class
    ∷ explicit_from base (stepped base (first_is_right false 0 classes) class stack) classes

abbrev pub explicit : ℕ → List BidiClass → List Placed
explicit base classes = explicit_from base (stack_of base) classes
