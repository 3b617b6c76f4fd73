-- The rule X10: isolating run sequences, and the rules that each of them takes.
use Rattle.std.specs.Prelude.{ℕ, ⊤, ◌≤◌, ◌==◌, max, not, Bool, false, List, [], ◌∷◌, ◌++◌, map, slice_set, if◌then◌else◌}
use Rattle.ucd_bidi.specs.declared.BidiClass.{BidiClass}
use Rattle.ucd_bidi.specs.declared.BidiClass.TheVariants.{PopDirectionalIsolate}
use Rattle.bidi.specs.Brackets.{n0}
use Rattle.bidi.specs.Classes.{is, is_initiator, of_level}
use Rattle.bidi.specs.Neutral.{implicit_level, neutral}
use Rattle.bidi.specs.Weak.{weak}
use Rattle.bidi.specs.declared.members.Member.{Member}

-- X10: sos goes by the higher of the levels of the sequence and of the character before it
abbrev pub sos_of : Member → BidiClass
sos_of first = of_level (max first.before first.level)

-- X10: eos goes by the higher of the levels of the sequence and of the character after it; an isolate initiator that ends a
-- sequence has no PDI, and the level of the paragraph stands for the other
abbrev pub eos_of : ℕ → Member → BidiClass
eos_of base last = of_level (max (if is_initiator last.original then base else last.after) last.level)

abbrev pub class_of : Member → BidiClass
class_of member = member.class

abbrev pub last_of : Member → List Member → Member
last_of first [] = first
last_of first (member ∷ members) = last_of member members

-- X10: W1 to W7, N0, N1 and N2, in this order
abbrev pub resolved_classes : ℕ → List Member → Member → Member → List BidiClass → List BidiClass
resolved_classes base members first last classes =
    neutral (of_level first.level) (eos_of base last) (sos_of first)
    (n0 (of_level first.level) (sos_of first) members (weak (sos_of first) classes))

-- I1 and I2, written to the places of the members
abbrev pub with_levels : List Member → List BidiClass → List ℕ → List ℕ
with_levels [] classes levels = levels
with_levels (member ∷ members) [] levels = levels
with_levels (member ∷ members) (class ∷ classes) levels =
    with_levels members classes (slice_set levels member.place (implicit_level member.level class))

abbrev pub with_classes : ℕ → List Member → List BidiClass → List ℕ → List ℕ
with_classes base [] classes levels = levels
with_classes base (first ∷ rest) classes levels =
    with_levels (first ∷ rest) (resolved_classes base (first ∷ rest) first (last_of first rest) classes) levels

-- X10: a sequence resolved
abbrev pub with_sequence : ℕ → List Member → List ℕ → List ℕ
with_sequence base members levels = with_classes base members (map class_of members) levels

-- ---- isolating run sequences

-- a walk over the members: the sequence so far, for each isolate that is open the sequence that its initiator interrupts, the
-- innermost one first, which is empty if what follows the initiator is on its level, and what is made of the sequences that ended
pub record Walk (A : Type 0) : Type 0 where
  pub current : List Member
  pub opened : List (List Member)
  pub done : A

abbrev pub start : {A : Type 0} → A → Walk A
start done = record { current = []; opened = []; done = done }

-- BD7: whether a member is on another level than a sequence
abbrev pub starts_anew : List Member → Member → Bool
starts_anew [] member = false
starts_anew (first ∷ rest) member = not (first.level == member.level)

module _ {A : Type 0} (make : List Member → A → A) where
  -- the sequence so far ends
  abbrev pub finished : Walk A → Walk A
  finished walk = record { current = []; opened = walk.opened; done = make walk.current walk.done }

  -- BD9, BD13: a PDI goes on with the sequence that ends with the isolate initiator that it matches
  abbrev pub returned_to : List (List Member) → Walk A → Walk A
  returned_to [] walk = walk
  returned_to ([] ∷ opened) walk = record walk { opened = opened }
  returned_to ((first ∷ rest) ∷ opened) walk =
      record { current = first ∷ rest; opened = opened; done = make walk.current walk.done }

  abbrev pub returned : Member → Walk A → Walk A
  returned member walk = if is member.original PopDirectionalIsolate then returned_to walk.opened walk else walk

  -- BD7: a member goes on with the sequence if it is on its level, and else begins one
  abbrev pub joined : Member → Walk A → Walk A
  joined member walk =
      if starts_anew walk.current member then record { current = member ∷ []; opened = walk.opened; done = make walk.current walk.done }
      else record walk { current = walk.current ++ member ∷ [] }

-- BD13: an isolate initiator interrupts its sequence, if what follows it is on another level
abbrev pub interrupted : {A : Type 0} → Member → Walk A → Walk A
interrupted member walk =
    if is_initiator member.original then
    (if member.after == member.level then record walk { opened = [] ∷ walk.opened }
    else record walk { current = []; opened = walk.current ∷ walk.opened })
    else walk

module _ {A : Type 0} (make : List Member → A → A) where
  abbrev pub walk_step : Member → Walk A → Walk A
  walk_step member walk = interrupted member (joined make member (returned make member walk))

  abbrev pub walked : List Member → Walk A → Walk A
  walked [] walk = walk
  walked (member ∷ members) walk = walked members (walk_step member walk)

  -- the sequences that no PDI goes on with end with the paragraph
  abbrev pub all_made : List (List Member) → A → A
  all_made [] done = done
  all_made (sequence ∷ sequences) done = all_made sequences (make sequence done)

  abbrev pub ended : Walk A → A
  ended walk = all_made walk.opened (make walk.current walk.done)

  abbrev pub over_sequences : List Member → A → A
  over_sequences members done = ended (walked members (start done))

abbrev pub appended : List Member → List (List Member) → List (List Member)
appended [] sequences = sequences
appended (first ∷ rest) sequences = sequences ++ (first ∷ rest) ∷ []

-- BD13: the isolating run sequences, in the order in which they end
abbrev pub sequences : List Member → List (List Member)
sequences members = over_sequences appended members []

-- the members of sequences
abbrev pub members_of_all : List (List Member) → List Member
members_of_all [] = []
members_of_all (sequence ∷ sequences) = sequence ++ members_of_all sequences

-- the levels of a paragraph after X1 to X8, resolved
abbrev pub with_sequences : ℕ → List Member → List ℕ → List ℕ
with_sequences base members levels = over_sequences (with_sequence base) members levels

-- BD2: levels of X1 to X8 are at most 125
abbrev pub AreWithin : List Member → Type 0
AreWithin [] = ⊤
AreWithin (member ∷ members) = (member.level ≤ 125) × AreWithin members

abbrev pub AreAllWithin : List (List Member) → Type 0
AreAllWithin [] = ⊤
AreAllWithin (members ∷ sequences) = AreWithin members × AreAllWithin sequences

pub record IsWithin {A : Type 0} (walk : Walk A) : Type 0 where
  pub current : AreWithin walk.current
  pub opened : AreAllWithin walk.opened
