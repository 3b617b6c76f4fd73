-- A paragraph in which nothing is right to left has one level.
use Rattle.std.proofs.Common.{◌≡◌, ℕ, zero, suc, ◌+◌, Bool, true, false, List, [], ◌∷◌, ◌++◌, length, map, replicate, refl, ap, ap₂, subst, sym, ◌∙◌, inl, inr, append_assoc, arith}
use Rattle.std.specs.Prelude.{⊤, slice_set, if◌then◌else◌}
use Rattle.std.specs.List.{list_all}
use Rattle.std.proofs.lemmas.Bool.{and_parts, cases_Bool, cond-true, cond-false}
use Rattle.std.proofs.lemmas.List.{append-nil, length-map}
use Rattle.ucd_bidi.specs.declared.BidiClass.{BidiClass}
use Rattle.ucd_bidi.specs.declared.BidiClass.TheVariants.{BoundaryNeutral, FirstStrongIsolate, LeftToRightEmbedding, LeftToRightIsolate}
use Rattle.ucd_bidi.specs.declared.BidiClass.TheVariants.{LeftToRightOverride, PopDirectionalFormat, PopDirectionalIsolate, RightToLeftEmbedding}
use Rattle.ucd_bidi.specs.declared.BidiClass.TheVariants.{RightToLeftIsolate, RightToLeftOverride}
use Rattle.bidi.specs.Classes.{is, is_initiator, is_removed}
use Rattle.bidi.specs.Explicit.{explicit, explicit_from, first_is_right, placed, stack_of, stepped}
use Rattle.bidi.specs.Left.{is_left}
use Rattle.bidi.specs.Members.{level_after, members, members_from}
use Rattle.bidi.specs.Neutral.{implicit_level}
use Rattle.bidi.specs.Sequences.{Walk, class_of, ended, eos_of, interrupted, joined, last_of, over_sequences, resolved_classes, starts_anew, walk_step, walked, with_levels, with_sequence, with_sequences}
use Rattle.bidi.specs.Text.{filled, filled_level, level_of, levels_in}
use Rattle.bidi.specs.declared.explicit.Placed.{Placed}
use Rattle.bidi.specs.declared.members.Member.{Member}
use Rattle.bidi.proofs.KeptLemmas.{length_sequences}
use Rattle.bidi.proofs.LevelLemmas.{length_filled}
use Rattle.bidi.proofs.WithinLemmas.{length_explicit, members_within}
use Rattle.bidi.proofs.LeftClassLemmas.{AllTrue, is_kept, is_letter, letter_level, resolved_left}

pub all_true : (p : BidiClass → Bool) (cs : List BidiClass) → list_all p cs ≡ true → AllTrue p cs
all_true p [] h = tt
all_true p (c ∷ cs) h = let parts = and_parts (p c) (list_all p cs) h in (parts.0, all_true p cs parts.1)

-- ---- X1 to X8: the stack stays as it is

stepped_left : (c : BidiClass) (right : Bool) → is_left c ≡ true → stepped 0 right c (stack_of 0) ≡ stack_of 0
stepped_left RightToLeftEmbedding right h = cc
stepped_left LeftToRightEmbedding right h = cc
stepped_left RightToLeftOverride right h = cc
stepped_left LeftToRightOverride right h = cc
stepped_left RightToLeftIsolate right h = cc
stepped_left LeftToRightIsolate right h = cc
stepped_left FirstStrongIsolate right h = cc
stepped_left PopDirectionalIsolate right h = cc
stepped_left PopDirectionalFormat right h = cc
stepped_left _ right h = refl

placed_left : (c : BidiClass) → placed 0 (stack_of 0).top (stack_of 0).top c ≡ record { level = 0; class = c }
placed_left PopDirectionalIsolate = refl
placed_left _ = refl

abbrev ArePlaced : List BidiClass → List Placed → Type 0
ArePlaced [] ps = ⊤
ArePlaced (c ∷ cs) [] = ⊤
ArePlaced (c ∷ cs) (p ∷ ps) = (p ≡ record { level = 0; class = c }) × ArePlaced cs ps

explicit_left : (cs : List BidiClass) → AllTrue is_left cs → ArePlaced cs (explicit_from 0 (stack_of 0) cs)
explicit_left [] h = tt
explicit_left (c ∷ cs) h =
    let same = stepped_left c (first_is_right false 0 cs) h.0 in (
      ap (λ s. placed 0 (stack_of 0).top s.top c) same ∙ placed_left c,
      subst (λ s. ArePlaced cs (explicit_from 0 s cs)) (sym same) (explicit_left cs h.1),
    )

-- ---- X9: members on level 0

kept_left : (c : BidiClass) → is_left c ≡ true → is_removed c ≡ false → is_kept c ≡ true
kept_left BoundaryNeutral h off = cc
kept_left _ h off = h

no_end : (c : BidiClass) → is_left c ≡ true → is c PopDirectionalIsolate ≡ false
no_end PopDirectionalIsolate h = cc
no_end _ h = refl

no_start : (c : BidiClass) → is_left c ≡ true → is_initiator c ≡ false
no_start LeftToRightIsolate h = cc
no_start RightToLeftIsolate h = cc
no_start FirstStrongIsolate h = cc
no_start _ h = refl

record IsMember (m : Member) : Type 0 where
  level : m.level ≡ 0
  before : m.before ≡ 0
  after : m.after ≡ 0
  kept : is_kept m.class ≡ true
  no_end : is m.original PopDirectionalIsolate ≡ false
  no_start : is_initiator m.original ≡ false

abbrev AreMembers : List Member → Type 0
AreMembers [] = ⊤
AreMembers (m ∷ ms) = IsMember m × AreMembers ms

after_left : (cs : List BidiClass) (ps : List Placed) → ArePlaced cs ps → level_after 0 cs ps ≡ 0
after_left [] ps h = refl
after_left (c ∷ cs) [] h = refl
after_left (c ∷ cs) (p ∷ ps) h = elim (cases_Bool (is_removed c)) [
  | inl on ↦ cond-true (is_removed c) (level_after 0 cs ps) p.level on ∙ after_left cs ps h.1
  | inr off ↦ cond-false (is_removed c) (level_after 0 cs ps) p.level off ∙ ap (λ (q : Placed). q.level) h.0
]

members_left : (before place : ℕ) (text : List ℕ) (cs : List BidiClass) (ps : List Placed) → before ≡ 0 → AllTrue is_left cs → ArePlaced cs ps
    → AreMembers (members_from 0 before place text cs ps)
members_left before place [] cs ps zero_before h hp = tt
members_left before place (c ∷ text) [] ps zero_before h hp = tt
members_left before place (c ∷ text) (class ∷ cs) [] zero_before h hp = tt
members_left before place (c ∷ text) (class ∷ cs) (p ∷ ps) zero_before h hp = elim (cases_Bool (is_removed class)) [
  | inl on ↦ subst AreMembers (sym (cond-true (is_removed class) _ _ on)) (members_left before (place + 1) text cs ps zero_before h.1 hp.1)
  | inr off ↦
      let zero_level : p.level ≡ 0 = ap (λ (q : Placed). q.level) hp.0 in
      let same_class : p.class ≡ class = ap (λ (q : Placed). q.class) hp.0 in
      subst AreMembers (sym (cond-false (is_removed class) _ _ off)) (
        record {
          level = zero_level;
          before = zero_before;
          after = after_left cs ps hp.1;
          kept = ap is_kept same_class ∙ kept_left class h.0 off;
          no_end = no_end class h.0;
          no_start = no_start class h.0;
        },
        members_left p.level (place + 1) text cs ps zero_level h.1 hp.1,
      )
]

-- ---- X10: all members are one sequence

append_members : (xs ys : List Member) → AreMembers xs → AreMembers ys → AreMembers (xs ++ ys)
append_members [] ys h k = k
append_members (x ∷ xs) ys h k = (h.0, append_members xs ys h.1 k)

goes_on : (current : List Member) (m : Member) → AreMembers current → IsMember m → starts_anew current m ≡ false
goes_on [] m h k = refl
goes_on (first ∷ rest) m h k =
    let zero_first = h.0.level in
    let zero_next = k.level in
    rw (zero_first, zero_next) refl

module _ {A : Type 0} (make : List Member → A → A) where
  step_left : (m : Member) (current : List Member) (done : A) → AreMembers current → IsMember m
      → walk_step make m (record { current = current; opened = []; done = done }) ≡ record { current = current ++ m ∷ []; opened = []; done = done }
  step_left m current done h k =
      let walk : Walk A = record { current = current; opened = []; done = done } in
      ap (λ w. interrupted m (joined make m w)) (cond-false (is m.original PopDirectionalIsolate) _ walk k.no_end)
      ∙ ap (interrupted m) (cond-false (starts_anew current m) _ (record walk { current = current ++ m ∷ [] }) (goes_on current m h k))
      ∙ cond-false (is_initiator m.original) _ (record walk { current = current ++ m ∷ [] }) k.no_start

  walked_left : (ms current : List Member) (done : A) → AreMembers current → AreMembers ms
      → walked make ms (record { current = current; opened = []; done = done }) ≡ record { current = current ++ ms; opened = []; done = done }
  walked_left [] current done h k = ap (λ l. record { current = l; opened = []; done = done }) (sym (append-nil current))
  walked_left (m ∷ ms) current done h k =
      ap (walked make ms) (step_left m current done h k.0)
      ∙ walked_left ms (current ++ m ∷ []) done (append_members current (m ∷ []) h (k.0, tt)) k.1
      ∙ ap (λ l. record { current = l; opened = []; done = done }) (append_assoc current (m ∷ []) ms)

  one_sequence : (ms : List Member) (done : A) → AreMembers ms → over_sequences make ms done ≡ make ms done
  one_sequence ms done h = ap (ended make) (walked_left ms [] done tt h)

-- ---- the levels

abbrev pub AllZero : List ℕ → Type 0
AllZero [] = ⊤
AllZero (x ∷ xs) = (x ≡ 0) × AllZero xs

set_zero : (levels : List ℕ) (n v : ℕ) → v ≡ 0 → AllZero levels → AllZero (slice_set levels n v)
set_zero [] n v e h = tt
set_zero (x ∷ levels) zero v e h = (e, h.1)
set_zero (x ∷ levels) (suc n) v e h = (h.0, set_zero levels n v e h.1)

with_levels_zero : (ms : List Member) (cs : List BidiClass) (levels : List ℕ) → AreMembers ms → AllTrue is_letter cs → AllZero levels
    → AllZero (with_levels ms cs levels)
with_levels_zero [] cs levels h hc k = k
with_levels_zero (m ∷ ms) [] levels h hc k = k
with_levels_zero (m ∷ ms) (c ∷ cs) levels h hc k =
    with_levels_zero ms cs (slice_set levels m.place (implicit_level m.level c)) h.1 hc.1
    (set_zero levels m.place _ (ap (λ l. implicit_level l c) h.0.level ∙ letter_level c hc.0) k)

last_left : (first : Member) (rest : List Member) → IsMember first → AreMembers rest → IsMember (last_of first rest)
last_left first [] h k = h
last_left first (m ∷ rest) h k = last_left m rest k.0 k.1

classes_left : (ms : List Member) → AreMembers ms → AllTrue is_kept (map class_of ms)
classes_left [] h = tt
classes_left (m ∷ ms) h = (h.0.kept, classes_left ms h.1)

letters : (ms : List Member) (first last : Member) (cs : List BidiClass) → IsMember first → AllTrue is_kept cs
    → AllTrue is_letter (resolved_classes 0 ms first last cs)
letters ms first last cs h hc =
    let zero_level = h.level in
    let zero_before = h.before in
    rw (zero_level, zero_before) (resolved_left (eos_of 0 last) ms cs hc)

sequence_zero : (ms : List Member) (levels : List ℕ) → AreMembers ms → AllZero levels → AllZero (with_sequence 0 ms levels)
sequence_zero [] levels h k = k
sequence_zero (m ∷ ms) levels h k =
    with_levels_zero (m ∷ ms) (resolved_classes 0 (m ∷ ms) m (last_of m ms) (map class_of (m ∷ ms))) levels h
    (letters (m ∷ ms) m (last_of m ms) (map class_of (m ∷ ms)) h.0 (classes_left (m ∷ ms) h)) k

filled_zero : (before : ℕ) (cs : List BidiClass) (levels : List ℕ) → before ≡ 0 → AllZero levels → AllZero (filled before cs levels)
filled_zero before [] levels e h = h
filled_zero before (c ∷ cs) [] e h = tt
filled_zero before (c ∷ cs) (x ∷ levels) e h =
    let one = one_zero (is_removed c) before x e h.0 in (one, filled_zero (filled_level before c x) cs levels one h.1)
  where
    one_zero : (removed : Bool) (before x : ℕ) → before ≡ 0 → x ≡ 0 → (if removed then before else x) ≡ 0
    one_zero true before x e e' = e
    one_zero false before x e e' = e'

placed_zero : (cs : List BidiClass) (ps : List Placed) → length ps ≡ length cs → ArePlaced cs ps → AllZero (map level_of ps)
placed_zero cs [] e h = tt
placed_zero [] (p ∷ ps) e h = absurd (omega arith)
placed_zero (c ∷ cs) (p ∷ ps) e h = (ap (λ (q : Placed). q.level) h.0, placed_zero cs ps (omega arith) h.1)

pub zeros : (xs : List ℕ) (n : ℕ) → length xs ≡ n → AllZero xs → xs ≡ replicate n 0
zeros [] zero e h = refl
zeros [] (suc n) e h = absurd (omega arith)
zeros (x ∷ xs) zero e h = absurd (omega arith)
zeros (x ∷ xs) (suc n) e h = ap₂ (λ y l. y ∷ l) h.0 (zeros xs n (omega arith) h.1)

pub all_zero : (text : List ℕ) (cs : List BidiClass) → AllTrue is_left cs → AllZero (levels_in 0 text cs)
all_zero text cs h =
    let ps = explicit 0 cs in
    let hp = explicit_left cs h in
    let ms = members 0 text cs ps in
    let hm = members_left 0 0 text cs ps refl h hp in
    let count = length_explicit 0 (stack_of 0) cs in
    filled_zero 0 cs (with_sequences 0 ms (map level_of ps)) refl
    (subst AllZero (sym (one_sequence (with_sequence 0) ms (map level_of ps) hm)) (sequence_zero ms (map level_of ps) hm (placed_zero cs ps count hp)))

pub level_zero : (text : List ℕ) (cs : List BidiClass) → length cs ≡ length text → list_all is_left cs ≡ true → levels_in 0 text cs ≡ replicate (length text) 0
level_zero text cs same all =
    let ps = explicit 0 cs in
    let ms = members 0 text cs ps in
    let count = length_explicit 0 (stack_of 0) cs in
    zeros (levels_in 0 text cs) (length text)
    (length_filled 0 cs (with_sequences 0 ms (map level_of ps)) (length_sequences 0 ms (map level_of ps) (members_within 0 text cs (omega arith)) ∙ length-map ps level_of ∙ count) ∙ same)
    (all_zero text cs (all_true is_left cs all))
