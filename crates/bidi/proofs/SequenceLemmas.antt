-- The rule X10: members are on levels of at most 125 through the walk, and one member on.
use Rattle.std.proofs.Common.{◌≡◌, ℕ, ◌+◌, ◌-◌, ◌<◌, ◌≤◌, ◌==◌, Bool, true, false, List, [], ◌∷◌, ◌++◌, length, get_or, drop, refl, ap, ap₂, subst, sym, ◌∙◌, inl, inr, arith}
use Rattle.std.specs.Prelude.{slice_set}
use Rattle.std.proofs.lemmas.Bool.{cases_Bool, cond-true, cond-false}
use Rattle.std.proofs.lemmas.List.{drop_more}
use Rattle.ucd_bidi.specs.declared.BidiClass.{BidiClass}
use Rattle.ucd_bidi.specs.declared.BidiClass.TheVariants.{ArabicLetter, PopDirectionalIsolate}
use Rattle.bidi.specs.Brackets.{n0}
use Rattle.bidi.specs.Classes.{is, is_initiator, of_level}
use Rattle.bidi.specs.Neutral.{implicit_level, neutral}
use Rattle.bidi.specs.Weak.{weak}
use Rattle.bidi.specs.Sequences.{AreAllWithin, AreWithin, IsWithin, Walk, eos_of, interrupted, joined, last_of, resolved_classes, returned, returned_to, sos_of, starts_anew, walk_step, walked, with_classes, with_levels}
use Rattle.bidi.specs.declared.members.Member.{Member}
use Rattle.bidi.proofs.BracketLemmas.{no_member}

pub within_push : (ms : List Member) (m : Member) → AreWithin ms → m.level ≤ 125 → AreWithin (ms ++ m ∷ [])
within_push [] m h le = (le, tt)
within_push (x ∷ ms) m h le = (h.0, within_push ms m h.1 le)

pub within_at : (n : ℕ) (ms : List Member) → n < length ms → AreWithin (drop n ms) → (get_or ms n no_member).level ≤ 125
within_at n ms lt h = (subst AreWithin (drop_more ms n no_member lt) h).0

pub within_on : (n : ℕ) (ms : List Member) → n < length ms → AreWithin (drop n ms) → AreWithin (drop (n + 1) ms)
within_on n ms lt h = (subst AreWithin (drop_more ms n no_member lt) h).1

module _ {A : Type 0} (make : List Member → A → A) where
  within_back : (opened : List (List Member)) (walk : Walk A) → walk.opened ≡ opened → IsWithin walk → IsWithin (returned_to make opened walk)
  within_back [] walk e h = h
  within_back ([] ∷ opened) walk e h = record { current = h.current; opened = (subst AreAllWithin e h.opened).1 }
  within_back ((first ∷ rest) ∷ opened) walk e h =
      record { current = (subst AreAllWithin e h.opened).0; opened = (subst AreAllWithin e h.opened).1 }

  pub within_returned : (m : Member) (walk : Walk A) → IsWithin walk → IsWithin (returned make m walk)
  within_returned m walk h = elim (cases_Bool (is m.original PopDirectionalIsolate)) [
    | inl on ↦ subst IsWithin (sym (cond-true (is m.original PopDirectionalIsolate) (returned_to make walk.opened walk) walk on))
        (within_back walk.opened walk refl h)
    | inr off ↦ subst IsWithin (sym (cond-false (is m.original PopDirectionalIsolate) (returned_to make walk.opened walk) walk off)) h
  ]

  pub within_joined : (m : Member) (walk : Walk A) → m.level ≤ 125 → IsWithin walk → IsWithin (joined make m walk)
  within_joined m walk le h = elim (cases_Bool (starts_anew walk.current m)) [
    | inl on ↦ subst IsWithin (sym (cond-true (starts_anew walk.current m) _ _ on)) (record { current = (le, tt); opened = h.opened })
    | inr off ↦ subst IsWithin (sym (cond-false (starts_anew walk.current m) _ _ off))
        (record { current = within_push walk.current m h.current le; opened = h.opened })
  ]

pub within_interrupted : {A : Type 0} (m : Member) (walk : Walk A) → IsWithin walk → IsWithin (interrupted m walk)
within_interrupted m walk h = elim (cases_Bool (is_initiator m.original)) [
  | inl on ↦ subst IsWithin (sym (cond-true (is_initiator m.original) _ _ on)) (elim (cases_Bool (m.after == m.level)) [
    | inl same ↦ subst IsWithin (sym (cond-true (m.after == m.level) _ _ same)) (record { current = h.current; opened = (tt, h.opened) })
    | inr other ↦ subst IsWithin (sym (cond-false (m.after == m.level) _ _ other)) (record { current = tt; opened = (h.current, h.opened) })
  ])
  | inr off ↦ subst IsWithin (sym (cond-false (is_initiator m.original) _ _ off)) h
]

pub within_step : {A : Type 0} (make : List Member → A → A) (m : Member) (walk : Walk A) → m.level ≤ 125 → IsWithin walk → IsWithin (walk_step make m walk)
within_step make m walk le h = within_interrupted m _ (within_joined make m _ le (within_returned make m walk h))

-- the walk, one member on
pub walked_on : {A : Type 0} (make : List Member → A → A) (n : ℕ) (ms : List Member) (walk new : Walk A) → n < length ms
    → new ≡ walk_step make (get_or ms n no_member) walk → walked make (drop (n + 1) ms) new ≡ walked make (drop n ms) walk
walked_on make n ms walk new lt is =
    ap (walked make (drop (n + 1) ms)) is ∙ sym (ap (λ l. walked make l walk) (drop_more ms n no_member lt))

-- I1 and I2, one member on
pub levels_on : (n : ℕ) (ms : List Member) (cs : List BidiClass) (old new : List ℕ) (level : ℕ) → n < length ms → n < length cs
    → level ≡ implicit_level (get_or ms n no_member).level (get_or cs n ArabicLetter) → new ≡ slice_set old (get_or ms n no_member).place level
    → with_levels (drop (n + 1) ms) (drop (n + 1) cs) new ≡ with_levels (drop n ms) (drop n cs) old
levels_on n ms cs old new level lt lt' is_level is_new =
    ap (with_levels (drop (n + 1) ms) (drop (n + 1) cs)) (is_new ∙ ap (slice_set old (get_or ms n no_member).place) is_level)
    ∙ sym (ap₂ (λ a b. with_levels a b old) (drop_more ms n no_member lt) (drop_more cs n ArabicLetter lt'))

-- W1 to N2, each over what the one before leaves
pub resolved_is : (base : ℕ) (ms : List Member) (first last : Member) (embedding sos eos : BidiClass) (old a b new : List BidiClass)
    → embedding ≡ of_level first.level → sos ≡ sos_of first → eos ≡ eos_of base last → a ≡ weak sos old → b ≡ n0 embedding sos ms a
    → new ≡ neutral embedding eos sos b → new ≡ resolved_classes base ms first last old
resolved_is base ms first last embedding sos eos old a b new is_e is_sos is_eos is_a is_b is_new =
    is_new ∙ ap (neutral embedding eos sos) (is_b ∙ ap (n0 embedding sos ms) is_a)
    ∙ ap₂ (λ e s. neutral e eos s (n0 e s ms (weak s old))) is_e is_sos
    ∙ ap (λ z. neutral (of_level first.level) z (sos_of first) (n0 (of_level first.level) (sos_of first) ms (weak (sos_of first) old))) is_eos

last_at : (m : Member) (ms : List Member) → get_or (m ∷ ms) (length ms) no_member ≡ last_of m ms
last_at m [] = refl
last_at m (x ∷ ms) = last_at x ms

pub with_classes_is : (base : ℕ) (ms : List Member) (old new : List BidiClass) (levels written : List ℕ) → 0 < length ms
    → new ≡ resolved_classes base ms (get_or ms 0 no_member) (get_or ms (length ms - 1) no_member) old → written ≡ with_levels ms new levels
    → written ≡ with_classes base ms old levels
with_classes_is base [] old new levels written lt is_new is_written = absurd (omega arith)
with_classes_is base (m ∷ ms) old new levels written lt is_new is_written =
    let one : length (m ∷ ms) - 1 ≡ length ms = omega arith in
    is_written ∙ ap (λ l. with_levels (m ∷ ms) l levels)
    (is_new ∙ ap (λ k. resolved_classes base (m ∷ ms) m k old) (ap (λ k. get_or (m ∷ ms) k no_member) one ∙ last_at m ms))

pub some_members : (ms : List Member) (empty : Bool) → empty ≡ (length ms == 0) → empty ≡ false → 0 < length ms
some_members [] empty e is = let yes : empty ≡ true = e in absurd (cc)
some_members (m ∷ ms) empty e is = omega arith
