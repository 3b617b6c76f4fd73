-- A paragraph on which none of X2 to X7 acts: what X9 leaves is one isolating run sequence on its level.
use Rattle.std.proofs.Common.{◌≡◌, ℕ, ◌+◌, ◌<◌, ◌==◌, not, true, false, Bool, List, [], ◌∷◌, ◌++◌, length, map, drop, get_or, replicate, refl, ap, ap₂, subst, sym, ◌∙◌, inl, inr, append_assoc, arith}
use Rattle.std.proofs.lemmas.Bool.Decides.{nat_tests}
use Rattle.std.specs.Prelude.{⊤, if◌then◌else◌}
use Rattle.std.specs.List.{list_all}
use Rattle.std.proofs.lemmas.Bool.{and_parts, cases_Bool, cond-true, cond-false}
use Rattle.std.proofs.lemmas.List.{append-nil, drop_more}
use Rattle.ucd_bidi.specs.declared.BidiClass.{BidiClass}
use Rattle.ucd_bidi.specs.declared.BidiClass.TheVariants.{ArabicLetter, FirstStrongIsolate, LeftToRightEmbedding, LeftToRightIsolate}
use Rattle.ucd_bidi.specs.declared.BidiClass.TheVariants.{LeftToRightOverride, PopDirectionalFormat, PopDirectionalIsolate, RightToLeftEmbedding}
use Rattle.ucd_bidi.specs.declared.BidiClass.TheVariants.{RightToLeftIsolate, RightToLeftOverride}
use Rattle.bidi.specs.Classes.{is, is_initiator, is_removed}
use Rattle.bidi.specs.Explicit.{explicit, explicit_from, first_is_right, is_plain, placed, stack_of, stepped}
use Rattle.bidi.specs.Members.{level_after, members, members_from}
use Rattle.bidi.specs.Sequences.{Walk, ended, interrupted, joined, over_sequences, starts_anew, walk_step, walked, with_sequence, with_sequences}
use Rattle.bidi.specs.Text.{level_of}
use Rattle.bidi.specs.declared.explicit.Placed.{Placed}
use Rattle.bidi.specs.declared.members.Member.{Member}

abbrev pub ArePlain : List BidiClass → Type 0
ArePlain [] = ⊤
ArePlain (c ∷ cs) = (is_plain c ≡ true) × ArePlain cs

pub are_plain : (cs : List BidiClass) → list_all is_plain cs ≡ true → ArePlain cs
are_plain [] h = tt
are_plain (c ∷ cs) h = let parts = and_parts (is_plain c) (list_all is_plain cs) h in (parts.0, are_plain cs parts.1)

-- ---- X1 to X8: the stack stays as it is

stepped_plain : (base : ℕ) (c : BidiClass) (right : Bool) → is_plain c ≡ true → stepped base right c (stack_of base) ≡ stack_of base
stepped_plain base RightToLeftEmbedding right h = cc
stepped_plain base LeftToRightEmbedding right h = cc
stepped_plain base RightToLeftOverride right h = cc
stepped_plain base LeftToRightOverride right h = cc
stepped_plain base RightToLeftIsolate right h = cc
stepped_plain base LeftToRightIsolate right h = cc
stepped_plain base FirstStrongIsolate right h = cc
stepped_plain base PopDirectionalIsolate right h = cc
stepped_plain base PopDirectionalFormat right h = cc
stepped_plain base _ right h = refl

abbrev pub on_level : ℕ → BidiClass → Placed
on_level base c = record { level = base; class = c }

placed_plain : (base : ℕ) (c : BidiClass) → placed base (stack_of base).top (stack_of base).top c ≡ on_level base c
placed_plain base PopDirectionalIsolate = refl
placed_plain base _ = refl

pub explicit_plain : (base : ℕ) (cs : List BidiClass) → ArePlain cs → explicit_from base (stack_of base) cs ≡ map (on_level base) cs
explicit_plain base [] h = refl
explicit_plain base (c ∷ cs) h =
    ap (λ s. placed base (stack_of base).top s.top c ∷ explicit_from base s cs) (stepped_plain base c (first_is_right false 0 cs) h.0)
    ∙ ap₂ (λ p l. p ∷ l) (placed_plain base c) (explicit_plain base cs h.1)

pub levels_plain : (base : ℕ) (cs : List BidiClass) → map level_of (map (on_level base) cs) ≡ replicate (length cs) base
levels_plain base [] = refl
levels_plain base (c ∷ cs) = ap (λ l. base ∷ l) (levels_plain base cs)

-- ---- X9: members on one level

abbrev pub member_of : ℕ → ℕ → ℕ → BidiClass → Member
member_of base place c class = record { place = place; character = c; original = class; class = class; level = base; before = base; after = base }

abbrev pub plain_from : ℕ → ℕ → List ℕ → List BidiClass → List Member
plain_from base place [] cs = []
plain_from base place (c ∷ text) [] = []
plain_from base place (c ∷ text) (class ∷ cs) =
    if is_removed class then plain_from base (place + 1) text cs
    else member_of base place c class ∷ plain_from base (place + 1) text cs

after_plain : (base : ℕ) (cs : List BidiClass) → level_after base cs (map (on_level base) cs) ≡ base
after_plain base [] = refl
after_plain base (c ∷ cs) = elim (cases_Bool (is_removed c)) [
  | inl on ↦ cond-true (is_removed c) (level_after base cs (map (on_level base) cs)) base on ∙ after_plain base cs
  | inr off ↦ cond-false (is_removed c) (level_after base cs (map (on_level base) cs)) base off
]

members_plain : (base place : ℕ) (text : List ℕ) (cs : List BidiClass) → members_from base base place text cs (map (on_level base) cs) ≡ plain_from base place text cs
members_plain base place [] cs = refl
members_plain base place (c ∷ text) [] = refl
members_plain base place (c ∷ text) (class ∷ cs) = elim (cases_Bool (is_removed class)) [
  | inl on ↦ cond-true (is_removed class) _ _ on ∙ members_plain base (place + 1) text cs ∙ sym (cond-true (is_removed class) _ _ on)
  | inr off ↦
      cond-false (is_removed class) _ _ off
      ∙ ap₂ (λ a l. record { place = place; character = c; original = class; class = class; level = base; before = base; after = a } ∷ l)
      (after_plain base cs) (members_plain base (place + 1) text cs)
      ∙ sym (cond-false (is_removed class) _ _ off)
]

pub members_are : (base : ℕ) (text : List ℕ) (cs : List BidiClass) → list_all is_plain cs ≡ true → members base text cs (explicit base cs) ≡ plain_from base 0 text cs
members_are base text cs h = ap (members base text cs) (explicit_plain base cs (are_plain cs h)) ∙ members_plain base 0 text cs

-- the members, one character on
module _ (base n : ℕ) (text : List ℕ) (cs : List BidiClass) (done : List Member) (lt : n < length text) (lt' : n < length cs) where
  next_plain : plain_from base n (drop n text) (drop n cs) ≡ plain_from base n (get_or text n 0 ∷ drop (n + 1) text) (get_or cs n ArabicLetter ∷ drop (n + 1) cs)
  next_plain = ap₂ (plain_from base n) (drop_more text n 0 lt) (drop_more cs n ArabicLetter lt')

  pub plain_removed : is_removed (get_or cs n ArabicLetter) ≡ true
      → done ++ plain_from base (n + 1) (drop (n + 1) text) (drop (n + 1) cs) ≡ done ++ plain_from base n (drop n text) (drop n cs)
  plain_removed on = ap (λ l. done ++ l) (sym (next_plain ∙ cond-true (is_removed (get_or cs n ArabicLetter)) _ _ on))

  pub plain_left : (x : ℕ) → get_or text n x ≡ x → is_removed (get_or cs n ArabicLetter) ≡ false
      → (done ++ member_of base n x (get_or cs n ArabicLetter) ∷ []) ++ plain_from base (n + 1) (drop (n + 1) text) (drop (n + 1) cs)
      ≡ done ++ plain_from base n (drop n text) (drop n cs)
  plain_left x is off =
      let next : plain_from base n (drop n text) (drop n cs) ≡ plain_from base n (x ∷ drop (n + 1) text) (get_or cs n ArabicLetter ∷ drop (n + 1) cs) =
      ap₂ (plain_from base n) (drop_more text n x lt ∙ ap (λ k. k ∷ drop (n + 1) text) is) (drop_more cs n ArabicLetter lt') in
      append_assoc done (member_of base n x (get_or cs n ArabicLetter) ∷ []) _
      ∙ ap (λ l. done ++ l) (sym (next ∙ cond-false (is_removed (get_or cs n ArabicLetter)) _ _ off))

-- ---- X10: all members are one sequence

no_end : (c : BidiClass) → is_plain c ≡ true → is c PopDirectionalIsolate ≡ false
no_end PopDirectionalIsolate h = cc
no_end _ h = refl

no_start : (c : BidiClass) → is_plain c ≡ true → is_initiator c ≡ false
no_start LeftToRightIsolate h = cc
no_start RightToLeftIsolate h = cc
no_start FirstStrongIsolate h = cc
no_start _ h = refl

pub record IsMember (base : ℕ) (m : Member) : Type 0 where
  pub level : m.level ≡ base
  pub no_end : is m.original PopDirectionalIsolate ≡ false
  pub no_start : is_initiator m.original ≡ false

abbrev pub AreMembers : ℕ → List Member → Type 0
AreMembers base [] = ⊤
AreMembers base (m ∷ ms) = IsMember base m × AreMembers base ms

plain_members : (base place : ℕ) (text : List ℕ) (cs : List BidiClass) → ArePlain cs → AreMembers base (plain_from base place text cs)
plain_members base place [] cs h = tt
plain_members base place (c ∷ text) [] h = tt
plain_members base place (c ∷ text) (class ∷ cs) h = elim (cases_Bool (is_removed class)) [
  | inl on ↦ subst (AreMembers base) (sym (cond-true (is_removed class) _ _ on)) (plain_members base (place + 1) text cs h.1)
  | inr off ↦ subst (AreMembers base) (sym (cond-false (is_removed class) _ _ off)) (
    record { level = refl; no_end = no_end class h.0; no_start = no_start class h.0 },
    plain_members base (place + 1) text cs h.1,
  )
]

module _ (base : ℕ) where
  append_members : (xs ys : List Member) → AreMembers base xs → AreMembers base ys → AreMembers base (xs ++ ys)
  append_members [] ys h k = k
  append_members (x ∷ xs) ys h k = (h.0, append_members xs ys h.1 k)

  goes_on : (current : List Member) (m : Member) → AreMembers base current → IsMember base m → starts_anew current m ≡ false
  goes_on [] m h k = refl
  goes_on (first ∷ rest) m h k =
      let same : first.level ≡ m.level = h.0.level ∙ sym k.level in
      let equal : (first.level == m.level) ≡ true = grind (arith, nat_tests) in
      ap not equal

  module _ {A : Type 0} (make : List Member → A → A) where
    step_plain : (m : Member) (current : List Member) (done : A) → AreMembers base current → IsMember base m
        → walk_step make m (record { current = current; opened = []; done = done }) ≡ record { current = current ++ m ∷ []; opened = []; done = done }
    step_plain m current done h k =
        let walk : Walk A = record { current = current; opened = []; done = done } in
        ap (λ w. interrupted m (joined make m w)) (cond-false (is m.original PopDirectionalIsolate) _ walk k.no_end)
        ∙ ap (interrupted m) (cond-false (starts_anew current m) _ (record walk { current = current ++ m ∷ [] }) (goes_on current m h k))
        ∙ cond-false (is_initiator m.original) _ (record walk { current = current ++ m ∷ [] }) k.no_start

    walked_plain : (ms current : List Member) (done : A) → AreMembers base current → AreMembers base ms
        → walked make ms (record { current = current; opened = []; done = done }) ≡ record { current = current ++ ms; opened = []; done = done }
    walked_plain [] current done h k = ap (λ l. record { current = l; opened = []; done = done }) (sym (append-nil current))
    walked_plain (m ∷ ms) current done h k =
        ap (walked make ms) (step_plain m current done h k.0)
        ∙ walked_plain ms (current ++ m ∷ []) done (append_members current (m ∷ []) h (k.0, tt)) k.1
        ∙ ap (λ l. record { current = l; opened = []; done = done }) (append_assoc current (m ∷ []) ms)

    pub one_sequence : (ms : List Member) (done : A) → AreMembers base ms → over_sequences make ms done ≡ make ms done
    one_sequence ms done h = ap (ended make) (walked_plain ms [] done tt h)

-- ---- the levels

pub plain_sequences : (base : ℕ) (text : List ℕ) (cs : List BidiClass) (ms : List Member) (count : ℕ) → list_all is_plain cs ≡ true
    → length cs ≡ count → ms ≡ members base text cs (explicit base cs)
    → with_sequence base ms (replicate count base) ≡ with_sequences base (members base text cs (explicit base cs)) (map level_of (explicit base cs))
plain_sequences base text cs ms count h same is_ms =
    let plain = are_plain cs h in
    let ps = explicit base cs in
    let whole : AreMembers base (members base text cs ps) = subst (AreMembers base) (sym (members_are base text cs h)) (plain_members base 0 text cs plain) in
    let levels : replicate count base ≡ map level_of ps =
    ap (λ k. replicate k base) (sym same) ∙ sym (ap (map level_of) (explicit_plain base cs plain) ∙ levels_plain base cs) in
    ap₂ (with_sequence base) is_ms levels ∙ sym (one_sequence base (with_sequence base) (members base text cs ps) (map level_of ps) whole)
