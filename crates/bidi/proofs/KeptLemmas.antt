-- What each sequence's turn keeps is kept by all: how many levels there are, and that they are at most 126.
use Rattle.std.proofs.Common.{◌≡◌, ℕ, zero, suc, ◌==◌, List, [], ◌∷◌, length, map, refl, ap, subst, sym, ◌∙◌, inl, inr}
use Rattle.std.specs.Prelude.{slice_set}
use Rattle.std.proofs.lemmas.Bool.{cases_Bool, cond-true, cond-false}
use Rattle.ucd_bidi.specs.declared.BidiClass.{BidiClass}
use Rattle.ucd_bidi.specs.declared.BidiClass.TheVariants.{PopDirectionalIsolate}
use Rattle.bidi.specs.Classes.{is, is_initiator}
use Rattle.bidi.specs.Neutral.{implicit_level}
use Rattle.bidi.specs.Sequences.{AreAllWithin, AreWithin, IsWithin, Walk, all_made, class_of, ended, interrupted, joined, over_sequences, returned}
use Rattle.bidi.specs.Sequences.{returned_to, start, starts_anew, walk_step, walked, with_classes, with_levels, with_sequence, with_sequences}
use Rattle.bidi.specs.declared.members.Member.{Member}
use Rattle.bidi.proofs.SequenceLemmas.{within_returned, within_step}

module _ {A : Type 0} (make : List Member → A → A) (Keeps : A → Type 0)
    (kept : (ms : List Member) (a : A) → AreWithin ms → Keeps a → Keeps (make ms a)) where
  back_kept : (opened : List (List Member)) (walk : Walk A) → AreWithin walk.current → Keeps walk.done → Keeps (returned_to make opened walk).done
  back_kept [] walk h k = k
  back_kept ([] ∷ opened) walk h k = k
  back_kept ((first ∷ rest) ∷ opened) walk h k = kept walk.current walk.done h k

  returned_kept : (m : Member) (walk : Walk A) → AreWithin walk.current → Keeps walk.done → Keeps (returned make m walk).done
  returned_kept m walk h k = elim (cases_Bool (is m.original PopDirectionalIsolate)) [
    | inl on ↦ subst (λ (w : Walk A). Keeps w.done) (sym (cond-true (is m.original PopDirectionalIsolate) (returned_to make walk.opened walk) walk on))
        (back_kept walk.opened walk h k)
    | inr off ↦ subst (λ (w : Walk A). Keeps w.done) (sym (cond-false (is m.original PopDirectionalIsolate) (returned_to make walk.opened walk) walk off)) k
  ]

  joined_kept : (m : Member) (walk : Walk A) → AreWithin walk.current → Keeps walk.done → Keeps (joined make m walk).done
  joined_kept m walk h k = elim (cases_Bool (starts_anew walk.current m)) [
    | inl on ↦ subst (λ (w : Walk A). Keeps w.done) (sym (cond-true (starts_anew walk.current m) _ _ on)) (kept walk.current walk.done h k)
    | inr off ↦ subst (λ (w : Walk A). Keeps w.done) (sym (cond-false (starts_anew walk.current m) _ _ off)) k
  ]

  interrupted_kept : (m : Member) (walk : Walk A) → Keeps walk.done → Keeps (interrupted m walk).done
  interrupted_kept m walk k = elim (cases_Bool (is_initiator m.original)) [
    | inl on ↦ subst (λ (w : Walk A). Keeps w.done) (sym (cond-true (is_initiator m.original) _ _ on)) (elim (cases_Bool (m.after == m.level)) [
      | inl same ↦ subst (λ (w : Walk A). Keeps w.done) (sym (cond-true (m.after == m.level) _ _ same)) k
      | inr other ↦ subst (λ (w : Walk A). Keeps w.done) (sym (cond-false (m.after == m.level) _ _ other)) k
    ])
    | inr off ↦ subst (λ (w : Walk A). Keeps w.done) (sym (cond-false (is_initiator m.original) _ _ off)) k
  ]

  step_kept : (m : Member) (walk : Walk A) → IsWithin walk → Keeps walk.done → Keeps (walk_step make m walk).done
  step_kept m walk h k =
      interrupted_kept m (joined make m (returned make m walk))
      (joined_kept m (returned make m walk) (within_returned make m walk h).current (returned_kept m walk h.current k))

  walked_kept : (ms : List Member) (walk : Walk A) → AreWithin ms → IsWithin walk → Keeps walk.done → Keeps (ended make (walked make ms walk))
  walked_kept [] walk hs h k = all_kept walk.opened (make walk.current walk.done) h.opened (kept walk.current walk.done h.current k)
    where
      all_kept : (sequences : List (List Member)) (a : A) → AreAllWithin sequences → Keeps a → Keeps (all_made make sequences a)
      all_kept [] a h k = k
      all_kept (ms ∷ sequences) a h k = all_kept sequences (make ms a) h.1 (kept ms a h.0 k)
  walked_kept (m ∷ ms) walk hs h k = walked_kept ms (walk_step make m walk) hs.1 (within_step make m walk hs.0 h) (step_kept m walk h k)

  pub sequences_kept : (ms : List Member) (a : A) → AreWithin ms → Keeps a → Keeps (over_sequences make ms a)
  sequences_kept ms a h k = walked_kept ms (start a) h (record { current = tt; opened = tt }) k

-- ---- how many levels there are

length_set : (levels : List ℕ) (n v : ℕ) → length (slice_set levels n v) ≡ length levels
length_set [] n v = refl
length_set (x ∷ levels) zero v = refl
length_set (x ∷ levels) (suc n) v = ap suc (length_set levels n v)

length_levels : (ms : List Member) (cs : List BidiClass) (levels : List ℕ) → length (with_levels ms cs levels) ≡ length levels
length_levels [] cs levels = refl
length_levels (m ∷ ms) [] levels = refl
length_levels (m ∷ ms) (c ∷ cs) levels = length_levels ms cs _ ∙ length_set levels m.place (implicit_level m.level c)

length_classes : (base : ℕ) (ms : List Member) (cs : List BidiClass) (levels : List ℕ) → length (with_classes base ms cs levels) ≡ length levels
length_classes base [] cs levels = refl
length_classes base (m ∷ ms) cs levels = length_levels (m ∷ ms) _ levels

pub length_sequences : (base : ℕ) (ms : List Member) (levels : List ℕ) → AreWithin ms → length (with_sequences base ms levels) ≡ length levels
length_sequences base ms levels h =
    sequences_kept (with_sequence base) (λ l. length l ≡ length levels) (λ s l within same. length_classes base s (map class_of s) l ∙ same) ms levels h refl
