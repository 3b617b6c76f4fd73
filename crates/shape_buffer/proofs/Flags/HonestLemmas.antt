-- Flags are seen: if the run has not seen flags, no item has one.
use Rattle.std.proofs.Common.{◌≡◌, ◌==◌, ◌||◌, ℕ, zero, suc, ◌≤◌, Bool, true, false, inl, inr, List, [], ◌∷◌, refl, sym, ◌∙◌, arith, None, bit_and}
use Rattle.std.proofs.lemmas.Bool.{cases_Bool}
use Rattle.std.proofs.lemmas.Bool.Decides.{nat_tests}
use Rattle.std.proofs.lemmas.Nat.{and_assoc, and_le_r}
use Rattle.shape_items.specs.Buffer.{Buffer}
use Rattle.shape_items.specs.Items.{Item}
use Rattle.shape_buffer.specs.Preservation.{IsFlagPreserving, EachStep}
use Rattle.shape_items.specs.PreservesFlags.{IsDefinedFlag, has_flag, some_has, has_glyph_flags, PreservesFlags}
pub use Rattle.shape_buffer.specs.Honest.{IsHonest}
use Rattle.shape_items.specs.Flags.{flags_of, flags_propagated, HasOneSetOfFlags}
use Rattle.shape_buffer.specs.Outcome.{Step, run_steps}
use Rattle.shape_items.proofs.Flags.ClusterRunLemmas.{flagged-runs, one_set-flagged, concat-flagged}

pub honest-preserved : {old new : Buffer} → PreservesFlags old new → IsHonest old → IsHonest new
honest-preserved {old} {new} preserves before = record {
  honest = λ unseen flag defined. elim (cases_Bool (has_glyph_flags old)) [
    | inl seen ↦ let stays = preserves.stays_set seen in cc
    | inr none ↦ elim (cases_Bool (some_has flag new.items)) [
      | inl has ↦ elim (preserves.none_new flag defined has) [
        | inl had ↦ let had_none = before.honest none flag defined in cc
        | inr now ↦ cc
      ]
      | inr hasnt ↦ hasnt
    ]
  ];
}

pub honest-run : (steps : List Step) (b : Buffer) → EachStep IsFlagPreserving steps → IsHonest b → IsHonest (run_steps steps b)
honest-run [] b keep honest = honest
honest-run (step ∷ steps) b keep honest = honest-run steps (step.makes b) keep.1 (honest-preserved (keep.0 b) honest)

-- without any of the three flags the defined ones are 0
no_flags : (m : ℕ) → bit_and m 1 ≡ 0 → bit_and m 2 ≡ 0 → bit_and m 4 ≡ 0 → bit_and m 7 ≡ 0
no_flags m one two four = small (bit_and m 7) (and_le_r m 7) (and_assoc 1 m 7 ∙ one) (and_assoc 2 m 7 ∙ two) (and_assoc 4 m 7 ∙ four)
  where
    small : (n : ℕ) → n ≤ 7 → bit_and n 1 ≡ 0 → bit_and n 2 ≡ 0 → bit_and n 4 ≡ 0 → n ≡ 0
    small zero within one two four = refl
    small (suc zero) within one two four = omega (arith, one)
    small (suc (suc zero)) within one two four = omega (arith, two)
    small (suc (suc (suc zero))) within one two four = omega (arith, one)
    small (suc (suc (suc (suc zero)))) within one two four = omega (arith, four)
    small (suc (suc (suc (suc (suc zero))))) within one two four = omega (arith, one)
    small (suc (suc (suc (suc (suc (suc zero)))))) within one two four = omega (arith, two)
    small (suc (suc (suc (suc (suc (suc (suc zero))))))) within one two four = omega (arith, one)
    small (suc (suc (suc (suc (suc (suc (suc (suc n)))))))) within one two four = absurd (omega (arith, within))

head_false : (a b : Bool) → (a || b) ≡ false → a ≡ false
head_false true b none = none
head_false false b none = refl

tail_false : (a b : Bool) → (a || b) ≡ false → b ≡ false
tail_false true b none = absurd (let e : true ≡ false = none in cc)
tail_false false b none = none

pub one_set-bare : (xs : List Item) → ((flag : ℕ) → IsDefinedFlag flag → some_has flag xs ≡ false) → HasOneSetOfFlags xs
one_set-bare [] none = tt
one_set-bare (x ∷ []) none = tt
one_set-bare (x ∷ y ∷ rest) none = (
  λ same. bare x (λ flag d. first flag d) ∙ sym (bare y (λ flag d. second flag d)),
  one_set-bare (y ∷ rest) behind,
)
  where
    -- the head has none, and the rest
    bare : (z : Item) → ((flag : ℕ) → IsDefinedFlag flag → has_flag flag z ≡ false) → flags_of z ≡ 0
    bare z unset = no_flags z.mask (off 1 (inl refl)) (off 2 (inr (inl refl))) (off 4 (inr (inr refl)))
      where
        off : (flag : ℕ) → IsDefinedFlag flag → bit_and z.mask flag ≡ 0
        off flag d = let h = unset flag d in grind (arith, nat_tests)

    first : (flag : ℕ) → IsDefinedFlag flag → has_flag flag x ≡ false
    first flag d = head_false (has_flag flag x) _ (none flag d)

    behind : (flag : ℕ) → IsDefinedFlag flag → some_has flag (y ∷ rest) ≡ false
    behind flag d = tail_false (has_flag flag x) _ (none flag d)

    second : (flag : ℕ) → IsDefinedFlag flag → has_flag flag y ≡ false
    second flag d = head_false (has_flag flag y) _ (behind flag d)

pub one_set-propagated : (b : Buffer) → IsHonest b → HasOneSetOfFlags (flags_propagated b).items
unfolding flags_propagated
one_set-propagated b honest = elim (cases_Bool (has_glyph_flags b)) [
  | inl seen ↦ rw (seen, ← flagged-runs b.flags b.items) (one_set-flagged b.flags None b.items)
  | inr unseen ↦ rw unseen (one_set-bare b.items (honest.honest unseen))
]

pub concat-propagated : (b : Buffer) → IsHonest b → (bit_and b.flags.0 64 == 64) ≡ false → some_has 2 (flags_propagated b).items ≡ false
unfolding flags_propagated
concat-propagated b honest off = elim (cases_Bool (has_glyph_flags b)) [
  | inl seen ↦ rw (seen, ← flagged-runs b.flags b.items) (concat-flagged b.flags off None tt b.items)
  | inr unseen ↦ rw unseen (honest.honest unseen 2 (inr (inl refl)))
]
